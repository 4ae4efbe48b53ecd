-- What a desk tells says what its history says: its leaders, and its floors.
use Rattle.std.proofs.Common.{ℕ, ◌≡◌, ◌≤◌, max, Bool, true, false, cond, leb, ◌&&◌, ◌||◌, List, [], ◌∷◌, ◌++◌, Option, Some, None, refl, sym, ap, ◌∙◌, subst, inl, inr, arith, append-nil, append_assoc}
use Rattle.std.specs.FinMap as fin
use Rattle.std.specs.List.{AllByRecursion, Contains, list_any}
use Rattle.std.specs.Prelude.{unwrap_or}
use Rattle.std.specs.Str.{bytes_eq}
use Rattle.std.proofs.lemmas.Bool.{false≢true, le-leb}
use Rattle.std.proofs.lemmas.List.Elements.{Contains-append_left, Contains-append_cases}
use Rattle.std.proofs.lemmas.Slice.Eq.{bytes_eq-Decides}
use Rattle.ring_records.specs.declared.candidate.Candidate.{Candidate}
use Rattle.ring_records.specs.declared.decision.Decision.{Decision}
use Rattle.ring_records.specs.declared.input.Input.{Input}
use Rattle.ring_records.specs.declared.key.Key.{Key}
use Rattle.ring_records.specs.declared.notice.Notice.{Notice}
use Rattle.ring_records.specs.declared.notice.Notice.TheVariants.{Decided, Retired}
use Rattle.ring_records.specs.Allowed.{IsAllowed}
use Rattle.ring_records.specs.Floors.{floor_keys}
use Rattle.ring_records.specs.History.{floor}
use Rattle.ring_records.specs.Leader.{first_leader, latest, leader}
use Rattle.ring_records.specs.Lists.{or_else, EachAfter}
use Rattle.ring_records.specs.Notices.{decided_all, first_named, floor_by, floor_in, leads_in, named_by, term_for, top_term}
use Rattle.ring_records.specs.Summary.{floors_in}
use Rattle.ring_records.proofs.DecisionNotices.{all-live, among-told, leaders_content, told-among}
use Rattle.ring_records.proofs.FloorsInOrder.{each-floor, floor-found, floored-keys}
use Rattle.ring_records.proofs.FloorsRise.{floor-at_most}
use Rattle.ring_records.proofs.History.{if_live-same}
use Rattle.ring_records.proofs.Latest.{latest_is, latest_same, leads_by}
use Rattle.ring_records.proofs.Leader.{Contains-cons_cases, Contains-nil}
use Rattle.ring_records.proofs.Notices.{decided-floor, first_named-push, floor_in-push, latest-top, none-floor, top-push}
use Rattle.ring_records.proofs.Summaries.{floor-known}
use Rattle.ring_records.proofs.Told.{Tells}
use Rattle.group_commit.specs.Content.{retired_all, IsContent}

-- ---- leaders

or_none : (o : Option Candidate) → or_else o None ≡ o
or_none None = refl
or_none (Some c) = refl

-- floors name no leader
named_still : (ns : List Notice) (floors : List Key) (key : Key) → first_named (ns ++ retired_all floors) key ≡ first_named ns key
unfolding named_by
named_still ns [] key = ap (λ l. first_named l key) (append-nil ns)
named_still ns (f ∷ floors) key =
    ap (λ l. first_named l key) (sym (append_assoc ns (Retired f.group f.term ∷ []) (retired_all floors)))
    ∙ (named_still (ns ++ Retired f.group f.term ∷ []) floors key ∙ (first_named-push ns (Retired f.group f.term) key ∙ or_none (first_named ns key)))

-- ---- floors

-- decisions give none
decided_still : (group : List ℕ) (ns : List Notice) (ds : List Decision) → floor_in (ns ++ decided_all ds) group ≡ floor_in ns group
decided_still group ns [] = ap (λ l. floor_in l group) (append-nil ns)
decided_still group ns (d ∷ ds) =
    ap (λ l. floor_in l group) (sym (append_assoc ns (Decided d ∷ []) (decided_all ds)))
    ∙ (decided_still group (ns ++ Decided d ∷ []) ds ∙ decided-floor ns d group)

-- one of these is a floor of the group
abbrev has_one : List Key → List ℕ → Bool
has_one floors group = list_any (λ (f : Key). bytes_eq f.group group) floors

-- the floors of a history count behind its decisions
retired_count : (h : List Input) (group : List ℕ) (ns : List Notice) (floors : List Key) → AllByRecursion (λ (f : Key). floor h f.group ≡ f.term) floors → floor h group ≤ top_term ns group
    → floor_in (ns ++ retired_all floors) group ≡ max (floor_in ns group) (cond (has_one floors group) (floor h group) 0)
unfolding floor_by term_for
retired_count h group ns [] each under = let same = ap (λ l. floor_in l group) (append-nil ns) in omega (arith, same)
retired_count h group ns (f ∷ floors) each under =
    let here = Retired f.group f.term in
    let t = top-push ns here group in
    let rest = retired_count h group (ns ++ here ∷ []) floors each.1 (omega (arith, t, under)) in
    let given = floor_in-push ns here group in
    ap (λ l. floor_in l group) (sym (append_assoc ns (here ∷ []) (retired_all floors)))
    ∙ (rest ∙ (ap (λ n. max n (cond (has_one floors group) (floor h group) 0)) given ∙ at (bytes_eq f.group group) refl (has_one floors group)))
  where
    both : (x : ℕ) (b : Bool) → max (max (floor_in ns group) x) (cond b x 0) ≡ max (floor_in ns group) x
    both x true = omega arith
    both x false = omega arith

    at : (b : Bool) → bytes_eq f.group group ≡ b → (more : Bool)
        → max (max (floor_in ns group) (unwrap_or (cond (b && leb f.term (top_term ns group)) (Some f.term) None) 0)) (cond more (floor h group) 0) ≡ max (floor_in ns group) (cond (b || more) (floor h group) 0)
    at true e more =
        let groups : f.group ≡ group = (bytes_eq-Decides f.group group).0 e in
        let is : f.term ≡ floor h group = sym each.0 ∙ ap (floor h) groups in
        let low : f.term ≤ top_term ns group = omega (arith, is, under) in
        ap (λ b. max (max (floor_in ns group) (unwrap_or (cond b (Some f.term) None) 0)) (cond more (floor h group) 0)) (le-leb f.term (top_term ns group) low)
        ∙ (ap (λ n. max (max (floor_in ns group) n) (cond more (floor h group) 0)) is ∙ both (floor h group) more)
    at false e more = ap (λ n. max n (cond more (floor h group) 0)) none
      where
        none : max (floor_in ns group) 0 ≡ floor_in ns group
        none = omega arith

-- each floor of a history is that of its group
floors_are : (h : List Input) → AllByRecursion (λ (f : Key). floor h f.group ≡ f.term) (floor_keys (floors_in h))
floors_are h = each-floor (λ (f : Key). floor h f.group ≡ f.term) (floors_in h) (λ group f found. sym (floor-known h group) ∙ ap (λ (o : Option ℕ). unwrap_or o 0) found)

others : (floors : List Key) (group : List ℕ) → has_one floors group ≡ false → AllByRecursion (λ (f : Key). bytes_eq f.group group ≡ false) floors
others [] group none = tt
others (f ∷ floors) group none = go (bytes_eq f.group group) refl none (others floors group)
  where
    go : (b : Bool) → bytes_eq f.group group ≡ b → (b || has_one floors group) ≡ false → (has_one floors group ≡ false → AllByRecursion (λ (g : Key). bytes_eq g.group group ≡ false) floors)
        → (bytes_eq f.group group ≡ false) × AllByRecursion (λ (g : Key). bytes_eq g.group group ≡ false) floors
    go true e none rest = absurd (false≢true (sym none))
    go false e none rest = (e, rest none)

-- a group of which none stands there has no floor
without : (h : List Input) (group : List ℕ) → has_one (floor_keys (floors_in h)) group ≡ false → floor h group ≡ 0
without h group none = sym (floor-known h group) ∙ go (fin.get (floors_in h) group) refl
  where
    itself : bytes_eq group group ≡ true
    itself = (bytes_eq-Decides group group).1 refl

    go : (o : Option ℕ) → fin.get (floors_in h) group ≡ o → unwrap_or o 0 ≡ 0
    go None e = refl
    go (Some f) e =
        let other = floor-found (λ (k : Key). bytes_eq k.group group ≡ false) (floor_keys (floors_in h)) (others (floor_keys (floors_in h)) group none) group f (ap (λ m. fin.get m group) (floored-keys (floors_in h)) ∙ e) in
        absurd (false≢true (sym other ∙ itself))

counted : (h : List Input) (group : List ℕ) (b : Bool) → has_one (floor_keys (floors_in h)) group ≡ b → cond b (floor h group) 0 ≡ floor h group
counted h group true e = refl
counted h group false e = sym (without h group e)

-- ---- both

pub content-told : (me n : ℕ) (h : List Input) (list : List Notice) → EachAfter (IsAllowed me n) [] h → IsContent me h list → Tells me h list
unfolding leader
content-told me n h list allowed content = record {
  floors = λ group.
      let leads = latest_same (leads_by me h group) (leads_in ds group) (λ term. leaders_content me h content.leaders content.lead (record { group = group; term = term })) (latest me h group) (latest_is me h group) in
      let top = latest-top ds group (latest me h group) leads in
      let most = floor-at_most me n h allowed group in
      let zero : floor_in ds group ≡ 0 = decided_still group [] content.leaders ∙ none-floor group in
      let told = retired_count h group ds content.floors (subst (AllByRecursion (λ (f : Key). floor h f.group ≡ f.term)) (sym content.stand) (floors_are h)) (omega (arith, top, most)) in
      let all = ap (λ fs. cond (has_one fs group) (floor h group) 0) content.stand ∙ counted h group (has_one (floor_keys (floors_in h)) group) refl in
      ap (λ l. floor_in l group) content.is ∙ omega (arith, told, zero, all);
  firsts = λ key live.
      ap (λ l. first_named l key) content.is
      ∙ (named_still ds content.floors key
      ∙ (sym (all-live content.leaders key) ∙ (leaders_content me h content.leaders content.lead key ∙ if_live-same h key (first_leader me h key) live)));
}
  where
    ds : List Notice
    ds = decided_all content.leaders

-- a decision that is told is among the leaders
none_retired : {C : Type 0} (floors : List Key) (d : Decision) → Contains (retired_all floors) (Decided d) → C
none_retired [] d has = Contains-nil (Decided d) has
none_retired (f ∷ floors) d has = elim (Contains-cons_cases (Retired f.group f.term) (retired_all floors) (Decided d) has) [
  | inl same ↦ absurd cc
  | inr later ↦ none_retired floors d later
]

pub told-leads : (me : ℕ) (h : List Input) (list : List Notice) (d : Decision) → IsContent me h list → Contains list (Decided d) → leader me h d.key ≡ Some d.leader
told-leads me h list d content has = elim (Contains-append_cases (decided_all content.leaders) (retired_all content.floors) (Decided d) (subst (λ l. Contains l (Decided d)) content.is has)) [
  | inl there ↦ content.lead.each d (among-told content.leaders d there)
  | inr there ↦ none_retired content.floors d there
]

pub leads-told : (me : ℕ) (h : List Input) (list : List Notice) (d : Decision) → IsContent me h list → leader me h d.key ≡ Some d.leader → Contains list (Decided d)
leads-told me h list d content leads = subst (λ l. Contains l (Decided d)) (sym content.is)
    (Contains-append_left (decided_all content.leaders) (retired_all content.floors) (Decided d) (told-among content.leaders d (content.lead.all d.key d.leader leads)))
