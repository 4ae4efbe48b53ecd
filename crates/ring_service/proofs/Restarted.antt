-- What a board shows that is made of a longer history.
use Rattle.std.proofs.Common.{ℕ, ◌≡◌, ◌⊎◌, ◌<◌, ◌≤◌, Bool, true, false, List, [], ◌∷◌, ◌++◌, Option, Some, None, refl, sym, ap, ◌∙◌, subst, inl, inr, arith, append-nil, append_assoc}
use Rattle.std.specs.List.{Contains}
use Rattle.std.proofs.lemmas.Bool.{cases_lt, ltb-true}
use Rattle.std.proofs.lemmas.Option.{same_Some}
use Rattle.ring_records.specs.declared.candidate.Candidate.{Candidate}
use Rattle.ring_records.specs.declared.decision.Decision.{Decision}
use Rattle.ring_records.specs.declared.input.Input.{Input}
use Rattle.ring_records.specs.declared.key.Key.{Key}
use Rattle.ring_records.specs.declared.notice.Notice.{Notice}
use Rattle.ring_records.specs.declared.notice.Notice.TheVariants.{Decided}
use Rattle.ring_records.specs.History.{floor, is_retired}
use Rattle.ring_records.specs.Allowed.{IsAllowed}
use Rattle.ring_records.specs.Lists.{EachAfter}
use Rattle.ring_records.specs.Notices.{floor_in, leader_in, leads_in, IsNotBelow}
use Rattle.ring_records.specs.Leader.{first_leader, latest, leader, term_of}
use Rattle.ring_records.specs.Latest.{IsLatest}
use Rattle.ring_records.proofs.FloorsRise.{floor-at_most, floor-rises}
use Rattle.ring_records.proofs.Growth.{first_leader-kept, EachAfter-front}
use Rattle.ring_records.proofs.History.{if_live-same, if_live-some}
use Rattle.ring_records.proofs.Latest.{latest_is, latest_same, one_latest}
use Rattle.ring_records.proofs.Lists.{none≢some}
use Rattle.ring_records.proofs.Told.{Tells, tells-leader}
use Rattle.group_commit.specs.Content.{IsContent}
use Rattle.group_commit.proofs.Opening.{EachAfter-behind}
use Rattle.ring_service.proofs.Contents.{content-told, told-leads, leads-told}
use Rattle.ring_service.specs.Restarts.{AreLater, UnlessRetired}

-- a leader stays, unless its key is retired
leader_stays : (me : ℕ) (h more : List Input) (key : Key) (c : Candidate) → leader me h key ≡ Some c → UnlessRetired (h ++ more) key (leader me (h ++ more) key ≡ Some c)
unfolding leader
leader_stays me h more key c e = go (is_retired (h ++ more) key) refl
  where
    go : (b : Bool) → is_retired (h ++ more) key ≡ b → UnlessRetired (h ++ more) key (leader me (h ++ more) key ≡ Some c)
    go true gone = inr gone
    go false live = inl (if_live-same (h ++ more) key (first_leader me (h ++ more) key) live ∙ first_leader-kept me h more key c (if_live-some h key (first_leader me h key) c e).1)

pub decision_stays : (me n : ℕ) (h more : List Input) (list longer : List Notice) (d : Decision) → AreLater me n h more list longer → Contains list (Decided d)
    → UnlessRetired (h ++ more) d.key (Contains longer (Decided d))
decision_stays me n h more list longer d are has = elim (leader_stays me h more d.key d.leader (told-leads me h list d are.before has)) [
  | inl leads ↦ inl (leads-told me (h ++ more) longer d are.later leads)
  | inr gone ↦ inr gone
]

-- what is told before, and later
tells_before : (me n : ℕ) (h more : List Input) (list longer : List Notice) → AreLater me n h more list longer → Tells me h list
tells_before me n h more list longer are = content-told me n h list (EachAfter-front (IsAllowed me n) [] h more are.allowed) are.before

tells_later : (me n : ℕ) (h more : List Input) (list longer : List Notice) → AreLater me n h more list longer → Tells me (h ++ more) longer
tells_later me n h more list longer are = content-told me n (h ++ more) longer are.allowed are.later

pub says_all : (me n : ℕ) (h : List Input) (list : List Notice) → EachAfter (IsAllowed me n) [] h → IsContent me h list
    → ((key : Key) → leader_in list key ≡ leader me h key) × ((group : List ℕ) → floor_in list group ≡ floor h group)
says_all me n h list allowed content = let tells = content-told me n h list allowed content in (tells-leader me h list tells, tells.floors)

-- floors rise with more inputs
floors_more : (me n : ℕ) (h more : List Input) → EachAfter (IsAllowed me n) h more → (group : List ℕ) → floor h group ≤ floor (h ++ more) group
unfolding EachAfter
floors_more me n h [] allowed group = let same = ap (λ g. floor g group) (append-nil h) in omega (arith, same)
floors_more me n h (x ∷ more) allowed group =
    let one = floor-rises me n h x allowed.0 group in
    let rest = floors_more me n (h ++ x ∷ []) more allowed.1 group in
    let same = ap (λ g. floor g group) (append_assoc h (x ∷ []) more) in
    omega (arith, one, rest, same)

pub floor_stays : (me n : ℕ) (h more : List Input) (list longer : List Notice) (group : List ℕ) → AreLater me n h more list longer → floor_in list group ≤ floor_in longer group
floor_stays me n h more list longer group are =
    let was = (tells_before me n h more list longer are).floors group in
    let now = (tells_later me n h more list longer are).floors group in
    let rises = floors_more me n h more (EachAfter-behind (IsAllowed me n) [] h more are.allowed) group in
    omega (arith, was, now, rises)

pub named_stays : (me n : ℕ) (h more : List Input) (list longer : List Notice) (key : Key) (c : Candidate) → AreLater me n h more list longer → leader_in list key ≡ Some c
    → UnlessRetired (h ++ more) key (leader_in longer key ≡ Some c)
named_stays me n h more list longer key c are e = elim (leader_stays me h more key c (sym (tells-leader me h list (tells_before me n h more list longer are) key) ∙ e)) [
  | inl leads ↦ inl (tells-leader me (h ++ more) longer (tells_later me n h more list longer are) key ∙ leads)
  | inr gone ↦ inr gone
]

-- the latest leader of a group does not go down where each leader stays, or is of a lesser term than the latest one
latest_stays : (was now : ℕ → Option Candidate) (a b : Option (ℕ × Candidate)) → IsLatest was a → IsLatest now b
    → ((term : ℕ) (c : Candidate) → was term ≡ Some c → (now term ≡ Some c) ⊎ (term < term_of b)) → IsNotBelow a b
latest_stays was now None b m n kept = tt
latest_stays was now (Some x) None m n kept = elim (kept x.0 x.1 m.0) [
  | inl stays ↦ none≢some x.1 (sym (n x.0) ∙ stays)
  | inr less ↦ absurd (omega (arith, less))
]
latest_stays was now (Some x) (Some y) m n kept = elim (kept x.0 x.1 m.0) [
  | inr less ↦ inl less
  | inl stays ↦ elim (cases_lt x.0 y.0) [
    | inl less ↦ inl less
    | inr ge ↦ elim (cases_lt y.0 x.0) [
      | inl less ↦ none≢some x.1 (sym (n.1 x.0 less) ∙ stays)
      | inr le ↦ inr (
          let terms : x.0 ≡ y.0 = omega arith in
          let leaders : x.1 ≡ y.1 = same_Some x.1 y.1 (sym stays ∙ (ap now terms ∙ n.0)) in
          λ i. (terms i, leaders i))
    ]
  ]
]

-- what is retired is below the latest term
retired_below : (me n : ℕ) (h more : List Input) (list longer : List Notice) (group : List ℕ) (b : Option (ℕ × Candidate)) → AreLater me n h more list longer
    → IsLatest (leads_in longer group) b → (term : ℕ) → is_retired (h ++ more) (record { group = group; term = term }) ≡ true → term < term_of b
unfolding is_retired
retired_below me n h more list longer group b are is term gone =
    let whole = h ++ more in
    let leads : ℕ → Option Candidate = λ t. leader me whole (record { group = group; term = t }) in
    let same : b ≡ latest me whole group =
    one_latest leads b (latest me whole group) (latest_same (leads_in longer group) leads (λ t. sym (tells-leader me whole longer (tells_later me n h more list longer are) (record { group = group; term = t }))) b is) (latest_is me whole group) in
    let below : term < floor whole group = ltb-true term (floor whole group) gone in
    let most = floor-at_most me n whole are.allowed group in
    subst (λ o. term < term_of o) (sym same) (omega (arith, below, most))

pub never_down : (me n : ℕ) (h more : List Input) (list longer : List Notice) (group : List ℕ) (a b : Option (ℕ × Candidate)) → AreLater me n h more list longer
    → IsLatest (leads_in list group) a → IsLatest (leads_in longer group) b → IsNotBelow a b
never_down me n h more list longer group a b are m is =
    latest_stays (leads_in list group) (leads_in longer group) a b m is (λ term c e. elim (named_stays me n h more list longer (record { group = group; term = term }) c are e) [
      | inl stays ↦ inl stays
      | inr gone ↦ inr (retired_below me n h more list longer group b are is term gone)
    ])
