-- What a list says that has notices of decisions alone.
use Rattle.std.proofs.Common.{ℕ, ◌≡◌, max, Bool, true, false, cond, List, [], ◌∷◌, ◌++◌, Option, Some, None, refl, sym, ap, subst, ◌∙◌, inl, inr, arith}
use Rattle.std.specs.List.{filter_map, fold, cons_option, Contains}
use Rattle.std.proofs.lemmas.Option.{same_Some}
use Rattle.ring_records.specs.declared.candidate.Candidate.{Candidate}
use Rattle.ring_records.specs.declared.decision.Decision.{Decision}
use Rattle.ring_records.specs.declared.input.Input.{Input}
use Rattle.ring_records.specs.declared.key.Key.{Key}
use Rattle.ring_records.specs.declared.notice.Notice.{Notice}
use Rattle.ring_records.specs.declared.notice.Notice.TheVariants.{Decided}
use Rattle.ring_records.specs.Leader.{leader}
use Rattle.ring_records.specs.Lists.{first, found_after}
use Rattle.ring_records.specs.Notices.{decided_all, named_by, first_named, floor_by, floor_in, leader_in}
use Rattle.ring_records.specs.Order.{is_key}
use Rattle.ring_records.specs.Release.{AreLeaders}
use Rattle.ring_records.proofs.Keys.{is_key-true, is_key-same}
use Rattle.ring_records.proofs.Leader.{Contains-here, Contains-later, Contains-nil, Contains-cons_cases}
use Rattle.ring_records.proofs.Lists.{none≢some}
use Rattle.ring_records.proofs.Notices.{live-leader}

-- ---- a decision among those that are told

pub told-among : (ds : List Decision) (d : Decision) → Contains ds d → Contains (decided_all ds) (Decided d)
told-among [] d has = Contains-nil d has
told-among (e ∷ ds) d has = elim (Contains-cons_cases e ds d has) [
  | inl same ↦ subst (λ (x : Decision). Contains (Decided e ∷ decided_all ds) (Decided x)) same (Contains-here (Decided e) (decided_all ds))
  | inr later ↦ Contains-later (Decided e) (decided_all ds) (Decided d) (told-among ds d later)
]

pub among-told : (ds : List Decision) (d : Decision) → Contains (decided_all ds) (Decided d) → Contains ds d
among-told [] d has = Contains-nil (Decided d) has
among-told (e ∷ ds) d has = elim (Contains-cons_cases (Decided e) (decided_all ds) (Decided d) has) [
  | inl same ↦ (let is : e ≡ d = cc in subst (λ (x : Decision). Contains (e ∷ ds) x) is (Contains-here e ds))
  | inr later ↦ Contains-later e ds d (among-told ds d later)
]

-- ---- what a list of decisions says

-- notices of decisions give no floor
no_floors : (group : List ℕ) (before : List Notice) (ds : List Decision) → found_after (floor_by group) before (decided_all ds) ≡ []
unfolding found_after floor_by
no_floors group before [] = refl
no_floors group before (d ∷ ds) = no_floors group (before ++ Decided d ∷ []) ds

pub all-live : (ds : List Decision) (key : Key) → leader_in (decided_all ds) key ≡ first_named (decided_all ds) key
unfolding floor_in
all-live ds key = live-leader (decided_all ds) key (let none = ap (fold (λ a b. max a b) 0) (no_floors key.group [] ds) in omega (arith, none))

-- whom the list names for the key, a decision in it names
abbrev Names : List Decision → Key → Candidate → Type 0
Names ds key c = (d : Decision) × Contains ds d × (d.key ≡ key) × (d.leader ≡ c)

named_first : (x : Decision) (ds : List Decision) (key : Key) (c : Candidate) → (first (filter_map (named_by key) (decided_all ds)) ≡ Some c → Names ds key c)
    → (b : Bool) → is_key x.key key ≡ b → first (cons_option (cond b (Some x.leader) None) (filter_map (named_by key) (decided_all ds))) ≡ Some c → Names (x ∷ ds) key c
unfolding first
named_first x ds key c rest true t e = (x, Contains-here x ds, is_key-true x.key key t, same_Some x.leader c e)
named_first x ds key c rest false t e = let r = rest e in (r.0, Contains-later x ds r.0 r.1, r.2, r.3)

named : (ds : List Decision) (key : Key) (c : Candidate) → first (filter_map (named_by key) (decided_all ds)) ≡ Some c → Names ds key c
unfolding first named_by
named [] key c e = none≢some c e
named (x ∷ ds) key c e = named_first x ds key c (named ds key c) (is_key x.key key) refl e

-- a list that names no leader for the key has no decision for it
unnamed_first : {C : Type 0} (x : Decision) (ds : List Decision) (key : Key) (d : Decision) → d.key ≡ key → Contains (x ∷ ds) d
    → (first (filter_map (named_by key) (decided_all ds)) ≡ None → Contains ds d → C)
    → (b : Bool) → is_key x.key key ≡ b → first (cons_option (cond b (Some x.leader) None) (filter_map (named_by key) (decided_all ds))) ≡ None → C
unfolding first
unnamed_first x ds key d same has rest true t e = none≢some x.leader (sym e)
unnamed_first x ds key d same has rest false t e = elim (Contains-cons_cases x ds d has) [
  | inl is ↦ absurd (cc (sym t ∙ (ap (λ (k : Key). is_key k key) (ap (λ (y : Decision). y.key) is ∙ same) ∙ is_key-same key)))
  | inr later ↦ rest e later
]

unnamed : {C : Type 0} (ds : List Decision) (key : Key) (d : Decision) → d.key ≡ key → first (filter_map (named_by key) (decided_all ds)) ≡ None → Contains ds d → C
unfolding named_by
unnamed [] key d same e has = Contains-nil d has
unnamed (x ∷ ds) key d same e has = unnamed_first x ds key d same has (λ f later. unnamed ds key d same f later) (is_key x.key key) refl e

-- the decisions of a history in order of key name its leaders
pub leaders_content : (me : ℕ) (h : List Input) (list : List Decision) → AreLeaders me h list → (key : Key) → leader_in (decided_all list) key ≡ leader me h key
unfolding first_named
leaders_content me h list are key = all-live list key ∙ at (first (filter_map (named_by key) (decided_all list))) (leader me h key) refl refl
  where
    at : (o p : Option Candidate) → first (filter_map (named_by key) (decided_all list)) ≡ o → leader me h key ≡ p → o ≡ p
    at None None e f = refl
    at None (Some c) e f = unnamed list key (record { key = key; leader = c }) refl e (are.all key c f)
    at (Some c) p e f =
        let r = named list key c e in
        sym (sym f ∙ (ap (leader me h) (sym r.2) ∙ (are.each r.0 r.1 ∙ ap Some r.3)))
