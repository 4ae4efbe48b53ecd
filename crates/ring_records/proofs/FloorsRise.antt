-- How floors rise, and that a floor is at most the latest term.
use Rattle.std.proofs.Common.{ℕ, ◌≡◌, ◌≤◌, ◌<◌, Bool, true, false, cond, List, [], ◌∷◌, ◌++◌, Option, Some, None, refl, sym, ap, ◌∙◌, subst, inl, inr, arith}
use Rattle.std.specs.Prelude.{unwrap_or}
use Rattle.std.specs.Str.{bytes_eq}
use Rattle.std.proofs.lemmas.Bool.{cases_lt, lt-ltb, le-ltb, ltb-true, ltb-false}
use Rattle.std.proofs.lemmas.Slice.Eq.{bytes_eq-Decides}
use Rattle.ring_records.specs.declared.candidate.Candidate.{Candidate}
use Rattle.ring_records.specs.declared.input.Input.{Input}
use Rattle.ring_records.specs.declared.input.Input.TheVariants.{Stand, Take, Acked, Retire}
use Rattle.ring_records.specs.declared.key.Key.{Key}
use Rattle.ring_records.specs.Allowed.{IsInTurn, IsAllowed}
use Rattle.ring_records.specs.Notices.{IsNotBelow}
use Rattle.ring_records.specs.History.{floor_for, floor, is_retired}
use Rattle.ring_records.specs.Leader.{first_leader, leader, makes_leader, latest, term_of}
use Rattle.ring_records.specs.Lists.{EachAfter}
use Rattle.ring_records.proofs.Growth.{or_else-some}
use Rattle.ring_records.proofs.History.{floor-push, floor-same, first_leader-push, if_live-some, if_live-same}
use Rattle.ring_records.proofs.Latest.{leads_by}
use Rattle.ring_records.proofs.Leader.{latest-leads, latest-greatest}
use Rattle.ring_records.proofs.Lists.{none≢some, along}

-- ---- one more input

-- a Retire that is allowed lifts its group's floor, and nothing lowers one
pub floor-rises : (me n : ℕ) (h : List Input) (x : Input) → IsAllowed me n h x → (group : List ℕ) → floor h group ≤ floor (h ++ x ∷ []) group
unfolding IsInTurn floor_for
floor-rises me n h (Stand key bid) a group = let same = floor-same h (Stand key bid) group refl in omega (arith, same)
floor-rises me n h (Take msg_no msg) a group = let same = floor-same h (Take msg_no msg) group refl in omega (arith, same)
floor-rises me n h (Acked upto) a group = let same = floor-same h (Acked upto) group refl in omega (arith, same)
floor-rises me n h (Retire g new) a group = go (bytes_eq g group) refl
  where
    go : (b : Bool) → bytes_eq g group ≡ b → floor h group ≤ floor (h ++ Retire g new ∷ []) group
    go true e =
        let now : floor (h ++ Retire g new ∷ []) group ≡ new = floor-push h (Retire g new) group ∙ ap (λ b. unwrap_or (cond b (Some new) None) (floor h group)) e in
        let groups : g ≡ group = (bytes_eq-Decides g group).0 e in
        let above : floor h group < new = subst (λ k. floor h k < new) groups a.in_turn.above in
        omega (arith, now, above)
    go false e =
        let now : floor (h ++ Retire g new ∷ []) group ≡ floor h group = floor-push h (Retire g new) group ∙ ap (λ b. unwrap_or (cond b (Some new) None) (floor h group)) e in
        omega (arith, now)

-- what one more input makes of a floor: the same, or at most the latest term of its group
pub floor-decided : (me n : ℕ) (h : List Input) (x : Input) → IsAllowed me n h x → (group : List ℕ) → floor h group ≤ term_of (latest me h group)
    → floor (h ++ x ∷ []) group ≤ term_of (latest me h group)
unfolding IsInTurn floor_for
floor-decided me n h (Stand key bid) a group le = let same = floor-same h (Stand key bid) group refl in omega (arith, same, le)
floor-decided me n h (Take msg_no msg) a group le = let same = floor-same h (Take msg_no msg) group refl in omega (arith, same, le)
floor-decided me n h (Acked upto) a group le = let same = floor-same h (Acked upto) group refl in omega (arith, same, le)
floor-decided me n h (Retire g new) a group le = go (bytes_eq g group) refl
  where
    go : (b : Bool) → bytes_eq g group ≡ b → floor (h ++ Retire g new ∷ []) group ≤ term_of (latest me h group)
    go true e =
        let now : floor (h ++ Retire g new ∷ []) group ≡ new = floor-push h (Retire g new) group ∙ ap (λ b. unwrap_or (cond b (Some new) None) (floor h group)) e in
        let groups : g ≡ group = (bytes_eq-Decides g group).0 e in
        let at_most : new ≤ term_of (latest me h group) = subst (λ k. new ≤ term_of (latest me h k)) groups a.in_turn.decided in
        omega (arith, now, at_most)
    go false e =
        let now : floor (h ++ Retire g new ∷ []) group ≡ floor h group = floor-push h (Retire g new) group ∙ ap (λ b. unwrap_or (cond b (Some new) None) (floor h group)) e in
        omega (arith, now, le)

-- ---- retired keys

pub retired-stays : (g h : List Input) (key : Key) → floor g key.group ≤ floor h key.group → is_retired g key ≡ true → is_retired h key ≡ true
unfolding is_retired
retired-stays g h key le e = lt-ltb key.term (floor h key.group) (let l = ltb-true key.term (floor g key.group) e in omega (arith, l, le))

-- what is not retired later was not before
pub live-before : (g h : List Input) (key : Key) → floor g key.group ≤ floor h key.group → is_retired h key ≡ false → is_retired g key ≡ false
live-before g h key le e = go (is_retired g key) refl
  where
    go : (b : Bool) → is_retired g key ≡ b → b ≡ false
    go true t = sym (retired-stays g h key le t) ∙ e
    go false t = refl

live : (h : List Input) (key : Key) → floor h key.group ≤ key.term → is_retired h key ≡ false
unfolding is_retired
live h key le = le-ltb key.term (floor h key.group) le

-- ---- the latest leader

-- it is not retired by one more input
pub latest-stays : (me n : ℕ) (h : List Input) (x : Input) → IsAllowed me n h x → (group : List ℕ) (led : ℕ × Candidate) → latest me h group ≡ Some led
    → leader me (h ++ x ∷ []) (record { group = group; term = led.0 }) ≡ Some led.1
unfolding leader is_retired
latest-stays me n h x a group led e =
    let key : Key = record { group = group; term = led.0 } in
    let was = if_live-some h key (first_leader me h key) led.1 (latest-leads me h group led.0 led.1 e) in
    let low : floor h group ≤ led.0 = ltb-false led.0 (floor h group) was.0 in
    let term : term_of (latest me h group) ≡ led.0 = ap term_of e in
    let within : floor (h ++ x ∷ []) group ≤ led.0 = (let d = floor-decided me n h x a group (omega (arith, low, term)) in omega (arith, d, term)) in
    if_live-same (h ++ x ∷ []) key (first_leader me (h ++ x ∷ []) key) (live (h ++ x ∷ []) key within)
    ∙ (first_leader-push me h x key ∙ or_else-some (first_leader me h key) (makes_leader me key h x) led.1 was.1)

-- so the latest leader never goes down
pub latest-never_down : (me n : ℕ) (h : List Input) (x : Input) → IsAllowed me n h x → (group : List ℕ) → IsNotBelow (latest me h group) (latest me (h ++ x ∷ []) group)
latest-never_down me n h x a group = go (latest me h group) (latest me (h ++ x ∷ []) group) refl refl
  where
    go : (o p : Option (ℕ × Candidate)) → latest me h group ≡ o → latest me (h ++ x ∷ []) group ≡ p → IsNotBelow o p
    go None p e f = tt
    go (Some led) None e f =
        let stays = latest-stays me n h x a group led e in
        let some = latest-greatest me (h ++ x ∷ []) (record { group = group; term = led.0 }) led.1 stays in
        none≢some some.0 (sym f ∙ some.1)
    go (Some led) (Some now) e f = elim (cases_lt led.0 now.0) [
      | inl less ↦ inl less
      | inr ge ↦ (
          let stays = latest-stays me n h x a group led e in
          let some = latest-greatest me (h ++ x ∷ []) (record { group = group; term = led.0 }) led.1 stays in
          let same : some.0 ≡ now = (let q : ◌≡◌ {A = Option (ℕ × Candidate)} (Some some.0) (Some now) = sym some.1 ∙ f in cc) in
          let least : led.0 ≤ now.0 = subst (λ (w : ℕ × Candidate). led.0 ≤ w.0) same some.2 in
          let terms : led.0 ≡ now.0 = omega (arith, ge, least) in
          let leads = latest-leads me (h ++ x ∷ []) group now.0 now.1 f in
          let leaders : ◌≡◌ {A = Option Candidate} (Some led.1) (Some now.1) = sym stays ∙ (ap (leads_by me (h ++ x ∷ []) group) terms ∙ leads) in
          let one : led.1 ≡ now.1 = cc in
          inr (λ i. (terms i, one i)))
    ]

-- the term of the latest leader does not fall
pub latest-rises : (me n : ℕ) (h : List Input) (x : Input) → IsAllowed me n h x → (group : List ℕ) → term_of (latest me h group) ≤ term_of (latest me (h ++ x ∷ []) group)
latest-rises me n h x a group = go (latest me h group) (latest me (h ++ x ∷ []) group) (latest-never_down me n h x a group)
  where
    go : (o p : Option (ℕ × Candidate)) → IsNotBelow o p → term_of o ≤ term_of p
    go None p n = omega arith
    go (Some led) None n = absurd n
    go (Some led) (Some now) (inl less) = omega (arith, less)
    go (Some led) (Some now) (inr same) = let terms : led.0 ≡ now.0 = ap (λ (w : ℕ × Candidate). w.0) same in omega (arith, terms)

-- ---- of a history

none-yet : (me : ℕ) (group : List ℕ) → floor [] group ≤ term_of (latest me [] group)
unfolding floor
none-yet me group = omega arith

-- a floor is at most the latest term of its group
pub floor-at_most : (me n : ℕ) (h : List Input) → EachAfter (IsAllowed me n) [] h → (group : List ℕ) → floor h group ≤ term_of (latest me h group)
floor-at_most me n h each =
    along (IsAllowed me n) (λ g. (group : List ℕ) → floor g group ≤ term_of (latest me g group))
    (λ g x a so group. let d = floor-decided me n g x a group (so group) in let r = latest-rises me n g x a group in omega (arith, d, r)) [] h each (none-yet me)
