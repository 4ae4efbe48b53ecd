-- Where no input can be placed any more, the run is the greatest: placing one takes no other's premises away.
use Rattle.std.proofs.Common.{ℕ, ◌≡◌, ◌≤◌, ◌<◌, List, [], ◌∷◌, ◌++◌, length, take, drop, sym, ap, ◌∙◌, subst, inl, inr, arith, append_assoc}
use Rattle.std.specs.Prelude.{slice_get, Some}
use Rattle.std.proofs.Math.Seq.{take-append_seam, take-length}
use Rattle.std.proofs.lemmas.Bool.{cases_eq, cases_lt}
use Rattle.std.proofs.lemmas.Bool.Decides.{nat_tests}
use Rattle.std.proofs.lemmas.List.{append-nil, length-append, take-take, take_all}
use Rattle.ring_records.specs.declared.input.Input.{Input}
use Rattle.ring_records.specs.declared.input.Input.TheVariants.{Stand, Take, Acked, Retire}
use Rattle.ring_records.specs.Emission.{sent}
use Rattle.ring_records.specs.History.{taken}
use Rattle.ring_records.specs.Allowed.{IsAllowed}
use Rattle.ring_records.specs.Lists.{EachAfter}
use Rattle.ring_records.specs.Place.{before, after}
use Rattle.ring_records.specs.Ring.{IsCarried, MayFollow, IsLegal}
use Rattle.ring_records.specs.Part.{part}
use Rattle.ring_records.proofs.Growth.{sent-kept, taken-kept, take-less}
use Rattle.ring_records.proofs.Lists.{EachAfter-push}
use Rattle.ring_records.proofs.Parts.{part-same, part-other, by_node}
use Rattle.ring_audit.specs.Placement.{history_of, IsWhole}
use Rattle.ring_audit.specs.Placed.{IsPlaced, IsPlacement}

-- ---- the neighbours of a node are nodes

pub before_low : (n i : ℕ) → 1 ≤ i → i ≤ n → 1 ≤ before n i
unfolding before
before_low n i low high = grind (arith, nat_tests)

pub before_high : (n i : ℕ) → 1 ≤ i → i ≤ n → before n i ≤ n
unfolding before
before_high n i low high = grind (arith, nat_tests)

pub after_low : (n i : ℕ) → 1 ≤ i → i ≤ n → 1 ≤ after n i
unfolding after
after_low n i low high = grind (arith, nat_tests)

pub after_high : (n i : ℕ) → 1 ≤ i → i ≤ n → after n i ≤ n
unfolding after
after_high n i low high = grind (arith, nat_tests)

-- ---- prefixes of one list

-- h is the first items of another list
abbrev pub IsFront : List Input → List Input → Type 0
IsFront h whole = h ≡ take (length h) whole

-- of two prefixes the shorter begins the longer
pub front_rest : (g h whole : List Input) → IsFront g whole → IsFront h whole → length g ≤ length h → g ++ drop (length g) h ≡ h
front_rest g h whole e f le =
    ap (λ xs. xs ++ drop (length g) h) e
    ∙ (ap (λ ys. take (length g) whole ++ drop (length g) ys) f
    ∙ (take-less (length g) (length h) whole le ∙ sym f))

pub front_same : (g h whole : List Input) → IsFront g whole → IsFront h whole → length g ≡ length h → g ≡ h
front_same g h whole e f len = e ∙ (ap (λ k. take k whole) len ∙ sym f)

-- what begins a prefix is a prefix
pub front_front : (g rest whole : List Input) → IsFront (g ++ rest) whole → IsFront g whole
front_front g rest whole e =
    let less : length g ≤ length (g ++ rest) = (let l = length-append g rest in omega arith) in
    sym (take-append_seam g rest) ∙ (ap (take (length g)) e ∙ take-take (length g) (length (g ++ rest)) whole less)

-- ---- the premises of an input stay

-- the parts of a run have grown to those of another
abbrev pub Grows : List (ℕ × Input) → List (ℕ × Input) → ℕ → Type 0
Grows run later i = (rest : List Input) × (part run i ++ rest ≡ part later i)

pub carried_stays : (n : ℕ) (run later : List (ℕ × Input)) (i : ℕ) (x : Input) → Grows run later (before n i) → Grows run later (after n i) → IsCarried n run i x → IsCarried n later i x
unfolding IsCarried
carried_stays n run later i (Stand key bid) b a c = tt
carried_stays n run later i (Take msg_no msg) b a c = subst (λ h. slice_get (sent (before n i) h) msg_no ≡ Some msg) b.1 (sent-kept (before n i) (part run (before n i)) b.0 msg_no msg c)
carried_stays n run later i (Acked upto) b a c = subst (λ h. upto ≤ length (taken h)) a.1 (taken-kept (part run (after n i)) a.0 upto c)
carried_stays n run later i (Retire group floor) b a c = tt

-- ---- the greatest run

-- the parts are prefixes of the histories
abbrev pub AreFronts : List (List Input) → List (ℕ × Input) → Type 0
AreFronts hs run = (i : ℕ) → 1 ≤ i → i ≤ length hs → IsFront (part run i) (history_of hs i)

fronts_before : (hs : List (List Input)) (run : List (ℕ × Input)) (step : ℕ × Input) → AreFronts hs (run ++ step ∷ []) → AreFronts hs run
fronts_before hs run step f i low high =
    elim (cases_eq step.0 i) [
      | inl e ↦ subst (λ k. IsFront (part run k) (history_of hs k)) e (front_front (part run step.0) (step.1 ∷ []) (history_of hs step.0) (subst (λ h. IsFront h (history_of hs step.0)) (part-same (length hs) run step.0 step.1) (f step.0 (subst (λ k. 1 ≤ k) (sym e) low) (subst (λ k. k ≤ length hs) (sym e) high))))
      | inr ne ↦ subst (λ h. IsFront h (history_of hs i)) (part-other (length hs) run step.0 step.1 i ne) (f i low high)
    ]

module _ (hs : List (List Input)) (run : List (ℕ × Input)) (placed : IsPlaced hs run) (done : (step : ℕ × Input) → IsPlaced hs (run ++ step ∷ []) → ⊥) where
  abbrev Within : List (ℕ × Input) → Type 0
  Within early = (i : ℕ) → 1 ≤ i → i ≤ length hs → length (part early i) ≤ length (part run i)

  grown : (early : List (ℕ × Input)) → AreFronts hs early → Within early → (i : ℕ) → 1 ≤ i → i ≤ length hs → Grows early run i
  grown early f w i low high = (drop (length (part early i)) (part run i), front_rest (part early i) (part run i) (history_of hs i) (f i low high) (placed.parts i low high) (w i low high))

  -- an input of another such run, whose node has no more inputs there than here
  one_more : (early : List (ℕ × Input)) (j : ℕ) (x : Input) → MayFollow (length hs) early (j, x) → AreFronts hs (early ++ (j, x) ∷ []) → Within early
      → length (part early j) < length (part run j)
  unfolding IsLegal
  one_more early j x a f w = elim (cases_lt (length (part early j)) (length (part run j))) [
    | inl less ↦ less
    | inr le ↦ (let n = length hs in
        let was = fronts_before hs early (j, x) f in
        let at_most = w j a.first a.last in
        let same : part early j ≡ part run j = front_same (part early j) (part run j) (history_of hs j) (was j a.first a.last) (placed.parts j a.first a.last) (omega arith) in
        let follows : MayFollow n run (j, x) = record {
          first = a.first;
          last = a.last;
          allowed = subst (λ h. IsAllowed j n h x) same a.allowed;
          carried = carried_stays n early run j x (grown early was w (before n j) (before_low n j a.first a.last) (before_high n j a.first a.last)) (grown early was w (after n j) (after_low n j a.first a.last) (after_high n j a.first a.last)) a.carried;
        } in
        absurd (done (j, x) (record {
          legal = EachAfter-push (MayFollow n) [] run (j, x) placed.legal follows;
          parts = by_node n run j x (λ i h. 1 ≤ i → i ≤ n → IsFront h (history_of hs i))
              (λ low high. subst (λ h. IsFront (h ++ x ∷ []) (history_of hs j)) same (subst (λ h. IsFront h (history_of hs j)) (part-same n early j x) (f j low high)))
              placed.parts;
        })))
  ]

  within_next : (early : List (ℕ × Input)) (j : ℕ) (x : Input) → MayFollow (length hs) early (j, x) → AreFronts hs (early ++ (j, x) ∷ []) → Within early
      → Within (early ++ (j, x) ∷ [])
  within_next early j x a f w =
      by_node (length hs) early j x (λ i h. 1 ≤ i → i ≤ length hs → length h ≤ length (part run i))
      (λ low high. let less = one_more early j x a f w in let l = length-append (part early j) (x ∷ []) in omega arith)
      w

  fronts_of : (early rest : List (ℕ × Input)) → AreFronts hs (early ++ rest) → AreFronts hs early
  fronts_of early [] f = rw append-nil at f
  fronts_of early (step ∷ rest) f = fronts_before hs early step (fronts_of (early ++ step ∷ []) rest (rw append_assoc f))

  all_within : (early rest : List (ℕ × Input)) → EachAfter (MayFollow (length hs)) early rest → AreFronts hs (early ++ rest) → Within early → Within (early ++ rest)
  unfolding EachAfter
  all_within early [] each f w = rw append-nil w
  all_within early (step ∷ rest) each f w =
      let here : AreFronts hs ((early ++ step ∷ []) ++ rest) = rw append_assoc f in
      rw append_assoc at (all_within (early ++ step ∷ []) rest each.1 here (within_next early step.0 step.1 each.0 (fronts_of (early ++ step ∷ []) rest here) w))

  none_more : (other : List (ℕ × Input)) → IsPlaced hs other → Within other
  unfolding IsLegal part
  none_more other p = all_within [] other p.legal p.parts (λ i low high. omega arith)

-- where no step can follow, the run is the greatest
pub done_placement : (hs : List (List Input)) (run : List (ℕ × Input)) → IsPlaced hs run → ((step : ℕ × Input) → IsPlaced hs (run ++ step ∷ []) → ⊥) → IsPlacement hs run
done_placement hs run placed done = record { placed = placed; greatest = none_more hs run placed done }

-- the greatest places the same inputs of each node
pub placement_one : (hs : List (List Input)) (run other : List (ℕ × Input)) → IsPlacement hs run → IsPlacement hs other → (i : ℕ) → 1 ≤ i → i ≤ length hs
    → part run i ≡ part other i
placement_one hs run other p q i low high =
    let le = p.greatest other q.placed i low high in
    let ge = q.greatest run p.placed i low high in
    front_same (part run i) (part other i) (history_of hs i) (p.placed.parts i low high) (q.placed.parts i low high) (omega arith)

-- a run of the whole histories is one, and then each other has them whole
pub whole_placed : (hs : List (List Input)) (run : List (ℕ × Input)) → IsWhole hs run → IsPlaced hs run
whole_placed hs run w = record { legal = w.legal; parts = λ i low high. let e = w.parts i low high in e ∙ (sym (take-length (history_of hs i)) ∙ ap (λ h. take (length h) (history_of hs i)) (sym e)) }

pub whole_leaves_none : (hs : List (List Input)) (run whole : List (ℕ × Input)) → IsPlacement hs run → IsWhole hs whole → (i : ℕ) → 1 ≤ i → i ≤ length hs
    → length (history_of hs i) ≤ length (part run i)
whole_leaves_none hs run whole p w i low high =
    let le = p.greatest whole (whole_placed hs whole w) i low high in
    let len = ap length (w.parts i low high) in
    omega arith

pub placement_whole : (hs : List (List Input)) (run whole : List (ℕ × Input)) → IsPlacement hs run → IsWhole hs whole → IsWhole hs run
placement_whole hs run whole p w = record {
  legal = p.placed.legal;
  parts = λ i low high.
      let ge = whole_leaves_none hs run whole p w i low high in
      let front = p.placed.parts i low high in
      front ∙ take_all (length (part run i)) (history_of hs i) ge;
}
