-- The parts of an event leave nothing waiting in an eager ring.
use Rattle.std.proofs.Common.{ℕ, zero, suc, ◌≡◌, ◌+◌, ◌≤◌, Bool, true, false, min, cond, List, [], ◌∷◌, ◌++◌, length, Option, Some, None, refl, sym, ◌∙◌, subst, inl, inr, arith}
use Rattle.std.proofs.lemmas.Bool.{cases_eq, ltb-false, ltb-true}
use Rattle.std.proofs.lemmas.List.{length-append}
use Rattle.ring_records.specs.declared.base.Base.{Base}
use Rattle.ring_records.specs.declared.input.Input.{Input}
use Rattle.ring_records.specs.declared.refusal.Refusal.{Refusal}
use Rattle.ring_records.specs.declared.request.Request.{Request}
use Rattle.ring_records.specs.Admission.{newest}
use Rattle.ring_records.specs.Answering.{refusal, gained, if_input}
use Rattle.ring_records.specs.Answer.{input_of, if_free}
use Rattle.ring_records.specs.Answer as by_rule
use Rattle.ring_records.specs.Member.{member}
use Rattle.ring_records.specs.Part.{part}
use Rattle.ring_records.specs.States.{NodeState, left_by, launched_base}
use Rattle.ring_records.specs.Serving.{gained_by}
use Rattle.ring_node.specs.declared.flight.Flight.{Flight}
use Rattle.ring_node.specs.declared.flight.Flight.TheVariants.{Batch, Checkpoint}
use Rattle.ring_world.specs.Events.{Action, LaunchAll, Land, Crash, Process}
use Rattle.ring_world.specs.Capacity.{process, state_after, all_fresh}
use Rattle.ring_world.specs.Acts.{act}
use Rattle.ring_world.specs.Rest.{IsAllDurable}
use Rattle.ring_world.specs.Ring.{RingView, Part, node_at, asked, launch, landed, waits, settled, released, and_then, round, rounds, drained, crashed, stopped, given, brought, swept, swept_with, swept_on, swept_one, next_delivery, new_ring}
use Rattle.ring_world.specs.Left.{IsSameRing}
use Rattle.ring_world.specs.Events as happening
use Rattle.ring_world.proofs.Moves.{process_two, process_two-other}
use Rattle.ring_world.proofs.Reached.{node_given, node_settled, node_asked, asked-other, node_landed, landed-other, landed_idle}
use Rattle.ring_world.proofs.Served.{process-same, process-other}

-- no input of the node waits
abbrev IsStill : NodeState → Type 0
IsStill s = s.durable ≡ length s.inputs

pub at_node : (w : RingView) (i : ℕ) → IsAllDurable w → IsStill (node_at w i)
unfolding IsAllDurable
at_node w i all = all i

-- ---- requests

one_if_free : (o : Option Refusal) (x : Input) → length (if_free o x) ≤ 1
one_if_free None x = omega arith
one_if_free (Some r) x = omega arith

one_if_input : (me n capacity : ℕ) (base : Base) (h : List Input) (o : Option Input) → length (if_input me n capacity base h o) ≤ 1
one_if_input me n capacity base h None = omega arith
one_if_input me n capacity base h (Some x) = one_if_free (refusal me n capacity base h x) x

-- a request adds at most one input
one_gained : (me n capacity : ℕ) (s : NodeState) (q : Request) → length (gained_by (member me n capacity) s q) ≤ 1
unfolding by_rule.gained
one_gained me n capacity s q = one_if_input me n capacity (launched_base s) s.inputs (input_of q)

-- ---- rounds

-- at node i at most so many inputs wait, and at no other node does any
record IsNear (most : ℕ) (w : RingView) (i : ℕ) : Type 0 where
  least : (node_at w i).durable ≤ length (node_at w i).inputs
  few : length (node_at w i).inputs ≤ (node_at w i).durable + most
  others : (j : ℕ) → (i ≡ j → ⊥) → IsStill (node_at w j)

none_near : (w : RingView) (i : ℕ) → IsNear 0 w i → IsAllDurable w
unfolding IsAllDurable
none_near w i near = λ j. elim (cases_eq i j) [
  | inl same ↦ subst (λ k. IsStill (node_at w k)) same (let least = near.least in let few = near.few in omega arith)
  | inr ne ↦ near.others j ne
]

settled_near : (most : ℕ) (w : RingView) (i : ℕ) → IsNear most w i → IsNear most (settled i w) i
settled_near most w i near =
    let same = sym (node_settled w i i) in
    record {
      least = subst (λ (s : NodeState). s.durable ≤ length s.inputs) same near.least;
      few = subst (λ (s : NodeState). length s.inputs ≤ s.durable + most) same near.few;
      others = λ j ne. subst IsStill (sym (node_settled w i j)) (near.others j ne);
    }

-- a batch makes an input durable at least
landed_near : (most : ℕ) (w : RingView) (i : ℕ) → waits w i ≡ true → IsNear (most + 1) w i → IsNear most (landed Batch i w) i
landed_near most w i e near =
    let s = node_at w i in
    let low = ltb-true s.durable (length s.inputs) e in
    let few = near.few in
    let same = sym (node_landed w i e) in
    record {
      least = subst (λ (r : NodeState). r.durable ≤ length r.inputs) same (let le : min (s.durable + 64) (length s.inputs) ≤ length s.inputs = omega arith in le);
      few = subst (λ (r : NodeState). length r.inputs ≤ r.durable + most) same (let le : length s.inputs ≤ min (s.durable + 64) (length s.inputs) + most = omega arith in le);
      others = λ j ne. subst IsStill (sym (landed-other w i e j ne)) (near.others j ne);
    }

idle_near : (most : ℕ) (w : RingView) (i : ℕ) → waits w i ≡ false → IsNear most w i → IsNear 0 w i
idle_near most w i e near = record {
  least = near.least;
  few = (let none = ltb-false (node_at w i).durable (length (node_at w i).inputs) e in omega arith);
  others = near.others;
}

rounds_if : (most i : ℕ) (w : RingView) → IsNear (most + 1) w i → ((v : RingView) → IsNear most v i → IsAllDurable (rounds most i v).1) → (b : Bool) → waits w i ≡ b
    → IsAllDurable (cond b (and_then (round Batch i w) (rounds most i)) ([], w)).1
rounds_if most i w near others true e = others (settled i (landed Batch i w)) (settled_near most (landed Batch i w) i (landed_near most w i e near))
rounds_if most i w near others false e = none_near w i (idle_near (most + 1) w i e near)

-- rounds leave nothing waiting where they are as many as inputs wait
near_rounds : (most i : ℕ) (w : RingView) → IsNear most w i → IsAllDurable (rounds most i w).1
unfolding rounds
near_rounds zero i w near = none_near w i near
near_rounds (suc most) i w near =
    rounds_if most i w (let few = near.few in record { least = near.least; few = omega arith; others = near.others }) (λ v closer. near_rounds most i v closer) (waits w i) refl

-- what is asked waits alone
asked_near : (serial : Option ℕ) (i : ℕ) (q : Request) (w : RingView) → IsAllDurable w → IsNear 1 (asked serial i q w) i
unfolding IsAllDurable
asked_near serial i q w all =
    let s = node_at w i in
    let more = gained_by (member i w.size w.capacity) s q in
    let is = all i in
    let l = length-append s.inputs more in
    let one = one_gained i w.size w.capacity s q in
    let same = sym (node_asked w i serial q) in
    record {
      least = subst (λ (r : NodeState). r.durable ≤ length r.inputs) same (let le : s.durable ≤ length (s.inputs ++ more) = omega arith in le);
      few = subst (λ (r : NodeState). length r.inputs ≤ r.durable + 1) same (let le : length (s.inputs ++ more) ≤ s.durable + 1 = omega arith in le);
      others = λ j ne. subst IsStill (sym (asked-other w i serial q j ne)) (all j);
    }

durable_given : (i : ℕ) (q : Request) (w : RingView) → IsAllDurable w → IsAllDurable (given i q w)
unfolding IsAllDurable
durable_given i q w all = λ j. subst IsStill (sym (node_given w i q j)) (all j)

-- in an eager ring where nothing waits, rounds make durable what a request adds
pub durable_brought : (serial : Option ℕ) (i : ℕ) (q : Request) (w : RingView) → w.eager ≡ true → IsAllDurable w → IsAllDurable (brought serial i q w).1
unfolding brought
durable_brought serial i q w eager all =
    let t = settled i (asked serial i q (given i q w)) in
    let near = settled_near 1 (asked serial i q (given i q w)) i (asked_near serial i q (given i q w) (durable_given i q w all)) in
    let first : Part = released i (asked serial i q (given i q w)) in
    subst (λ b. IsAllDurable (cond b (and_then first (drained i)) first).1) (sym eager)
    (near_rounds (length (node_at t i).inputs) i t (let least = near.least in record { least = near.least; few = omega arith; others = near.others }))

-- ---- the other parts

pub durable_settled : (i : ℕ) (w : RingView) → IsAllDurable w → IsAllDurable (settled i w)
unfolding IsAllDurable
durable_settled i w all = λ j. subst IsStill (sym (node_settled w i j)) (all j)

module _ (n capacity : ℕ) (events : List (ℕ × Action)) (i : ℕ) (all : (j : ℕ) → IsStill (state_after all_fresh n capacity events j)) where
  still_one : (a : Action) → IsStill (act i n capacity (process all_fresh n capacity events i) a).state → (j : ℕ) → IsStill (state_after all_fresh n capacity (events ++ (i, a) ∷ []) j)
  still_one a here j = elim (cases_eq i j) [
    | inl e ↦ subst (λ k. IsStill (state_after all_fresh n capacity (events ++ (i, a) ∷ []) k)) e (subst (λ (p : Process). IsStill p.state) (sym (process-same all_fresh n capacity events i a)) here)
    | inr ne ↦ subst (λ (p : Process). IsStill p.state) (sym (process-other all_fresh n capacity events i a j ne)) (all j)
  ]

  still_two : (a b : Action) → IsStill (act i n capacity (act i n capacity (process all_fresh n capacity events i) a) b).state → (j : ℕ) → IsStill (state_after all_fresh n capacity (events ++ (i, a) ∷ (i, b) ∷ []) j)
  still_two a b here j = elim (cases_eq i j) [
    | inl e ↦ subst (λ k. IsStill (state_after all_fresh n capacity (events ++ (i, a) ∷ (i, b) ∷ []) k)) e (subst (λ (p : Process). IsStill p.state) (sym (process_two n capacity events i a b)) here)
    | inr ne ↦ subst (λ (p : Process). IsStill p.state) (sym (process_two-other n capacity events i a b j ne)) (all j)
  ]

pub durable_crashed : (i : ℕ) (w : RingView) → IsAllDurable w → IsAllDurable (crashed i w)
unfolding crashed happening.act IsAllDurable
durable_crashed i w all = still_one w.size w.capacity w.events i all (Crash false) refl

-- no stop leaves an input that waits
still_left : (keeps_flying : Bool) (s : NodeState) → IsStill (left_by keeps_flying s)
still_left true s = refl
still_left false s = refl

pub durable_stopped : (flight : Flight) (keeps_flying : Bool) (i : ℕ) (w : RingView) → IsAllDurable w → IsAllDurable (stopped flight keeps_flying i w)
unfolding stopped happening.act IsAllDurable
durable_stopped flight keeps_flying i w all = still_two w.size w.capacity w.events i all (launch flight) (Crash keeps_flying) (still_left keeps_flying (act i w.size w.capacity (process all_fresh w.size w.capacity w.events i) (launch flight)).state)

-- nor does a round
durable_landed : (flight : Flight) (i : ℕ) (w : RingView) → IsAllDurable w → IsAllDurable (landed flight i w)
unfolding landed happening.act IsAllDurable
durable_landed Batch i w all = by_waiting (waits w i) refl
  where
    by_waiting : (b : Bool) → waits w i ≡ b → IsAllDurable (landed Batch i w)
    by_waiting true e = (let is = at_node w i all in let low = ltb-true (node_at w i).durable (length (node_at w i).inputs) e in absurd (omega arith))
    by_waiting false e = subst IsAllDurable (sym (landed_idle w i e)) all
durable_landed Checkpoint i w all = still_two w.size w.capacity w.events i all (LaunchAll newest) Land refl

pub durable_round : (flight : Flight) (i : ℕ) (w : RingView) → IsAllDurable w → IsAllDurable (round flight i w).1
durable_round flight i w all = durable_settled i (landed flight i w) (durable_landed flight i w all)

-- what was told changes no node
pub durable_told : (w : RingView) → IsAllDurable w → IsAllDurable (record w { told = w.events })
unfolding IsAllDurable
durable_told w all = λ i. all i

pub durable_new : (size : ℕ) (eager : Bool) (capacity : ℕ) → IsAllDurable (new_ring size eager capacity)
unfolding IsAllDurable happening.process part
durable_new size eager capacity = λ i. refl

-- ---- its size, its capacity and that it is eager stay

after_same : (w v u : RingView) → IsSameRing w v → IsSameRing v u → IsSameRing w u
after_same w v u first then = (then.0 ∙ first.0, then.1 ∙ first.1, then.2 ∙ first.2, then.3 ∙ first.3)

pub same_round : (flight : Flight) (i : ℕ) (w : RingView) → IsSameRing w (round flight i w).1
unfolding settled landed
same_round flight i w = (refl, refl, refl, refl)

same_asked : (serial : Option ℕ) (i : ℕ) (q : Request) (w : RingView) → IsSameRing w (settled i (asked serial i q (given i q w)))
unfolding settled asked given
same_asked serial i q w = (refl, refl, refl, refl)

same_if : (b : Bool) (w : RingView) (p r : Part) → IsSameRing w p.1 → IsSameRing w r.1 → IsSameRing w (cond b p r).1
same_if true w p r h k = h
same_if false w p r h k = k

same_rounds : (most i : ℕ) (w : RingView) → IsSameRing w (rounds most i w).1
unfolding rounds
same_rounds zero i w = (refl, refl, refl, refl)
same_rounds (suc most) i w =
    same_if (waits w i) w (and_then (round Batch i w) (rounds most i)) ([], w) (after_same w (round Batch i w).1 (rounds most i (round Batch i w).1).1 (same_round Batch i w) (same_rounds most i (round Batch i w).1)) (refl, refl, refl, refl)

pub same_brought : (serial : Option ℕ) (i : ℕ) (q : Request) (w : RingView) → IsSameRing w (brought serial i q w).1
unfolding brought
same_brought serial i q w =
    let t = asked serial i q (given i q w) in
    let first = same_asked serial i q w in
    same_if w.eager w (and_then (released i t) (drained i)) (released i t) (after_same w (settled i t) (drained i (settled i t)).1 first (same_rounds (length (node_at (settled i t) i).inputs) i (settled i t))) first

-- ---- deliveries

durable_on : (others : RingView → ℕ × RingView) (one : Bool × RingView) → ((w : RingView) → w.eager ≡ true → IsAllDurable w → IsAllDurable (others w).1) → one.1.eager ≡ true → IsAllDurable one.1
    → IsAllDurable (swept_on others one).1
durable_on others (true, w) more eager all = more w eager all
durable_on others (false, w) more eager all = all

durable_with : (others : RingView → ℕ × RingView) (w : RingView) (delivery : Option (ℕ × Request)) → ((w : RingView) → w.eager ≡ true → IsAllDurable w → IsAllDurable (others w).1)
    → w.eager ≡ true → IsAllDurable w → IsAllDurable (swept_with others w delivery).1
unfolding swept_one
durable_with others w None more eager all = all
durable_with others w (Some delivery) more eager all =
    durable_on others (swept_one delivery.0 delivery.1 w) more ((same_brought None delivery.0 delivery.1 w).2 ∙ eager) (durable_brought None delivery.0 delivery.1 w eager all)

pub durable_swept : (count : ℕ) (w : RingView) → w.eager ≡ true → IsAllDurable w → IsAllDurable (swept count w).1
unfolding swept
durable_swept zero w eager all = all
durable_swept (suc count) w eager all = durable_with (swept count) w (next_delivery w) (λ v kept more. durable_swept count v kept more) eager all

same_on : (others : RingView → ℕ × RingView) (w : RingView) (one : Bool × RingView) → ((v : RingView) → IsSameRing v (others v).1) → IsSameRing w one.1 → IsSameRing w (swept_on others one).1
same_on others w (true, v) more same = after_same w v (others v).1 same (more v)
same_on others w (false, v) more same = same

same_with : (others : RingView → ℕ × RingView) (w : RingView) (delivery : Option (ℕ × Request)) → ((v : RingView) → IsSameRing v (others v).1) → IsSameRing w (swept_with others w delivery).1
unfolding swept_one
same_with others w None more = (refl, refl, refl, refl)
same_with others w (Some delivery) more = same_on others w (swept_one delivery.0 delivery.1 w) more (same_brought None delivery.0 delivery.1 w)

pub same_swept : (count : ℕ) (w : RingView) → IsSameRing w (swept count w).1
unfolding swept
same_swept zero w = (refl, refl, refl, refl)
same_swept (suc count) w = same_with (swept count) w (next_delivery w) (λ v. same_swept count v)
