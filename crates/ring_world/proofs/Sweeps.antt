-- Which message is delivered next, and what is left after it.
use Rattle.std.proofs.Common.{ℕ, ◌≡◌, ◌+◌, Bool, true, false, cond, [], length, Option, Some, None, sym, ap, ◌∙◌, arith}
use Rattle.ring_records.specs.declared.request.Request.{Request}
use Rattle.ring_records.specs.History.{taken}
use Rattle.ring_records.specs.Place.{after}
use Rattle.ring_node.specs.declared.flight.Flight.TheVariants.{Batch}
use Rattle.ring_world.specs.Ring.{RingView, node_at, expected, next_of, next_delivery, Part, waits, and_then, round, rounds, swept_one, swept_on, swept_with, swept}
use Rattle.ring_world.proofs.Lowest.{after_one, lowest_from}

-- ---- the lowest node that is ready

-- the first that is ready of so many nodes from this one on
abbrev pub ready_from : RingView → ℕ → ℕ → Option (ℕ × Request)
ready_from w from count = lowest_from (next_of w) from count

-- what the code reads of the successor is the number that it expects
pub expected_is : (w : RingView) (from next count size : ℕ) → size ≡ w.size → next ≡ after size from → count ≡ length (taken (node_at w next).inputs) → count ≡ expected w from
expected_is w from next count size same behind is = is ∙ ap (λ n. length (taken (node_at w n).inputs)) (behind ∙ ap (λ k. after k from) same)

-- ---- rounds

pub rounds_end : (i : ℕ) (w : RingView) (m : ℕ) → m ≡ 0 → ◌≡◌ {A = Part} (rounds m i w) ([], w)
unfolding rounds
rounds_end i w m e = ap (λ k. rounds k i w) e

pub rounds_idle : (i : ℕ) (w : RingView) (m k : ℕ) → m ≡ k + 1 → waits w i ≡ false → ◌≡◌ {A = Part} (rounds m i w) ([], w)
unfolding rounds
rounds_idle i w m k e none = ap (λ j. rounds j i w) (after_one m k e) ∙ ap (λ b. cond b (and_then (round Batch i w) (rounds k i)) ([], w)) none

pub rounds_go : (i : ℕ) (w : RingView) (m k : ℕ) → m ≡ k + 1 → waits w i ≡ true → ◌≡◌ {A = Part} (rounds m i w) (and_then (round Batch i w) (rounds k i))
unfolding rounds
rounds_go i w m k e some = ap (λ j. rounds j i w) (after_one m k e) ∙ ap (λ b. cond b (and_then (round Batch i w) (rounds k i)) ([], w)) some

-- ---- deliveries

pub swept_end : (w : RingView) (m : ℕ) → m ≡ 0 → ◌≡◌ {A = ℕ × RingView} (swept m w) (0, w)
unfolding swept
swept_end w m e = ap (λ k. swept k w) e

pub swept_none : (w : RingView) (m k : ℕ) → m ≡ k + 1 → next_delivery w ≡ None → ◌≡◌ {A = ℕ × RingView} (swept m w) (0, w)
unfolding swept
swept_none w m k e none = ap (λ j. swept j w) (after_one m k e) ∙ ap (swept_with (swept k) w) none

pub swept_stop : (w t : RingView) (m k : ℕ) (d : ℕ × Request) → m ≡ k + 1 → next_delivery w ≡ Some d → ◌≡◌ {A = Bool × RingView} (false, t) (swept_one d.0 d.1 w)
    → ◌≡◌ {A = ℕ × RingView} (swept m w) (0, t)
unfolding swept
swept_stop w t m k d e some one = ap (λ j. swept j w) (after_one m k e) ∙ (ap (swept_with (swept k) w) some ∙ ap (swept_on (swept k)) (sym one))

pub swept_go : (w t : RingView) (m k : ℕ) (d : ℕ × Request) → m ≡ k + 1 → next_delivery w ≡ Some d → ◌≡◌ {A = Bool × RingView} (true, t) (swept_one d.0 d.1 w)
    → ◌≡◌ {A = ℕ × RingView} (swept m w) ((swept k t).0 + 1, (swept k t).1)
unfolding swept
swept_go w t m k d e some one = ap (λ j. swept j w) (after_one m k e) ∙ (ap (swept_with (swept k) w) some ∙ ap (swept_on (swept k)) (sym one))

-- the deliveries so far and those of the rest are all
pub ends : (all rest : ℕ × RingView) (count : ℕ) (t : RingView) → all.0 ≡ count + rest.0 → all.1 ≡ rest.1 → rest ≡ (0, t) → (count, t) ≡ all
ends all rest count t number state e =
    let none : rest.0 ≡ 0 = ap (λ (p : ℕ × RingView). p.0) e in
    let counts : count ≡ all.0 = omega arith in
    let states : t ≡ all.1 = sym (state ∙ ap (λ (p : ℕ × RingView). p.1) e) in
    λ i. (counts i, states i)

pub goes : (all rest after : ℕ × RingView) (count : ℕ) → all.0 ≡ count + rest.0 → all.1 ≡ rest.1 → rest ≡ (after.0 + 1, after.1) → (all.0 ≡ count + 1 + after.0) × (all.1 ≡ after.1)
goes all rest after count number state e =
    let one : rest.0 ≡ after.0 + 1 = ap (λ (p : ℕ × RingView). p.0) e in
    (omega arith, state ∙ ap (λ (p : ℕ × RingView). p.1) e)
