-- What an event keeps: the size of the ring, the bounds on its open tickets, and that nothing waits in an eager one.
use Rattle.std.proofs.Common.{ℕ, ◌≡◌, ◌+◌, ◌≤◌, Bool, true, false, cond, Option, Some, None, Ok, Err, ◌⊎◌, ⊎_elim, length, refl, sym, ap, ◌∙◌, subst, arith}
use Rattle.std.specs.Prelude.{Result, IfOk, IfErr, OnOk}
use Rattle.ring_records.specs.declared.refusal.Refusal.{Refusal}
use Rattle.ring_records.specs.declared.refusal.Refusal.TheVariants.{OutOfMemory}
use Rattle.ring_records.specs.declared.request.Request.{Request}
use Rattle.ring_records.specs.declared.request.Request.TheVariants as ask
use Rattle.ring_records.specs.Lists.{EachAfter}
use Rattle.ring_records.specs.Place.{before}
use Rattle.ring_node.specs.declared.flight.Flight.{Flight}
use Rattle.ring_node.specs.declared.flight.Flight.TheVariants as flights
use Rattle.ring_world.specs.Counts.{IsBounded}
use Rattle.ring_world.specs.CapacitySchedule.{IsSchedule}
use Rattle.ring_world.specs.Rest.{IsAllDurable}
use Rattle.ring_world.specs.Ring.{RingView, node_at, is_launched, carried, round, brought, crashed, stopped, swept}
use Rattle.ring_world.specs.Left.{IsSameRing, IsLeft}
use Rattle.ring_world.specs.Capacity.{all_fresh}
use Rattle.ring_world.specs.State.{State, opened}
use Rattle.ring_world.specs.Worlds.{IsWorld, is_lasting}
use Rattle.ring_world.specs.declared.outcome.Outcome.{Outcome}
use Rattle.ring_world.specs.Step.{Told, Steps, told, all_told, refusal_of, stepped, submitted, flushed, put, delivered_all}
use Rattle.ring_world.specs.Step as step
use Rattle.ring_world.specs.declared.event.Event.{Event}
use Rattle.ring_world.specs.declared.event.Event.TheVariants.{Submit, Flush, Deliver, DeliverAll, Credit, Crash, Stop, Checkpoint, StopCheckpoint}
use Rattle.ring_world.proofs.Counts.{bounded_brought, bounded_round, bounded_crashed, bounded_stopped, bounded_swept, bounded_told, bounded_new, few_lost}
use Rattle.ring_world.proofs.Lawful.{fresh-formatted}
use Rattle.ring_world.proofs.Rest.{durable_brought, durable_round, durable_crashed, durable_stopped, durable_swept, durable_told, durable_new, same_brought, same_round, same_swept}

pub record Keeps (s : State) (r : Told × State) : Type 0 where
  pub same : (r.1.ring.size ≡ s.ring.size) × (r.1.ring.capacity ≡ s.ring.capacity) × (r.1.ring.eager ≡ s.ring.eager)
  pub few : length r.0.replies + length r.0.lost ≤ s.tickets + 1
  pub tickets : r.1.tickets ≤ s.tickets + 1
  pub bounded : IsBounded r.1.ring r.1.tickets
  pub durable : s.ring.eager ≡ true → IsAllDurable r.1.ring

module _ (s : State) (bounded : IsBounded s.ring s.tickets) (durable : s.ring.eager ≡ true → IsAllDurable s.ring) where
  same_shape : (w v : RingView) → IsSameRing w v → (v.size ≡ w.size) × (v.capacity ≡ w.capacity) × (v.eager ≡ w.eager)
  same_shape w v same = (same.0, same.1, same.2)

  submitted_keeps : (i : ℕ) (q : Request) → Keeps s (submitted i q s)
  unfolding submitted
  submitted_keeps i q =
      let ticket = s.tickets + 1 in
      let bound = bounded_brought (Some ticket) i q s.ring s.tickets ticket (omega arith) bounded in
      let few = bound.0 in
      record {
        same = same_shape s.ring (brought (Some ticket) i q s.ring).1 (same_brought (Some ticket) i q s.ring);
        few = omega (arith, few);
        tickets = omega arith;
        bounded = bound.1;
        durable = λ eager. durable_brought (Some ticket) i q s.ring eager (durable eager);
      }

  flushed_keeps : (flight : Flight) (i : ℕ) → Keeps s (flushed flight i s)
  unfolding flushed
  flushed_keeps flight i =
      let bound = bounded_round flight i s.ring s.tickets bounded in
      let few = bound.0 in
      record {
        same = same_shape s.ring (round flight i s.ring).1 (same_round flight i s.ring);
        few = omega (arith, few);
        tickets = omega arith;
        bounded = bound.1;
        durable = λ eager. durable_round flight i s.ring (durable eager);
      }

  put_keeps : (delivery : Option (ℕ × Request)) → Keeps s (put s delivery)
  put_keeps None = record { same = (refl, refl, refl); few = omega arith; tickets = omega arith; bounded = bounded; durable = durable }
  put_keeps (Some delivery) = submitted_keeps delivery.0 delivery.1

  swept_keeps : Keeps s (delivered_all s)
  unfolding delivered_all
  swept_keeps = record {
    same = same_shape s.ring (swept 10000 s.ring).1 (same_swept 10000 s.ring);
    few = omega arith;
    tickets = omega arith;
    bounded = bounded_swept 10000 s.ring s.tickets bounded;
    durable = λ eager. durable_swept 10000 s.ring eager (durable eager);
  }

  -- node i was opened again, in this ring
  reopened_keeps : (i : ℕ) (w : RingView) → IsSameRing s.ring w → IsBounded w s.tickets → (s.ring.eager ≡ true → IsAllDurable w) → Keeps s (step.reopened i w s)
  reopened_keeps i w same bound all =
      let few = few_lost i s.ring s.tickets bounded in
      record { same = same_shape s.ring w same; few = omega (arith, few); tickets = omega arith; bounded = bound; durable = all }

  crashed_keeps : (i : ℕ) → Keeps s (step.crashed i s)
  unfolding step.crashed crashed
  crashed_keeps i = reopened_keeps i (crashed i s.ring) (refl, refl, refl, refl) (bounded_crashed i s.ring s.tickets bounded) (λ eager. durable_crashed i s.ring (durable eager))

  stopped_by : (flight : Flight) (keeps_flying : Bool) (i : ℕ) → Keeps s (step.reopened i (stopped flight keeps_flying i s.ring) s)
  unfolding stopped
  stopped_by flight keeps_flying i =
      reopened_keeps i (stopped flight keeps_flying i s.ring) (refl, refl, refl, refl) (bounded_stopped flight keeps_flying i s.ring s.tickets bounded) (λ eager. durable_stopped flight keeps_flying i s.ring (durable eager))

  stopped_keeps : (flight : Flight) (keeps_flying : Bool) (i : ℕ) → Keeps s (step.stopped flight keeps_flying i s)
  unfolding step.stopped
  stopped_keeps flight keeps_flying i = by_launch (is_launched flight (node_at s.ring i))
    where
      by_launch : (b : Bool) → Keeps s (cond b (step.reopened i (stopped flight keeps_flying i s.ring) s) (step.crashed i s))
      by_launch true = stopped_by flight keeps_flying i
      by_launch false = crashed_keeps i

  stepped_keeps : (keeps_flying : Bool) (event : Event) → Keeps s (stepped keeps_flying s event)
  unfolding stepped
  stepped_keeps keeps_flying (Submit node q) = submitted_keeps node q
  stepped_keeps keeps_flying (Flush node) = flushed_keeps flights.Batch node
  stepped_keeps keeps_flying (Deliver from msg_no) = put_keeps (carried s.ring from msg_no)
  stepped_keeps keeps_flying DeliverAll = swept_keeps
  stepped_keeps keeps_flying (Credit from upto) = submitted_keeps (before s.ring.size from) (ask.Acked upto)
  stepped_keeps keeps_flying (Crash node) = crashed_keeps node
  stepped_keeps keeps_flying (Stop node call tear) = stopped_keeps flights.Batch keeps_flying node
  stepped_keeps keeps_flying (Checkpoint node) = flushed_keeps flights.Checkpoint node
  stepped_keeps keeps_flying (StopCheckpoint node call tear) = stopped_keeps flights.Checkpoint keeps_flying node

-- ---- a world

told_keeps : (s : State) (r : Told × State) → Keeps s r → Keeps s (all_told r)
told_keeps s r kept = record {
  same = kept.same;
  few = kept.few;
  tickets = kept.tickets;
  bounded = bounded_told r.1.ring r.1.tickets kept.bounded;
  durable = λ eager. durable_told r.1.ring (kept.durable eager);
}

pub step_keeps : (s t : State) (event : Event) (o : Told) → IsWorld s → s.ring.failed ≡ false → Steps s event o t → Keeps s (o, t)
unfolding Steps
step_keeps s t event o world works steps =
    subst (Keeps s) (sym steps.1)
    (told_keeps s (stepped steps.0 s event) (stepped_keeps s (world.counted works) (λ eager. world.rest eager works) steps.0 event))

all_told_is : (s t : State) (event : Event) (o : Told) → Steps s event o t → t.ring.events ≡ t.ring.told
unfolding Steps
all_told_is s t event o steps = ap (λ (r : Told × State). r.1.ring.events) steps.1 ∙ sym (ap (λ (r : Told × State). r.1.ring.told) steps.1)

-- after an event
pub stepped_world : (s t : State) (event : Event) (o : Told) → IsWorld s → s.ring.failed ≡ false → Steps s event o t → IsSchedule all_fresh t.ring.size t.ring.capacity t.ring.told → IsWorld t
stepped_world s t event o world works steps lawful =
    let kept = step_keeps s t event o world works steps in
    let least = world.least in
    let most = world.most in
    let same = kept.same.0 in
    record {
      least = omega (arith, least, same);
      most = omega (arith, most, same);
      told = all_told_is s t event o steps;
      lawful = lawful;
      counted = λ still. kept.bounded;
      rest = λ eager still. kept.durable (sym kept.same.2 ∙ eager);
    }

fails : {b : Bool} → b ≡ true → b ≡ false → ⊥
fails is isnt = let both = sym is ∙ isnt in absurd cc

-- after want of memory
pub left_world : (s t : State) (lasting : Bool) → IsWorld s → IsLeft lasting s t → IsWorld t
left_world s t true world left = subst IsWorld (sym left) world
left_world s t false world left =
    let same = left.same in
    let least = world.least in
    let most = world.most in
    let size = same.0 in
    record {
      least = omega (arith, least, size);
      most = omega (arith, most, size);
      told = left.told;
      lawful = subst (λ (r : RingView). IsSchedule all_fresh r.size r.capacity r.told) (λ k. record s.ring { size = sym same.0 k; capacity = sym same.1 k; told = sym same.3 k }) world.lawful;
      counted = λ works. absurd (fails left.failed works);
      rest = λ eager works. absurd (fails left.failed works);
    }

-- one in which nothing happened
pub new_world : (size : ℕ) (eager : Bool) (capacity : ℕ) → 2 ≤ size → size ≤ 16 → IsWorld (opened size eager capacity)
unfolding EachAfter
new_world size eager capacity least most = record {
  least = least;
  most = most;
  told = refl;
  lawful = record { formatted = fresh-formatted; each = tt };
  counted = λ works. bounded_new size eager capacity;
  rest = λ is_eager works. durable_new size eager capacity;
}

-- ---- what an event brings, or why it is refused

-- what is so of the state t that an event leads to from s
pub record Moved (s t : State) (answer : Result Outcome Refusal) : Type 0 where
  pub world : IsWorld t
  pub size : (t.ring.size ≡ s.ring.size) × (t.ring.capacity ≡ s.ring.capacity)
  pub few : IfOk answer (λ o. length o.replies.items + length o.lost.items ≤ s.tickets + 1)
  pub tickets : OnOk answer (t.tickets ≤ s.tickets + 1)

left_moved : (s t : State) (lasting : Bool) (why : Refusal) → IsWorld s → IsLeft lasting s t → Moved s t (Err why)
left_moved s t true why world left = record {
  world = left_world s t true world left;
  size = (ap (λ (u : State). u.ring.size) left, ap (λ (u : State). u.ring.capacity) left);
  few = tt;
  tickets = tt;
}
left_moved s t false why world left = record {
  world = left_world s t false world left;
  size = (left.same.0, left.same.1);
  few = tt;
  tickets = tt;
}

pub moved : (s t : State) (event : Event) (answer : Result Outcome Refusal) → IsWorld s → s.ring.failed ≡ false
    → IfOk answer (λ o. Steps s event (told o) t) → OnOk answer (IsSchedule all_fresh t.ring.size t.ring.capacity t.ring.told)
    → IfErr answer (λ why. (why ≡ OutOfMemory) ⊎ ((refusal_of s event ≡ Some why) × (t ≡ s)))
    → IfErr answer (λ why. why ≡ OutOfMemory → (refusal_of s event ≡ None) × IsLeft (is_lasting s event) s t)
    → Moved s t answer
moved s t event (Ok o) world works steps lawful refused memory =
    let kept = step_keeps s t event (told o) world works steps in
    record {
      world = stepped_world s t event (told o) world works steps lawful;
      size = (kept.same.0, kept.same.1);
      few = kept.few;
      tickets = kept.tickets;
    }
moved s t event (Err why) world works steps lawful refused memory =
    ⊎_elim (λ short. left_moved s t (is_lasting s event) why world (memory short).1) (λ objects. left_moved s t true why world objects.1) refused
