-- What the laws of any rule of room say of that of this service.
use Rattle.std.proofs.Common.{ℕ, ◌≡◌, ◌≢◌, ◌≤◌, true, List, [], ◌∷◌, ◌++◌, length, take, Some, sym, ap, ◌∙◌, arith, append-nil}
use Rattle.std.specs.List.{Contains}
use Rattle.ring_records.specs.declared.base.Base.{Base}
use Rattle.ring_records.specs.declared.candidate.Candidate.{Candidate}
use Rattle.ring_records.specs.declared.input.Input.{Input}
use Rattle.ring_records.specs.declared.input.Input.TheVariants.{Stand}
use Rattle.ring_records.specs.declared.key.Key.{Key}
use Rattle.ring_records.specs.Fitting.{RingFits}
use Rattle.ring_records.specs.Lawful.{IsNodeState}
use Rattle.ring_records.specs.Leader.{leader}
use Rattle.ring_records.specs.Order.{is_less}
use Rattle.ring_records.specs.Ring.{IsLegal}
use Rattle.ring_records.specs.Part.{part}
use Rattle.ring_records.specs.States.{NodeState, durable_in}
use Rattle.ring_records.proofs.Growth.{EachAfter-front, EachAfter-at}
use Rattle.ring_records.proofs.History.{leader-shown}
use Rattle.ring_world.specs.Based.{Rests, IsKept}
use Rattle.ring_world.specs.Capacity.{within, process, state_after, committed}
use Rattle.ring_world.specs.Events.{Thing, Replied, Sent, Shown, Action, Release}
use Rattle.ring_world.specs.Released.{IsAnnounced}
use Rattle.ring_world.specs.CapacitySchedule.{IsSchedule}
use Rattle.ring_world.specs.Acts.{IsReleasable, MayHappen}
use Rattle.ring_world.specs.Schedules as lawful
use Rattle.ring_world.proofs.Chain.{IsShown, shown_by, agree}
use Rattle.ring_world.proofs.Credits.{link_fits}
use Rattle.ring_world.proofs.Promises as any
use Rattle.ring_world.proofs.Schedules as scheduled
use Rattle.ring_world.proofs.Served.{Holds, schedule_holds}

-- ---- the run of what is durable

pub committed_legal : (start : ℕ → Base) (n capacity : ℕ) (events : List (ℕ × Action)) → IsSchedule start n capacity events → IsLegal n (committed start n capacity events)
committed_legal start n capacity events s = any.committed_legal start n (within capacity) events s.each

pub committed_parts : (start : ℕ → Base) (n capacity : ℕ) (events : List (ℕ × Action)) (i : ℕ) → IsSchedule start n capacity events
    → part (committed start n capacity events) i ≡ take (state_after start n capacity events i).durable (state_after start n capacity events i).inputs
committed_parts start n capacity events i s = any.committed_parts start n (within capacity) events i s.each

-- what is durable in a schedule fits
pub ring_fits : (start : ℕ → Base) (n capacity : ℕ) (events : List (ℕ × Action)) → IsSchedule start n capacity events → RingFits n (λ i place. Unit {0}) (λ i. durable_in (state_after start n capacity events i))
ring_fits start n capacity events s =
    let shown : (i : ℕ) (key : Key) (c : Candidate) → leader i (durable_in (state_after start n capacity events i)) key ≡ Some c → IsShown n (committed start n capacity events) key c =
    λ i key c leads. shown_by n (committed start n capacity events) key c (committed_legal start n capacity events s) i (durable_in (state_after start n capacity events i)) [] (append-nil _ ∙ sym (committed_parts start n capacity events i s))
    (leader-shown i (durable_in (state_after start n capacity events i)) key c leads) in
    record {
      links = λ i low high. link_fits start n capacity events s i low high;
      leaders = λ i j low high low_j high_j key c d one other. agree n (committed start n capacity events) key c (committed_legal start n capacity events s) d (shown i key c one) (shown j key d other);
    }

-- ---- answers that name a leader

pub one_leader : (start : ℕ → Base) (n capacity : ℕ) (events : List (ℕ × Action)) (key : Key) (c d : Candidate) → IsSchedule start n capacity events → IsAnnounced events key c → IsAnnounced events key d → c ≡ d
one_leader start n capacity events key c d s a b = any.one_leader start n (within capacity) events key c d s.each a b

pub leader_stands : (start : ℕ → Base) (n capacity : ℕ) (events : List (ℕ × Action)) (key : Key) (c : Candidate) → IsSchedule start n capacity events → IsAnnounced events key c
    → Contains (committed start n capacity events) (c.node, Stand key c.bid)
leader_stands start n capacity events key c s a = any.leader_stands start n (within capacity) events key c s.each a

pub leader_greatest : (start : ℕ → Base) (n capacity : ℕ) (events : List (ℕ × Action)) (key : Key) (c d : Candidate) → IsSchedule start n capacity events → IsAnnounced events key c
    → Contains (committed start n capacity events) (d.node, Stand key d.bid) → d ≢ c → is_less d c ≡ true
leader_greatest start n capacity events key c d s a stood other = any.leader_greatest start n (within capacity) events key c d s.each a stood other

-- ---- what is durable stays, and was answered with room counted from what an area stood for

may_release : (start : ℕ → Base) (n capacity : ℕ) (events : List (ℕ × Action)) (i : ℕ) (t : Thing) → MayHappen start n capacity events (i, Release t) → IsReleasable i n capacity (process start n capacity events i) t
unfolding lawful.May
may_release start n capacity events i t h = h.may

durable_within : (s : NodeState) → IsNodeState s → s.durable ≤ length s.inputs
durable_within s counts = let d = counts.durable in let f = counts.flying in omega arith

module _ (start : ℕ → Base) (n capacity : ℕ) (early late : List (ℕ × Action)) (first : IsSchedule start n capacity early) (whole : IsSchedule start n capacity (early ++ late)) (i : ℕ) where
  abbrev at_release : NodeState
  at_release = state_after start n capacity early i

  abbrev now : NodeState
  now = state_after start n capacity (early ++ late) i

  before : Holds start n capacity early
  before = schedule_holds start n capacity early first

  stays : (k : ℕ) → k ≤ at_release.durable → record { durable : k ≤ now.durable; same : take k now.inputs ≡ take k at_release.inputs }
  stays = any.stays start n (within capacity) early late (scheduled.schedule_holds start n (within capacity) early first.each) (scheduled.schedule_holds start n (within capacity) (early ++ late) whole.each) i

  released-kept : (t : Thing) → IsReleasable i n capacity (process start n capacity early i) t → IsKept i n capacity t at_release now
  unfolding lawful.IsReleasable lawful.Rests Rests
  released-kept (Replied a) r =
      let kept = stays a.answer.number r.1 in
      record { number = a.answer.number; rested = (before.sound i).kept a r.0; was_durable = r.1; is_durable = kept.durable; same = kept.same }
  released-kept (Sent packet) r =
      let inside : at_release.durable ≤ length at_release.inputs = durable_within at_release (before.sound i).lawful.counts in
      let less = r.durable in
      let kept = stays r.number less in
      record { number = r.number; rested = record { within = omega arith; rests = r.rests }; was_durable = less; is_durable = kept.durable; same = kept.same }
  released-kept (Shown key c) r =
      let inside : at_release.durable ≤ length at_release.inputs = durable_within at_release (before.sound i).lawful.counts in
      let less = r.durable in
      let kept = stays r.number less in
      record { number = r.number; rested = record { within = omega arith; rests = r.rests }; was_durable = less; is_durable = kept.durable; same = kept.same }

pub prefix_kept : (start : ℕ → Base) (n capacity : ℕ) (early late : List (ℕ × Action)) (i : ℕ) (t : Thing) → IsSchedule start n capacity (early ++ (i, Release t) ∷ late)
    → IsKept i n capacity t (state_after start n capacity early i) (state_after start n capacity (early ++ (i, Release t) ∷ late) i)
prefix_kept start n capacity early late i t s =
    released-kept start n capacity early ((i, Release t) ∷ late)
    (record { formatted = s.formatted; each = EachAfter-front (MayHappen start n capacity) [] early ((i, Release t) ∷ late) s.each })
    s i t
    (may_release start n capacity early i t (EachAfter-at (MayHappen start n capacity) [] early (i, Release t) late s.each))
