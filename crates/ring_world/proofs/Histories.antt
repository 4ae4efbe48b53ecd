-- The durable histories of a schedule's nodes are the parts of one legal run.
use Rattle.std.proofs.Common.{ℕ, ◌≡◌, ◌<◌, ◌≤◌, ◌+◌, ◌-◌, List, [], ◌∷◌, ◌++◌, length, map, Some, None, false, sym, ap, ◌∙◌, subst, arith}
use Rattle.std.specs.List.{range_with_len}
use Rattle.std.proofs.lemmas.Bool.{ltb-false, lt-ltb, le-ltb}
use Rattle.std.proofs.lemmas.List.FromFn.{get_or-map-range_with_len, length-map-range_with_len, map-range_with_len_more}
use Rattle.ring_records.specs.declared.base.Base.{Base}
use Rattle.ring_records.specs.declared.input.Input.{Input}
use Rattle.ring_records.specs.Ring.{IsLegal}
use Rattle.ring_records.specs.declared.refusal.Refusal.TheVariants.{Dropped, Failed}
use Rattle.ring_records.specs.Objection.{where_so}
use Rattle.ring_records.specs.Lists.{or_else}
use Rattle.ring_records.specs.States.{durable_in}
use Rattle.ring_records.proofs.Admission.{where_so-none}
use Rattle.ring_audit.specs.Audits.{HasShape}
use Rattle.ring_audit.specs.Placement.{history_of, IsWhole}
use Rattle.ring_world.specs.Capacity.{committed, process, state_after, all_fresh}
use Rattle.ring_world.specs.Events.{Action}
use Rattle.ring_world.specs.CapacitySchedule.{IsSchedule}
use Rattle.ring_world.specs.Dropped.{dropped_at, first_dropped, withheld}
use Rattle.ring_world.specs.Histories.{histories}
use Rattle.ring_world.specs.State.{State}
use Rattle.ring_world.specs.Worlds.{IsWorld}
use Rattle.ring_world.proofs.Lowest.{lowest_none}
use Rattle.ring_world.proofs.Corollaries.{committed_legal, committed_parts}

module _ (start : ℕ → Base) (n capacity : ℕ) (events : List (ℕ × Action)) where
  abbrev durable_at : ℕ → List Input
  durable_at i = durable_in (state_after start n capacity events i)

  pub count : length (histories start n capacity events) ≡ n
  count = length-map-range_with_len durable_at 1 n

  at_node : (i : ℕ) → 1 ≤ i → i ≤ n → history_of (histories start n capacity events) i ≡ durable_at i
  at_node i low high = get_or-map-range_with_len durable_at 1 n (i - 1) i [] (omega arith) (omega arith)

  -- those of the first nodes alone
  abbrev pub histories_up_to : ℕ → List (List Input)
  histories_up_to k = map durable_at (range_with_len 1 k)

  pub histories_more : (k : ℕ) → histories_up_to (k + 1) ≡ histories_up_to k ++ durable_at (k + 1) ∷ []
  histories_more k = map-range_with_len_more durable_at 1 k (k + 1) (omega arith)

  pub whole_histories : IsSchedule start n capacity events → IsWhole (histories start n capacity events) (committed start n capacity events)
  whole_histories lawful = record {
    legal = subst (λ m. IsLegal m (committed start n capacity events)) (sym count) (committed_legal start n capacity events lawful);
    parts = λ i low high. committed_parts start n capacity events i lawful ∙ sym (at_node i low (subst (λ m. i ≤ m) count high));
  }

module _ (n capacity : ℕ) (events : List (ℕ × Action)) where
  -- whether node i dropped inputs, by their count
  pub is_dropped : (i count : ℕ) → count ≡ (process all_fresh n capacity events i).dropped → 0 < count → Some (Dropped i) ≡ dropped_at n capacity events i
  is_dropped i count is more = ap (λ b. where_so b (Dropped i)) (sym (lt-ltb 0 (process all_fresh n capacity events i).dropped (omega (arith, is, more))))

  pub is_held : (i count : ℕ) → count ≡ (process all_fresh n capacity events i).dropped → count ≤ 0 → None ≡ dropped_at n capacity events i
  is_held i count is none = ap (λ b. where_so b (Dropped i)) (sym (le-ltb 0 (process all_fresh n capacity events i).dropped (omega (arith, is, none))))

  -- where no node dropped inputs, this one did not
  pub none_dropped : first_dropped n capacity events ≡ None → (i : ℕ) → 1 ≤ i → i ≤ n → (process all_fresh n capacity events i).dropped ≡ 0
  none_dropped none i low high =
      let held = lowest_none (dropped_at n capacity events) 1 n none i low (omega arith) in
      let test = ltb-false 0 (process all_fresh n capacity events i).dropped (where_so-none _ _ held) in
      omega (arith, test)

-- a world that works withholds them where a node dropped inputs
pub withheld_is : (w : State) → w.ring.failed ≡ false → withheld w ≡ first_dropped w.ring.size w.ring.capacity w.ring.events
withheld_is w works = ap (λ b. or_else (where_so b Failed) (first_dropped w.ring.size w.ring.capacity w.ring.events)) works

-- of a world, these are the histories
module _ (w : State) (world : IsWorld w) (hs : List (List Input)) (are : hs ≡ histories all_fresh w.ring.size w.ring.capacity w.ring.events) where
  pub world_lawful : IsSchedule all_fresh w.ring.size w.ring.capacity w.ring.events
  world_lawful = subst (IsSchedule all_fresh w.ring.size w.ring.capacity) (sym world.told) world.lawful

  pub world_whole : IsWhole (histories all_fresh w.ring.size w.ring.capacity w.ring.events) (committed all_fresh w.ring.size w.ring.capacity w.ring.events)
      → IsWhole hs (committed all_fresh w.ring.size w.ring.capacity w.ring.events)
  world_whole whole = subst (λ l. IsWhole l (committed all_fresh w.ring.size w.ring.capacity w.ring.events)) (sym are) whole

  pub world_shape : HasShape hs
  world_shape =
      let long = ap length are in
      let nodes = count all_fresh w.ring.size w.ring.capacity w.ring.events in
      let least = world.least in
      let most = world.most in
      (omega (arith, long, nodes, least), omega (arith, long, nodes, most))
