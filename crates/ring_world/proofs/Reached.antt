-- What the parts of an event make of the nodes.
use Rattle.std.proofs.Common.{ℕ, ◌≡◌, true, false, cond, [], ◌∷◌, ◌++◌, Option, append-nil, ap, ◌∙◌}
use Rattle.ring_records.specs.declared.request.Request.{Request}
use Rattle.ring_records.specs.declared.request.Request.TheVariants as ask
use Rattle.ring_records.specs.Member.{member}
use Rattle.ring_records.specs.States.{launched, landed as landed_state}
use Rattle.ring_records.specs.Launching.{asked as asked_state}
use Rattle.ring_node.specs.declared.flight.Flight.TheVariants.{Batch}
use Rattle.ring_world.specs.Events.{Submit, Launch, Land, Process}
use Rattle.ring_world.specs.Capacity.{all_fresh}
use Rattle.ring_world.specs.Acts.{act}
use Rattle.ring_world.specs.Ring.{RingView, node_at, asked, landed, waits, settled, due_at, given}
use Rattle.ring_world.specs.Events as happening
use Rattle.ring_world.proofs.Moves.{process_two, process_two-other, process-release, process-releases}
use Rattle.ring_world.proofs.Served.{process-same, process-other}

module _ (w : RingView) (i : ℕ) where
  -- a packet that is handed over changes no node
  pub node_given : (q : Request) (j : ℕ) → node_at (given i q w) j ≡ node_at w j
  unfolding given
  node_given (ask.Stand key bid) j = ap (λ (p : Process). p.state) (process-releases w.size w.capacity i [] w.events j)
  node_given (ask.Take msg_no msg) j = ap (λ (p : Process). p.state) (process-release w.size w.capacity w.events _ _ j)
  node_given (ask.Acked upto) j = ap (λ (p : Process). p.state) (process-release w.size w.capacity w.events _ _ j)
  node_given (ask.Retire group floor) j = ap (λ (p : Process). p.state) (process-releases w.size w.capacity i [] w.events j)
  node_given (ask.Who key) j = ap (λ (p : Process). p.state) (process-releases w.size w.capacity i [] w.events j)
  node_given (ask.Latest group) j = ap (λ (p : Process). p.state) (process-releases w.size w.capacity i [] w.events j)

  -- nor do replies that are released
  pub node_settled : (j : ℕ) → node_at (settled i w) j ≡ node_at w j
  unfolding settled
  node_settled j = ap (λ (p : Process). p.state) (process-releases w.size w.capacity i (due_at w i) w.events j)

  pub node_asked : (serial : Option ℕ) (q : Request) → node_at (asked serial i q w) i ≡ asked_state (member i w.size w.capacity) (node_at w i) q
  unfolding asked happening.act
  node_asked serial q = ap (λ (p : Process). p.state) (process-same all_fresh w.size w.capacity w.events i (Submit q))

  pub asked-other : (serial : Option ℕ) (q : Request) (j : ℕ) → (i ≡ j → ⊥) → node_at (asked serial i q w) j ≡ node_at w j
  unfolding asked
  asked-other serial q j ne = ap (λ (p : Process). p.state) (process-other all_fresh w.size w.capacity w.events i (Submit q) j ne)

  -- where something waits, a batch of node i lands
  pub node_landed : waits w i ≡ true → node_at (landed Batch i w) i ≡ landed_state (launched (node_at w i))
  unfolding landed happening.act
  node_landed e = ap (λ b. node_at (record w { events = w.events ++ cond b ((i, Launch) ∷ (i, Land) ∷ []) [] }) i) e ∙ ap (λ (p : Process). p.state) (process_two w.size w.capacity w.events i Launch Land)

  pub landed-other : waits w i ≡ true → (j : ℕ) → (i ≡ j → ⊥) → node_at (landed Batch i w) j ≡ node_at w j
  unfolding landed
  landed-other e j ne = ap (λ b. node_at (record w { events = w.events ++ cond b ((i, Launch) ∷ (i, Land) ∷ []) [] }) j) e ∙ ap (λ (p : Process). p.state) (process_two-other w.size w.capacity w.events i Launch Land j ne)

  -- else nothing happens
  pub landed_idle : waits w i ≡ false → landed Batch i w ≡ w
  unfolding landed
  landed_idle e = ap (λ b. record w { events = w.events ++ cond b ((i, Launch) ∷ (i, Land) ∷ []) [] }) e ∙ ap (λ es. record w { events = es }) (append-nil w.events)
