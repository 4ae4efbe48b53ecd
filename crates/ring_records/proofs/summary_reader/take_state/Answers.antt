use Rattle.std.proofs.Common.{refl, arith}
use Rattle.ring_records.proofs.SnapshotParts.{takes_state, no_state_at}
use Rattle.ring_records.proofs.summary_reader.take_state.Goals as goal

pub push_reserved-requires : goal.push_reserved-requires
push_reserved-requires c =
    let t = takes_state c.args.n c.args.states.now.items _ c.args.bytes.now c.in-Ok.rest.now c.in-Ok.state (λ i. omega (arith, c.type_inv.bytes i)) c.in-Ok.ensures refl in
    omega (arith, t.1, c.requires.room)

pub overflow_sub-result : goal.overflow_sub-result
overflow_sub-result c =
    let t = takes_state c.args.n c.args.states.now.items _ c.args.bytes.now c.in-Ok.rest.now c.in-Ok.state (λ i. omega (arith, c.type_inv.bytes i)) c.in-Ok.ensures refl in
    omega (arith, t.1)

pub returns-in-Ok-clause-state : goal.returns-in-Ok-clause-state
returns-in-Ok-clause-state c =
    (takes_state c.args.n c.args.states.now.items c.push_reserved.new.self.items c.args.bytes.now c.in-Ok.rest.now c.in-Ok.state (λ i. omega (arith, c.type_inv.bytes i)) c.in-Ok.ensures c.push_reserved.ensures.items).0

pub returns-in-Err-clause-state : goal.returns-in-Err-clause-state
returns-in-Err-clause-state c = no_state_at c.args.n c.args.bytes.now c.in-Err.field-0 c.in-Err.ensures
