use Rattle.std.proofs.Common.{refl, arith}
use Rattle.ring_records.proofs.SnapshotParts.{takes_floor, no_floor_at}
use Rattle.ring_records.proofs.summary_reader.take_floor.Goals as goal

pub push_reserved-requires : goal.push_reserved-requires
push_reserved-requires c =
    let t = takes_floor c.args.floors.now.items _ c.args.bytes.now c.in-Ok.rest.now c.in-Ok.floor (λ i. omega (arith, c.type_inv.bytes i)) c.in-Ok.ensures refl in
    omega (arith, t.1, c.requires.room)

pub overflow_sub-result : goal.overflow_sub-result
overflow_sub-result c =
    let t = takes_floor c.args.floors.now.items _ c.args.bytes.now c.in-Ok.rest.now c.in-Ok.floor (λ i. omega (arith, c.type_inv.bytes i)) c.in-Ok.ensures refl in
    omega (arith, t.1)

pub returns-in-Ok-clause-floor : goal.returns-in-Ok-clause-floor
returns-in-Ok-clause-floor c =
    (takes_floor c.args.floors.now.items c.push_reserved.new.self.items c.args.bytes.now c.in-Ok.rest.now c.in-Ok.floor (λ i. omega (arith, c.type_inv.bytes i)) c.in-Ok.ensures c.push_reserved.ensures.items).0

pub returns-in-Err-clause-floor : goal.returns-in-Err-clause-floor
returns-in-Err-clause-floor c = no_floor_at c.args.bytes.now c.in-Err.field-0 c.in-Err.ensures
