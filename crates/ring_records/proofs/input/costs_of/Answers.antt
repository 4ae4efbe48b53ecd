use Rattle.std.proofs.Common.{refl, arith}
use Rattle.ring_records.proofs.Iteration.{costs-item}
use Rattle.ring_records.proofs.input.costs_of.Goals as goal

pub loop-input-init : goal.loop-input-init
loop-input-init c = refl

pub overflow_add-costs : goal.overflow_add-costs
overflow_add-costs c =
    let next = costs-item c.args.inputs.now c.loop-input.input-index _ (record { within = c.loop-input-test.true; is = c.input-item.is }) in
    omega (arith, next.0, next.1, c.loop-input.invariant, c.from-costs.ensures, c.cost.ensures.value, c.requires)

pub loop-input-preserved : goal.loop-input-preserved
loop-input-preserved c =
    let next = costs-item c.args.inputs.now c.loop-input.input-index _ (record { within = c.loop-input-test.true; is = c.input-item.is }) in
    omega (arith, next.0, c.loop-input.invariant, c.from-costs.ensures, c.cost.ensures.value)
