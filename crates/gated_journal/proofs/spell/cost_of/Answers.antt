use Rattle.std.proofs.Common.{◌∙◌, ap, length, arith}
use Rattle.std.proofs.lemmas.List.{take_all}
use Rattle.ring_records.specs.Admission.{costs_of}
use Rattle.gated_journal.specs.Frames.{records}
use Rattle.gated_journal.proofs.Spelled.{sums-none, sums-item}
use Rattle.gated_journal.proofs.spell.cost_of.Goals as goal

pub loop-input-init : goal.loop-input-init
loop-input-init c = sums-none

pub overflow_add-cost : goal.overflow_add-cost
overflow_add-cost c = omega (arith, c.loop-input.invariant.few, c.cost-cost.ensures.range, c.requires, c.loop-input-test.true)

pub loop-input-preserved : goal.loop-input-preserved
loop-input-preserved c = sums-item _ _ _ _ _ (record { within = c.loop-input-test.true; is = c.input-item.is }) c.loop-input.invariant c.cost-cost.ensures.value c.cost-cost.ensures.range

pub returns-clause-value : goal.returns-clause-value
returns-clause-value c = c.loop-input.invariant.same ∙ ap costs_of (take_all _ _ c.loop-input-test.false)

pub returns-clause-records : goal.returns-clause-records
returns-clause-records c =
    let all = take_all c.loop-input.input-index c.args.inputs.now c.loop-input-test.false in
    omega (arith, c.loop-input.invariant.parts, ap (λ l. length (records l)) all)

pub returns-clause-bound : goal.returns-clause-bound
returns-clause-bound c = omega (arith, c.loop-input.invariant.few, c.requires)
