use Rattle.gated_journal.proofs.Spelled.{spells-item}
use Rattle.gated_journal.proofs.spell.spell.Goals as goal

pub loop-input-preserved : goal.loop-input-preserved
loop-input-preserved c = spells-item _ _ _ _ _ _ (record { within = c.loop-input-test.true; is = c.input-item.is }) c.loop-input.invariant c.in_ok-push_record.ensures.record c.push_record.ensures.has
