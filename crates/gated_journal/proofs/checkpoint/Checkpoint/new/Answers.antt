use Rattle.gated_journal.proofs.FewFloors.{few_floors}
use Rattle.gated_journal.proofs.checkpoint.Checkpoint.new.Goals as goal

pub summary_len-snapshot-requires : goal.summary_len-snapshot-requires
summary_len-snapshot-requires c = record { floors = few_floors c.args.base c.requires.short }
