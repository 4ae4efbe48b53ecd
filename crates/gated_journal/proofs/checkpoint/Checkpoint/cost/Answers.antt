use Rattle.gated_journal.proofs.FewFloors.{few_floors}
use Rattle.gated_journal.proofs.checkpoint.Checkpoint.cost.Goals as goal

pub summary_len-requires : goal.summary_len-requires
summary_len-requires c = record { floors = few_floors c.args.self.now.base c.args.self.now.short }
