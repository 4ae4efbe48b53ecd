use Rattle.std.proofs.Common.{◌∙◌}
use Rattle.ring_records.proofs.NameWords.{words_in_order}
use Rattle.ring_records.proofs.group_name.GroupName.compare.Goals as goal

pub returns : goal.returns
returns c = c.cmp.ensures ∙ words_in_order c.args.self.now c.args.other.now c.word.result c.word-2.result c.word.ensures.name c.word-2.ensures.name c.word.ensures.value c.word-2.ensures.value
