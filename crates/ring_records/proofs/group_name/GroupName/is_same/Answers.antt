use Rattle.ring_records.proofs.NameWords.{words_are_names}
use Rattle.ring_records.proofs.group_name.GroupName.is_same.Goals as goal

pub returns : goal.returns
returns c = words_are_names c.args.self.now c.args.other.now c.word.result c.word-2.result c.word.ensures.name c.word-2.ensures.name c.word.ensures.value c.word-2.ensures.value
