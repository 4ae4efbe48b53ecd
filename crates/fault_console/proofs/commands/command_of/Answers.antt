use Rattle.std.proofs.Common.{arith}
use borrow.Author.Tests.{ltb-true, ltb-false}
use Rattle.fault_console.proofs.Counts.{few_words, many_words}
use Rattle.fault_console.proofs.commands.command_of.Goals as goal
use Rattle.fault_console.proofs.commands.command_of.Goals.{in_default-via-then-words-lt1, in_default-via-else-words-lt1+else-words-lt2+else-words-lt3+else-words-lt4+else-words-lt5+else-words-lt6+else-words-lt7}

pub returns-in_default : goal.returns-in_default
returns-in_default c = elim c.in_default.branch [
  | in_default-via-then-words-lt1 w ↦ few_words c.args.nodes c.args.words.now (omega (arith, ltb-true))
  | in_default-via-else-words-lt1+else-words-lt2+else-words-lt3+else-words-lt4+else-words-lt5+else-words-lt6+else-words-lt7 w ↦ many_words c.args.nodes c.args.words.now (omega (arith, ltb-false))
]
