use Rattle.std.proofs.Common.{arith}
use borrow.Author.Tests.{ltb-true, ltb-false}
use Rattle.fault_console.proofs.Counts.{few_words_of_a_ring, many_words_of_a_ring}
use Rattle.fault_console.proofs.commands.shape_of.Goals as goal
use Rattle.fault_console.proofs.commands.shape_of.Goals.{in_default-via-then-words-lt2, in_default-via-else-words-lt2+else-words-lt3+else-words-lt4+else-words-lt5}

pub returns-in_default-clause-value : goal.returns-in_default-clause-value
returns-in_default-clause-value c = elim c.in_default.branch [
  | in_default-via-then-words-lt2 w ↦ few_words_of_a_ring c.args.words.now (omega (arith, ltb-true))
  | in_default-via-else-words-lt2+else-words-lt3+else-words-lt4+else-words-lt5 w ↦ many_words_of_a_ring c.args.words.now (omega (arith, ltb-false))
]
