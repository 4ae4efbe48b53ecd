use Rattle.line_words.proofs.Lines.{lines_end, lines_next_slice}
use Rattle.line_words.proofs.line.first_line.Goals as goal

pub returns-in-None-clause-line : goal.returns-in-None-clause-line
returns-in-None-clause-line c = lines_end c.args.text.now c.requires (cc)

pub returns-in-Some-clause-line : goal.returns-in-Some-clause-line
returns-in-Some-clause-line c = let e = lines_next_slice c.args.text.now c.in-Some.at (cc) in cc
