use Rattle.std.proofs.Common.{Some}
use Rattle.sessions.proofs.respond.ask_and_print.Goals as goal

pub returns : goal.returns
returns g c = (Some c.ask-answer.result, c.ask-answer.ensures, c.print_answer.ensures)
