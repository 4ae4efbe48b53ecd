-- It names no thread's key, so it may go to another thread.
use base.Growing.{latest, at_least}
use denote.Param.Send.{IsSend}
use Rattle.commit_hub.specs.contracts.tied.Mark.{the_row}

pub send : IsSend the_row
unfolding latest at_least
send = record { owned = λ d vs. ((λ vss. (tt, ((λ uss. (tt, tt)), tt))), tt); leaving = λ k f vs. tt }
