-- What a reference to it holds names no thread's key, so another thread may have one.
use base.Growing.{at_least}
use denote.Param.Send.{IsSync, sendable}
use denote.Struct.Struct.{Struct}
use denote.Struct.Owning.{shape}
use Rattle.decision_board.specs.contracts.tokens.Mark.{the_row, the_type}

pub sync : IsSync the_row
unfolding at_least
sync = let fields : IsSync (Struct (shape the_type)) = search sendable depth 20 in
    record { shared = λ d b o ν. (fields.shared (tt, tt) b o ν, tt) }
