-- What a `Mark` owns can be had twice, so a borrow of it gives a copy.
use denote.Builtin.{unit}
use denote.Param.Shared.{copy_shared}
use denote.Struct.Laws.{field_copy}
use denote.Struct.Lending.{of_Lends}
use Rattle.core.specs.contracts.marker.PhantomData as marker
use Rattle.decision_board.specs.contracts.tokens.Mark as C
use Rattle.decision_board.proofs.Histories.{lends, marks_last}
use Rattle.decision_board.proofs.tokens.Mark.TheLaw.Statement.{statement}

pub shares : statement
shares = of_Lends C.struct (C.the_codes (marker.the_row unit).coded) C.the_heap C.the_lent (λ d p. marks_last d.history d.notices)
    (copy_shared (marker.the_field unit) (field_copy (marker.the_type unit) tt), tt) (λ M 𝓤 𝓛 d p. lends d.history d.notices 𝓛 C.the_row.lives)
