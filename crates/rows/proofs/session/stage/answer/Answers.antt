use Rattle.sessions.proofs.Asked.{still_here}
use Rattle.rows.proofs.session.stage.answer.Goals as goal

-- a flush takes no ticket away
pub redeem-requires : goal.redeem-requires
redeem-requires c =
    let told = c.in-Ok.ensures.submitted in
    record { «open» = (told.given, still_here _ _ _ _ c.flush-flushed.ensures.stays told.here) }
