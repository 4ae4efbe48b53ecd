use Rattle.sessions.proofs.Asked.{not_sealed}
use Rattle.sessions.proofs.solo.release.Goals as goal

pub unreachable-requires : goal.unreachable-requires
unreachable-requires g c = let here = c.requires.here in not_sealed _ _ _ here.0 here.1 here.2 c.in-Err.ensures.redeemed.refusal
