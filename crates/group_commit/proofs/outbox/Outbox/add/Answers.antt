use Rattle.std.proofs.Common.{rules, refl}
use Rattle.group_commit.proofs.Settling.{holds_next}
use Rattle.group_commit.proofs.outbox.Outbox.add.Goals as goal

pub add-requires-clause-free : goal.add-requires-clause-free
add-requires-clause-free c = let a = c.requires.free in (a.0, a.1, a.2, c.reserve.ensures.keeps a.2 a.3.released, a.4, a.5)

pub returns : goal.returns
returns c = record {
  holds = λ me n s holds free brings.
      holds_next me c.args.self.now _ s _ holds refl refl (c.add.ensures.keeps me n s (c.reserve.ensures.keeps s holds.released) free brings) (c.add.ensures.room 0 (search rules));
}
