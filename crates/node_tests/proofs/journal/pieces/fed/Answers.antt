use Rattle.std.proofs.Common.{ℕ, ◌∙◌, arith, length-take, length-drop}
use Rattle.node_tests.proofs.journal.pieces.fed.Goals as goal

pub goes_on-requires : goal.goes_on-requires
goes_on-requires g c = omega (arith, c.loop-i.invariant.0, c.loop-i.invariant.1, c.requires.room, length-take c.min-there.result c.loop-i.rest.now)

pub loop-i-preserved : goal.loop-i-preserved
loop-i-preserved g c =
    let inv = c.loop-i.invariant in (
      c.goes_on.ensures.offset ∙ inv.0,
      omega (arith, c.goes_on.ensures.size, inv.1, length-take {A = ℕ}, length-drop {A = ℕ}, c.min-there.ensures),
    )

pub read-requires : goal.read-requires
read-requires g c = omega (arith, c.loop-i.invariant.0, c.loop-i.invariant.1, c.requires.room)
