use Rattle.std.proofs.Common.{sym, subst}
use Rattle.ring_records.specs.Member.{member}
use Rattle.gated_journal.specs.Place.{IsInUse}
use Rattle.gated_journal.proofs.journal.Journal+FuseDevice+D.arm.Goals as goal

pub invariant_of-self : goal.invariant_of-self
invariant_of-self g c =
    let j = c.args.self.now in
    record { settled = λ ready. subst (λ device. IsInUse (member j.node j.n j.place.capacity) (g.D.Device.disk device) j.place) (sym c.arm.ensures.inner) (j.settled ready) }
