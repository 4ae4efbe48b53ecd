use Rattle.std.proofs.Common.{ap}
use Rattle.node_store.proofs.Standing.{rearmed}
use Rattle.node_store.proofs.node.Node+FuseDevice+D.arm.Goals as goal

pub invariant_of-self : goal.invariant_of-self
invariant_of-self g c =
    let node = c.args.self.now in
    let armed = c.arm.ensures in
    record { stands = rearmed node.desk node.journal node.stands c.arm.new.self armed.header (ap (λ (d : g.row.D.Denot). g.D.Device.disk d) armed.inner) armed.spoiled armed.len armed.room armed.layout armed.epoch }
