use Rattle.std.proofs.Common.{◌≡◌, ap, sym, subst}
use Rattle.disk_model.specs.Disk.{Disk, Reach, Reaches}
use Rattle.disk_model.specs.FuseDevice.{inner_of}
use Rattle.disk_model.specs.MemDevice.{disk_of}
use Rattle.ring_records.specs.States.{NodeState}
use Rattle.ring_records.specs.Member.{member}
use Rattle.gated_journal.specs.Reading.{device_size}
use Rattle.node_store.specs.Node as nodes
use Rattle.node_store.specs.State.{Holds}
use Rattle.ring_node.specs.Held.{reach_of}
use Rattle.ring_node.proofs.Serving.{idle_reaches, image_within, no_cause}
use Rattle.ring_node.proofs.restart.reopened.Goals as goal
use Rattle.ring_node.proofs.restart.reopened.Goals.{After-recover}

-- what is held at the start is held by the device that is opened
again : (c : After-recover) → (s : NodeState) → Holds (member c.args.me c.args.n c.args.capacity) (disk_of c.args.device) s
    → Holds (member c.args.me c.args.n c.args.capacity) (disk_of (inner_of c.idle.result)) s
again c s holds =
    let same : disk_of (inner_of c.idle.result) ≡ disk_of c.args.device = ap disk_of c.idle.ensures.inner in
    subst (λ (d : Disk). Holds (member c.args.me c.args.n c.args.capacity) d s) (sym same) holds

pub returns-in-Ok-clause-desk : goal.returns-in-Ok-clause-desk
returns-in-Ok-clause-desk c = λ s lawful holds. c.in-Ok.ensures.again.recovery c.args.capacity s lawful (again (goal.at.returns-in-Ok-clause-desk c).After-recover s holds)

pub returns-in-Ok-clause-reaches : goal.returns-in-Ok-clause-reaches
returns-in-Ok-clause-reaches c =
    let same : reach_of (nodes.device_of c.in-Ok.node) ≡ reach_of c.idle.result = c.in-Ok.ensures.device.reach in
    subst (λ (r : Reach). Reaches r (device_size c.args.capacity)) (sym same) (idle_reaches c.idle.result c.args.device (device_size c.args.capacity) c.idle.ensures.idle c.idle.ensures.inner c.requires.long)

-- The device is reliable to the end of what it holds, so it is memory that was missing.
pub memory_alone-requires : goal.memory_alone-requires
memory_alone-requires c =
    let refused = c.in-Err.ensures in
    let held = refused.again.recovery_err c.args.capacity c.requires.holds.0 c.requires.holds.1 (again (goal.at.memory_alone-requires c).After-recover c.requires.holds.0 c.requires.holds.2) in
    no_cause c.args.me c.args.n _ _ _ _ held.0 (refused.works (image_within c.idle.result c.idle.ensures.idle))
