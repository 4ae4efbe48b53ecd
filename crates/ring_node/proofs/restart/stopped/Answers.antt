use Rattle.std.proofs.Common.{◌≡◌, ◌⊎◌, ℕ, List, true, inl, inr, ap, sym, subst, ◌∙◌}
use Rattle.disk_model.specs.Disk.{Disk, MayLeave}
use Rattle.disk_model.specs.MemDevice.{disk_of}
use Rattle.ring_records.specs.declared.input.Input.{Input}
use Rattle.ring_records.specs.Member.{Member}
use Rattle.ring_records.specs.States as states
use Rattle.group_commit.specs.Desk.{DeskView, DeskKept, landed, seen}
use Rattle.group_commit.specs.DeskCalls.{HasFlown}
use Rattle.group_commit.specs.Past.{IsPast}
use Rattle.node_store.specs.State.{ReadsAsLeft}
use Rattle.ring_node.specs.Held.{AreHeld, MayFly, launched_by, flies}
use Rattle.ring_node.proofs.Flights.{flies_seen, lands_seen}
use Rattle.ring_node.proofs.Serving.{stopped}
use Rattle.ring_node.proofs.restart.stopped.Goals as goal
use Rattle.ring_node.proofs.restart.stopped.Goals.{After-launch-flown, After-crash}

-- the fuse and what is launched leave whose it is, its opening and its tickets
stays : (c : After-launch-flown) → HasFlown c.args.node.desk c.launch-flown.new.node.desk
stays c =
    let later = c.launch-flown.new.node.desk.view in
    c.launch-flown.ensures.stays ∙ ap (λ (d : DeskKept). record d { view = record d.view { state = later.state; failed = later.failed } }) c.arm.ensures.desk

-- whether it landed or flies for good, the images read as what is left of the state in which it flies
reads : (c : After-crash) (past : List Input) (image : List ℕ)
    → HasFlown c.args.node.desk c.launch-flown.new.node.desk
    → IsPast c.args.node.desk.view.member c.args.node.desk.opening past
    → ((seen past c.launch-flown.new.node.desk).state ≡ (flies c.args.flight (seen past c.args.node.desk)).state) ⊎ ((seen past c.launch-flown.new.node.desk).state ≡ states.landed (flies c.args.flight (seen past c.args.node.desk)).state)
    → MayLeave (disk_of c.crash.new.self) image → ReadsAsLeft c.args.node.desk.view.member (flies c.args.flight (seen past c.args.node.desk)).state image
reads c past image same is state left =
    let later = c.launch-flown.new.node.desk in
    let known = subst (λ (d : DeskKept). IsPast d.view.member d.opening past) (sym same) is in
    let read = c.closed-device.ensures.holds past known image (subst (λ (d : Disk). MayLeave d image) c.crash.ensures.disk left) in
    stopped _ _ (seen past later).state image state (subst (λ (m : Member). ReadsAsLeft m (seen past later).state image) (ap (λ (d : DeskKept). d.view.member) same) read)

-- the fuse changes nothing that is objected
pub launch-flown-requires : goal.launch-flown-requires
launch-flown-requires c = record { free = subst (MayFly c.args.flight) (sym c.arm.ensures.desk) c.requires.free }

pub closed-device-requires : goal.closed-device-requires
closed-device-requires c =
    let held = c.requires.held in
    let same = stays (goal.at.closed-device-requires c).After-launch-flown in
    record { held = (held.0, held.1, subst (λ (d : DeskKept). AreHeld d.view.member.node d.view.run held.0 held.1 d.view.tickets c.args.held.items) (sym same) held.2) }

pub returns-in-Ok-clause-holds : goal.returns-in-Ok-clause-holds
returns-in-Ok-clause-holds c = λ past is lawful image left.
    let next = c.in-Ok.ensures.next ∙ ap (λ (d : DeskKept). record d { view = landed (launched_by c.args.flight d) }) c.arm.ensures.desk in
    reads (goal.at.returns-in-Ok-clause-holds c).After-crash past image (stays (goal.at.returns-in-Ok-clause-holds c).After-launch-flown) is (inr (ap (λ (v : DeskView). v.state) (lands_seen c.args.flight past c.args.node.desk _ is lawful next))) left

pub returns-in_default-clause-holds : goal.returns-in_default-clause-holds
returns-in_default-clause-holds c = λ past is lawful image left.
    let next = c.in-Err.ensures.failed c.in_default.not-OutOfMemory ∙ ap (λ (d : DeskKept). record d { view = record (launched_by c.args.flight d) { failed = true } }) c.arm.ensures.desk in
    reads (goal.at.returns-in_default-clause-holds c).After-crash past image (stays (goal.at.returns-in_default-clause-holds c).After-launch-flown) is (inl (ap (λ (d : DeskKept). (seen past d).state) next ∙ ap (λ (v : DeskView). v.state) (flies_seen c.args.flight past c.args.node.desk is lawful))) left
