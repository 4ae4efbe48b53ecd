use Rattle.std.proofs.Common.{◌≡◌, ◌∙◌, [], true, length, ap, sym, subst}
use Rattle.disk_model.specs.MemDevice.{disk_of}
use Rattle.disk_model.specs.declared.memory.MemDevice.{MemDevice}
use Rattle.group_commit.specs.Desk.{DeskKept, seen}
use Rattle.group_commit.specs.Past.{IsPast}
use Rattle.node_store.specs.State.{Holds}
use Rattle.ring_node.specs.Held.{AreHeld}
use Rattle.ring_node.proofs.held.closed.Goals as goal

pub forfeit_all-requires-clause-held : goal.forfeit_all-requires-clause-held
forfeit_all-requires-clause-held c =
    let held = c.requires.held in
    (held.0, held.1, subst (λ (d : DeskKept). AreHeld d.view.member.node d.view.run held.0 held.1 d.view.tickets c.args.held.items) (sym c.close.ensures.next) held.2)

pub into_device-requires-clause-spent : goal.into_device-requires-clause-spent
into_device-requires-clause-spent c = ap (λ (d : DeskKept). length d.view.tickets) c.forfeit_all.ensures.next

pub returns-clause-holds : goal.returns-clause-holds
returns-clause-holds c = λ past is.
    let last : c.forfeit_all.new.node.desk ≡ record c.args.node.desk { view = record c.args.node.desk.view { closed = true; tickets = [] } } =
    c.forfeit_all.ensures.next ∙ ap (λ (d : DeskKept). record d { view = record d.view { tickets = [] } }) c.close.ensures.next in
    let desk = c.forfeit_all.new.node.desk in
    let known = subst (λ (d : DeskKept). IsPast d.view.member d.opening past) (sym last) is in
    let holds = subst (λ (m : MemDevice). Holds desk.view.member (disk_of m) (seen past desk).state) (sym c.into_inner.ensures) (c.into_device.ensures.holds past known).1 in
    subst (λ (d : DeskKept). Holds d.view.member (disk_of c.into_inner.result) (seen past d).state) last holds
