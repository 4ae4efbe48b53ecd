use Rattle.std.proofs.Common.{◌≡◌, ◌<◌, ◌^◌, false, ap, sym, subst, ◌∙◌, ◌++◌, ◌∷◌, [], refl}
use Rattle.ring_records.specs.Outside.{is_outside}
use Rattle.group_commit.specs.Desk.{seen}
use Rattle.group_commit.specs.DeskCalls.{ticket_for, submitted}
use Rattle.group_commit.specs.Ticket.{shown, ticket_with}
use Rattle.group_commit.proofs.Seen.{submitted_seen}
use Rattle.ring_node.specs.Node.{NodeView, asked_with}
use Rattle.ring_node.specs.Held.{HeldView, reach_of}
use Rattle.ring_node.proofs.Queue.{put_behind}
use Rattle.ring_node.proofs.Ring.{by_name, keeps_past, asks}
use Rattle.ring_node.proofs.Serving.{same_view, gives_shown, unobjected, no_objection}
use Rattle.ring_node.proofs.node.RingNode.ask.Goals as goal
use Rattle.ring_node.proofs.node.RingNode.ask.Goals.{In-Ok}

-- its ticket, and what it shows then, as the whole history says
given : (c : In-Ok) → shown c.in-Ok.ticket ≡ ticket_for c.args.question (seen c.self.inside.past.items c.self.inside.node.desk)
given c =
    let desk = c.self.inside.node.desk.view in
    let told = c.in-Ok.ensures.submitted.answer c.self.inside.past.items c.self.invariant.behind in
    c.in-Ok.ensures.submitted.ticket_is ∙ ap (ticket_with desk.member.node desk.run desk.issued) told.0

shows : (c : In-Ok) → seen c.self.inside.past.items c.submit.new.self.desk ≡ submitted c.args.question (seen c.self.inside.past.items c.self.inside.node.desk)
shows c = submitted_seen c.args.question c.self.inside.node.desk c.submit.new.self.desk (shown c.in-Ok.ticket) c.self.inside.past.items c.in-Ok.ensures.submitted c.self.invariant.behind

pub invariant_of-self-in-Ok : goal.invariant_of-self-in-Ok
invariant_of-self-in-Ok c =
    let here = (goal.at.invariant_of-self-in-Ok c).In-Ok in
    let h : HeldView = record { serial = c.args.serial; ticket = shown c.in-Ok.ticket } in
    let queue : c.push_back_reserved.new.self.items ≡ c.self.inside.held.items ++ h ∷ [] = put_behind c.push_back_reserved.new.self.items c.reserve.new.self.items c.self.inside.held.items h c.push_back_reserved.ensures.items c.reserve.ensures.items in
    let behind = keeps_past c.self.inside.past.items c.self.inside.node.desk c.submit.new.self.desk _ c.in-Ok.ensures.submitted.next refl c.self.invariant.behind in
    by_name _ _ _ _ _ _ _ _ _ _ behind (shows here) (ap reach_of c.submit.ensures.device) queue refl (asks _ _ _ _ _ c.self.invariant.whole c.args.question h (given here))

pub returns-in-Ok-clause-next : goal.returns-in-Ok-clause-next
returns-in-Ok-clause-next c =
    let here = (goal.at.returns-in-Ok-clause-next c).In-Ok in
    let h : HeldView = record { serial = c.args.serial; ticket = shown c.in-Ok.ticket } in
    let queue : c.push_back_reserved.new.self.items ≡ c.self.inside.held.items ++ h ∷ [] = put_behind c.push_back_reserved.new.self.items c.reserve.new.self.items c.self.inside.held.items h c.push_back_reserved.ensures.items c.reserve.ensures.items in
    same_view _ _ _ _ (shows here) queue ∙ gives_shown _ _ _ c.self.invariant.whole.served c.args.question h (given here) ∙ ap (λ (v : NodeView). asked_with c.args.serial c.args.question v) c.self.view_is

pub returns-in-Err-clause-err : goal.returns-in-Err-clause-err
returns-in-Err-clause-err c = same_view _ _ _ _ (ap (seen c.self.inside.past.items) c.in-Err.ensures.same) c.reserve.ensures.items ∙ c.self.view_is

pub invariant_of-self-in-Err : goal.invariant_of-self-in-Err
invariant_of-self-in-Err c =
    let past = c.self.inside.past.items in
    let behind = keeps_past past c.self.inside.node.desk c.submit.new.self.desk _ c.in-Err.ensures.same refl c.self.invariant.behind in
    by_name _ _ _ _ _ _ _ _ _ _ behind (ap (seen past) c.in-Err.ensures.same) (ap reach_of c.submit.ensures.device) c.reserve.ensures.items refl c.self.invariant.whole

pub memory_alone-requires : goal.memory_alone-requires
memory_alone-requires c =
    let here = c.self.invariant.whole.served in
    let inside = subst (λ (v : NodeView). is_outside v.member.n c.args.question ≡ false) (sym c.self.view_is) c.requires.inside in
    let few = subst (λ (v : NodeView). v.issued < 2 ^ 60) (sym c.self.view_is) c.requires.numbers in
    no_objection c.in-Err.ensures.refusal (unobjected c.self.inside.node.desk.view c.args.question here.takes here.works inside few)
