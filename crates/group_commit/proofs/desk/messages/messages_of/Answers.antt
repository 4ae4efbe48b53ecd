use Rattle.std.proofs.Common.{rules, ◌≤◌, ◌++◌, ◌∙◌, List, [], ◌∷◌, None, length, take, drop, ap, sym, subst}
use Rattle.std.specs.List.{cons_option}
use Rattle.std.proofs.lemmas.List.{take_all}
use Rattle.ring_records.specs.declared.input.Input.{Input}
use Rattle.ring_records.specs.declared.msg.Msg.{Msg}
use Rattle.ring_records.specs.Emission.{sent}
use Rattle.ring_records.specs.Known.{Objects, after, sends, stepped}
use Rattle.ring_records.specs.Member.{member}
use Rattle.ring_records.proofs.Iteration.{IsItem, take-item}
use Rattle.node_core.specs.FreeCore.{FreeView}
use Rattle.group_commit.proofs.Messages.{AreSent, sent-next}
use Rattle.group_commit.proofs.Past.{follows-take}
use Rattle.group_commit.proofs.Settling.{after-push, free_at}
use Rattle.group_commit.proofs.desk.messages.messages_of.Goals as goal

pub send_next-requires : goal.send_next-requires
send_next-requires c =
    let x = c.index-inputs-i.result in
    let item : IsItem c.args.inputs.now c.loop-i.i x = record { within = c.loop-i-test.true; is = c.index-inputs-i.is } in
    subst (λ (core : FreeView). Objects core.size core.known x None) (sym c.loop-i.invariant.0) (free_at c.args.node c.args.n c.args.from.now c.args.inputs.now c.loop-i.i x c.requires.free item)

pub loop-i-preserved : goal.loop-i-preserved
loop-i-preserved c =
    let me = c.args.node in
    let from = c.args.from.now in
    let l = take c.loop-i.i c.args.inputs.now in
    let x = c.index-inputs-i.result in
    let item : IsItem c.args.inputs.now c.loop-i.i x = record { within = c.loop-i-test.true; is = c.index-inputs-i.is } in
    let one_more = take-item c.args.inputs.now c.loop-i.i x item in
    let knows = c.loop-i.invariant.0 in
    let more = sym (ap (after me from) one_more ∙ after-push me from l x) in (
      c.in_ok-send_next.ensures.steps ∙ (ap (λ (core : FreeView). record core { known = stepped core.me core.known x }) knows ∙ (λ k. record { me = me; size = c.args.n; known = more k })),
      λ capacity past is.
          let m = member me c.args.n capacity in
          let next = sent-next m from past l x from.credit c.loop-i.messages.items (follows-take m from past c.args.inputs.now c.loop-i.i is c.requires.free) (c.loop-i.invariant.1 capacity past is) in
          let adds = c.in_ok-send_next.ensures.adds ∙ ap (λ (core : FreeView). c.loop-i.messages.items ++ cons_option (sends core.me core.known x) []) knows in
          subst (λ (h : List Input). AreSent me from.credit c.send_next.new.messages.items (past ++ h)) (sym one_more) (subst (λ (ms : List Msg). AreSent me from.credit ms (past ++ (l ++ x ∷ []))) (sym adds) next),
    )

pub returns : goal.returns
returns c = λ capacity past is.
    let within : length c.args.inputs.now ≤ c.loop-i.i = search rules in
    (c.loop-i.invariant.1 capacity past is).is
    ∙ ap (λ (h : List Input). drop c.args.from.now.credit (sent c.args.node (past ++ h))) (take_all c.loop-i.i c.args.inputs.now within)
