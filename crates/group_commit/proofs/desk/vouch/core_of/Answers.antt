use Rattle.std.proofs.Common.{rules, ◌≡◌, ◌≤◌, ◌∙◌, None, length, take, ap, sym, subst}
use Rattle.std.proofs.lemmas.List.{take_all}
use Rattle.ring_records.specs.Known.{Objects, after, stepped}
use Rattle.ring_records.proofs.Iteration.{IsItem, take-item}
use Rattle.node_core.specs.FreeCore.{FreeView}
use Rattle.group_commit.proofs.Settling.{after-push, free_at}
use Rattle.group_commit.proofs.desk.vouch.core_of.Goals as goal

pub apply-requires : goal.apply-requires
apply-requires c =
    let x = c.index-inputs-i.result in
    let item : IsItem c.args.inputs.now c.loop-i.i x = record { within = c.loop-i-test.true; is = c.index-inputs-i.is } in
    subst (λ (core : FreeView). Objects core.size core.known x None) (sym c.loop-i.invariant) (free_at c.args.node c.args.n c.args.from.now c.args.inputs.now c.loop-i.i x c.requires.free item)

pub loop-i-preserved : goal.loop-i-preserved
loop-i-preserved c =
    let x = c.index-inputs-i.result in
    let item : IsItem c.args.inputs.now c.loop-i.i x = record { within = c.loop-i-test.true; is = c.index-inputs-i.is } in
    let steps : c.apply.new.self ≡ record c.loop-i.core { known = stepped c.loop-i.core.me c.loop-i.core.known x } = search rules in
    let more = sym (ap (after c.args.node c.args.from.now) (take-item c.args.inputs.now c.loop-i.i x item) ∙ after-push c.args.node c.args.from.now (take c.loop-i.i c.args.inputs.now) x) in
    steps ∙ (ap (λ (core : FreeView). record core { known = stepped core.me core.known x }) c.loop-i.invariant ∙ (λ k. record { me = c.args.node; size = c.args.n; known = more k }))

pub returns : goal.returns
returns c =
    let within : length c.args.inputs.now ≤ c.loop-i.i = search rules in
    c.loop-i.invariant ∙ (λ k. record { me = c.args.node; size = c.args.n; known = after c.args.node c.args.from.now (take_all c.loop-i.i c.args.inputs.now within k) })
