use Rattle.std.proofs.Common.{◌∙◌, inr, sym, ap, ⊎_elim}
use Rattle.group_commit.specs.Desk.{DeskKept, DeskView}
use Rattle.sessions.proofs.Asked.{inputs_stay, settles}
use Rattle.sessions.proofs.solo.settle.Goals as goal

-- one input waits, and the flush takes it
pub returns-in-Ok-clause-next : goal.returns-in-Ok-clause-next
returns-in-Ok-clause-next g c =
    let desk = c.args.node.now.desk in
    c.in-Ok.ensures.next ∙ ap (λ (v : DeskView). record desk { view = v }) (settles desk c.requires.one c.requires.idle (sym c.waits.ensures ∙ c.if-not-waits.false))

-- what is launched takes no input away
pub returns-in-Err-clause-inputs : goal.returns-in-Err-clause-inputs
returns-in-Err-clause-inputs g c =
    let told = c.in-Err.ensures in
    ⊎_elim (λ broken. ap (λ (d : DeskKept). d.view.state.inputs) (told.fault broken) ∙ inputs_stay c.args.node.now.desk) (λ short. ap (λ (d : DeskKept). d.view.state.inputs) (told.same (inr (inr (inr short)))).0) (told.cause.1 c.requires.works)
