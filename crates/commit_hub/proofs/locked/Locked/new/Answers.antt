use Rattle.std.proofs.Common.{◌++◌, ◌∙◌, ap}
use Rattle.std.proofs.lemmas.Bool.{or_parts}
use Rattle.ring_records.specs.States.{durable_in}
use Rattle.commit_hub.specs.Ties.{TieView}
use Rattle.commit_hub.specs.Over.{launch_refusal}
use Rattle.commit_hub.proofs.Ties.{idle_refusal}
use Rattle.commit_hub.proofs.locked.Locked.new.Goals as goal

pub follow-requires-clause-longer : goal.follow-requires-clause-longer
follow-requires-clause-longer g c =
    let inputs = durable_in c.args.desk.view.state in
    (inputs, ap (λ (v : TieView). v.durable.inputs ++ inputs) c.args.blanks.empty)

pub returns-clause-free : goal.returns-clause-free
returns-clause-free g c =
    let desk = c.args.desk in
    let works = (or_parts desk.view.closed desk.view.failed c.requires.«open»).1 in
    ap (λ (v : TieView). launch_refusal v.failed v.flying) c.follow.ensures.known ∙ idle_refusal desk c.accepted-opened.ensures.counts works c.requires.idle c.requires.none
