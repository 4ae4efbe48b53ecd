use Rattle.std.proofs.Common.{◌≡◌, ◌+◌, ◌-◌, ◌++◌, take, slice_get, Some, sym, ap, ◌∙◌, subst, arith}
use Rattle.std.proofs.lemmas.Option.{slice_get-get_or}
use Rattle.std.proofs.Math.Seq.{take-append-add, take-length}
use Rattle.group_commit.specs.Desk.{DeskKept}
use Rattle.group_commit.specs.Past.{IsPast}
use Rattle.ring_start.specs.Fits.{found_as, inputs_there, opening_there}
use Rattle.ring_start.proofs.look_over.desk_at.Goals as goal

pub returns-clause-number : goal.returns-clause-number
returns-clause-number g c =
    ap (λ (d : DeskKept). d.view.member.node) c.desk.ensures.desk
    ∙ c.requires.order c.args.place c.index-ring-place.result (slice_get-get_or c.args.ring.now c.args.place _ c.requires.inside ∙ ap Some (sym c.index-ring-place.is))

pub returns-clause-past : goal.returns-clause-past
returns-clause-past g c pasts are =
    subst (λ (d : DeskKept). IsPast d.view.member d.opening (pasts (c.args.place + 1))) (sym c.desk.ensures.desk)
    (are c.args.place c.index-ring-place.result (slice_get-get_or c.args.ring.now c.args.place _ c.requires.inside ∙ ap Some (sym c.index-ring-place.is)))

pub returns-clause-inputs : goal.returns-clause-inputs
returns-clause-inputs g c =
    let same : c.args.place + 1 - 1 ≡ c.args.place = omega arith in
    let there = slice_get-get_or c.args.ring.now c.args.place _ c.requires.inside ∙ ap Some (sym c.index-ring-place.is) in
    ap (λ (d : DeskKept). d.view.state.inputs) c.desk.ensures.desk ∙ sym (ap (inputs_there found_as) (ap (λ k. slice_get c.args.ring.now k) same ∙ there))

pub returns-clause-durable : goal.returns-clause-durable
returns-clause-durable g c past =
    let s = c.desk.result.now.view.state in
    take-append-add past s.inputs s.durable ∙ ap (λ l. past ++ l) (ap (λ k. take k s.inputs) c.desk.ensures.durable ∙ (take-length s.inputs ∙ returns-clause-inputs g c))

pub returns-clause-opening : goal.returns-clause-opening
returns-clause-opening g c =
    let same : c.args.place + 1 - 1 ≡ c.args.place = omega arith in
    let there = slice_get-get_or c.args.ring.now c.args.place _ c.requires.inside ∙ ap Some (sym c.index-ring-place.is) in
    ap (λ (d : DeskKept). d.opening) c.desk.ensures.desk ∙ sym (ap (opening_there found_as) (ap (λ k. slice_get c.args.ring.now k) same ∙ there))
