use Rattle.std.proofs.Common.{Some, sym, ap, ◌∙◌}
use Rattle.std.proofs.lemmas.Option.{slice_get-get_or}
use Rattle.ring_start.proofs.look_over.number_at.Goals as goal

pub returns : goal.returns
returns g c =
    c.number.ensures ∙ c.requires.order c.args.place c.index-ring-place.result (slice_get-get_or c.args.ring.now c.args.place _ c.requires.inside ∙ ap Some (sym c.index-ring-place.is))
