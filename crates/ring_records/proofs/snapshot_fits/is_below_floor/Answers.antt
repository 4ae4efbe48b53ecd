use Rattle.std.proofs.Common.{◌∙◌, sym, arith}
use Rattle.std.proofs.lemmas.Bool.{le-ltb}
use Rattle.ring_records.proofs.FloorSearch.{searchable, at_floor, not_below, group_decides}
use Rattle.ring_records.proofs.snapshot_fits.is_below_floor.Goals as goal

pub returns-in-Ok : goal.returns-in-Ok
returns-in-Ok c = sym (at_floor c.args.floors.now c.requires.rising c.args.key.now c.in-Ok.field-0 c.in-Ok.ensures.bound c.in-Ok.ensures.ok)

pub returns-then-at-floors : goal.returns-then-at-floors
returns-then-at-floors c =
    let parted = c.in-Err.ensures.position (searchable c.args.floors.now c.requires.rising c.args.key.now) in
    group_decides c.args.floors.now c.requires.rising c.args.key.now c.in-Err.at (λ k d less. parted.0 k d (omega arith) less) parted.1 c.index-floors-at.result c.if-at-floors.true c.eq.result c.eq.ensures

pub returns-else-at-floors : goal.returns-else-at-floors
returns-else-at-floors c =
    let parted = c.in-Err.ensures.position (searchable c.args.floors.now c.requires.rising c.args.key.now) in
    le-ltb c.in-Err.at _ c.if-at-floors.false
    ∙ sym (not_below c.args.floors.now c.requires.rising c.args.key.now c.in-Err.at (λ k d less. parted.0 k d (omega arith) less) parted.1 (λ d inside same. omega (arith, inside, c.if-at-floors.false)))
