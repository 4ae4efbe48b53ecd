use Rattle.std.proofs.Common.{◌∙◌, ◌+◌, nat_lt, sym, ap}
use Rattle.ring_records.specs.declared.refusal.Refusal.TheVariants.{Full}
use Rattle.ring_records.specs.Admission.{newest, no_area, snapshot_len}
use Rattle.ring_records.specs.Objection.{where_so}
use Rattle.ring_records.specs.Known.{stepped}
use Rattle.ring_records.proofs.Admission.{plain_room, renewed_room}
use Rattle.node_core.specs.Core.{CoreView}
use Rattle.node_core.proofs.node.NodeCore.no_room.Goals as goal

pub returns-then-must_renew : goal.returns-then-must_renew
returns-then-must_renew c =
    let core = c.args.self.now in
    let x = c.args.input.now in
    let len = c.len_after.ensures.value ∙ ap (λ (v : CoreView). snapshot_len newest (stepped v.me v.known x)) c.self.view_is in
    c.no_area.ensures ∙ (ap (no_area core.capacity core.room) len ∙ sym (renewed_room core.capacity core.room x _ (sym c.must_renew.ensures ∙ c.if-must_renew.true)))

pub returns-then-is_short : goal.returns-then-is_short
returns-then-is_short c =
    let core = c.args.self.now in
    let x = c.args.input.now in
    let short = ap (λ k. nat_lt core.capacity (core.room.taken + k)) (sym c.cost.ensures.value) ∙ (sym c.is_short.ensures ∙ c.if-is_short.true) in
    sym (plain_room core.capacity core.room x _ (sym c.must_renew.ensures ∙ c.if-must_renew.false) ∙ ap (λ b. where_so b Full) short)

pub returns : goal.returns
returns c =
    let core = c.args.self.now in
    let x = c.args.input.now in
    let short = ap (λ k. nat_lt core.capacity (core.room.taken + k)) (sym c.cost.ensures.value) ∙ (sym c.is_short.ensures ∙ c.if-is_short.false) in
    sym (plain_room core.capacity core.room x _ (sym c.must_renew.ensures ∙ c.if-must_renew.false) ∙ ap (λ b. where_so b Full) short)
