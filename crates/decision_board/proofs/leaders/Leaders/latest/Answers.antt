use Rattle.std.proofs.Common.{Some, None, ap, ◌∙◌, arith, subst}
use Rattle.std.specs.Range.{range_inclusive_end}
use Rattle.std.specs.BTreeMap.Range.{IsRangeOf}
use Rattle.std.specs.declared.ops.Bound.TheVariants.{Included}
use Rattle.ring_records.specs.declared.key.Key.{Key}
use Rattle.ring_records.specs.KeyOrder.{key_cmp}
use Rattle.ring_records.specs.Latest.{IsLatest}
use Rattle.ring_records.proofs.KeyRange.{key_at, terms_in_order}
use Rattle.decision_board.specs.Leaders.{LeaderMap, leads}
use Rattle.decision_board.proofs.Maps.{latest_none, latest_some}
use Rattle.decision_board.proofs.leaders.Leaders.latest.Goals as goal

pub range-requires : goal.range-requires
range-requires c = rw (c.new.ensures.start, c.new.ensures.end, c.first.ensures, c.last.ensures) (terms_in_order c.args.group.now 1 999999999 (omega arith))

pub returns-in_err-key : goal.returns-in_err-key
returns-in_err-key c =
    let group = c.args.group.now in
    let start = c.new.ensures.start ∙ ap (key_at group) c.first.ensures in
    let end = c.new.ensures.end ∙ ap (key_at group) c.last.ensures in
    let m = c.self.inside.by_key in
    let ranged : IsRangeOf key_cmp (Included (key_at group 1)) (Included (key_at group 999999999)) m c.range.result =
    subst (λ (k : Key). IsRangeOf key_cmp (Included (key_at group 1)) (Included k) m c.range.result) end
    (subst (λ (k : Key). IsRangeOf key_cmp (Included k) (Included (range_inclusive_end c.new.result)) m c.range.result) start (c.range.ensures.in_range c.new.ensures.exhausted)) in
    rw c.from_residual.ensures (subst (λ (l : LeaderMap). IsLatest (leads l group) None) c.self.view_is (latest_none m group c.self.invariant (ranged.5 c.in_err-key.ensures.steps.0)))

pub returns : goal.returns
returns c =
    let group = c.args.group.now in
    let start = c.new.ensures.start ∙ ap (key_at group) c.first.ensures in
    let end = c.new.ensures.end ∙ ap (key_at group) c.last.ensures in
    let m = c.self.inside.by_key in
    let ranged : IsRangeOf key_cmp (Included (key_at group 1)) (Included (key_at group 999999999)) m c.range.result =
    subst (λ (k : Key). IsRangeOf key_cmp (Included (key_at group 1)) (Included k) m c.range.result) end
    (subst (λ (k : Key). IsRangeOf key_cmp (Included k) (Included (range_inclusive_end c.new.result)) m c.range.result) start (c.range.ensures.in_range c.new.ensures.exhausted)) in
    subst (λ (l : LeaderMap). IsLatest (leads l group) (Some (c.in_ok-key.key.now.term, c.in_ok-key.leader.now))) c.self.view_is
    (latest_some m group c.self.invariant (c.in_ok-key.key.now, c.in_ok-key.leader.now) (ranged.3 _ _ c.in_ok-key.ensures.steps) (ranged.4 _ _ c.in_ok-key.ensures.steps))
