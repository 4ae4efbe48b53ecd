use Rattle.std.proofs.Common.{◌≡◌, ◌<◌, ◌≤◌, ℕ, List, None, IsSome, subst}
use Rattle.std.specs.FinMap as map
use Rattle.std.specs.BTreeMap.Range.{IsRangeOf}
use Rattle.std.specs.declared.ops.Bound.TheVariants.{Included, Excluded}
use Rattle.ring_records.specs.declared.candidate.Candidate.{Candidate}
use Rattle.ring_records.specs.declared.key.Key.{Key}
use Rattle.ring_records.specs.KeyOrder.{key_cmp}
use Rattle.ring_records.proofs.KeyRange.{key_at, terms_in_order}
use Rattle.decision_board.specs.Leaders.{LeaderMap, leads}
use Rattle.decision_board.proofs.Maps.{under_none, under_some}
use Rattle.decision_board.proofs.leaders.Leaders.under.Goals as goal

pub range-requires : goal.range-requires
range-requires c =
    let first : 1 ≤ c.args.floor = rw (← c.number-number.ensures.value) c.number-number.ensures.range.0 in
    rw c.first.ensures (terms_in_order c.args.group.now 1 c.args.floor first)

pub returns-in_err-key : goal.returns-in_err-key
returns-in_err-key c =
    let group = c.args.group.now in
    let m = c.self.inside.by_key in
    let ranged : IsRangeOf key_cmp (Included (key_at group 1)) (Excluded (key_at group c.args.floor)) m c.range.result =
    subst (λ (t : ℕ). IsRangeOf key_cmp (Included (key_at group t)) (Excluded (key_at group c.args.floor)) m c.range.result) c.first.ensures (c.range.ensures.in_range tt) in
    rw c.from_residual.ensures (subst (λ (l : LeaderMap). (term : ℕ) → term < c.args.floor → leads l group term ≡ None) c.self.view_is
    (under_none m group c.args.floor c.self.invariant (ranged.5 c.in_err-key.ensures.steps.0)))

pub returns : goal.returns
returns c =
    let group = c.args.group.now in
    let m = c.self.inside.by_key in
    let ranged : IsRangeOf key_cmp (Included (key_at group 1)) (Excluded (key_at group c.args.floor)) m c.range.result =
    subst (λ (t : ℕ). IsRangeOf key_cmp (Included (key_at group t)) (Excluded (key_at group c.args.floor)) m c.range.result) c.first.ensures (c.range.ensures.in_range tt) in
    let listed = subst (λ (es : List (Key × Candidate)). IsRangeOf key_cmp (Included (key_at group 1)) (Excluded (key_at group c.args.floor)) m es) c.in_ok-key.ensures.steps ranged in
    let key = c.in_ok-key.key.now in
    let is = under_some m group c.args.floor c.self.invariant (key, c.in_ok-key._leader.now) listed.1 in
    (is.0, is.1, subst (λ (l : LeaderMap). IsSome (map.get l key)) c.self.view_is is.2)
