use Rattle.std.proofs.Common.{List, Some, None, subst}
use Rattle.std.specs.BTreeMap.Range.{IsRangeOf}
use Rattle.std.specs.declared.ops.Bound.{Bound}
use Rattle.std.specs.declared.ops.Bound.TheVariants.{Unbounded}
use Rattle.ring_records.specs.declared.candidate.Candidate.{Candidate}
use Rattle.ring_records.specs.declared.key.Key.{Key}
use Rattle.ring_records.specs.KeyOrder.{key_cmp}
use Rattle.decision_board.specs.Leaders.{LeaderMap, leads, start_of}
use Rattle.decision_board.specs.Next.{IsFirstLed}
use Rattle.decision_board.proofs.Next.{first_none, first_some, forward}
use Rattle.decision_board.proofs.leaders.Leaders.first_led.Goals as goal

pub range-requires : goal.range-requires
range-requires c = forward c.start_of.result

pub returns-in_err-key : goal.returns-in_err-key
returns-in_err-key c =
    let after = c.args.after in
    let m = c.self.inside.by_key in
    let ranged : IsRangeOf key_cmp (start_of after) Unbounded m c.range.result =
    subst (λ (b : Bound Key). IsRangeOf key_cmp b Unbounded m c.range.result) c.start_of.ensures (c.range.ensures.in_range tt) in
    rw c.from_residual.ensures (subst (λ (l : LeaderMap). IsFirstLed (leads l) after None) c.self.view_is (first_none m c.self.invariant after (ranged.5 c.in_err-key.ensures.steps.0)))

pub returns : goal.returns
returns c =
    let after = c.args.after in
    let m = c.self.inside.by_key in
    let ranged : IsRangeOf key_cmp (start_of after) Unbounded m c.range.result =
    subst (λ (b : Bound Key). IsRangeOf key_cmp b Unbounded m c.range.result) c.start_of.ensures (c.range.ensures.in_range tt) in
    let listed = subst (λ (es : List (Key × Candidate)). IsRangeOf key_cmp (start_of after) Unbounded m es) c.in_ok-key.ensures.steps ranged in
    subst (λ (l : LeaderMap). IsFirstLed (leads l) after (Some c.in_ok-key.key.now.group)) c.self.view_is
    (first_some m c.self.invariant after (c.in_ok-key.key.now, c.in_ok-key._leader.now) listed.1 listed.2)
