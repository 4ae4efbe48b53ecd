use Rattle.std.proofs.Common.{List, ◌∙◌, subst}
use Rattle.std.specs.BTreeMap.Range.{IsRangeOf}
use Rattle.std.specs.Ordering.{is_gt}
use Rattle.std.specs.declared.ops.Bound.TheVariants.{Included, Excluded}
use Rattle.cr_automaton.specs.declared.ballot.Ballot.{Ballot}
use Rattle.ring_records.specs.declared.key.Key.{Key}
use Rattle.ring_records.specs.KeyOrder.{key_cmp}
use Rattle.ring_records.proofs.KeyRange.{key_at, terms_in_order}
use Rattle.groups_terms.proofs.Dropping.{under_none, under_some}
use Rattle.groups_terms.proofs.dropped.under.Goals as goal

pub range-requires : goal.range-requires
range-requires c = (λ i. is_gt (key_cmp (c.bounds-first.ensures.first i) (c.bounds-first.ensures.end i))) ∙ terms_in_order c.args.group.now 1 c.args.floor c.bounds-first.ensures.some

pub returns-in_err-key : goal.returns-in_err-key
returns-in_err-key c =
    let group = c.args.group.now in
    let m = c.args.ballots.now in
    let ranged : IsRangeOf key_cmp (Included (key_at group 1)) (Excluded (key_at group c.args.floor)) m c.range.result =
    subst (λ (ends : Key × Key). IsRangeOf key_cmp (Included ends.0) (Excluded ends.1) m c.range.result) (λ i. (c.bounds-first.ensures.first i, c.bounds-first.ensures.end i)) (c.range.ensures.in_range tt) in
    rw c.from_residual.ensures (under_none m group c.args.floor c.requires.terms (ranged.5 c.in_err-key.ensures.steps.0))

pub returns : goal.returns
returns c =
    let group = c.args.group.now in
    let m = c.args.ballots.now in
    let ranged : IsRangeOf key_cmp (Included (key_at group 1)) (Excluded (key_at group c.args.floor)) m c.range.result =
    subst (λ (ends : Key × Key). IsRangeOf key_cmp (Included ends.0) (Excluded ends.1) m c.range.result) (λ i. (c.bounds-first.ensures.first i, c.bounds-first.ensures.end i)) (c.range.ensures.in_range tt) in
    let listed = subst (λ (es : List (Key × Ballot)). IsRangeOf key_cmp (Included (key_at group 1)) (Excluded (key_at group c.args.floor)) m es) c.in_ok-key.ensures.steps ranged in
    under_some m group c.args.floor c.requires.terms (c.in_ok-key.key.now, c.in_ok-key._ballot.now) listed.1
