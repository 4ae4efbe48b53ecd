use Rattle.std.proofs.Common.{List, ap, ◌∙◌, arith, map as list_map}
use Rattle.std.specs.BTreeMap.Range.{entries_between}
use Rattle.std.specs.List.{sum_by}
use Rattle.std.specs.Ordering.{is_gt}
use Rattle.std.specs.declared.ops.Bound.TheVariants.{Included, Excluded}
use Rattle.ring_records.specs.declared.key.Key.{Key}
use Rattle.ring_records.specs.Admission.{state_len}
use Rattle.ring_records.specs.KeyOrder.{key_cmp}
use Rattle.ring_records.proofs.KeyRange.{terms_in_order}
use Rattle.cr_automaton.specs.declared.ballot.Ballot.{Ballot}
use Rattle.groups_terms.specs.Table.{state_at}
use Rattle.groups_terms.proofs.Bytes.{bytes-part, one_entry}
use Rattle.groups_terms.proofs.dropped.bytes_under.Goals as goal

pub range-key-items-requires : goal.range-key-items-requires
range-key-items-requires c = (λ i. is_gt (key_cmp (c.bounds-first.ensures.first i) (c.bounds-first.ensures.end i))) ∙ terms_in_order c.args.group.now 1 c.args.floor c.bounds-first.ensures.some

pub loop-key-init : goal.loop-key-init
loop-key-init c =
    let all = bytes-part c.args.ballots.now c.args.group.now c.args.floor c.range-key-items.ensures.ordered c.requires.terms in
    let is = c.into_iter-key-iterator.ensures.into_iter_gives ∙ (c.range-key-items.ensures.between tt ∙ (λ i. entries_between key_cmp (Included (c.bounds-first.ensures.first i)) (Excluded (c.bounds-first.ensures.end i)) c.args.ballots.now.entries)) in
    let same = ap (λ (es : List (Key × Ballot)). sum_by state_len (list_map state_at es)) is in
    omega (arith, all, same)

pub overflow_add-bytes : goal.overflow_add-bytes
overflow_add-bytes c =
    let more = one_entry (c.in-Some.key.now, c.in-Some.ballot.now) _ _ (c.in-Some.ensures.steps) in
    let all = c.loop-key.invariant in
    let few = c.requires.few in
    let one = c.from-bytes.ensures ∙ c.state_len.ensures.value in
    omega (arith, more, all, few, one)

pub loop-key-preserved : goal.loop-key-preserved
loop-key-preserved c =
    let more = one_entry (c.in-Some.key.now, c.in-Some.ballot.now) _ _ (c.in-Some.ensures.steps) in
    let all = c.loop-key.invariant in
    let one = c.from-bytes.ensures ∙ c.state_len.ensures.value in
    omega (arith, more, all, one)

pub returns : goal.returns
returns c =
    let none = ap (λ (es : List (Key × Ballot)). sum_by state_len (list_map state_at es)) c.in-None.ensures.steps.0 in
    let all = c.loop-key.invariant in
    omega (arith, none, all)
