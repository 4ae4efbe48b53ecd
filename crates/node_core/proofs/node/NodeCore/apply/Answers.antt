use Rattle.std.proofs.Common.{◌≡◌, ◌+◌, ◌≤◌, ◌∙◌, None, sym, ap, subst, arith}
use Rattle.ring_records.specs.declared.summary.Summary.{Summary}
use Rattle.ring_records.specs.Admission.{newest, snapshot_len}
use Rattle.ring_records.specs.Known.{Objects}
use Rattle.node_core.specs.Brought.{brought}
use Rattle.node_core.specs.Core.{CoreView}
use Rattle.node_core.specs.FreeCore.{FreeView}
use Rattle.node_core.proofs.Histories.{goes_on}
use Rattle.node_core.proofs.Measures.{few_inputs, one_more, within_next}
use Rattle.node_core.proofs.Refusals.{objects_none, stepped_core}
use Rattle.node_core.proofs.Retiring.{counted_next, stood_count}
use Rattle.node_core.proofs.node.NodeCore.apply.Goals as goal

pub len_after-snapshot-requires-clause-free : goal.len_after-snapshot-requires-clause-free
len_after-snapshot-requires-clause-free c = subst (λ (v : CoreView). Objects v.size v.known c.args.input None) (sym c.self.view_is) (objects_none c.args.self.now c.args.input c.requires)

pub len_after-snapshot-requires-clause-short : goal.len_after-snapshot-requires-clause-short
len_after-snapshot-requires-clause-short c =
    let free = subst (λ (v : CoreView). Objects v.size v.known c.args.input None) (sym c.self.view_is) (objects_none c.args.self.now c.args.input c.requires) in
    let few = few_inputs c.self.inside.core.size c.self.inside.core.known c.args.input free in
    let short = c.self.invariant.short in
    omega arith

pub apply-requires : goal.apply-requires
apply-requires c = subst (λ (v : CoreView). Objects v.size v.known c.args.input None) (sym c.self.view_is) (objects_none c.args.self.now c.args.input c.requires)

pub room_behind-room-requires : goal.room_behind-room-requires
room_behind-room-requires c =
    let free = subst (λ (v : CoreView). Objects v.size v.known c.args.input None) (sym c.self.view_is) (objects_none c.args.self.now c.args.input c.requires) in
    let few = few_inputs c.self.inside.core.size c.self.inside.core.known c.args.input free in
    let taken = c.self.invariant.taken in
    omega arith

pub invariant_of-self-2 : goal.invariant_of-self-2
invariant_of-self-2 c =
    let free = subst (λ (v : CoreView). Objects v.size v.known c.args.input None) (sym c.self.view_is) (objects_none c.args.self.now c.args.input c.requires) in
    let next = ap (λ (v : FreeView). v.known) c.in_ok-effects.ensures.steps in
    let more : c.apply.new.self.known.inputs ≡ c.self.inside.core.known.inputs + 1 = ap (λ (s : Summary). s.inputs) next ∙ one_more c.self.inside.core.me c.self.inside.core.known c.args.input in
    record {
      exact = c.len_after-snapshot.ensures.value ∙ sym (ap (snapshot_len newest) next);
      within = subst (λ (s : Summary). s.credit ≤ s.sent) (sym next) (within_next c.self.inside.core.me c.self.inside.core.size c.self.inside.core.known c.args.input free c.self.invariant.within);
      stood = subst (λ (s : Summary). s.stands ≡ stood_count s.keys) (sym next) (counted_next c.self.inside.core.me c.self.inside.core.size c.self.inside.core.known c.args.input free c.self.invariant.stood);
      short = omega (arith, more, c.self.invariant.short, c.len_after-snapshot.ensures.range);
      taken = omega (arith, more, c.self.invariant.taken, c.room_behind-room.ensures.range);
    }

pub returns-clause-steps : goal.returns-clause-steps
returns-clause-steps c = stepped_core c.args.self.now c.self.inside.core c.apply.new.self c.self.inside.capacity c.self.inside.room _ c.args.input c.self.view_is c.in_ok-effects.ensures.steps c.room_behind-room.ensures.value

pub returns-clause-brings : goal.returns-clause-brings
returns-clause-brings c = c.in_ok-effects.ensures.brings ∙ ap (λ (v : CoreView). brought v.me v.known c.args.input) c.self.view_is

pub returns-clause-stands : goal.returns-clause-stands
returns-clause-stands c = λ base h s.
    goes_on c.args.self.now _ base h c.args.input
    (stepped_core c.args.self.now c.self.inside.core c.apply.new.self c.self.inside.capacity c.self.inside.room _ c.args.input c.self.view_is c.in_ok-effects.ensures.steps c.room_behind-room.ensures.value)
    (subst (λ (v : CoreView). v.known.credit ≤ v.known.sent) c.self.view_is c.self.invariant.within)
    (subst (λ (v : CoreView). v.known.stands ≡ stood_count v.known.keys) c.self.view_is c.self.invariant.stood) c.requires s
