use Rattle.std.proofs.Common.{◌+◌, ℕ, List, drop, sym, ◌∙◌, subst, arith, length, length-drop}
use Rattle.std.proofs.lemmas.Bool.{eqb-true}
use Rattle.std.proofs.lemmas.List.{nil_from_length, take_rest}
use Rattle.ring_records.specs.declared.input.Input.{Input}
use Rattle.gated_journal.specs.NextFrame.{TakesRecords}
use Rattle.ring_records.proofs.Records.{record-long}
use Rattle.gated_journal.proofs.Taken.{taken_more, no_record, no_rest}
use Rattle.gated_journal.proofs.next_frame.take_records.Goals as goal

pub returns-in_default-clause-broken : goal.returns-in_default-clause-broken
returns-in_default-clause-broken c = λ e batch many have whole.
    no_record c.args.inputs.now.items c.loop.inputs.items batch c.loop.counter c.args.bytes.now c.loop.rest.now c.loop.invariant.0 c.in_default.ensures
    (omega (arith, many, c.loop-test.true)) have whole

pub push_reserved-requires : goal.push_reserved-requires
push_reserved-requires c =
    let found = c.in-Some.ensures.0 in
    omega (arith, c.requires.room, c.loop.invariant.1, found.len, found.whole, record-long c.in-Some.input found.has)

pub loop-preserved : goal.loop-preserved
loop-preserved c =
    let rest = c.loop.rest.now in
    let found = c.in-Some.ensures.0 in
    let layout = c.args.layout in
    let more = taken_more c.args.inputs.now.items c.loop.inputs.items c.loop.counter c.in-Some.size c.args.bytes.now rest c.in-Some.input c.loop.invariant.0 found c.in-Some.ensures.1 in (
      subst (λ (l : List ℕ). TakesRecords layout c.args.inputs.now.items c.push_reserved.new.self.items (c.loop.counter + 1) c.args.bytes.now l) (sym (take_rest rest c.in-Some.size))
          (subst (λ (l : List Input). TakesRecords layout c.args.inputs.now.items l (c.loop.counter + 1) c.args.bytes.now (drop c.in-Some.size rest)) (sym c.push_reserved.ensures.items) more),
      omega (arith, c.loop.invariant.1, found.len, found.whole, record-long c.in-Some.input found.has, c.push_reserved.ensures.len, c.push_reserved.ensures.capacity, length-drop c.in-Some.size rest),
    )

pub returns-clause-taken : goal.returns-clause-taken
returns-clause-taken c = λ e.
    let layout = c.args.layout in
    let none = nil_from_length c.loop.rest.now (eqb-true (length c.loop.rest.now) 0 (sym c.is_empty.ensures ∙ e)) in
    subst (λ (l : List ℕ). TakesRecords layout c.args.inputs.now.items c.loop.inputs.items c.args.count c.args.bytes.now l) none
    (subst (λ (k : ℕ). TakesRecords layout c.args.inputs.now.items c.loop.inputs.items k c.args.bytes.now c.loop.rest.now) (omega (arith, c.loop-test.false, c.loop.auto.counter-end)) c.loop.invariant.0)

pub returns-clause-broken : goal.returns-clause-broken
returns-clause-broken c = λ e batch many have whole.
    no_rest c.args.inputs.now.items c.loop.inputs.items batch c.loop.counter c.args.bytes.now c.loop.rest.now c.loop.invariant.0 (sym c.is_empty.ensures ∙ e) (omega (arith, many, c.loop-test.false, c.loop.auto.counter-end)) have whole
