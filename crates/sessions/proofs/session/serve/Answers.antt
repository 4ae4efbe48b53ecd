use Rattle.std.proofs.Common.{◌≡◌, sym, ◌∙◌, Err, Option, List, ℕ, arith, subst}
use Rattle.sessions.specs.declared.session.SessionFault.{SessionFault}
use Rattle.sessions.specs.declared.session.SessionFault.TheVariants.{Read}
use Rattle.sessions.specs.Session.{Asks, Unread, Serves}
use Rattle.sessions.proofs.Progress.{begin, lent, go_on, finish, ends_input, ends_count, unread, failed, starved_early}
use Rattle.sessions.proofs.session.serve.Goals as goal

pub returns-in_default : goal.returns-in_default
returns-in_default g c = starved_early g.S.Service.answers c.args.service.now (g.R.Read.remaining c.args.reader.now) (g.W.Write.contents c.args.writer.now)

pub returns-in_default-with_capacity : goal.returns-in_default-with_capacity
returns-in_default-with_capacity g c = starved_early g.S.Service.answers c.args.service.now (g.R.Read.remaining c.args.reader.now) (g.W.Write.contents c.args.writer.now)

pub loop-answered-init : goal.loop-answered-init
loop-answered-init g c = record {
  progress = begin g.S.Service.answers c.args.service.now (g.R.Read.remaining c.args.reader.now) (g.W.Write.contents c.args.writer.now);
  room = omega (arith, c.in-Ok.ensures.capacity);
}

pub returns-in-Ok-Input : goal.returns-in-Ok-Input
returns-in-Ok-Input g c =
    let line = c.read_line.ensures in
    let end = c.in-Ok-Input.ensures.input c.in-Ok-Input.field-0-is in
    ends_input g.S.Service.answers _ _ _ _ _ _ _ _ _ c.loop-answered.invariant.progress end.2 end.0 (line.short, line.plain) end.1 c.loop-answered-test.true

read_fault : {S : Type 0} (A : Asks S) (s t : S) (old left held holds : Option (List ℕ)) (fault : SessionFault) → fault ≡ Read → Unread A s t old left held holds
    → Serves A s t old left held holds (Err fault)
read_fault A s t old left held holds fault e h = subst (λ f. Serves A s t old left held holds (Err f)) (sym e) h

pub returns-in-Err : goal.returns-in-Err
returns-in-Err g c =
    let line = c.read_line.ensures in
    let err = c.in-Err.ensures.err in
    read_fault g.S.Service.answers _ _ _ _ _ _ _ c.in-Err.ensures.fault
    (unread g.S.Service.answers _ _ _ _ _ _ _ _ _ c.loop-answered.invariant.progress err.1 (line.short, line.plain) err.0 c.loop-answered-test.true)

pub returns-in-Ok-true : goal.returns-in-Ok-true
returns-in-Ok-true g c =
    let line = c.read_line.ensures in
    let read = lent _ _ _ _ c.deref.ensures.value (c.in-Ok-Line.ensures.line c.in-Ok-Line.field-0-is) (line.short, line.plain) in
    let ok = c.in-Ok-true.ensures.ok in
    finish g.S.Service.answers _ _ _ _ _ _ _ _ _ _ c.deref.result.now c.loop-answered.invariant.progress
    (record { read = read.0; answer = ok.1.0; replied = ok.1.1; wrote = ok.1.2 }) read.1 (sym ok.0 ∙ c.in-Ok-true.field-0-test) c.loop-answered-test.true

pub returns-in-Err-respond : goal.returns-in-Err-respond
returns-in-Err-respond g c =
    let line = c.read_line.ensures in
    let read = lent _ _ _ _ c.deref.ensures.value (c.in-Ok-Line.ensures.line c.in-Ok-Line.field-0-is) (line.short, line.plain) in
    let err = c.in-Err-respond.ensures in
    failed g.S.Service.answers _ _ _ _ _ _ _ _ _ _ c.deref.result.now c.in-Err-respond.fault c.loop-answered.invariant.progress read c.loop-answered-test.true err.write err.memory err.read

pub loop-answered-preserved : goal.loop-answered-preserved
loop-answered-preserved g c =
    let line = c.read_line.ensures in
    let read = lent _ _ _ _ c.deref.ensures.value (c.in-Ok-Line.ensures.line c.in-Ok-Line.field-0-is) (line.short, line.plain) in
    let ok = c.in-Ok-false.ensures.ok in
    record {
      progress = go_on g.S.Service.answers _ _ _ _ _ _ _ _ _ _ c.deref.result.now c.loop-answered.invariant.progress
          (record { read = read.0; answer = ok.1.0; replied = ok.1.1; wrote = ok.1.2 }) read.1 (sym ok.0 ∙ c.in-Ok-false.field-0-test);
      room = line.room;
    }

pub returns : goal.returns
returns g c = ends_count g.S.Service.answers _ _ _ _ _ _ _ c.loop-answered.invariant.progress (omega (arith, c.loop-answered-test.false, c.loop-answered.auto.answered-end))
