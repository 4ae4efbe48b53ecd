use Rattle.std.proofs.Common.{subst, rules}
use Rattle.std.specs.Io.KnownBytes.{Appends}
use Rattle.script_run.proofs.Progress.{go_on, ends_whole, ends_up_to, ends_cut, fresh_text, nothing_left}
use Rattle.script_run.proofs.runs.obey_all.Goals as goal

pub returns-in-Err-clause-memory : goal.returns-in-Err-clause-memory
returns-in-Err-clause-memory g c same =
    ends_up_to _ _ c.first_line.result.1.now _ _ _ _ _ c.loop-rest.invariant c.first_line.ensures.line c.in-Err.ensures.speaks

pub returns-in-Err-write_whole-clause-write : goal.returns-in-Err-write_whole-clause-write
returns-in-Err-write_whole-clause-write g c same =
    let d = c.in-Ok.ensures.prints in
    let text = fresh_text _ _ _ _ c.as_bytes.ensures.value c.clear.ensures.bytes d.2 in
    let front = c.write_whole.ensures.front in
    ends_cut _ _ c.first_line.result.1.now _ _ _ _ _ _ _ d.0 front.0 _ c.loop-rest.invariant c.first_line.ensures.line d.1 text front.1 front.2

pub loop-rest-preserved : goal.loop-rest-preserved
loop-rest-preserved g c =
    let d = c.in-Ok.ensures.prints in
    let text = fresh_text _ _ _ _ c.as_bytes.ensures.value c.clear.ensures.bytes d.2 in
    go_on _ _ c.first_line.result.1.now _ _ _ _ _ _ _ _ d.0 c.loop-rest.invariant c.first_line.ensures.line c.first_line.ensures.smaller d.1 d.3
    c.in-Ok.ensures.tickets c.in-Ok.ensures.few
    (subst (Appends (g.W.Write.contents c.loop-rest.writer) (g.W.Write.contents c.write_whole.new.writer)) text c.in-Ok-write_whole.ensures.ok)

pub returns-clause-ok : goal.returns-clause-ok
returns-clause-ok g c = ends_whole _ _ _ _ _ _ c.loop-rest.invariant (nothing_left c.loop-rest.rest.now (search rules))
