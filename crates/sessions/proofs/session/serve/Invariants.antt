use Rattle.std.proofs.Common.{◌≤◌, vec_capacity}
use Rattle.sessions.proofs.Progress.{Progress}
use Rattle.sessions.proofs.session.serve.Given as goal

abbrev pub invariant-loop-answered : goal.invariant-loop-answered
invariant-loop-answered g l = record {
  progress : Progress g.S.Service.answers l.fn.service l.service (g.R.Read.remaining l.fn.reader) (g.R.Read.remaining l.reader) (g.W.Write.contents l.fn.writer) (g.W.Write.contents l.writer) l.answered;
  room : 202 ≤ vec_capacity l.line;
}
