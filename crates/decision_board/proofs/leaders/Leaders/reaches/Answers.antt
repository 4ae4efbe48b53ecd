use Rattle.std.proofs.Common.{ℕ, Option, Some, None, sym, subst, ◌∙◌}
use Rattle.ring_records.specs.declared.candidate.Candidate.{Candidate}
use Rattle.ring_records.specs.Latest.{IsLatest}
use Rattle.decision_board.specs.Leaders.{leads}
use Rattle.decision_board.proofs.Maps.{le_by, reaches_latest, reaches_none}
use Rattle.decision_board.proofs.leaders.Leaders.reaches.Goals as goal

pub returns-in-Some : goal.returns-in-Some
returns-in-Some c =
    let group = c.args.group.now in
    let latest : IsLatest (leads c.args.self.now group) (Some c.in-Some.latest) =
    subst (λ (o : Option (ℕ × Candidate)). IsLatest (leads c.args.self.now group) o) c.in-Some.is c.latest.ensures in
    c.le.ensures ∙ (le_by c.args.floor c.in-Some.latest.0 ∙ sym (reaches_latest c.args.self.now group c.args.floor c.in-Some.latest latest))

pub returns-in-None : goal.returns-in-None
returns-in-None c =
    let group = c.args.group.now in
    let none : IsLatest (leads c.args.self.now group) None = subst (λ (o : Option (ℕ × Candidate)). IsLatest (leads c.args.self.now group) o) c.in-None.is c.latest.ensures in
    sym (reaches_none c.args.self.now group c.args.floor (λ term le. none term))
