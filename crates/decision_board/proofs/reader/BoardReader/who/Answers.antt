use Rattle.std.proofs.Common.{◌≡◌, ◌∙◌, Option, Result, Some, IfOk, ap, sym, subst, inl, inr, arith, List}
use mathlib.Core.List.{IsPrefix}
use Rattle.ring_records.specs.declared.candidate.Candidate.{Candidate}
use Rattle.ring_records.specs.declared.notice.Notice.{Notice}
use Rattle.ring_records.specs.declared.refusal.Refusal.{Refusal}
use Rattle.ring_records.specs.Notices.{leader_in}
use Rattle.ring_records.proofs.Notices.{leader_in-kept}
use Rattle.ring_records.proofs.Prefixes.{prefix_trans}
use Rattle.decision_board.specs.Readers.{seen, IsWho}
use Rattle.decision_board.proofs.reader.BoardReader.who.Goals.{in-Ok, in-Err}
use Rattle.decision_board.proofs.reader.BoardReader.who.Goals as goal

pub returns-after-leader-clause-begins : goal.returns-after-leader-clause-begins
returns-after-leader-clause-begins g c = inr (rw (← c.self.view_is)
    (prefix_trans c.self.inside.seen.mark.notices c.self.inside.place.place.me.0.client c.in-Some.front.mark.notices c.self.invariant.2 c.in-Some.ensures.3, c.if-not-covers.ensures))

pub returns-after-leader-clause-stays : goal.returns-after-leader-clause-stays
returns-after-leader-clause-stays g c =
    let key = c.args.key.now in
    let log = c.in-Some.front.mark.notices in
    let on : IsPrefix c.self.inside.seen.mark.notices log =
    prefix_trans c.self.inside.seen.mark.notices c.self.inside.place.place.me.0.client log c.self.invariant.2 c.in-Some.ensures.3 in
    elim c.match-leader.branch [
      | in-Ok w ↦ subst (λ (r : Result (Option Candidate) Refusal). IfOk r (λ a. (leader : Candidate) → leader_in (seen c.args.self.now) key ≡ Some leader → a ≡ Some leader)) (sym w.result-is)
          (λ leader e.
          let is = subst (IsWho log key) w.in-Ok.is c.in-Some.ensures.0 in
          elim (leader_in-kept c.self.inside.seen.mark.notices log on key leader (ap (λ (s : List Notice × List Notice). leader_in s.0 key) c.self.view_is ∙ e)) [
            | inl same ↦ is.0 ∙ same
            | inr low ↦ (let live = is.1 in absurd (omega (arith, live, low)))
          ])
      | in-Err w ↦ subst (λ (r : Result (Option Candidate) Refusal). IfOk r (λ a. (leader : Candidate) → leader_in (seen c.args.self.now) key ≡ Some leader → a ≡ Some leader)) (sym w.result-is) tt
    ]
