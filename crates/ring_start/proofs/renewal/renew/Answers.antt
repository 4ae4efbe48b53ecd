use Rattle.std.proofs.Common.{◌≡◌, true, refl, sym, ◌∙◌}
use Rattle.ring_start.specs.Fits.{kept_by}
use Rattle.ring_start.specs.Written.{is_of_old}
use Rattle.ring_start.proofs.Renewed.{ready_once, ready_again}
use Rattle.ring_start.proofs.renewal.renew.Goals.{then-is_of_old, else-is_of_old}
use Rattle.ring_start.proofs.renewal.renew.Goals as goal

pub returns-then-not-ready : goal.returns-then-not-ready
returns-then-not-ready c = ready_once c.args.opened c.in_ok-ready.ready c.in_ok-ready.ensures (λ wrote. elim c.if-is_of_old.branch [
  | then-is_of_old w ↦ absurd cc (w.value-is, c.if-not-ready.true, wrote)
  | else-is_of_old w ↦ sym c.is_of_old-is_of_old.ensures ∙ w.if-is_of_old.false
])

pub returns : goal.returns
returns c =
    let both : (is_of_old (kept_by c.args.opened) ≡ true) × (c.in_ok-ready.ready.is_written ≡ true) = elim c.if-is_of_old.branch [
      | then-is_of_old w ↦ (sym c.is_of_old-is_of_old.ensures ∙ w.if-is_of_old.true, sym w.value-is ∙ c.if-not-ready.false)
      | else-is_of_old w ↦ absurd cc (w.value-is, c.if-not-ready.false)
    ] in
    ready_again c.args.opened c.in_ok-ready.ready c.in_ok-ready.ensures c.in_ok-again.again _ both.0 both.1 c.in_ok-again.ensures refl
