use Rattle.std.proofs.Common.{ℕ, ◌≡◌, ◌+◌, ◌-◌, ◌++◌, below_more, sym, ap, subst, ◌∙◌, refl, arith}
use Rattle.ring_start.specs.Fits.{found_as, history, Agrees}
use Rattle.ring_start.proofs.Leaders.{Agrees-along, Differs-along}
use Rattle.ring_start.proofs.look_over.differing.Goals as goal

pub returns-then-not-agrees-clause-some : goal.returns-then-not-agrees-clause-some
returns-then-not-agrees-clause-some g c =
    let own = c.desk_at.ensures in
    let number = c.number_at.ensures in
    let i = c.loop-before.before + 1 in (
      omega (arith, number),
      omega (arith, number, c.loop-before-test.true, c.requires.inside),
      λ pasts are. Differs-along _ _ _ _ c.args.told.now (own.number ∙ sym number) (ap (λ l. pasts i ++ l) own.inputs ∙ ap (history found_as pasts c.args.ring.now) (sym number))
          (c.if-not-agrees.ensures.no refl (pasts i) (own.past pasts are)),
    )

pub loop-before-preserved : goal.loop-before-preserved
loop-before-preserved g c pasts are =
    let own = c.desk_at.ensures in
    let i = c.loop-before.before + 1 in
    below_more _ _ (c.loop-before.invariant pasts are)
    (Agrees-along _ i _ (history found_as pasts c.args.ring.now i) c.args.told.now own.number (ap (λ l. pasts i ++ l) own.inputs) (c.if-not-agrees.ensures.yes refl (pasts i) (own.past pasts are)))

pub returns-clause-none : goal.returns-clause-none
returns-clause-none g c pasts are i low high =
    let same : i - 1 + 1 ≡ i = omega (arith, low) in
    subst (λ (n : ℕ). Agrees n (history found_as pasts c.args.ring.now n) c.args.told.now) same
    (c.loop-before.invariant pasts are (i - 1) (omega (arith, low, high, c.loop-before-test.false)))
