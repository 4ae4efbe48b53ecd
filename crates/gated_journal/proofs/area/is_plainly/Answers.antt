use Rattle.std.proofs.Common.{◌≡◌, Bool, true, false, not, refl, sym, ◌∙◌}
use Rattle.gated_journal.specs.Areas.{area_a, area_b}
use Rattle.gated_journal.proofs.Head.{two_marks}
use Rattle.gated_journal.proofs.Results.{not_both}
use Rattle.gated_journal.proofs.area.is_plainly.Goals as goal

not_true : (b : Bool) → (b ≡ true → ⊥) → not b ≡ true
not_true true never = absurd (never refl)
not_true false never = refl

is_true : (b : Bool) → not b ≡ true → b ≡ true → ⊥
is_true true e is = not_both (sym e)
is_true false e is = not_both (sym is)

pub returns-then-not-is_old : goal.returns-then-not-is_old
returns-then-not-is_old c = λ capacity image marked a b. (λ e. not_both (sym e), λ p. let here = marked.1 c.if-not-is_old.true in absurd (two_marks image here p.marked))

pub returns-then-counts : goal.returns-then-counts
returns-then-counts c = λ capacity image marked a b. (λ e. not_both (sym e), λ p. absurd (p.first ((c.counts.ensures area_a image a).0 c.if-counts.true)))

pub returns : goal.returns
returns c = λ capacity image marked a b. (
  λ e. record {
    marked = marked.0 c.if-not-is_old.false;
    first = λ there. not_both (sym ((c.counts.ensures area_a image a).1 there) ∙ c.if-counts.false);
    second = λ there. is_true c.counts-2.result e ((c.counts-2.ensures (area_b capacity) image b).1 there);
  },
  λ p. not_true c.counts-2.result (λ e. p.second ((c.counts-2.ensures (area_b capacity) image b).0 e)),
)
