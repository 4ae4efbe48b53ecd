use Rattle.std.proofs.Common.{List, ℕ, drop, refl, sym, ◌∙◌, subst, take, arith}
use Rattle.gated_journal.specs.Found.{InSnapshot}
use Rattle.gated_journal.proofs.AreaParts.{good_head, bad_head}
use Rattle.gated_journal.proofs.Results.{not_both}
use Rattle.gated_journal.proofs.parts.take_head.Goals as goal

pub returns-then-bytes-lt14-clause-holds : goal.returns-then-bytes-lt14-clause-holds
returns-then-bytes-lt14-clause-holds c = λ empty. (refl, (empty, refl))

pub returns-then-bytes-lt14-clause-waits : goal.returns-then-bytes-lt14-clause-waits
returns-then-bytes-lt14-clause-waits c = λ e. omega (arith, c.if-bytes-lt14.true)

pub returns-then-not-is_read-clause-holds : goal.returns-then-not-is_read-clause-holds
returns-then-not-is_read-clause-holds c = λ empty. (
  omega arith,
  λ more. bad_head c.args.layout c.args.bytes.now c.head_at-head.result (omega (arith, c.if-bytes-lt14.false)) c.head_at-head.ensures c.args.snapshot.now.n more (λ good. not_both (sym (c.is_read.ensures.1 good) ∙ c.if-not-is_read.true)),
)

pub returns-clause-holds : goal.returns-clause-holds
returns-clause-holds c = λ empty.
    c.stage_behind.ensures c.args.layout (take 14 c.args.bytes.now) (drop 14 c.args.bytes.now) c.requires.layout
    (subst (λ (l : List ℕ). InSnapshot c.args.layout l (take 14 c.args.bytes.now) c.head_at-head.result.size) (sym empty)
    (good_head c.args.layout c.args.bytes.now c.head_at-head.result (omega (arith, c.if-bytes-lt14.false)) c.head_at-head.ensures (c.is_read.ensures.0 c.if-not-is_read.false)))
