use Rattle.std.proofs.Common.{◌≡◌, ℕ, refl, subst, arith}
use Rattle.ring_records.specs.declared.summary.Summary.{Summary}
use Rattle.ring_records.specs.Snapshot.{Spells}
use Rattle.gated_journal.specs.Found.{InSnapshot}
use Rattle.gated_journal.proofs.AreaParts.{snapshot_read, snapshot_unread}
use Rattle.gated_journal.proofs.parts.stage_behind.Goals as goal

pub returns-then-left-gt0 : goal.returns-then-left-gt0
returns-then-left-gt0 c = λ layout taken behind at s. (s, (omega (arith, c.if-left-gt0.true), refl))

pub returns-then-is_sound : goal.returns-then-is_sound
returns-then-is_sound c = λ layout taken behind at s.
    let none : c.args.left ≡ 0 = omega (arith, c.if-left-gt0.false) in
    let found = c.is_sound.ensures.yes c.if-is_sound.true in
    snapshot_read layout c.args.snapshot.now.n c.args.snapshot.now.taken taken found.0 (subst (λ (k : ℕ). InSnapshot layout c.args.snapshot.now.taken taken k) none s) (subst (λ (k : ℕ). Spells k c.args.snapshot.now.n c.args.snapshot.now.taken found.0) at found.1)

pub returns-else-is_sound : goal.returns-else-is_sound
returns-else-is_sound c = λ layout taken behind at s.
    let none : c.args.left ≡ 0 = omega (arith, c.if-left-gt0.false) in (
      omega arith,
      λ more. snapshot_unread layout c.args.snapshot.now.n c.args.snapshot.now.taken taken behind (subst (λ (k : ℕ). InSnapshot layout c.args.snapshot.now.taken taken k) none s) (subst (λ (k : ℕ). (base : Summary) → Spells k c.args.snapshot.now.n c.args.snapshot.now.taken base → ⊥) at (c.is_sound.ensures.no c.if-is_sound.false)) more,
    )
