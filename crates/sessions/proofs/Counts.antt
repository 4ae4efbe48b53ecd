-- No command has fewer words than one, or more than four.
use Rattle.std.proofs.Common.{◌≡◌, ℕ, ◌<◌, ◌≤◌, List, length, map, Err, Bor, refl, arith}
use Rattle.ring_records.specs.declared.refusal.Refusal.TheVariants.{BadLine}
use Rattle.line_words.specs.Forms.{form_says}
use Rattle.line_words.proofs.Forms.{too_few, too_many}
use Rattle.sessions.specs.Commands.{commands}

pub few_words : (words : List (Bor (List ℕ))) → length words < 1 → Err BadLine ≡ form_says commands (map (λ x. x.now) words)
unfolding commands
few_words words few = too_few commands words 1 4 refl few

pub many_words : (words : List (Bor (List ℕ))) → 5 ≤ length words → Err BadLine ≡ form_says commands (map (λ x. x.now) words)
unfolding commands
many_words words many = too_many commands words 1 4 refl (omega arith)
