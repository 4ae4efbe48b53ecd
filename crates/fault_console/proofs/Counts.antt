-- No command has no word, or more than six.
use Rattle.std.proofs.Common.{◌≡◌, ℕ, ◌<◌, ◌≤◌, List, length, map, Err, Bor, refl, arith}
use Rattle.ring_records.specs.declared.refusal.Refusal.TheVariants.{BadLine}
use Rattle.line_words.specs.Forms.{form_says}
use Rattle.line_words.proofs.Forms.{too_few, too_many}
use Rattle.fault_console.specs.Commands.{commands, shapes}

pub few_words : (nodes : ℕ) (words : List (Bor (List ℕ))) → length words < 1 → Err BadLine ≡ form_says (commands nodes) (map (λ x. x.now) words)
unfolding commands
few_words nodes words few = too_few (commands nodes) words 1 6 refl few

pub many_words : (nodes : ℕ) (words : List (Bor (List ℕ))) → 7 ≤ length words → Err BadLine ≡ form_says (commands nodes) (map (λ x. x.now) words)
unfolding commands
many_words nodes words many = too_many (commands nodes) words 1 6 refl (omega arith)

-- and `ring` has two to four

pub few_words_of_a_ring : (words : List (Bor (List ℕ))) → length words < 2 → Err BadLine ≡ form_says shapes (map (λ x. x.now) words)
unfolding shapes
few_words_of_a_ring words few = too_few shapes words 2 4 refl few

pub many_words_of_a_ring : (words : List (Bor (List ℕ))) → 5 ≤ length words → Err BadLine ≡ form_says shapes (map (λ x. x.now) words)
unfolding shapes
many_words_of_a_ring words many = too_many shapes words 2 4 refl (omega arith)
