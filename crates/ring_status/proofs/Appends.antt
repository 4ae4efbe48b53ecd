-- Texts that are added one behind the other.
use Rattle.std.proofs.Common.{ℕ, ◌≡◌, ◌++◌, List, append_assoc, ap, ◌∙◌}

pub two : (o p q a b : List ℕ) → p ≡ o ++ a → q ≡ p ++ b → q ≡ o ++ (a ++ b)
two o p q a b first second = second ∙ (ap (λ l. l ++ b) first ∙ simp append_assoc)

pub three : (o p q r a b c : List ℕ) → p ≡ o ++ a → q ≡ p ++ b → r ≡ q ++ c → r ≡ o ++ (a ++ b ++ c)
three o p q r a b c first second third = third ∙ (ap (λ l. l ++ c) (second ∙ ap (λ l. l ++ b) first) ∙ simp append_assoc)

pub four : (o p q r s a b c d : List ℕ) → p ≡ o ++ a → q ≡ p ++ b → r ≡ q ++ c → s ≡ r ++ d → s ≡ o ++ (a ++ b ++ c ++ d)
four o p q r s a b c d first second third fourth =
    fourth ∙ (ap (λ l. l ++ d) (third ∙ ap (λ l. l ++ c) (second ∙ ap (λ l. l ++ b) first)) ∙ simp append_assoc)

pub five : (o p q r s t a b c d e : List ℕ) → p ≡ o ++ a → q ≡ p ++ b → r ≡ q ++ c → s ≡ r ++ d → t ≡ s ++ e
    → t ≡ o ++ (a ++ b ++ c ++ d ++ e)
five o p q r s t a b c d e first second third fourth fifth =
    fifth ∙ (ap (λ l. l ++ e) (four o p q r s a b c d first second third fourth) ∙ simp append_assoc)
