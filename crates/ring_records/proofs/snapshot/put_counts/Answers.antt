use Rattle.std.proofs.Common.{ℕ, ◌≡◌, ◌++◌, List, append_assoc, ap, ◌∙◌}
use Rattle.ring_records.specs.Snapshot.{counts_bytes}
use Rattle.ring_records.proofs.snapshot.put_counts.Goals as goal

six : (o p q r s t u a b c d e f : List ℕ) → p ≡ o ++ a → q ≡ p ++ b → r ≡ q ++ c → s ≡ r ++ d → t ≡ s ++ e → u ≡ t ++ f → u ≡ o ++ (a ++ b ++ c ++ d ++ e ++ f)
six o p q r s t u a b c d e f pa pb pc pd pe pf = pf ∙ (ap (λ l. l ++ f) (pe ∙ ap (λ l. l ++ e) (pd ∙ ap (λ l. l ++ d) (pc ∙ ap (λ l. l ++ c) (pb ∙ ap (λ l. l ++ b) pa)))) ∙ simp append_assoc)

-- six numbers are put, which spell these bytes
spelled : (o p q r s t u a b c d e f a' b' c' d' e' f' : List ℕ) → p ≡ o ++ a → q ≡ p ++ b → r ≡ q ++ c → s ≡ r ++ d → t ≡ s ++ e → u ≡ t ++ f → a ≡ a' → b ≡ b' → c ≡ c' → d ≡ d' → e ≡ e'
    → f ≡ f' → u ≡ o ++ (a' ++ b' ++ c' ++ d' ++ e' ++ f')
spelled o p q r s t u a b c d e f a' b' c' d' e' f' pa pb pc pd pe pf sa sb sc sd se sf = six o p q r s t u a b c d e f pa pb pc pd pe pf ∙ (λ i. o ++ (sa i ++ sb i ++ sc i ++ sd i ++ se i ++ sf i))

pub returns : goal.returns
unfolding counts_bytes
returns c = spelled _ _ _ _ _ _ _ _ _ _ _ _ _ _ _ _ _ _ _ c.in_ok-extend_from_slice.ensures.items c.in_ok-extend_from_slice-2.ensures.items c.in_ok-extend_from_slice-3.ensures.items c.in_ok-extend_from_slice-4.ensures.items c.in_ok-extend_from_slice-5.ensures.items c.in_ok-extend_from_slice-6.ensures.items c.to_be_bytes.ensures c.to_be_bytes-2.ensures c.to_be_bytes-3.ensures c.to_be_bytes-4.ensures c.to_be_bytes-5.ensures c.to_be_bytes-6.ensures
