-- Lines after lines.
use Rattle.std.proofs.Common.{◌≡◌, List, [], ◌∷◌, ◌++◌, ℕ, refl, ap, sym, ◌∙◌, append_assoc}
use Rattle.line_words.specs.Texts.{text_of}

pub text_of-append : (xs ys : List (List ℕ)) → text_of (xs ++ ys) ≡ text_of xs ++ text_of ys
text_of-append [] ys = refl
text_of-append (x ∷ xs) ys = ap (λ t. x ++ (10 ∷ t)) (text_of-append xs ys) ∙ sym (append_assoc x (10 ∷ text_of xs) (text_of ys))

-- what two calls added, one after the other
pub adds_more : (old mid new : List ℕ) (xs ys : List (List ℕ)) → mid ≡ old ++ text_of xs → new ≡ mid ++ text_of ys → new ≡ old ++ text_of (xs ++ ys)
adds_more old mid new xs ys first second =
    second ∙ ap (λ t. t ++ text_of ys) first ∙ append_assoc old (text_of xs) (text_of ys) ∙ ap (λ t. old ++ t) (sym (text_of-append xs ys))
