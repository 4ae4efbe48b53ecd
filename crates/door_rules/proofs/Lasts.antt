-- The last item of a list.
use Rattle.std.proofs.Common.{◌≡◌, List, [], ◌∷◌, ◌++◌, length, refl, sym, ap, ◌∙◌, arith, String, string_bytes}
use Rattle.std.specs.Prelude.{Option, Some, None, unwrap_or}
use Rattle.std.specs.List.{last_or}
use Rattle.std.specs.Option.{option_map}
use Rattle.door_rules.specs.Stands.{last_in}

last_or-append : {A : Type 0} → (o : Option A) (xs : List A) (x : A) → last_or o (xs ++ x ∷ []) ≡ Some x
last_or-append o [] x = refl
last_or-append o (y ∷ ys) x = last_or-append (Some y) ys x

-- the last text is the one behind all others
pub text_of_last : {Z : Type 0} → (xs ys : List (String Z)) (x : String Z) → xs ≡ ys ++ x ∷ [] → string_bytes x ≡ last_in xs
text_of_last xs ys x e =
    sym (ap (λ texts. last_in texts) e ∙ ap (λ o. unwrap_or (option_map (λ text. string_bytes text) o) []) (last_or-append None ys x))

-- no text is an empty one
pub text_of_none : {Z : Type 0} → (xs : List (String Z)) → length xs ≡ 0 → last_in xs ≡ []
text_of_none [] e = refl
text_of_none (x ∷ xs) e = grind arith
