-- What is to come yet, by what begins with what.
use Rattle.std.proofs.Common.{ℕ, ◌≡◌, Bool, true, false, ◌&&◌, List, [], ◌∷◌, take, drop, length, nat_eq, Option, Some, None, refl, if◌then◌else◌}
use Rattle.std.specs.Cmp.Lexicographic.{pointwise}
use Rattle.std.specs.List.{starts_with}
use Rattle.client_stream.specs.Beginnings.{rest_of}

whole_step : (same more : Bool) (rest : Option (List ℕ)) → same && more ≡ true → (more ≡ true → rest ≡ Some [])
    → (if same then rest else None) ≡ Some []
whole_step true more rest e then_rest = then_rest e
whole_step false more rest e then_rest = absurd (cc e)

pub whole : (xs bs : List ℕ) → starts_with nat_eq bs xs ≡ true → rest_of xs bs ≡ Some []
whole [] bs e = refl
whole (x ∷ xs) [] e = absurd (cc e)
whole (x ∷ xs) (b ∷ bs) e = whole_step (nat_eq x b) (starts_with nat_eq bs xs) (rest_of xs bs) e (whole xs bs)

part_step : (same more over : Bool) (rest left : Option (List ℕ)) → same && more ≡ true → same && over ≡ false
    → (more ≡ true → over ≡ false → rest ≡ left) → (if same then rest else None) ≡ left
part_step true more over rest left e f then_rest = then_rest e f
part_step false more over rest left e f then_rest = absurd (cc e)

pub part : (xs bs : List ℕ) → pointwise nat_eq (take (length bs) xs) bs ≡ true → starts_with nat_eq bs xs ≡ false
    → rest_of xs bs ≡ Some (drop (length bs) xs)
part [] bs e f = absurd (cc f)
part (x ∷ xs) [] e f = refl
part (x ∷ xs) (b ∷ bs) e f =
    part_step (nat_eq x b) (pointwise nat_eq (take (length bs) xs) bs) (starts_with nat_eq bs xs) (rest_of xs bs) (Some (drop (length bs) xs)) e f (part xs bs)

other_step : (same more over : Bool) (rest : Option (List ℕ)) → same && more ≡ false → same && over ≡ false
    → (more ≡ false → over ≡ false → rest ≡ None) → (if same then rest else None) ≡ None
other_step true more over rest e f then_rest = then_rest e f
other_step false more over rest e f then_rest = refl

pub other : (xs bs : List ℕ) → pointwise nat_eq (take (length bs) xs) bs ≡ false → starts_with nat_eq bs xs ≡ false → rest_of xs bs ≡ None
other [] bs e f = absurd (cc f)
other (x ∷ xs) [] e f = absurd (cc e)
other (x ∷ xs) (b ∷ bs) e f =
    other_step (nat_eq x b) (pointwise nat_eq (take (length bs) xs) bs) (starts_with nat_eq bs xs) (rest_of xs bs) e f (other xs bs)
