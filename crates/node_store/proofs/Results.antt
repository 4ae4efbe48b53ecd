-- What follows of a result from what holds of each of its two cases.
use Rattle.std.proofs.Common.{Result, Ok, Err, IfOk, OnOk, OnErr}

pub of_both : {T E : Type 0} (r : Result T E) (A B C : Type 0) → OnOk r A → OnErr r B → (A → C) → (B → C) → C
of_both (Ok x) A B C a b from_a from_b = from_a a
of_both (Err e) A B C a b from_a from_b = from_b b

pub of_value : {T E : Type 0} (r : Result T E) (P : T → Type 0) (B C : Type 0) → IfOk r P → OnErr r B → ((x : T) → P x → C) → (B → C) → C
of_value (Ok x) P B C p b from_p from_b = from_p x p
of_value (Err e) P B C p b from_p from_b = from_b b

-- of three things that hold of a value
pub ok_of_all : {T E : Type 0} (r : Result T E) (A B C D : Type 0) → (A → B → C → D) → OnOk r A → OnOk r B → OnOk r C → OnOk r D
ok_of_all (Ok x) A B C D f a b c = f a b c
ok_of_all (Err e) A B C D f a b c = tt
