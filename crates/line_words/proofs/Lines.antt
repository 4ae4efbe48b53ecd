-- The first line of a text.
use Rattle.std.proofs.Common.{◌≡◌, ℕ, ◌+◌, ◌-◌, ◌<◌, ◌≤◌, Bool, false, cond, List, [], ◌∷◌, length, take, drop, refl, sym, ap, ◌∙◌, arith, Some, None, position, ◌==◌}
use Rattle.std.specs.List.{All, slice_split, position_or_len, before_first, after_first}
use Rattle.std.specs.Str.Lines.{lines, lines_of_parts, strip_carriage_return}
use Rattle.std.proofs.lemmas.List.Splits.{slice_split_none, slice_split_first, length-slice_split}
use Rattle.std.proofs.lemmas.List.Sums.{fails_before_first}
use Rattle.std.proofs.lemmas.Bool.{ne_eqb}
use Rattle.std.proofs.lemmas.Bool.Decides.{nat_tests}
use Rattle.std.proofs.lemmas.List.{take_rest}

parts-more : (x : List ℕ) (parts : List (List ℕ)) → 0 < length parts → lines_of_parts (x ∷ parts) ≡ strip_carriage_return x ∷ lines_of_parts parts
parts-more x [] l = absurd (omega arith)
parts-more x (y ∷ more) l = refl

one-part : (x : List ℕ) → 0 < length x → lines_of_parts (x ∷ []) ≡ x ∷ []
one-part [] l = absurd (omega arith)
one-part (x ∷ xs) l = ap (λ b. cond b [] ((x ∷ xs) ∷ [])) (ne_eqb (length (x ∷ xs)) 0 (λ z. omega arith))

-- a text without a line feed is its own one line
pub lines_end : (text : List ℕ) → 0 < length text → position (λ b. b == 10) text ≡ None → lines text ≡ text ∷ []
lines_end text h e =
    let p : ℕ → Bool = λ b. b == 10 in
    let none : length text ≤ position_or_len p text = grind (arith, nat_tests) in
    let front : All (λ x. p x ≡ false) text = λ k d m. fails_before_first p text k d (omega arith) in
    ap lines_of_parts (slice_split_none p text front) ∙ one-part text h

-- the first line ends at the first line feed
pub lines_next : (text : List ℕ) (at : ℕ) → position (λ b. b == 10) text ≡ Some at → lines text ≡ strip_carriage_return (take at text) ∷ lines (drop (at + 1) text)
lines_next text at e =
    let p : ℕ → Bool = λ b. b == 10 in
    let inside : position_or_len p text < length text = grind (arith, nat_tests) in
    let same : position_or_len p text ≡ at = grind (arith, nat_tests) in
    ap lines_of_parts (slice_split_first p text 0 inside)
    ∙ parts-more (before_first p text) (slice_split p (after_first p text)) (omega (arith, length-slice_split p (after_first p text)))
    ∙ ap (λ i. strip_carriage_return (take i text) ∷ lines (drop (i + 1) text)) same

pub lines_next_slice : (text : List ℕ) (at : ℕ) → position (λ b. b == 10) text ≡ Some at
    → lines text ≡ strip_carriage_return (take at text) ∷ lines (take (length text - (at + 1)) (drop (at + 1) text))
lines_next_slice text at e = lines_next text at e ∙ ap (λ l. strip_carriage_return (take at text) ∷ lines l) (sym (take_rest text (at + 1)))
