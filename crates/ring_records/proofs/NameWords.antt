-- Names as numbers of sixteen bytes, the first of the greatest worth: they stand in the order of the names, since no name has a
-- zero byte.
use Rattle.std.proofs.Common.{ℕ, zero, suc, ◌≡◌, ◌+◌, ◌-◌, ◌*◌, ◌^◌, ◌<◌, ◌≤◌, Bool, true, List, [], ◌∷◌, ◌++◌, length, replicate, refl, sym, ap, ◌∙◌, arith}
use Rattle.std.proofs.Math.Nat.{mul-le-mul_right, pow-suc}
use Rattle.std.proofs.Math.Path.{subst}
use Rattle.std.proofs.lemmas.Bool.{and_parts, ltb-true}
use Rattle.std.proofs.lemmas.Bool.Decides.{nat_tests}
use Rattle.std.proofs.lemmas.Cmp.{nat_list_cmp_total, ranked, tied_itself}
use Rattle.std.proofs.lemmas.Map.Text.{is_eq-slice_cmp}
use Rattle.std.proofs.lemmas.List.{length-append, length-replicate}
use Rattle.std.proofs.lemmas.List.Folds.{list_all-append}
use Rattle.std.specs.Cmp.{nat_cmp_is}
use Rattle.std.specs.Cmp.Lexicographic.{slice_cmp}
use Rattle.std.specs.declared.cmp.Ordering.{Ordering}
use Rattle.std.specs.declared.cmp.Ordering.TheVariants.{Less, Equal, Greater}
use Rattle.std.specs.Int.{byte_worth, from_be_bytes, sum_through, w128}
use Rattle.std.specs.List.{list_all}
use Rattle.std.specs.Ordering.{MatchOrdering, is_eq, nat_cmp, ordering_then}
use Rattle.std.specs.Str.{bytes_eq}
use Rattle.std.specs.Prelude.{◌&&◌, nat_eq, nat_lt, slice_index}
use Rattle.ring_records.proofs.Names.{is_name-short}
use Rattle.ring_records.specs.Names.{is_name, is_name_byte}
use Rattle.ring_records.specs.Padding.{padded}

-- the number that has these digits
abbrev value : List ℕ → ℕ
value [] = 0
value (b ∷ bs) = b * 256 ^ length bs + value bs

shift : (f : ℕ → ℕ) (k : ℕ) → sum_through f (suc k) ≡ f 0 + sum_through (λ i. f (suc i)) k
shift f zero = refl
shift f (suc k) = omega (arith, shift f k)

alike : (f g : ℕ → ℕ) → ((i : ℕ) → f i ≡ g i) → (k : ℕ) → sum_through f k ≡ sum_through g k
alike f g same zero = same 0
alike f g same (suc k) = omega (arith, alike f g same k, same (suc k))

sums : {a b c d : ℕ} → a ≡ b → c ≡ d → a + c ≡ b + d
sums f g = omega (arith, f, g)

place : (k i : ℕ) → suc k - suc i ≡ k - i
place k i = omega arith

worth : (k : ℕ) (bs : List ℕ) → length bs ≡ suc k → sum_through (λ i. byte_worth (k - i) (slice_index bs i)) k ≡ value bs
worth zero [] l = absurd cc
worth zero (b ∷ []) l = omega arith
worth zero (b ∷ (c ∷ bs)) l = absurd (omega (arith, l))
worth (suc k) [] l = absurd (omega (arith, l))
worth (suc k) (b ∷ bs) l =
    let few : length bs ≡ suc k = omega (arith, l) in
    let rest : sum_through (λ i. byte_worth (k - i) (slice_index bs i)) k ≡ value bs = worth k bs few in
    let whole : suc k - 0 ≡ suc k = omega arith in
    let first : byte_worth (suc k - 0) b ≡ b * 256 ^ length bs = ap (λ n. byte_worth n b) whole ∙ ap (λ n. b * 256 ^ n) (sym few) in
    let behind = alike (λ i. byte_worth (suc k - suc i) (slice_index bs i)) (λ i. byte_worth (k - i) (slice_index bs i)) (λ i. ap (λ n. byte_worth n (slice_index bs i)) (place k i)) k in
    shift (λ i. byte_worth (suc k - i) (slice_index (b ∷ bs) i)) k ∙ sums first (behind ∙ rest)

-- the greater first digit makes the greater number
lead : (x y p v w : ℕ) → v < p → x < y → x * p + v < y * p + w
lead x y p v w low less =
    let more : suc x * p ≤ y * p = mul-le-mul_right p less in
    let one : suc x * p ≡ x * p + p = omega arith in
    omega (arith, low, more, one)

digit : (b p v : ℕ) → b < 256 → v < p → b * p + v < p * 256
digit b p v few low =
    let more : suc b * p ≤ 256 * p = mul-le-mul_right p few in
    let one : suc b * p ≡ b * p + p = omega arith in
    omega (arith, low, more, one)

abbrev is_byte : ℕ → Bool
is_byte b = nat_lt b 256

below : (bs : List ℕ) → list_all is_byte bs ≡ true → value bs < 256 ^ length bs
below [] all = omega arith
below (b ∷ bs) all =
    let parts = and_parts (is_byte b) (list_all is_byte bs) all in
    let first : b < 256 = ltb-true b 256 parts.0 in
    let rest : value bs < 256 ^ length bs = below bs parts.1 in
    subst (λ n. b * 256 ^ length bs + value bs < n) (sym (pow-suc 256 (length bs))) (digit b (256 ^ length bs) (value bs) first rest)

-- x is the greater digit, so the number is
ranks : (x y p v w : ℕ) → v < p → w < p → (o r : Ordering) → MatchOrdering o (x < y) (x ≡ y) (y < x) → r ≡ nat_cmp v w → MatchOrdering (ordering_then o r) (x * p + v < y * p + w) (x * p + v ≡ y * p + w) (y * p + w < x * p + v)
ranks x y p v w vs ws Less r m h = lead x y p v w vs m
ranks x y p v w vs ws Greater r m h = lead y x p w v ws m
ranks x y p v w vs ws Equal Less m h = let less = ranked v w Less h in let same : x * p ≡ y * p = ap (λ n. n * p) m in omega (arith, same, less)
ranks x y p v w vs ws Equal Equal m h = let less = ranked v w Equal h in let same : x * p ≡ y * p = ap (λ n. n * p) m in omega (arith, same, less)
ranks x y p v w vs ws Equal Greater m h = let less = ranked v w Greater h in let same : x * p ≡ y * p = ap (λ n. n * p) m in omega (arith, same, less)

in_order : (xs ys : List ℕ) → length xs ≡ length ys → list_all is_byte xs ≡ true → list_all is_byte ys ≡ true → slice_cmp nat_cmp xs ys ≡ nat_cmp (value xs) (value ys)
in_order [] [] l fs gs = refl
in_order [] (y ∷ ys) l fs gs = absurd (omega (arith, l))
in_order (x ∷ xs) [] l fs gs = absurd (omega (arith, l))
in_order (x ∷ xs) (y ∷ ys) l fs gs =
    let alike : length xs ≡ length ys = omega (arith, l) in
    let first = and_parts (is_byte x) (list_all is_byte xs) fs in
    let second = and_parts (is_byte y) (list_all is_byte ys) gs in
    let rest = in_order xs ys alike first.1 second.1 in
    let power : 256 ^ length ys ≡ 256 ^ length xs = ap (λ n. 256 ^ n) (sym alike) in
    let vs : value xs < 256 ^ length xs = below xs first.1 in
    let ws : value ys < 256 ^ length xs = subst (λ n. value ys < n) power (below ys second.1) in
    let m = ranks x y (256 ^ length xs) (value xs) (value ys) vs ws (nat_cmp x y) (slice_cmp nat_cmp xs ys) (ranked x y (nat_cmp x y) refl) rest in
    nat_cmp_is (value (x ∷ xs)) (value (y ∷ ys)) (ordering_then (nat_cmp x y) (slice_cmp nat_cmp xs ys)) (subst (λ n. MatchOrdering (ordering_then (nat_cmp x y) (slice_cmp nat_cmp xs ys)) (value (x ∷ xs) < y * n + value ys) (value (x ∷ xs) ≡ y * n + value ys) (y * n + value ys < value (x ∷ xs))) (sym power) m)

is_less : (y : ℕ) → nat_cmp 0 (suc y) ≡ Less
is_less y = grind (arith, nat_tests)

is_greater : (x : ℕ) → nat_cmp (suc x) 0 ≡ Greater
is_greater x = grind (arith, nat_tests)

-- zeros behind them change nothing
behind : (xs ys : List ℕ) (i j : ℕ) → length xs + i ≡ length ys + j → list_all is_name_byte xs ≡ true → list_all is_name_byte ys ≡ true → slice_cmp nat_cmp (xs ++ replicate i 0) (ys ++ replicate j 0) ≡ slice_cmp nat_cmp xs ys
behind [] [] i j l fs gs = let alike : j ≡ i = omega (arith, l) in ap (λ n. slice_cmp nat_cmp (replicate i 0) (replicate n 0)) alike ∙ tied_itself nat_list_cmp_total (replicate i 0)
behind [] (zero ∷ ys) i j l fs gs = absurd cc
behind [] (suc y ∷ ys) zero j l fs gs = absurd (omega (arith, l))
behind [] (suc y ∷ ys) (suc i) j l fs gs = ap (λ o. ordering_then o (slice_cmp nat_cmp (replicate i 0) (ys ++ replicate j 0))) (is_less y)
behind (zero ∷ xs) [] i j l fs gs = absurd cc
behind (suc x ∷ xs) [] i zero l fs gs = absurd (omega (arith, l))
behind (suc x ∷ xs) [] i (suc j) l fs gs = ap (λ o. ordering_then o (slice_cmp nat_cmp (xs ++ replicate i 0) (replicate j 0))) (is_greater x)
behind (x ∷ xs) (y ∷ ys) i j l fs gs =
    let first = and_parts (is_name_byte x) (list_all is_name_byte xs) fs in
    let second = and_parts (is_name_byte y) (list_all is_name_byte ys) gs in
    ap (ordering_then (nat_cmp x y)) (behind xs ys i j (omega (arith, l)) first.1 second.1)

name_byte : (b : ℕ) → is_name_byte b ≡ true → is_byte b ≡ true
name_byte b h = grind (arith, nat_tests)

both : {x y : Bool} → x ≡ true → y ≡ true → (x && y) ≡ true
both {x} {y} f g = ap (λ z. z && y) f ∙ g

name_bytes : (bs : List ℕ) → list_all is_name_byte bs ≡ true → list_all is_byte bs ≡ true
name_bytes [] all = refl
name_bytes (b ∷ bs) all =
    let parts = and_parts (is_name_byte b) (list_all is_name_byte bs) all in
    both (name_byte b parts.0) (name_bytes bs parts.1)

zero_bytes : (k : ℕ) → list_all is_byte (replicate k 0) ≡ true
zero_bytes zero = refl
zero_bytes (suc k) = zero_bytes k

all_of : (bs : List ℕ) → is_name bs ≡ true → list_all is_name_byte bs ≡ true
all_of bs name =
    let some = and_parts (nat_lt 0 (length bs)) _ name in
    let few = and_parts (nat_lt (length bs) 17) _ some.1 in
    (and_parts _ (list_all is_name_byte bs) few.1).1

padded_length : (bs : List ℕ) → is_name bs ≡ true → length (padded bs) ≡ 16
padded_length bs name = let zero : ℕ = 0 in let short = is_name-short bs name in omega (arith, length-append bs (replicate (16 - length bs) zero), length-replicate (16 - length bs) zero)

spread : (xs ys : List ℕ) → is_name xs ≡ true → is_name ys ≡ true → length xs + (16 - length xs) ≡ length ys + (16 - length ys)
spread xs ys first second = let a = is_name-short xs first in let b = is_name-short ys second in omega arith

padded_bytes : (bs : List ℕ) → is_name bs ≡ true → list_all is_byte (padded bs) ≡ true
padded_bytes bs name = list_all-append is_byte bs (replicate (16 - length bs) 0) ∙ both (name_bytes bs (all_of bs name)) (zero_bytes (16 - length bs))

-- names stand in the order of their numbers
pub words_in_order : (xs ys : List ℕ) (n m : ℕ) → is_name xs ≡ true → is_name ys ≡ true → n ≡ from_be_bytes w128 (padded xs) → m ≡ from_be_bytes w128 (padded ys) → nat_cmp n m ≡ slice_cmp nat_cmp xs ys
words_in_order xs ys n m first second ns ms =
    let xl = padded_length xs first in
    let yl = padded_length ys second in
    let same = in_order (padded xs) (padded ys) (xl ∙ sym yl) (padded_bytes xs first) (padded_bytes ys second) in
    let zeros = behind xs ys (16 - length xs) (16 - length ys) (spread xs ys first second) (all_of xs first) (all_of ys second) in
    ap (λ k. nat_cmp k m) (ns ∙ worth 15 (padded xs) xl) ∙ ap (nat_cmp (value (padded xs))) (ms ∙ worth 15 (padded ys) yl) ∙ sym same ∙ zeros

ties : (n m : ℕ) → nat_eq n m ≡ is_eq (nat_cmp n m)
ties n m = grind (arith, nat_tests)

-- and are the same where these are
pub words_are_names : (xs ys : List ℕ) (n m : ℕ) → is_name xs ≡ true → is_name ys ≡ true → n ≡ from_be_bytes w128 (padded xs) → m ≡ from_be_bytes w128 (padded ys) → nat_eq n m ≡ bytes_eq xs ys
words_are_names xs ys n m first second ns ms = ties n m ∙ ap is_eq (words_in_order xs ys n m first second ns ms) ∙ is_eq-slice_cmp xs ys
