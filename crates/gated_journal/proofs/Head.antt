-- The header of an image, in its first 16 bytes.
use Rattle.std.proofs.Common.{◌≡◌, ◌⊎◌, inl, inr, ⊎_elim, ◌||◌, ℕ, ◌<◌, ◌≤◌, Bool, true, false, cond, not, eqb, leb, ltb, ◌&&◌, List, length, take, get_or, Result, Ok, Err, refl, sym, ◌∙◌, ap, arith, zero-add}
use Rattle.std.specs.Str.{bytes_eq}
use Rattle.std.proofs.lemmas.Bool.{and_parts, eqb-true, eq-eqb, le-leb, leb-true, le-ltb, ltb-false}
use Rattle.std.proofs.lemmas.Slice.Eq.{bytes_eq-Decides}
use Rattle.disk_model.specs.Calls.{IsPart}
use Rattle.ring_records.specs.declared.refusal.Refusal.{Refusal}
use Rattle.ring_records.specs.declared.refusal.Refusal.TheVariants.{NotFormatted, WrongNode, Damaged}
use Rattle.ring_records.specs.Member.{Member, member}
use Rattle.gated_journal.specs.InUse.{IsMarked}
use Rattle.gated_journal.specs.Reading.{number_at, mark, old_mark, HasHeader}
use Rattle.gated_journal.proofs.Kept.{take_same}
use Rattle.gated_journal.specs.Unread.{head_at, header_at}

-- two lists that agree in their first 16 bytes have the same header
head_same : (node n : ℕ) (head image : List ℕ) → IsPart 0 head image → length head ≡ 16 → 16 ≤ length image → head_at node n head ≡ head_at node n image
head_same node n head image part long in_image =
    let at : (i : ℕ) → i < 16 → get_or head i 0 ≡ get_or image i 0 = λ i lt. part i (omega (arith, lt, long)) ∙ ap (λ (k : ℕ). get_or image k 0) (zero-add i) in
    let front : take 8 head ≡ take 8 image = take_same 8 head image (omega (arith, long)) (omega (arith, in_image)) (λ i lt. at i (omega (arith, lt))) in
    rw (front, at 8 (omega arith), at 9 (omega arith), at 10 (omega arith), at 11 (omega arith), at 12 (omega arith), at 13 (omega arith), at 14 (omega arith), at 15 (omega arith)) refl

-- no bytes begin with both marks
pub two_marks : (image : List ℕ) → take 8 image ≡ mark → take 8 image ≡ old_mark → ⊥
two_marks image a b = let bytes : 50 ≡ 49 = ap (λ (l : List ℕ). get_or l 7 0) (sym a ∙ b) in omega (arith, bytes)

or_parts : (a b : Bool) → (a || b) ≡ true → (a ≡ true) ⊎ (b ≡ true)
or_parts true b e = inl refl
or_parts false b e = inr e

or-true : (a : Bool) → (a || true) ≡ true
or-true true = refl
or-true false = refl

-- a test that must not be met
passed : {A : Type 0} (b : Bool) (refusal : Refusal) (r : Result A Refusal) (x : A) → cond b (Err refusal) r ≡ Ok x → (b ≡ false) × (r ≡ Ok x)
passed true refusal r x e = absurd cc
passed false refusal r x e = (refl, e)

is_not : (b : Bool) → not b ≡ false → b ≡ true
is_not true e = refl
is_not false e = absurd cc

abbrev pub as_ok : ℕ → Result ℕ Refusal
as_ok x = Ok x

pub same_ok : (x y : ℕ) → as_ok x ≡ as_ok y → x ≡ y
same_ok x y e = cc

pub header_found : (node n capacity : ℕ) (image : List ℕ) → header_at node n image ≡ Ok capacity → (17 ≤ length image) × HasHeader (member node n capacity) image
header_found node n capacity image e =
    let a = passed (ltb (length image) 17) NotFormatted (head_at node n image) capacity e in
    let b = passed (not (bytes_eq (take 8 image) mark || bytes_eq (take 8 image) old_mark)) NotFormatted _ capacity a.1 in
    let d = passed (not (eqb (get_or image 8 0) node && eqb (get_or image 9 0) n)) WrongNode _ capacity b.1 in
    let f = passed (not (leb 4096 (number_at 4 10 image) && leb (number_at 4 10 image) 1048576)) (Damaged 10) _ capacity d.1 in
    let h = passed (not (eqb (number_at 2 14 image) 0)) (Damaged 14) (Ok (number_at 4 10 image)) capacity f.1 in
    let names = and_parts (eqb (get_or image 8 0) node) (eqb (get_or image 9 0) n) (is_not _ d.0) in
    let range = and_parts (leb 4096 (number_at 4 10 image)) (leb (number_at 4 10 image) 1048576) (is_not _ f.0) in
    let is : number_at 4 10 image ≡ capacity = same_ok (number_at 4 10 image) capacity h.1 in (
      ltb-false _ _ a.0,
      record {
        marked = ⊎_elim (λ (e : bytes_eq (take 8 image) mark ≡ true). inl ((bytes_eq-Decides (take 8 image) mark).0 e)) (λ (e : bytes_eq (take 8 image) old_mark ≡ true). inr ((bytes_eq-Decides (take 8 image) old_mark).0 e))
            (or_parts (bytes_eq (take 8 image) mark) (bytes_eq (take 8 image) old_mark) (is_not _ b.0));
        node = eqb-true _ _ names.0;
        n = eqb-true _ _ names.1;
        capacity = is;
        from = omega (arith, leb-true _ _ range.0, is);
        to = omega (arith, leb-true _ _ range.1, is);
        blank = eqb-true _ _ (is_not _ h.0);
      },
    )

-- the header of an image that is long enough, of which these are the first bytes
pub header_same : (node n : ℕ) (head image : List ℕ) → IsPart 0 head image → length head ≡ 16 → 17 ≤ length image → head_at node n head ≡ header_at node n image
header_same node n head image part long in_image = head_same node n head image part long (omega (arith, in_image)) ∙ sym (rw (le-ltb (length image) 17 in_image) refl)

-- and such a header is found
pub header_again : (header : Member) (image : List ℕ) → 17 ≤ length image → HasHeader header image → header_at header.node header.n image ≡ Ok header.capacity
header_again header image long head =
    let long_is = le-ltb (length image) 17 long in
    let marked : (bytes_eq (take 8 image) mark || bytes_eq (take 8 image) old_mark) ≡ true =
    ⊎_elim (λ (m : take 8 image ≡ mark). ap (λ (b : Bool). b || bytes_eq (take 8 image) old_mark) ((bytes_eq-Decides (take 8 image) mark).1 m))
    (λ (m : take 8 image ≡ old_mark). ap (λ (b : Bool). bytes_eq (take 8 image) mark || b) ((bytes_eq-Decides (take 8 image) old_mark).1 m) ∙ or-true (bytes_eq (take 8 image) mark)) head.marked in
    let node = eq-eqb (get_or image 8 0) header.node head.node in
    let n = eq-eqb (get_or image 9 0) header.n head.n in
    let from = le-leb 4096 (number_at 4 10 image) (omega (arith, head.capacity, head.from)) in
    let to = le-leb (number_at 4 10 image) 1048576 (omega (arith, head.capacity, head.to)) in
    let blank = eq-eqb (number_at 2 14 image) 0 head.blank in
    rw (long_is, marked, node, n, from, to, blank) (ap as_ok head.capacity)

-- by which mark it was found
pub marked_by : (node n capacity : ℕ) (head : List ℕ) (is_old : Bool) → head_at node n head ≡ Ok capacity → is_old ≡ bytes_eq (take 8 head) old_mark → IsMarked is_old head
marked_by node n capacity head is_old e is =
    let b = passed (not (bytes_eq (take 8 head) mark || bytes_eq (take 8 head) old_mark)) NotFormatted _ capacity e in
    let either = or_parts (bytes_eq (take 8 head) mark) (bytes_eq (take 8 head) old_mark) (is_not _ b.0) in (
      λ yes. (bytes_eq-Decides (take 8 head) old_mark).0 (sym is ∙ yes),
      λ no. ⊎_elim (λ (m : bytes_eq (take 8 head) mark ≡ true). (bytes_eq-Decides (take 8 head) mark).0 m) (λ (m : bytes_eq (take 8 head) old_mark ≡ true). let both = sym m ∙ (sym is ∙ no) in absurd cc) either,
    )

-- the image begins with the same mark
pub marked_there : (is_old : Bool) (head image : List ℕ) → IsPart 0 head image → length head ≡ 16 → 17 ≤ length image → IsMarked is_old head → IsMarked is_old image
marked_there is_old head image part long in_image marked =
    let front : take 8 image ≡ take 8 head = take_same 8 image head (omega (arith, in_image)) (omega (arith, long)) (λ i lt. sym (part i (omega (arith, lt, long)) ∙ ap (λ (k : ℕ). get_or image k 0) (zero-add i))) in
    (λ yes. front ∙ marked.0 yes, λ no. front ∙ marked.1 no)
