-- Frames whose bytes are not all there yet.
use Rattle.std.proofs.Common.{◌≡◌, inl, inr, ⊎_elim, ℕ, ◌+◌, ◌*◌, ◌<◌, ◌≤◌, List, [], ◌∷◌, ◌++◌, length, drop, get_or, ap, arith, length-drop}
use Rattle.std.specs.Int.{w16, w32, from_be_bytes}
use Rattle.std.proofs.lemmas.Bool.{cases_lt}
use Rattle.std.proofs.lemmas.List.{get_or_append_left}
use Rattle.gated_journal.specs.Damage.{NoFrame}
use Rattle.gated_journal.specs.Frames.{records, body}
use Rattle.gated_journal.specs.Pieces.{IsFrameFront, IsNextFront, IsAreaFront, IsEnough}
use Rattle.gated_journal.proofs.Pieces.{NoFramed}
use Rattle.gated_journal.proofs.Heads.{count_at, size_at, shows, records-short}

headless : {layout : ℕ} (tail : List ℕ) → length tail < 6 → NoFrame layout tail
headless tail short batch rest is e = let s = shows tail batch rest is e in omega (arith, short, s.long)

too_short : {layout : ℕ} (tail : List ℕ) → length tail < 6 + size_at tail → NoFrame layout tail
too_short tail short batch rest is e = let s = shows tail batch rest is e in omega (arith, short, s.long, s.size)

-- no frame is whole of which this is the front
pub no_frame : {layout : ℕ} (tail : List ℕ) → IsFrameFront tail → NoFrame layout tail
no_frame tail (inl short) = headless tail short
no_frame tail (inr front) = too_short tail (omega (arith, front.1.1))

pub no_framed : {layout : ℕ} (behind : List ℕ) → IsNextFront behind → NoFramed layout behind
no_framed behind (inl none) = inl none
no_framed behind (inr front) = inr (front.0, (front.1.0, no_frame front.0 front.1.1))

-- the front that is kept has 2,246 bytes at most: a gate, two numbers, and all but one byte of 64 records
pub few_kept : (layout n : ℕ) (bytes : List ℕ) (kept : ℕ) → IsAreaFront layout n bytes kept → kept ≤ 2246
few_kept layout n bytes kept (inl head) = omega (arith, head.0, head.1)
few_kept layout n bytes kept (inr (inl snapshot)) = omega (arith, snapshot.few)
few_kept layout n bytes kept (inr (inr frames)) = omega (arith, frames.kept_is, length-drop frames.gate_at bytes, short (drop frames.gate_at bytes) frames.front)
  where
    short : (behind : List ℕ) → IsNextFront behind → length behind ≤ 2246
    short behind (inl none) = omega (arith, ap length none)
    short behind (inr (tail, (is, inl headless))) = omega (arith, ap length is, headless)
    short behind (inr (tail, (is, inr front))) = omega (arith, ap length is, front.0, front.1.0, front.1.1)

module _ (tail more : List ℕ) (long : 6 ≤ length tail) where
  byte : (i : ℕ) → i < 6 → get_or (tail ++ more) i 0 ≡ get_or tail i 0
  byte i lt = get_or_append_left tail more 0 i (omega (arith, lt, long))

  count_there : count_at (tail ++ more) ≡ count_at tail
  count_there = let a = byte 0 (omega arith) in let b = byte 1 (omega arith) in λ i. from_be_bytes w16 (a i ∷ b i ∷ [])

  size_there : size_at (tail ++ more) ≡ size_at tail
  size_there =
      let a = byte 2 (omega arith) in
      let b = byte 3 (omega arith) in
      let c = byte 4 (omega arith) in
      let d = byte 5 (omega arith) in
      λ i. from_be_bytes w32 (a i ∷ b i ∷ c i ∷ d i ∷ [])

pub enough : (tail : List ℕ) → 6 ≤ length tail → (count_at tail ≤ 64 → size_at tail ≤ 35 * count_at tail → length tail < 6 + size_at tail → ⊥) → IsEnough tail
enough tail long not_short layout batch more rest is e =
    let s = shows (tail ++ more) batch rest is e in
    let count = count_there tail more long in
    let size = size_there tail more long in
    let body_is : length (body batch) ≡ 6 + length (records batch) = omega arith in
    ⊎_elim
    (λ (short : length tail < 6 + size_at tail). absurd (not_short (omega (arith, s.count, count, is.few)) (omega (arith, s.size, size, s.count, count, records-short layout batch is.have)) short))
    (λ (all : 6 + size_at tail ≤ length tail). omega (arith, all, s.size, size, body_is)) (cases_lt (length tail) (6 + size_at tail))
