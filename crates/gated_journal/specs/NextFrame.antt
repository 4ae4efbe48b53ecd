-- What is taken of the frame at the front of bytes.
use Rattle.std.specs.Prelude.{◌≡◌, ◌+◌, ◌≤◌, ℕ, List, ◌++◌, length, drop}
use Rattle.std.specs.Int.{w16, w32, to_be_bytes}
use Rattle.ring_records.specs.declared.input.Input.{Input}
use Rattle.ring_records.specs.declared.limits.TheConstants.{BATCH_INPUTS}
use Rattle.gated_journal.specs.Frames.{records, body, HaveRecords, IsBatch}

-- The bytes begin with a count of 1 to 64, a length, and so many bytes; a frame at their head has this count and these
-- records.
pub record HasHead (tail : List ℕ) (count : ℕ) (found : List ℕ) : Type 0 where
  pub some : 1 ≤ count
  pub few : count ≤ BATCH_INPUTS
  pub whole : tail ≡ to_be_bytes w16 count ++ (to_be_bytes w32 (length found) ++ (found ++ drop (6 + length found) tail))
  pub alone : (layout : ℕ) (batch : List Input) (rest : List ℕ) → IsBatch layout batch → tail ≡ body batch ++ rest → (length batch ≡ count) × (records batch ≡ found)

-- new has so many inputs more than old, whose records stand in these bytes before the rest
pub record TakesRecords (layout : ℕ) (old new : List Input) (count : ℕ) (bytes rest : List ℕ) : Type 0 where
  pub batch : List Input
  pub added : new ≡ old ++ batch
  pub many : length batch ≡ count
  pub have : HaveRecords layout batch
  pub spelled : bytes ≡ records batch ++ rest

-- new has the inputs of the frame of this size at the head more than old
pub record TakesFrame (layout : ℕ) (old new : List Input) (tail : List ℕ) (size : ℕ) : Type 0 where
  pub batch : List Input
  pub rest : List ℕ
  pub added : new ≡ old ++ batch
  pub is_batch : IsBatch layout batch
  pub framed : tail ≡ body batch ++ rest
  pub size_is : size ≡ length (body batch)
