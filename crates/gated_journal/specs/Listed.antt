-- What is read of frames alone, part after part.
use Rattle.std.specs.Prelude.{◌≡◌, ℕ, List, ◌∷◌, ◌++◌}
use Rattle.ring_records.specs.declared.input.Input.{Input}
use Rattle.gated_journal.specs.Damage.{NoFrame}
use Rattle.gated_journal.specs.Found.{IsClosed}
use Rattle.gated_journal.specs.Frames.{frames, joined, AreBatches}
use Rattle.gated_journal.specs.declared.found.Stage.{Stage}
use Rattle.gated_journal.specs.declared.found.Stage.TheVariants.{Head, Snapshot, Frames, Done, Damaged}

-- the bytes are frames of these inputs
pub record Lists (layout : ℕ) (taken : List ℕ) (inputs : List Input) : Type 0 where
  pub batches : List (List Input)
  pub taken_is : taken ≡ frames batches
  pub sized : AreBatches layout batches
  pub same : inputs ≡ joined batches

-- an open gate stands at the front of the bytes, and no frame behind it, whatever follows
pub record IsStuck (layout : ℕ) (behind : List ℕ) : Type 0 where
  pub tail : List ℕ
  pub is : behind ≡ 1 ∷ tail
  pub none : (more : List ℕ) → NoFrame layout (tail ++ more)

-- frames were taken, and this stands behind them: nothing is known of it yet, a closed gate, or what is no frame
abbrev pub IsListed : ℕ → Stage → List ℕ → List Input → List ℕ → Type 0
IsListed layout Head taken inputs behind = ⊥
IsListed layout (Snapshot left) taken inputs behind = ⊥
IsListed layout Frames taken inputs behind = Lists layout taken inputs
IsListed layout Done taken inputs behind = Lists layout taken inputs × IsClosed behind
IsListed layout (Damaged at) taken inputs behind = ((found : List Input) × Lists layout taken found) × IsStuck layout behind
