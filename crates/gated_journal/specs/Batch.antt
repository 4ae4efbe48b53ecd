-- What a batch, a checkpoint, a receipt and a spoiled batch show.
use Rattle.std.specs.Prelude.{ℕ, Bool, List, Option, None, Some, is_some}
use Rattle.ring_records.specs.Admission.{newest}
use Rattle.ring_records.specs.declared.input.Input.{Input}
use Rattle.ring_records.specs.declared.summary.Summary.{Summary}
use Rattle.ring_records.specs.Snapshot.{snapshot_len}
use Rattle.gated_journal.specs.declared.batch.Batch.{Batch}
use Rattle.gated_journal.specs.declared.checkpoint.Checkpoint.{Checkpoint}
use Rattle.gated_journal.specs.declared.flown.Flown.{Flown}
use Rattle.gated_journal.specs.declared.flown.Receipt.{Receipt}
use Rattle.gated_journal.specs.declared.flown.Spoiled.{Spoiled}

-- what they all keep: the node, the number of inputs before it, and the inputs; and how long the snapshot is that stands
-- for all inputs up to these, where they are not those of a batch
pub record Numbered : Type 0 where
  pub node : ℕ
  pub first : ℕ
  pub inputs : List Input
  pub snapshot : Option ℕ

abbrev pub numbered_with : ℕ → ℕ → List Input → Option ℕ → Numbered
numbered_with node first inputs snapshot = record { node = node; first = first; inputs = inputs; snapshot = snapshot }

-- whether they are those of a checkpoint
abbrev pub is_checkpoint : Numbered → Bool
is_checkpoint n = is_some n.snapshot

-- those of a batch
abbrev pub numbered : ℕ → ℕ → List Input → Numbered
numbered node first inputs = numbered_with node first inputs None

abbrev pub kept_in : Flown → Numbered
kept_in flown = numbered_with flown.node flown.first flown.inputs.items flown.snapshot

abbrev pub shown : Batch → Numbered
shown batch = numbered batch.flown.node batch.flown.first batch.flown.inputs.items

abbrev pub landed : Receipt → Numbered
landed receipt = kept_in receipt.flown

abbrev pub lost : Spoiled → Numbered
lost spoiled = kept_in spoiled.flown

-- those that a checkpoint takes to the device, with the length of its snapshot
abbrev pub numbered_by : Checkpoint → Numbered
numbered_by checkpoint = numbered_with checkpoint.flown.node checkpoint.flown.first checkpoint.flown.inputs.items (Some (snapshot_len newest checkpoint.base))

-- the summary that it makes durable
abbrev pub base_by : Checkpoint → Summary
base_by checkpoint = checkpoint.base
