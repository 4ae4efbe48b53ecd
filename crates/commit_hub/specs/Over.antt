-- When the desk of a hub takes no requests, and when nothing is launched.
use Rattle.std.specs.Prelude.{Bool, ◌||◌, nat_lt, if◌then◌else◌, length, Option, Some, None, is_some}
pub use Rattle.group_commit.specs.Ending.{is_over}
use Rattle.ring_records.specs.declared.refusal.Refusal.{Refusal}
use Rattle.ring_records.specs.declared.refusal.Refusal.TheVariants as refused
use Rattle.gated_journal.specs.Batch.{Numbered}

-- something flies
abbrev pub flies : Numbered → Bool
flies flown = nat_lt 0 (length flown.inputs) || is_some flown.snapshot

-- why nothing is launched where this flies, before memory is asked for: the desk has failed, or something flies
abbrev pub launch_refusal : Bool → Numbered → Option Refusal
launch_refusal failed flown = if failed then Some refused.Failed else (if flies flown then Some refused.Busy else None)
