-- How many inputs a batch may have.
use Rattle.std.specs.Prelude.{ℕ, Bool, ◌&&◌, nat_le, if◌then◌else◌}
use Rattle.ring_records.specs.declared.limits.TheConstants.{BATCH_INPUTS}
use Rattle.ring_records.specs.declared.refusal.Refusal.{Refusal}
use Rattle.ring_records.specs.declared.refusal.Refusal.TheVariants as refused

-- how many inputs a batch may have
abbrev pub is_size : ℕ → Bool
is_size n = nat_le 1 n && nat_le n BATCH_INPUTS

-- why there is no batch of so many inputs
abbrev pub batch_refusal : ℕ → Refusal
batch_refusal n = if is_size n then refused.OutOfMemory else refused.BadNumber
