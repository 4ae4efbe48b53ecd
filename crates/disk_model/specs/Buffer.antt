-- What a `Buffer` shows.
use Rattle.std.specs.Prelude.{ℕ, true, List, length, take}
use Rattle.disk_model.specs.Disk.{Disk, Reach}
use Rattle.disk_model.specs.Stretches.{Past, LeftSince}
use Rattle.disk_model.specs.declared.buffer.Buffer.{Buffer}

abbrev pub disk_of : Buffer → Disk
disk_of buffer = record { image = take buffer.size buffer.bytes.items; stable = buffer.history.stable; ranges = buffer.history.ranges }

abbrev pub limit_of : Buffer → ℕ
limit_of buffer = length buffer.bytes.items

-- a call fails past the limit alone
abbrev pub reach_of : Buffer → Reach
reach_of buffer = record { limit = limit_of buffer; reliable = true }

abbrev pub count_of : Buffer → ℕ
count_of buffer = buffer.faults

-- the stretches between two syncs that have ended
abbrev pub past_of : Buffer → Past
past_of buffer = buffer.history.past

-- the moment, by their number
abbrev pub past_count : Buffer → ℕ
past_count buffer = length (past_of buffer)

-- what a stop since that moment might have left
abbrev pub left_since : Buffer → ℕ → List ℕ → Type 0
left_since buffer = LeftSince (past_of buffer) (disk_of buffer)
