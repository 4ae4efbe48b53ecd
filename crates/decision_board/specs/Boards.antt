-- What contracts see of a board and of a reader.
use Rattle.std.specs.Prelude.{ℕ, ◌+◌, ◌-◌, ◌^◌, ◌≤◌, min, List}
use Rattle.std.specs.List.{flat_map}
use Rattle.ring_records.specs.declared.notice.Notice.{Notice}

-- of a board: what readers take, in order; what was appended since; and how many growths were refused, where 2^64 - 1
-- stands for more, too
abbrev pub BoardView : Type 0
BoardView = List Notice × List Notice × ℕ

abbrev pub published : BoardView → List Notice
published board = board.0

abbrev pub pending : BoardView → List Notice
pending board = board.1

abbrev pub refusals : BoardView → ℕ
refusals board = board.2

-- the notices that are owed, of one round after the other
abbrev pub in_rounds : List (List Notice) → List Notice
in_rounds rounds = flat_map (λ round. round) rounds

-- a growth was refused from the one to the other: the count of these rose, save at 2^64 - 1, where it stays
pub record LackedMemory (old new : BoardView) : Type 0 where
  pub later : refusals old ≤ refusals new
  pub rises : min (refusals old + 1) (2 ^ 64 - 1) ≤ refusals new
