-- What a waiter is told, and when.
use Rattle.std.specs.Prelude.{ℕ, ◌==◌, nat_lt, Bool, not, ◌&&◌, ◌||◌}

-- who waits for a leader of a term above that one, where the latest one is of this term
abbrev pub is_next : ℕ → ℕ → Bool
is_next above term = nat_lt above term

-- who waits for the end of a leader of term `held`, where the latest one is of this term and is present or not
abbrev pub is_told : ℕ → ℕ → Bool → Bool
is_told held term present = nat_lt held term || ((held == term) && not present)
