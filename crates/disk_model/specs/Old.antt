-- The byte that was there at the last sync.
use Rattle.std.specs.Prelude.{ℕ, Bool, nat_eq, List, slice_index, if◌then◌else◌}

-- this byte was written in this stretch
abbrev pub is_stamped : List ℕ → ℕ → ℕ → Bool
is_stamped stamps stretch i = nat_eq (slice_index stamps i) stretch

-- the byte that was kept where it was written since, else the one that is there now
abbrev pub old_byte : List ℕ → ℕ → List ℕ → List ℕ → ℕ → ℕ
old_byte stamps stretch bytes now i = if is_stamped stamps stretch i then slice_index bytes i else slice_index now i
