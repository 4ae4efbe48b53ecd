-- The latest leader of a group, once a leader for a key is known.
use Rattle.std.specs.Prelude.{ℕ, if◌then◌else◌, List, Option, Some, None}
use Rattle.std.specs.Str.{bytes_eq}
use Rattle.ring_records.specs.declared.candidate.Candidate.{Candidate}
use Rattle.ring_records.specs.declared.key.Key.{Key}
use Rattle.ring_records.specs.Leader.{greater_term}

-- the latest leader of a group, once the leader for a key went from `before` to `now`
abbrev pub noted : Option Candidate → Option Candidate → Key → List ℕ → Option (ℕ × Candidate) → Option (ℕ × Candidate)
noted None None key group known = known
noted None (Some c) key group known = if bytes_eq key.group group then greater_term known (key.term, c) else known
noted (Some b) now key group known = known
