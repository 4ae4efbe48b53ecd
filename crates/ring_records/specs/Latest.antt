-- Which term of a group is the greatest that has a leader, told by the leaders of its terms.
use Rattle.std.specs.Prelude.{ℕ, ◌≡◌, ◌<◌, Option, Some, None}
use Rattle.ring_records.specs.declared.candidate.Candidate.{Candidate}

-- by the leaders of a group's terms: o is the greatest term that has one, and that leader
abbrev pub IsLatest : (ℕ → Option Candidate) → Option (ℕ × Candidate) → Type 0
IsLatest leads None = (term : ℕ) → leads term ≡ None
IsLatest leads (Some p) = (leads p.0 ≡ Some p.1) × ((term : ℕ) → p.0 < term → leads term ≡ None)
