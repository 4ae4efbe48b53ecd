-- What a list of notices says, oldest first: the content of a board.
use Rattle.std.specs.Prelude.{ℕ, ◌≡◌, ◌<◌, ◌⊎◌, max, nat_lt, nat_le, ◌&&◌, if◌then◌else◌, List, [], Option, Some, None, map}
use Rattle.std.specs.List.{filter_map, fold}
use Rattle.std.specs.Str.{bytes_eq}
use Rattle.ring_records.specs.declared.candidate.Candidate.{Candidate}
use Rattle.ring_records.specs.declared.decision.Decision.{Decision}
use Rattle.ring_records.specs.declared.key.Key.{Key}
use Rattle.ring_records.specs.declared.notice.Notice.{Notice}
use Rattle.ring_records.specs.declared.notice.Notice.TheVariants.{Decided, Retired}
use Rattle.ring_records.specs.Lists.{first, found_after}
use Rattle.ring_records.specs.Order.{is_key}

-- the notices of these decisions
abbrev pub decided_all : List Decision → List Notice
decided_all ds = map Decided ds

-- whom the notice names for the key
unfoldable pub named_by : Key → Notice → Option Candidate
named_by key (Decided d) = if is_key d.key key then Some d.leader else None
named_by key (Retired group floor) = None

-- the leader of the first decision for the key
unfoldable pub first_named : List Notice → Key → Option Candidate
first_named ns key = first (filter_map (named_by key) ns)

-- the term that the notice decides, where it is one of the group
unfoldable pub term_for : List ℕ → Notice → Option ℕ
term_for group (Decided d) = if bytes_eq d.key.group group then Some d.key.term else None
term_for group (Retired g floor) = None

-- the greatest term of the group that is decided, 0 if there is none
unfoldable pub top_term : List Notice → List ℕ → ℕ
top_term ns group = fold (λ a b. max a b) 0 (filter_map (term_for group) ns)

-- the floor that the notice behind ns gives the group: one that is at most the greatest term decided
unfoldable pub floor_by : List ℕ → List Notice → Notice → Option ℕ
floor_by group ns (Decided d) = None
floor_by group ns (Retired g floor) = if bytes_eq g group && nat_le floor (top_term ns group) then Some floor else None

-- the greatest floor that was given, 0 if there is none
unfoldable pub floor_in : List Notice → List ℕ → ℕ
floor_in ns group = fold (λ a b. max a b) 0 (found_after (floor_by group) [] ns)

-- the leader for the key, if a decision names one and the key is not retired
unfoldable pub leader_in : List Notice → Key → Option Candidate
leader_in ns key = if nat_lt key.term (floor_in ns key.group) then None else first_named ns key

-- the leaders of a group's terms
abbrev pub leads_in : List Notice → List ℕ → ℕ → Option Candidate
leads_in ns group term = leader_in ns (record { group = group; term = term })

-- the latest leader of a group, and one that is told later: a greater term leads now, or nothing changed
abbrev pub IsNotBelow : Option (ℕ × Candidate) → Option (ℕ × Candidate) → Type 0
IsNotBelow None later = Unit {0}
IsNotBelow (Some p) None = ⊥
IsNotBelow (Some p) (Some q) = (p.0 < q.0) ⊎ (p ≡ q)
