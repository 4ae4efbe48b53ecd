-- The first group behind a name that has a leader.
use Rattle.std.specs.Prelude.{ℕ, ◌≡◌, List, Option, Some, None, IsSome}
use Rattle.std.specs.Cmp.Lexicographic.{slice_cmp}
use Rattle.std.specs.Ordering.{nat_cmp}
use Rattle.std.specs.declared.cmp.Ordering.TheVariants.{Less}
use Rattle.ring_records.specs.declared.candidate.Candidate.{Candidate}
use Rattle.ring_records.specs.declared.decision.Decision.{Decision}
use Rattle.ring_records.specs.Latest.{IsLatest}

-- the group stands behind the other, as byte strings; each group stands behind none
abbrev pub IsBehind : Option (List ℕ) → List ℕ → Type 0
IsBehind None group = Unit {0}
IsBehind (Some after) group = slice_cmp nat_cmp after group ≡ Less

-- By the leaders of each group's terms: these groups, of those behind the name, have none.
abbrev pub HaveNone : (List ℕ → ℕ → Option Candidate) → Option (List ℕ) → (List ℕ → Type 0) → Type 0
HaveNone leads after These = (group : List ℕ) → IsBehind after group → These group → (term : ℕ) → leads group term ≡ None

-- the group is the first behind the name that has one
pub record IsFirst (leads : List ℕ → ℕ → Option Candidate) (after : Option (List ℕ)) (group : List ℕ) : Type 0 where
  pub behind : IsBehind after group
  pub before : HaveNone leads after (λ other. slice_cmp nat_cmp other group ≡ Less)

-- the first group behind the name that has a leader, if there is one
abbrev pub IsFirstLed : (List ℕ → ℕ → Option Candidate) → Option (List ℕ) → Option (List ℕ) → Type 0
IsFirstLed leads after None = HaveNone leads after (λ other. Unit {0})
IsFirstLed leads after (Some group) = IsFirst leads after group × ((term : ℕ) × IsSome (leads group term))

-- that group with its latest leader
abbrev pub IsNext : (List ℕ → ℕ → Option Candidate) → Option (List ℕ) → Option Decision → Type 0
IsNext leads after None = HaveNone leads after (λ other. Unit {0})
IsNext leads after (Some d) = IsFirst leads after (d.key).group × IsLatest (leads (d.key).group) (Some ((d.key).term, d.leader))
