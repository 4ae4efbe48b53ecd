-- The leaders by key and the floors by group, as they are kept.
use Rattle.std.specs.Prelude.{ℕ, ◌≡◌, ◌≤◌, Bool, nat_lt, nat_le, not, ◌&&◌, unwrap_or, if◌then◌else◌, List, Option, Some, None, IsSome}
use Rattle.std.specs.Cmp.Lexicographic.{slice_cmp}
use Rattle.std.specs.Coded.{Coded, coded_list, coded_ℕ}
use Rattle.std.specs.FinMap as map
use Rattle.std.specs.Ordering.{nat_cmp}
use Rattle.std.specs.Str.{bytes_eq}
use Rattle.std.specs.declared.ops.Bound.{Bound}
use Rattle.std.specs.declared.ops.Bound.TheVariants.{Excluded, Unbounded}
use Rattle.ring_records.specs.declared.candidate.Candidate.{Candidate}
use Rattle.ring_records.specs.declared.key.Key.{Key}
use Rattle.ring_records.specs.declared.notice.Notice.{Notice}
use Rattle.ring_records.specs.declared.notice.Notice.TheVariants.{Decided, Retired}
use Rattle.ring_records.specs.KeyOrder.{key_cmp}
use Rattle.ring_records.specs.Coded.{coded_key}
use Rattle.ring_records.specs.Notices.{leader_in, floor_in}
use Rattle.ring_records.specs.Props.{coded_candidate}

abbrev pub LeaderMap : Type 0
LeaderMap = map.FinMap key_cmp Candidate

abbrev pub coded_leaders : Coded LeaderMap
coded_leaders = map.code coded_key coded_candidate

abbrev pub FloorMap : Type 0
FloorMap = map.FinMap (slice_cmp nat_cmp) ℕ

abbrev pub coded_floors : Coded FloorMap
coded_floors = map.code (coded_list coded_ℕ) coded_ℕ

-- its term is one
abbrev pub HasTerm : Key → Type 0
HasTerm key = (1 ≤ key.term) × (key.term ≤ 999999999)

abbrev pub HaveTerms : LeaderMap → Type 0
HaveTerms leaders = (key : Key) → IsSome (map.get leaders key) → HasTerm key

-- the leaders of a group's terms
abbrev pub leads : LeaderMap → List ℕ → ℕ → Option Candidate
leads leaders group term = map.get leaders (record { group = group; term = term })

-- where the keys of the groups behind a name begin
abbrev pub start_of : Option (List ℕ) → Bound Key
start_of None = Unbounded
start_of (Some group) = Excluded (record { group = group; term = 999999999 })

-- the first leader for a key stays
abbrev pub put : LeaderMap → Key → Candidate → LeaderMap
put leaders key leader = if map.contains_key leaders key then leaders else map.insert leaders key leader

-- the key is one of the group's terms from the floor on, or below it
abbrev pub is_from : List ℕ → ℕ → Key → Bool
is_from group floor key = bytes_eq group key.group && nat_le floor key.term

abbrev pub is_under : List ℕ → ℕ → Key → Bool
is_under group floor key = bytes_eq group key.group && nat_lt key.term floor

-- some term of the group from the floor on has a leader
abbrev pub reaches : LeaderMap → List ℕ → ℕ → Bool
reaches leaders group floor = nat_lt 0 (map.len (map.retain_keys leaders (is_from group floor)))

-- without the group's leaders below the floor
abbrev pub without : LeaderMap → List ℕ → ℕ → LeaderMap
without leaders group floor = map.retain_keys leaders (λ key. not (is_under group floor key))

-- the floor of the group, 0 if it has none
abbrev pub floor_of : FloorMap → List ℕ → ℕ
floor_of floors group = unwrap_or (map.get floors group) 0

-- What one more notice makes of the leaders and the floors. A decision below the floor changes nothing; nor does a floor
-- that is not above the one that the group has, or that is above its latest term.
abbrev pub taken_in : LeaderMap × FloorMap → Notice → LeaderMap × FloorMap
taken_in kept (Decided d) = if nat_lt d.key.term (floor_of kept.1 d.key.group) then kept else (put kept.0 d.key d.leader, kept.1)
taken_in kept (Retired group floor) =
    if nat_lt (floor_of kept.1 group) floor && reaches kept.0 group floor then (without kept.0 group floor, map.insert kept.1 group floor) else kept

-- they are the leaders and the floors that the notices tell
pub record AreOf (leaders : LeaderMap) (floors : FloorMap) (ns : List Notice) : Type 0 where
  pub keys : (key : Key) → map.get leaders key ≡ leader_in ns key
  pub groups : (group : List ℕ) → floor_of floors group ≡ floor_in ns group
