-- The settings that a text tells.
use Rattle.std.specs.Prelude.{ℕ, ℤ, pos, negsuc, List, Bool, true, nat_le, ◌&&◌, ◌||◌, ◌-◌, if◌then◌else◌, Option, Some, None, Result, Ok, Err, ok_or, option_and_then, length, codes, bytes_eq}
use Rattle.std.specs.List.{list_all}
use Rattle.toml.specs.Data.{Data, Members, no_members, member, get_member, as_integer, as_str}
use Rattle.ring_records.specs.declared.limits.TheConstants.{GREATEST_CAPACITY, LEAST_CAPACITY}
use Rattle.ring_service.specs.declared.start_fault.Setting.{Setting}
use Rattle.ring_service.specs.declared.start_fault.Setting.TheVariants as setting
use Rattle.ring_service.specs.declared.start_fault.StartFault.{StartFault}
use Rattle.ring_service.specs.declared.start_fault.StartFault.TheVariants as fault

abbrev pub setting_text : Setting → List ℕ
setting_text setting.Nodes = codes "nodes"
setting_text setting.Dir = codes "dir"
setting_text setting.Port = codes "port"
setting_text setting.Capacity = codes "capacity"

-- nodes of a ring, the folder of their files, the port of the first one, and the capacity of each
pub record Read : Type 0 where
  pub nodes : ℕ
  pub dir : List ℕ
  pub port : ℕ
  pub capacity : ℕ

-- ---- the value at a key

-- a whole number from low to high
abbrev pub in_range : (low high : ℕ) → ℤ → Option ℕ
in_range low high (pos n) = if nat_le low n && nat_le n high then Some n else None
in_range low high (negsuc n) = None

abbrev pub number_of : Setting → (low high : ℕ) → Data → Result ℕ StartFault
number_of key low high value = ok_or (option_and_then (in_range low high) (as_integer value)) (fault.Wrong key)

-- it prints, and is no space
abbrev pub is_printed : ℕ → Bool
is_printed byte = nat_le 0x21 byte && nat_le byte 0x7E

-- 1 to 200 such bytes
abbrev pub is_path : List ℕ → Bool
is_path bytes = nat_le 1 (length bytes) && (nat_le (length bytes) 200 && list_all is_printed bytes)

abbrev pub path_if : List ℕ → Option (List ℕ)
path_if bytes = if is_path bytes then Some bytes else None

abbrev pub path_of : Data → Result (List ℕ) StartFault
path_of value = ok_or (option_and_then path_if (as_str value)) (fault.Wrong setting.Dir)

-- ---- the keys of a document, in order; the first fault is told

abbrev pub present : {X : Type 0} → Setting → (Data → Result X StartFault) → Option Data → Result X StartFault
present key judge None = Err (fault.Missing key)
present key judge (Some value) = judge value

abbrev pub number_in : Setting → (low high : ℕ) → Members → Result ℕ StartFault
number_in key low high ms = present key (number_of key low high) (get_member (setting_text key) ms)

abbrev pub path_in : Members → Result (List ℕ) StartFault
path_in ms = present setting.Dir path_of (get_member (codes "dir") ms)

abbrev pub capacity_at : Option Data → Result ℕ StartFault
capacity_at None = Ok 65536
capacity_at (Some value) = number_of setting.Capacity LEAST_CAPACITY GREATEST_CAPACITY value

abbrev pub capacity_in : Members → Result ℕ StartFault
capacity_in ms = capacity_at (get_member (codes "capacity") ms)

-- one of the four keys
abbrev pub is_setting : List ℕ → Bool
is_setting word = bytes_eq word (codes "nodes") || (bytes_eq word (codes "dir") || (bytes_eq word (codes "port") || bytes_eq word (codes "capacity")))

abbrev pub knows_all : Members → Bool
knows_all no_members = true
knows_all (member key value ms) = is_setting key && knows_all ms

abbrev pub and_then : {X Y : Type 0} → Result X StartFault → (X → Result Y StartFault) → Result Y StartFault
and_then (Ok x) next = next x
and_then (Err why) next = Err why

abbrev pub settings_in : Members → Result Read StartFault
settings_in ms =
    and_then (number_in setting.Nodes 2 16 ms) (λ nodes.
    and_then (path_in ms) (λ dir.
    and_then (number_in setting.Port 1 (65536 - nodes) ms) (λ port.
    and_then (capacity_in ms) (λ capacity.
    if knows_all ms then Ok (record { nodes = nodes; dir = dir; port = port; capacity = capacity }) else Err fault.Unknown))))

-- what a text tells, by the document that it is
abbrev pub told_by : Option Members → Result Read StartFault
told_by None = Err fault.Toml
told_by (Some ms) = settings_in ms
