-- What is known of who stood for a key, and of who resigned. Each list has its keys in the order in which they were entered.
use Rattle.std.specs.Prelude.{ℕ, ◌==◌, nat_lt, max, Bool, not, if◌then◌else◌, List, [], ◌∷◌, ◌++◌, length, map, filter, find, position, remove, slice_set, unwrap_or, Option, Some, None, String, string_bytes, string_len}
use Rattle.std.specs.List.{list_any, reduce, last_or}
use Rattle.std.specs.Option.{option_map}
use Rattle.std.specs.Str.{bytes_eq}
use Rattle.ring_records.specs.declared.key.Key.{Key}
use Rattle.ring_records.specs.Order.{is_key}
use Rattle.door_rules.specs.Told.{Told}
use Rattle.door_rules.specs.declared.limits.TheConstants.{TERMS}

abbrev pub is_in : List ℕ → Key → Bool
is_in group key = bytes_eq key.group group

abbrev pub is_for : Key → Told → Bool
is_for key told = is_key told.key key

-- Where one more is entered among 1,024, one goes: the first that is like it, or the first of all.
abbrev pub with_room : {A : Type 0} → (A → Bool) → List A → List A
with_room is_like kept = if nat_lt (length kept) TERMS then kept else remove kept (unwrap_or (position is_like kept) 0)

-- the key stands where it stood, or last, with no text
abbrev pub entered : Key → List Told → List Told
entered key stood =
    if list_any (is_for key) stood then stood else with_room (λ told. is_in key.group told.key) stood ++ (record { key = key; text = [] }) ∷ []

-- the key is marked where it was, or last
abbrev pub marked : Key → List Key → List Key
marked key resigned =
    if list_any (λ other. is_key other key) resigned then resigned else with_room (is_in key.group) resigned ++ key ∷ []

-- the greatest term of the group
abbrev pub latest : List ℕ → List Told → Option ℕ
latest group stood = reduce max (map (λ told. told.key.term) (filter (λ told. is_in group told.key) stood))

-- this text is told of the key
abbrev pub with_text : Key → List ℕ → List Told → List Told
with_text key text stood = by (position (is_for key) stood) where
  by : Option ℕ → List Told
  by None = stood
  by (Some at) = slice_set stood at (record { key = key; text = text })

-- this text is told of the greatest term of the group
abbrev pub with_latest : List ℕ → List ℕ → List Told → List Told
with_latest group text stood = by (latest group stood) where
  by : Option ℕ → List Told
  by None = stood
  by (Some term) = with_text (record { group = group; term = term }) text stood

-- what is told of the key, if it stands
abbrev pub text_of : Key → List Told → Option (List ℕ)
text_of key stood = option_map (λ told. told.text) (find (is_for key) stood)

-- the last text, or an empty one where there is none
abbrev pub last_in : {Z : Type 0} → List (String Z) → List ℕ
last_in texts = unwrap_or (option_map (λ text. string_bytes text) (last_or None texts)) []

-- the last text that is not empty
abbrev pub last_text : {Z : Type 0} → List (String Z) → List ℕ
last_text texts = last_in (filter (λ text. not (string_len text == 0)) texts)
