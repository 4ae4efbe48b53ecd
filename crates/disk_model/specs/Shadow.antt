-- What a `Shadow` shows.
use Rattle.std.specs.Prelude.{ℕ, Bool, List, length}
use Rattle.disk_model.specs.Old.{is_stamped, old_byte}
use Rattle.disk_model.specs.declared.shadow.Shadow.{Shadow}

abbrev pub room_of : Shadow → ℕ
room_of shadow = length shadow.bytes.items

-- this byte was written since the last sync
abbrev pub is_written : Shadow → ℕ → Bool
is_written shadow i = is_stamped shadow.stamps.items shadow.stretch i

-- what was there at the last sync, where these bytes are there now
abbrev pub byte_before : Shadow → List ℕ → ℕ → ℕ
byte_before shadow now i = old_byte shadow.stamps.items shadow.stretch shadow.bytes.items now i
