-- The keys of a table, as a list and one by one.
use Rattle.std.proofs.Common.{List, [], ◌∷◌, ◌≡◌, ◌&&◌, refl, ap, String, Global, string_bytes}
use Rattle.std.specs.List.{list_all}
use Rattle.std.specs.Map.{keys_of}
use Rattle.toml.specs.declared.value.Value.{Value}
use Rattle.toml.specs.View.{members_view}
use Rattle.ring_service.specs.Settings.{is_setting, knows_all}

pub knows_each : (es : List (String Global × Value)) → list_all (λ key. is_setting (string_bytes key)) (keys_of es) ≡ knows_all (members_view es)
knows_each [] = refl
knows_each (e ∷ es) = ap (λ rest. is_setting (string_bytes e.0) && rest) (knows_each es)
