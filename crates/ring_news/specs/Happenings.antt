-- What has happened and is not told yet, and how much of it is told.
use Rattle.std.specs.Prelude.{ℕ, nat_lt, Bool, ◌&&◌, if◌then◌else◌, List, [], ◌∷◌, ◌++◌, length, Option, Some, None}
use Rattle.log_lines.specs.declared.quota.Quota.{Quota}
use Rattle.log_lines.specs.declared.quota.TheConstants.{MOST_LINES}
use Rattle.log_lines.specs.Quotas.{counted}
use Rattle.ring_news.specs.declared.event.Event.{Event}

-- whether what happens is told at all, what waits to be told, the first first, and how many more may be told in this second
pub record Happenings : Type 0 where
  pub is_asked : Bool
  pub waiting : List Event
  pub quota : Quota

abbrev pub none_yet : Bool → Happenings
none_yet is_asked = record { is_asked = is_asked; waiting = []; quota = record { free = MOST_LINES; left_out = 0; due = 0 } }

-- one more is told: that is asked for, as many are not told in this second yet, and as many do not wait
abbrev pub has_place : Happenings → Bool
has_place known = known.is_asked && (nat_lt 0 known.quota.free && nat_lt (length known.waiting) MOST_LINES)

-- behind one more that happens: it waits behind all others, or is left out
abbrev pub heard : Happenings → Event → Happenings
heard known event =
    if has_place known then record known { waiting = known.waiting ++ event ∷ []; quota = counted known.quota (has_place known) }
    else (if known.is_asked then record known { quota = counted known.quota (has_place known) } else known)

-- how many were left out before this second, where some were and it was not told
abbrev pub left_out : Quota → Option ℕ
left_out quota = if nat_lt 0 quota.due then Some quota.due else None
