-- The leaders that the replies of a ring named.
use Rattle.std.specs.Prelude.{ℕ, List, Option, Some, None}
use Rattle.std.specs.List.{Contains, filter_map}
use Rattle.ring_records.specs.declared.candidate.Candidate.{Candidate}
use Rattle.ring_records.specs.declared.input.Input.TheVariants.{Stand}
use Rattle.ring_records.specs.declared.key.Key.{Key}
use Rattle.ring_world.specs.Capacity.{committed, all_fresh}
use Rattle.ring_world.specs.Events.{Replied, Sent, Shown, Action, Submit, Launch, LaunchAll, Land, Release, Crash}
use Rattle.ring_world.specs.Released.{named_by}
use Rattle.ring_world.specs.Ring.{RingView}
use Rattle.ring_world.specs.declared.announced.Announced.{Announced}

abbrev pub announced_with : ℕ → Option (Key × Candidate) → Option Announced
announced_with node None = None
announced_with node (Some named) = Some (record { node = node; key = named.0; leader = named.1 })

-- the leader that the event names, where it is a released reply that names one
unfoldable pub announced_by : ℕ × Action → Option Announced
announced_by (node, Submit q) = None
announced_by (node, Launch) = None
announced_by (node, LaunchAll layout) = None
announced_by (node, Land) = None
announced_by (node, Release (Replied a)) = announced_with node (named_by a.question a.answer.reply)
announced_by (node, Release (Sent packet)) = None
announced_by (node, Release (Shown key c)) = None
announced_by (node, Crash keeps_flying) = None

-- those of all events, in order
abbrev pub announced : List (ℕ × Action) → List Announced
announced events = filter_map announced_by events

-- the candidate stands for the key in what became durable, as far as it was told
abbrev pub Stands : RingView → Key → Candidate → Type 0
Stands w key c = Contains (committed all_fresh w.size w.capacity w.told) (c.node, Stand key c.bid)
