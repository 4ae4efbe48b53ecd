-- What is promised of the things that were handed out.
use Rattle.std.specs.Prelude.{ℕ, ◌≡◌, ◌≤◌, List, take, Option, Some, None}
use Rattle.std.specs.List.{Contains}
use Rattle.ring_records.specs.declared.candidate.Candidate.{Candidate}
use Rattle.ring_records.specs.declared.key.Key.{Key}
use Rattle.ring_records.specs.declared.reply.Reply.{Reply}
use Rattle.ring_records.specs.declared.reply.Reply.TheVariants as say
use Rattle.ring_records.specs.declared.request.Request.{Request}
use Rattle.ring_records.specs.declared.request.Request.TheVariants as ask
use Rattle.ring_records.specs.States.{NodeState}
use Rattle.ring_world.specs.Events.{Thing, Replied, Sent, Shown, Action, Release, RoomRule}
use Rattle.ring_world.specs.Schedules.{RestsOn}

-- What the thing rested on, at its release, were inputs that were durable at its node; they are durable now, and the
-- same.
pub record IsKept (me n : ℕ) (room : RoomRule) (thing : Thing) (at_release now : NodeState) : Type 0 where
  pub number : ℕ
  pub rested : RestsOn me n room at_release.inputs number thing
  pub was_durable : number ≤ at_release.durable
  pub is_durable : number ≤ now.durable
  pub same : take number now.inputs ≡ take number at_release.inputs

-- the leader that a reply to the request names, with its key
unfoldable pub named_by : Request → Reply → Option (Key × Candidate)
named_by (ask.Who key) (say.Leader (Some c)) = Some (key, c)
named_by (ask.Latest group) (say.Latest (Some led)) = Some (record { group = group; term = led.0 }, led.1)
named_by q reply = None

-- the leader that the thing names, with its key
unfoldable pub named : Thing → Option (Key × Candidate)
named (Replied a) = named_by a.question a.answer.reply
named (Sent packet) = None
named (Shown key c) = Some (key, c)

-- some answer that was released, of a node or on a board, names c the leader for the key
pub record IsAnnounced (events : List (ℕ × Action)) (key : Key) (c : Candidate) : Type 0 where
  pub node : ℕ
  pub thing : Thing
  pub released : Contains events (node, Release thing)
  pub names : named thing ≡ Some (key, c)
