-- What an accepted input brings, by what is known before it.
use Rattle.std.specs.Prelude.{ℕ, if◌then◌else◌, List, Option, Some, None, Result, Ok, Err}
use Rattle.std.specs.Option.{option_map}
use Rattle.ring_records.specs.declared.candidate.Candidate.{Candidate}
use Rattle.ring_records.specs.declared.input.Input.{Input}
use Rattle.ring_records.specs.declared.input.Input.TheVariants.{Stand, Take, Acked, Retire}
use Rattle.ring_records.specs.declared.key.Key.{Key}
use Rattle.ring_records.specs.declared.msg.Msg.{Msg}
use Rattle.ring_records.specs.declared.msg.Msg.TheVariants.{Token, Elected}
use Rattle.ring_records.specs.declared.notice.Notice.{Notice}
use Rattle.ring_records.specs.declared.notice.Notice.TheVariants.{Decided, Retired}
use Rattle.ring_records.specs.declared.packet.Packet.TheVariants.{Carry}
use Rattle.ring_records.specs.declared.refusal.Refusal.{Refusal}
use Rattle.ring_records.specs.declared.refusal.Refusal.TheVariants as refused
use Rattle.ring_records.specs.declared.summary.Summary.{Summary}
use Rattle.ring_records.specs.FloorOf.{floor_of, is_below_floor}
use Rattle.ring_records.specs.History.{floor, is_retired}
use Rattle.ring_records.specs.Known.{known_of, leader_of, sends}
use Rattle.ring_records.specs.Leader.{leader}
use Rattle.node_core.specs.declared.effects.Effects.{Effects}

-- what is told where this message is sent on
abbrev pub told_by : Option Msg → Option Notice
told_by None = None
told_by (Some (Token key candidate)) = None
told_by (Some (Elected key candidate)) = Some (Decided (record { key = key; leader = candidate }))

-- where this is sent, and so many were sent before
abbrev pub effects_of : ℕ → Option Msg → Effects
effects_of count on = record { carry = option_map (Carry count) on; notice = told_by on }

-- what is sent, and a floor that is given
abbrev pub brought : ℕ → Summary → Input → Effects
brought me s (Stand key bid) = effects_of s.sent (sends me s (Stand key bid))
brought me s (Take msg_no msg) = effects_of s.sent (sends me s (Take msg_no msg))
brought me s (Acked upto) = effects_of s.sent (sends me s (Acked upto))
brought me s (Retire group new) = record { carry = None; notice = Some (Retired group new) }

-- who leads for the key, or the floor that it is below: by what is known, and by the history
abbrev pub who_by : Summary → Key → Result (Option Candidate) Refusal
who_by s key = if is_below_floor s.floors key then Err (refused.Retired (floor_of s.floors key.group)) else Ok (leader_of (known_of s key))

abbrev pub who_after : ℕ → List Input → Key → Result (Option Candidate) Refusal
who_after me h key = if is_retired h key then Err (refused.Retired (floor h key.group)) else Ok (leader me h key)
