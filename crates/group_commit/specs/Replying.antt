-- What a core answers to a request.
use Rattle.std.specs.Prelude.{ℕ, ◌≡◌, [], Option, None, Result, Ok, Err}
use Rattle.std.specs.List.{cons_option}
use Rattle.ring_records.specs.declared.candidate.Candidate.{Candidate}
use Rattle.ring_records.specs.declared.input.Input.{Input}
use Rattle.ring_records.specs.declared.input.Input.TheVariants.{Stand, Take, Acked, Retire}
use Rattle.ring_records.specs.declared.refusal.Refusal.{Refusal}
use Rattle.ring_records.specs.declared.reply.Reply.{Reply}
use Rattle.ring_records.specs.declared.reply.Reply.TheVariants as say
use Rattle.ring_records.specs.declared.request.Request.{Request}
use Rattle.ring_records.specs.declared.request.Request.TheVariants as ask
use Rattle.ring_records.specs.Answer.{if_free, unless}
use Rattle.ring_records.specs.Known.{leads_in}
use Rattle.ring_records.specs.Latest.{IsLatest}
use Rattle.node_core.specs.Brought.{who_by}
use Rattle.node_core.specs.Core.{CoreView, Refuses}

-- to an input, to which the good reply is this: the reply, and the input where it is accepted
abbrev pub IsWeighed : CoreView → Input → Reply → Reply → Option Input → Type 0
IsWeighed core x good reply more = (o : Option Refusal) × Refuses core x o × (reply ≡ unless o good) × (cons_option more [] ≡ if_free o x)

-- the reply that tells who leads, or why that is not told
abbrev pub who_reply : Result (Option Candidate) Refusal → Reply
who_reply (Ok leader) = say.Leader leader
who_reply (Err refusal) = say.Refused refusal

-- to a request: the reply, and the input that it accepts
abbrev pub Replies : CoreView → Request → Reply → Option Input → Type 0
Replies core (ask.Stand key bid) reply more = IsWeighed core (Stand key bid) say.Stood reply more
Replies core (ask.Take msg_no msg) reply more = IsWeighed core (Take msg_no msg) say.Taken reply more
Replies core (ask.Acked upto) reply more = IsWeighed core (Acked upto) say.Acked reply more
Replies core (ask.Retire group floor) reply more = IsWeighed core (Retire group floor) say.Retired reply more
Replies core (ask.Who key) reply more = (reply ≡ who_reply (who_by core.known key)) × (more ≡ None)
Replies core (ask.Latest group) reply more = (led : Option (ℕ × Candidate)) × IsLatest (leads_in core.known group) led × (reply ≡ say.Latest led) × (more ≡ None)
