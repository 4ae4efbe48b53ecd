-- Whether a node's history gives a reply that was released.
use Rattle.std.specs.Prelude.{ℕ, ◌≡◌, ◌+◌, ◌<◌, ◌≤◌, ◌⊎◌, List, take, slice_get, Option, Some, None}
use Rattle.ring_records.specs.declared.candidate.Candidate.{Candidate}
use Rattle.ring_records.specs.declared.input.Input.{Input}
use Rattle.ring_records.specs.declared.refusal.Refusal.{Refusal}
use Rattle.ring_records.specs.declared.refusal.Refusal.TheVariants as refused
use Rattle.ring_records.specs.declared.input.Input.TheVariants.{Stand, Take, Acked, Retire}
use Rattle.ring_records.specs.declared.reply.Reply.{Reply}
use Rattle.ring_records.specs.declared.reply.Reply.TheVariants as say
use Rattle.ring_records.specs.declared.request.Request.{Request}
use Rattle.ring_records.specs.declared.request.Request.TheVariants as ask
use Rattle.ring_records.specs.Admission.{fresh}
use Rattle.ring_records.specs.Answer.{Answer, Answered, input_of}
use Rattle.ring_records.specs.Answering.{answer}
use Rattle.ring_records.specs.Known.{Objects, leads_in}
use Rattle.ring_records.specs.Latest.{IsLatest}
use Rattle.ring_records.specs.Member.{Member}
use Rattle.node_core.specs.Brought.{who_by}
use Rattle.node_core.specs.FreeCore.{FreeView}
use Rattle.ring_records.specs.States.{NodeState}
use Rattle.group_commit.specs.Replying.{who_reply}

-- the reply that says that the input is accepted
unfoldable pub acceptance : Input → Reply
acceptance (Stand key bid) = say.Stood
acceptance (Take msg_no msg) = say.Taken
acceptance (Acked upto) = say.Acked
acceptance (Retire group floor) = say.Retired

-- the request asks the node to accept the input, and the reply says that it is accepted
pub record Accepts (q : Request) (reply : Reply) (x : Input) : Type 0 where
  pub asked : input_of q ≡ Some x
  pub says : reply ≡ acceptance x

-- this is input k of these, counted from 1
pub record IsInput (inputs : List Input) (k : ℕ) (x : Input) : Type 0 where
  pub before : ℕ
  pub number : k ≡ before + 1
  pub there : slice_get inputs before ≡ Some x

-- the reply accepts an input that is input k of these, k the answer's number
pub record IsAcceptance (inputs : List Input) (a : Answered) : Type 0 where
  pub input : Input
  pub accepts : Accepts a.question a.answer.reply input
  pub is_input : IsInput inputs a.answer.number input

-- a node that had no room gave this reply, where one of no capacity replies so
abbrev pub IsGiven : Reply → Reply → Type 0
IsGiven full reply = (reply ≡ full) ⊎ ((reply ≡ say.Refused refused.Limit) × (full ≡ say.Refused refused.Full))

-- what a node of no capacity with these first inputs answers to the request, so many
abbrev pub full_answer : Member → List Input → Answered → Answer
full_answer member inputs a = answer member.node member.n 0 fresh (take a.answer.number inputs) a.question

-- The history gives this answer to the request, and as many inputs as its number are durable: the reply accepts the last
-- of them, or they give the answer. Of the first inputs, which are summarised, no more is known than what they say together.
-- Room depends on where the journal's area began: so the answer is that of a node without room, where a Limit may stand for a
-- Full, since it is told where no further area may be written.
pub record IsVouched (member : Member) (first : ℕ) (s : NodeState) (a : Answered) : Type 0 where
  pub durable : a.answer.number ≤ s.durable
  pub from : first ≤ a.answer.number
  pub gives : ((first < a.answer.number) × IsAcceptance s.inputs a)
      ⊎ ((a.answer.number ≡ (full_answer member s.inputs a).number) × IsGiven (full_answer member s.inputs a).reply a.answer.reply)

-- ---- what a node without room replies

-- why it refuses an input, where this is known against it
abbrev pub refused_or_full : Option Refusal → Reply
refused_or_full None = say.Refused refused.Full
refused_or_full (Some refusal) = say.Refused refusal

-- to a request, by what it knows
abbrev pub RepliesFull : FreeView → Request → Reply → Type 0
RepliesFull core (ask.Stand key bid) reply = (o : Option Refusal) × Objects core.size core.known (Stand key bid) o × (reply ≡ refused_or_full o)
RepliesFull core (ask.Take msg_no msg) reply = (o : Option Refusal) × Objects core.size core.known (Take msg_no msg) o × (reply ≡ refused_or_full o)
RepliesFull core (ask.Acked upto) reply = (o : Option Refusal) × Objects core.size core.known (Acked upto) o × (reply ≡ refused_or_full o)
RepliesFull core (ask.Retire group floor) reply = (o : Option Refusal) × Objects core.size core.known (Retire group floor) o × (reply ≡ refused_or_full o)
RepliesFull core (ask.Who key) reply = reply ≡ who_reply (who_by core.known key)
RepliesFull core (ask.Latest group) reply = (led : Option (ℕ × Candidate)) × IsLatest (leads_in core.known group) led × (reply ≡ say.Latest led)
