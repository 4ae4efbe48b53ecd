-- What a desk is seen as, what its calls make of it, and why they are refused.
use Rattle.std.specs.Prelude.{ℕ, ◌≡◌, ◌<◌, ◌≤◌, ◌^◌, ◌⊎◌, ◌+◌, ◌-◌, ◌*◌, Bool, false, ◌&&◌, ◌||◌, if◌then◌else◌, List, [], ◌∷◌, ◌++◌, length, take, nat_eq, nat_le, nat_lt, Option, Some, None}
use Rattle.std.specs.List.{cons_option}
use Rattle.std.specs.Map.{lookup, remove_entry}
use Rattle.ring_records.specs.declared.base.Base.{Base}
use Rattle.ring_records.specs.declared.input.Input.{Input}
use Rattle.ring_records.specs.declared.refusal.Refusal.{Refusal}
use Rattle.ring_records.specs.declared.refusal.Refusal.TheVariants as refused
use Rattle.ring_records.specs.declared.request.Request.{Request}
use Rattle.ring_records.specs.declared.shown.Shown.{Shown}
use Rattle.ring_records.specs.declared.summary.Summary.{Summary}
use Rattle.ring_records.specs.Admission.{base_of, newest, used, shortage}
use Rattle.ring_records.specs.Lawful.{IsBaseOf, IsLawful}
pub use Rattle.ring_records.specs.Admission.{epochs}
use Rattle.ring_records.specs.Answer.{Answered, Answers}
use Rattle.ring_records.specs.Known.{after}
use Rattle.ring_records.specs.Member.{Member}
use Rattle.ring_records.specs.States as states
use Rattle.ring_records.specs.States.{NodeState, durable_in, launched_base, opened}
use Rattle.ring_records.specs.Serving.{answered_by, gained_by}
use Rattle.ring_records.specs.Outside.{is_outside}
use Rattle.ring_records.specs.Snapshot.{snapshot_len}
use Rattle.gated_journal.specs.Reading.{Reading}
use Rattle.node_core.specs.Core.{CoreView}
use Rattle.group_commit.specs.Opening.{opened_core}
use Rattle.group_commit.specs.Past.{IsPast, shifted}
use Rattle.group_commit.specs.Ticket.{TicketView, ticket_with}

-- Whose it is, and which opening of its node; what the node accepted, and how much of that is durable or flies; what is
-- kept for each open ticket, by the ticket's own number, in the order in which they were given; how many were given; and
-- whether it is closed, and whether it has failed.
pub record DeskView : Type 0 where
  pub member : Member
  pub run : ℕ
  pub state : NodeState
  pub tickets : List (ℕ × Answered)
  pub issued : ℕ
  pub closed : Bool
  pub failed : Bool

-- What a desk keeps: the summary that it was opened with, and what it shows of the inputs since. Its counts begin there. Of
-- the inputs since, so many of the first are gone: it knows them no more.
pub record DeskKept : Type 0 where
  pub opening : Summary
  pub view : DeskView
  pub gone : ℕ

-- what an area of this layout and epoch stands for, which begins with the summary, before the first input since
abbrev pub first_base : ℕ → ℕ → Summary → Base
first_base layout epoch opening = record (base_of layout epoch opening) { inputs = 0 }

-- just opened
abbrev pub new_desk : Member → ℕ → Reading → DeskKept
new_desk member run r = record {
  opening = r.base;
  view = record { member = member; run = run; state = opened (first_base r.layout r.epoch r.base) r.inputs; tickets = []; issued = 0; closed = false; failed = false };
  gone = 0;
}

-- what its node knows once all that it accepted is durable
abbrev pub known_all : DeskKept → Summary
known_all desk = after desk.view.member.node desk.opening desk.view.state.inputs

-- and what it knows by those that are durable
abbrev pub known_durable : DeskKept → Summary
known_durable desk = after desk.view.member.node desk.opening (durable_in desk.view.state)

-- what it shows by that: the counts of its inputs, those that are summarised among them, and how far the links are
abbrev pub shown_all : DeskKept → Shown
shown_all desk = record {
  inputs = desk.opening.inputs + length desk.view.state.inputs;
  durable = desk.opening.inputs + desk.view.state.durable;
  sent = (known_all desk).sent;
  taken = (known_all desk).taken;
  credit = (known_all desk).credit;
}

-- the core of the node before the first input since
abbrev pub core_of : Member → Reading → CoreView
core_of member r = opened_core member r.base (first_base r.layout r.epoch r.base)

-- what it shows of its whole history, where this is its past
abbrev pub seen : List Input → DeskKept → DeskView
seen past desk = record desk.view { state = shifted past desk.view.state }

-- what it answers to a request
abbrev pub answered : DeskView → Request → Answered
answered desk q = answered_by desk.member desk.state q

-- what is kept for the open ticket of this number
abbrev pub kept_at : DeskView → ℕ → Option Answered
kept_at desk own = lookup (nat_eq own) desk.tickets

-- an open ticket of this desk has the ticket's node, opening, own number and request, and this is kept for it
pub record IsHere (desk : DeskView) (ticket : TicketView) (kept : Answered) : Type 0 where
  pub node : ticket.node ≡ desk.member.node
  pub run : ticket.run ≡ desk.run
  pub own : kept_at desk ticket.own ≡ Some kept
  pub question : kept.question ≡ ticket.question

-- ---- what its calls make of it

-- what is kept for a new ticket, and the input that is accepted, if there is one
abbrev pub with_ticket : Answered → Option Input → DeskView → DeskView
with_ticket given more desk = record desk {
  state = record desk.state { inputs = desk.state.inputs ++ cons_option more [] };
  tickets = desk.tickets ++ (desk.issued, given) ∷ [];
  issued = desk.issued + 1;
}

-- It gave this ticket for the request: what it keeps for it is its answer, and it accepted what the history gains.
pub record IsSubmitted (q : Request) (old new : DeskKept) (ticket : TicketView) : Type 0 where
  pub given : Answered
  pub more : Option Input
  pub ticket_is : ticket ≡ ticket_with old.view.member.node old.view.run old.view.issued given
  pub question : given.question ≡ q
  pub number : given.answer.number ≡ old.opening.inputs + length (old.view.state.inputs ++ cons_option more [])
  pub next : new ≡ record old { view = with_ticket given more old.view }
  pub here : IsHere new.view ticket given
  pub answer : (past : List Input) → IsPast old.view.member old.opening past → (given ≡ answered (seen past old) q) × (cons_option more [] ≡ gained_by old.view.member (seen past old).state q)

-- the ticket of this number ended
abbrev pub ended : ℕ → DeskView → DeskView
ended own desk = record desk { tickets = remove_entry (nat_eq own) desk.tickets }

-- a batch flies
abbrev pub launched : DeskView → DeskView
launched desk = record desk { state = states.launched desk.state }

-- what flies is durable: a batch, or a checkpoint
abbrev pub landed : DeskView → DeskView
landed desk = record desk { state = states.landed desk.state }

-- ---- refusals

-- why no ticket is given, before memory is asked for: the desk takes none, the message is of no node of the ring, or all
-- numbers of tickets were given
abbrev pub objection : DeskView → Request → Option Refusal
objection desk q =
    if desk.closed || desk.failed then Some refused.Failed
    else (if is_outside desk.member.n q then Some refused.BadNumber
    else (if nat_le (2 ^ 60) desk.issued then Some refused.Limit
    else None))

-- a checkpoint is worth its calls: more than half of the capacity is taken, the snapshot takes a quarter at most, and the
-- journal may write one more area
abbrev pub is_due : DeskKept → Bool
is_due desk =
    nat_lt desk.view.member.capacity (2 * used (launched_base desk.view.state) desk.view.state.inputs)
    && (nat_le (4 * snapshot_len newest (known_all desk)) desk.view.member.capacity
    && nat_lt ((launched_base desk.view.state).epoch + 1) epochs)

-- A checkpoint frees room: what is taken, less the snapshot of all accepted inputs, is a sixteenth of the capacity at least, the
-- snapshot fits the capacity, and the journal may write one more area.
abbrev pub frees_room : DeskKept → Bool
frees_room desk =
    nat_le desk.view.member.capacity (16 * (used (launched_base desk.view.state) desk.view.state.inputs - snapshot_len newest (known_all desk)))
    && (nat_le (snapshot_len newest (known_all desk)) desk.view.member.capacity
    && nat_lt ((launched_base desk.view.state).epoch + 1) epochs)

-- ---- replies

-- At some point of its history, which is the past and then these inputs, and not before the past's end, the node gives this
-- answer to the request. Room is counted from an area that stands for the first of the inputs up to there, which are lawful by it.
pub record IsAnswer (member : Member) (past inputs : List Input) (a : Answered) : Type 0 where
  pub base : Base
  pub gives : Answers member.node member.n (shortage member.node member.capacity base) (past ++ inputs) a.question a.answer
  pub behind : length past ≤ gives.before
  pub based : IsBaseOf member.node base (take gives.before (past ++ inputs))
  pub lawful : IsLawful member.node member.n member.capacity base (take gives.before (past ++ inputs))

-- why its reply is not released: no such ticket is open here, or the reply rests on inputs that are not durable
pub record IsSealed (desk : DeskKept) (ticket : TicketView) (why : Refusal) : Type 0 where
  pub cause : ((why ≡ refused.Foreign) × ((kept : Answered) → IsHere desk.view ticket kept → ⊥))
      ⊎ ((kept : Answered) × IsHere desk.view ticket kept × (desk.opening.inputs + desk.view.state.durable < kept.answer.number) × (why ≡ (if desk.view.failed then refused.Failed else refused.Early)))
