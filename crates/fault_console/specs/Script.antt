-- The lines that a script may print.
use Rattle.std.specs.Prelude.{◌≡◌, ℕ, Bool, nat_eq, if◌then◌else◌, List, [], ◌∷◌, ◌++◌, length, map, Option, Some, None, MatchBool, Result, Ok, Err, codes, unwrap_or}
use Rattle.std.specs.Fmt.{decimal}
use Rattle.std.specs.List.{list_any}
use Rattle.ring_records.specs.Objection.{where_so}
use Rattle.ring_records.specs.Lists.{or_else}
use Rattle.ring_records.specs.Serving.{shown_in}
use Rattle.ring_records.specs.Texts.{reply_text, refusal_text, shown_text}
use Rattle.ring_records.specs.declared.refusal.Refusal.{Refusal}
use Rattle.ring_records.specs.declared.refusal.Refusal.TheVariants.{Failed}
use Rattle.ring_records.specs.declared.reply.Reply.{Reply}
use Rattle.ring_records.specs.declared.shown.Shown.{Shown}
use Rattle.ring_world.specs.Capacity.{committed, state_after, all_fresh}
use Rattle.ring_world.specs.Dropped.{withheld}
use Rattle.ring_world.specs.State.{State, opened}
use Rattle.ring_world.specs.Step.{Told, Steps, refusal_of, no_node}
use Rattle.ring_world.specs.declared.event.Event.{Event}
use Rattle.ring_world.specs.declared.event.Event.TheVariants.{Submit, Flush, Deliver, DeliverAll, Credit, Crash, Stop, Checkpoint, StopCheckpoint}
use Rattle.line_words.specs.Forms.{line_says}
use Rattle.fault_console.specs.Commands.{is_silent, shapes, commands}
use Rattle.fault_console.specs.declared.commands.ConsoleCommand.{ConsoleCommand}
use Rattle.fault_console.specs.declared.commands.ConsoleCommand.TheVariants as ask
use Rattle.fault_console.specs.declared.commands.RingShape.{RingShape}

-- ---- the lines of a command

abbrev pub ring_line : ℕ → List ℕ
ring_line nodes = codes "ring " ++ decimal nodes

-- a ticket and its reply
abbrev pub reply_line : ℕ × Reply → List ℕ
reply_line answered = decimal answered.0 ++ codes ": " ++ reply_text answered.1

-- a ticket that rests on inputs which are not durable yet
abbrev pub sealed_line : ℕ → List ℕ
sealed_line ticket = decimal ticket ++ codes ": sealed"

-- a ticket that was open at a node which was opened again
abbrev pub lost_line : ℕ → List ℕ
lost_line ticket = decimal ticket ++ codes ": lost"

-- a node that was opened again, and how many inputs it holds
abbrev pub up_line : ℕ → ℕ → List ℕ
up_line node count = codes "up " ++ decimal node ++ codes " " ++ decimal count

abbrev pub flushed_line : ℕ → List ℕ
flushed_line count = codes "flushed " ++ decimal count

abbrev pub checkpointed_line : ℕ → List ℕ
checkpointed_line count = codes "checkpointed " ++ decimal count

abbrev pub delivered_line : ℕ → List ℕ
delivered_line count = codes "delivered " ++ decimal count

abbrev pub show_line : ℕ → Shown → List ℕ
show_line node v = codes "node " ++ decimal node ++ codes " " ++ shown_text v

-- an audit found the run of all inputs that became durable, so many
abbrev pub audit_line : ℕ → List ℕ
audit_line count = codes "audit ok " ++ decimal count

-- ---- the lines of an event

-- whether a reply answers the ticket
abbrev pub is_answered : ℕ → List (ℕ × Reply) → Bool
is_answered ticket replies = list_any (λ r. nat_eq r.0 ticket) replies

-- the ticket that an event took, where no reply answers it
abbrev pub sealed_of : Option ℕ → List (ℕ × Reply) → Option ℕ
sealed_of None replies = None
sealed_of (Some ticket) replies = if is_answered ticket replies then None else Some ticket

abbrev pub sealed_lines : Option ℕ → List (List ℕ)
sealed_lines None = []
sealed_lines (Some ticket) = sealed_line ticket ∷ []

abbrev pub asked_lines : Told → List (List ℕ)
asked_lines o = map reply_line o.replies ++ sealed_lines (sealed_of o.ticket o.replies)

abbrev pub flushed_lines : Told → List (List ℕ)
flushed_lines o = flushed_line (unwrap_or o.flushed 0) ∷ map reply_line o.replies

abbrev pub checkpointed_lines : Told → List (List ℕ)
checkpointed_lines o = checkpointed_line (unwrap_or o.flushed 0) ∷ map reply_line o.replies

abbrev pub reopened_lines : ℕ → Told → List (List ℕ)
reopened_lines node o = map lost_line o.lost ++ (up_line node (unwrap_or o.up 0) ∷ [])

-- what the event tells, in lines
abbrev pub lines_told : Event → Told → List (List ℕ)
lines_told (Submit node request) o = asked_lines o
lines_told (Flush node) o = flushed_lines o
lines_told (Deliver from message) o = asked_lines o
lines_told DeliverAll o = delivered_line (unwrap_or o.delivered 0) ∷ []
lines_told (Credit from upto) o = asked_lines o
lines_told (Crash node) o = reopened_lines node o
lines_told (Stop node call tear) o = reopened_lines node o
lines_told (Checkpoint node) o = checkpointed_lines o
lines_told (StopCheckpoint node call tear) o = reopened_lines node o

-- ---- what a world shows of a node

abbrev pub shown_at : State → ℕ → Shown
shown_at w node = shown_in node (state_after all_fresh w.ring.size w.ring.capacity w.ring.events node)

-- why it shows none
abbrev pub unshown : State → ℕ → Option Refusal
unshown w node = or_else (where_so w.ring.failed Failed) (no_node w node)

-- ---- what an audit of a world places

-- all inputs that became durable
abbrev pub placed_of : State → ℕ
placed_of w = length (committed all_fresh w.ring.size w.ring.capacity w.ring.events)

-- ---- the lines of a script

-- what may be printed, and the ring afterwards: none before it is made
abbrev pub Prints : Type 1
Prints = List (List ℕ) → Option State → Type 0

-- The refusal alone is printed, and the ring stays as it is.
abbrev pub Refuses : Option State → Refusal → Prints
Refuses ring refusal out next = (out ≡ refusal_text refusal ∷ []) × (next ≡ ring)

-- A ring is to be made: the fault of the line, or the ring's line, and it is new.
abbrev pub Opens : Result RingShape Refusal → Prints
Opens (Err refusal) out next = Refuses None refusal out next
Opens (Ok shape) out next = (out ≡ ring_line shape.nodes ∷ []) × (next ≡ Some (opened shape.nodes shape.eager shape.capacity))

-- An event of the world w: its refusal, where it has one, or the lines of what it tells, and where that leads.
abbrev pub Happens : State → Event → Option Refusal → Prints
Happens w event (Some refusal) out next = Refuses (Some w) refusal out next
Happens w event None out next = (told : Told) × (v : State) × Steps w event told v × (out ≡ lines_told event told) × (next ≡ Some v)

-- A node of the world w is to be shown: why it is not, or its line, and the ring stays as it is.
abbrev pub Shows : State → ℕ → Option Refusal → Prints
Shows w node (Some refusal) out next = Refuses (Some w) refusal out next
Shows w node None out next = (out ≡ show_line node (shown_at w node) ∷ []) × (next ≡ Some w)

-- The histories of the world w are to be audited: why they are not, or the audit's line, and the ring stays as it is.
abbrev pub Audits : State → Option Refusal → Prints
Audits w (Some refusal) out next = Refuses (Some w) refusal out next
Audits w None out next = (out ≡ audit_line (placed_of w) ∷ []) × (next ≡ Some w)

-- A command to the world w: the fault of the line, or an event, or a node to show, or an audit.
abbrev pub Obeys : State → Result ConsoleCommand Refusal → Prints
Obeys w (Err refusal) out next = Refuses (Some w) refusal out next
Obeys w (Ok (ask.Event event)) out next = Happens w event (refusal_of w event) out next
Obeys w (Ok (ask.Show node)) out next = Shows w node (unshown w node) out next
Obeys w (Ok ask.Audit) out next = Audits w (withheld w) out next

-- A line that is not silent makes the ring, or it is a command to its world.
abbrev pub Answers : Option State → List ℕ → Prints
Answers None line out next = Opens (line_says shapes line) out next
Answers (Some w) line out next = Obeys w (line_says (commands w.ring.size) line) out next

-- A line, read where the ring is this: a silent one prints nothing, and the ring stays as it is.
unfoldable pub LinePrints : Option State → List ℕ → Prints
LinePrints ring line out next = MatchBool (is_silent line) ((out ≡ []) × (next ≡ ring)) (Answers ring line out next)

-- Lines, one after the other: what the first prints, and behind it what the others print in the ring that it leads to.
abbrev pub MayPrint : Option State → List (List ℕ) → Prints
MayPrint ring [] out last = (out ≡ []) × (last ≡ ring)
MayPrint ring (line ∷ lines) out last = (first : List (List ℕ)) × (next : Option State) × (others : List (List ℕ))
    × LinePrints ring line first next × (out ≡ first ++ others) × MayPrint next lines others last
