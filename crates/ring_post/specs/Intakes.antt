-- What an intake shows, and what it asks of the node next.
use Rattle.std.specs.Prelude.{ℕ, ◌≡◌, ◌<◌, Bool, false, List, Option, vec_len, vec_capacity}
use Rattle.ring_records.specs.declared.request.Request.{Request}
use Rattle.group_commit.specs.declared.ticket.Ticket.{Ticket}
use Rattle.ring_post.specs.declared.chronicle.Entry.{Entry}
use Rattle.ring_post.specs.declared.hand.Hand.{Hand}
use Rattle.ring_post.specs.declared.hand.Hand.TheVariants.{Empty}
use Rattle.ring_post.specs.declared.intake.Intake.{Intake}
use Rattle.ring_post.specs.declared.letter.RingPlace.{RingPlace}
use Rattle.ring_post.specs.Chronicles.{credit_heard, credit_told}

-- all that came to pass, the latest first
abbrev pub chronicle_of : Intake → List Entry
chronicle_of intake = intake.chronicle.entries

-- its tickets, the latest last
abbrev pub tickets_of : Intake → List Ticket
tickets_of intake = intake.tickets.items

-- what the node was asked whose reply is awaited
abbrev pub away_of : Intake → Option Request
away_of intake = intake.away

abbrev pub hand_of : Intake → Hand
hand_of intake = intake.hand

-- the node is asked for a message alone: no other is asked until it is done with
abbrev pub asks_alone : Intake → Bool
asks_alone intake = intake.is_alone

-- for the message at hand the node was told of the credits that were held back
abbrev pub has_told : Intake → Bool
has_told intake = intake.is_told

abbrev pub place_of : Intake → RingPlace
place_of intake = intake.place

-- the greatest credit that was heard, and the last one that the node was told
abbrev pub greatest_heard : Intake → ℕ
greatest_heard intake = credit_heard (chronicle_of intake)

abbrev pub last_told : Intake → ℕ
last_told intake = credit_told (chronicle_of intake)

-- it hears: no message is at hand, and none is asked for alone
abbrev pub IsFree : Intake → Type 0
IsFree intake = (hand_of intake ≡ Empty) × (asks_alone intake ≡ false)

-- there is room for one more ticket
abbrev pub HasRoom : Intake → Type 0
HasRoom intake = vec_len intake.tickets < vec_capacity intake.tickets
