-- Histories of worked rows: those of the nodes of the first election, and what one node did besides.
use Rattle.std.specs.Prelude.{ℕ, List, [], ◌∷◌, ◌++◌, codes}
use Rattle.ring_records.specs.declared.base.Base.{Base}
use Rattle.ring_records.specs.declared.candidate.Candidate.{Candidate}
use Rattle.ring_records.specs.declared.input.Input.{Input}
use Rattle.ring_records.specs.declared.input.Input.TheVariants.{Stand, Take, Acked, Retire}
use Rattle.ring_records.specs.declared.key.Key.{Key}
use Rattle.ring_records.specs.declared.msg.Msg.{Msg}
use Rattle.ring_records.specs.declared.msg.Msg.TheVariants.{Token, Elected}
use Rattle.ring_records.specs.declared.notice.Notice.{Notice}
use Rattle.ring_records.specs.declared.notice.Notice.TheVariants.{Decided}
use Rattle.ring_records.specs.Part.{part}
use Rattle.ring_records.specs.WorkedRetire.{red}
use Rattle.ring_records.specs.WorkedRun.{red_5, winner, first_election}

abbrev pub blue : ℕ → Key
blue term = record { group = codes "blue"; term = term }

-- the candidate of this bid and node
abbrev pub of : ℕ → ℕ → Candidate
of bid node = record { bid = bid; node = node }

-- ---- the first election: the tokens of nodes 1 to 3, and the news

abbrev pub token_1 : Msg
token_1 = Token red_5 (of 10 1)

abbrev pub token_2 : Msg
token_2 = Token red_5 winner

abbrev pub token_3 : Msg
token_3 = Token red_5 (of 20 3)

abbrev pub news : Msg
news = Elected red_5 winner

-- what a board is told
abbrev pub led_red_5 : Notice
led_red_5 = Decided (record { key = red_5; leader = winner })

-- what node 1 accepted, to which three of its messages are credited
abbrev pub node_1 : List Input
node_1 = part first_election 1 ++ Acked 3 ∷ []

abbrev pub node_2 : List Input
node_2 = part first_election 2

abbrev pub node_3 : List Input
node_3 = part first_election 3

-- ---- one node

-- node 1 stood; the same, credited; it was elected; it gave up the terms before

abbrev pub stood_5 : List Input
stood_5 = Stand red_5 10 ∷ []

abbrev pub credited : List Input
credited = stood_5 ++ Acked 1 ∷ []

abbrev pub led_9 : List Input
led_9 = Stand (red 9) 5 ∷ Take 0 (Token (red 9) (of 5 1)) ∷ []

abbrev pub gave_up : List Input
gave_up = led_9 ++ Retire (codes "red") 9 ∷ []

-- node 2 relayed, stood, and both of its messages are credited
abbrev pub counted : List Input
counted = Take 0 token_1 ∷ Stand (blue 1) 3 ∷ Acked 1 ∷ Acked 2 ∷ []

-- an area that stands for so many inputs by so many bytes; that of a new node for none by 42
abbrev pub area : ℕ → ℕ → Base
area inputs bytes = record { layout = 3; epoch = 1; inputs = inputs; bytes = bytes }
