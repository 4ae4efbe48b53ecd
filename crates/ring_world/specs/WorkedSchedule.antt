-- Schedules: an election of three nodes, one of two nodes with crashes, one with a Retire, and one of three nodes
-- whose journals three versions formatted.
use Rattle.std.specs.Prelude.{ℕ, true, false, nat_eq, if◌then◌else◌, List, [], ◌∷◌, ◌++◌, Some, codes}
use Rattle.ring_records.specs.declared.base.Base.{Base}
use Rattle.ring_records.specs.declared.candidate.Candidate.{Candidate}
use Rattle.ring_records.specs.declared.input.Input.{Input}
use Rattle.ring_records.specs.declared.input.Input.TheVariants.{Stand, Take}
use Rattle.ring_records.specs.declared.msg.Msg.{Msg}
use Rattle.ring_records.specs.declared.msg.Msg.TheVariants.{Token, Elected}
use Rattle.ring_records.specs.declared.packet.Packet.TheVariants.{Carry}
use Rattle.ring_records.specs.declared.reply.Reply.{Reply}
use Rattle.ring_records.specs.declared.reply.Reply.TheVariants as say
use Rattle.ring_records.specs.declared.request.Request.{Request}
use Rattle.ring_records.specs.declared.request.Request.TheVariants as ask
use Rattle.ring_records.specs.declared.refusal.Refusal.TheVariants as refused
use Rattle.ring_records.specs.Admission.{newest}
use Rattle.ring_records.specs.WorkedRetire as relay
use Rattle.ring_records.specs.WorkedRun.{red_5, winner}
use Rattle.ring_world.specs.Events.{Replied, Sent, Shown, Action, Submit, Launch, LaunchAll, Land, Release, Crash}

-- node i releases its reply to the request, which rests on so many inputs
abbrev pub replied : ℕ → Request → Reply → ℕ → ℕ × Action
replied i q reply number = (i, Release (Replied (record { question = q; answer = record { reply = reply; number = number } })))

-- node i is asked, and what it accepts is durable before it replies
abbrev pub settled : ℕ → Request → Reply → ℕ → List (ℕ × Action)
settled i q reply number = (i, Submit q) ∷ (i, Launch) ∷ (i, Land) ∷ replied i q reply number ∷ []

-- node i stands for the key, first of all
abbrev pub stood : ℕ → ℕ → List (ℕ × Action)
stood i bid = settled i (ask.Stand red_5 bid) say.Stood 1

-- a message goes from one node to the next, which takes it as the last of so many inputs
abbrev pub delivered : ℕ → ℕ → ℕ → Msg → ℕ → List (ℕ × Action)
delivered from to msg_no msg number = (from, Release (Sent (Carry msg_no msg))) ∷ settled to (ask.Take msg_no msg) say.Taken number

-- node i is asked who leads for the key, and says so: c, as it knows by so many inputs
abbrev pub told : ℕ → ℕ → Candidate → List (ℕ × Action)
told i number c = (i, Submit (ask.Who red_5)) ∷ replied i (ask.Who red_5) (say.Leader (Some c)) number ∷ []

-- What happens in an eager world in which three nodes stand for one key, every message is delivered, and each node says
-- who leads. At last a board of node 3 shows the leader; the nodes of a world have no board.
abbrev pub election_events : List (ℕ × Action)
election_events =
    stood 1 10
    ++ stood 2 30
    ++ stood 3 20
    ++ delivered 1 2 0 (Token red_5 (record { bid = 10; node = 1 })) 2
    ++ delivered 2 3 0 (Token red_5 winner) 2
    ++ delivered 3 1 0 (Token red_5 (record { bid = 20; node = 3 })) 2
    ++ delivered 1 2 1 (Token red_5 (record { bid = 20; node = 3 })) 3
    ++ delivered 3 1 1 (Token red_5 winner) 3
    ++ delivered 1 2 2 (Token red_5 winner) 4
    ++ delivered 2 3 1 (Elected red_5 winner) 3
    ++ delivered 3 1 2 (Elected red_5 winner) 4
    ++ delivered 1 2 3 (Elected red_5 winner) 5
    ++ told 1 4 winner
    ++ told 2 5 winner
    ++ told 3 3 winner
    ++ (3, Release (Shown red_5 winner)) ∷ []

-- the candidate that stands alone
abbrev pub alone : Candidate
alone = record { bid = 10; node = 1 }

-- Node 1 stands, and node 2 takes its token twice: it crashes while the first Take flies, which is lost, and again
-- while the second flies, which is kept. Then it sends the token on, and node 1 says that it leads. The Takes fly as a
-- batch, or as a checkpoint.
abbrev pub crash_events : Action → List (ℕ × Action)
crash_events launch =
    stood 1 10
    ++ (1, Release (Sent (Carry 0 (Token red_5 alone))))
    ∷ (2, Submit (ask.Take 0 (Token red_5 alone))) ∷ (2, launch) ∷ (2, Crash false)
    ∷ (2, Submit (ask.Take 0 (Token red_5 alone))) ∷ (2, launch) ∷ (2, Crash true)
    ∷ delivered 2 1 0 (Token red_5 alone) 2
    ++ told 1 2 alone

-- what became durable in it
abbrev pub crash_run : List (ℕ × Input)
crash_run = (1, Stand red_5 10) ∷ (2, Take 0 (Token red_5 alone)) ∷ (1, Take 0 (Token red_5 alone)) ∷ []

-- What becomes durable in the worked run with a Retire, one after the other. At last node 1, which retired the terms
-- below 9, says that it leads for term 9, and refuses to say who leads for term 4.
abbrev pub retire_events : List (ℕ × Action)
retire_events =
    settled 1 (ask.Stand (relay.red 9) 5) say.Stood 1
    ++ delivered 1 2 0 (Token (relay.red 9) relay.alone) 1
    ++ delivered 2 1 0 (Token (relay.red 9) relay.alone) 2
    ++ settled 1 (ask.Retire (codes "red") 9) say.Retired 3
    ++ settled 2 (ask.Stand (relay.red 4) 7) say.Stood 2
    ++ delivered 2 1 1 (Token (relay.red 4) (record { bid = 7; node = 2 })) 4
    ++ (1, Submit (ask.Who (relay.red 9))) ∷ replied 1 (ask.Who (relay.red 9)) (say.Leader (Some relay.alone)) 4
    ∷ (1, Submit (ask.Who (relay.red 4))) ∷ replied 1 (ask.Who (relay.red 4)) (say.Refused (refused.Retired 9)) 4
    ∷ []

-- what three versions formatted: frames alone at node 1, an area without floors at node 2, and an area of today at
-- node 3
abbrev pub three_layouts : ℕ → Base
three_layouts i =
    if nat_eq i 1
    then record { layout = 1; epoch = 0; inputs = 0; bytes = 0 }
    else (if nat_eq i 2 then record { layout = 2; epoch = 1; inputs = 0; bytes = 38 } else record { layout = 3; epoch = 1; inputs = 0; bytes = 42 })

-- Node 1 stands, its token goes round, and so does its Elected. When that comes home node 1 crashes twice while a
-- checkpoint of layout 2 flies, which is lost, and then kept; and once while one of the newest layout flies, which is
-- kept. Then each node says who leads.
abbrev pub layout_events : List (ℕ × Action)
layout_events =
    stood 1 10
    ++ delivered 1 2 0 (Token red_5 alone) 1
    ++ delivered 2 3 0 (Token red_5 alone) 1
    ++ delivered 3 1 0 (Token red_5 alone) 2
    ++ delivered 1 2 1 (Elected red_5 alone) 2
    ++ delivered 2 3 1 (Elected red_5 alone) 2
    ++ (3, Release (Sent (Carry 1 (Elected red_5 alone))))
    ∷ (1, Submit (ask.Take 1 (Elected red_5 alone))) ∷ (1, LaunchAll 2) ∷ (1, Crash false)
    ∷ (1, Submit (ask.Take 1 (Elected red_5 alone))) ∷ (1, LaunchAll 2) ∷ (1, Crash true)
    ∷ (1, LaunchAll newest) ∷ (1, Crash true)
    ∷ told 1 3 alone
    ++ told 2 2 alone
    ++ told 3 2 alone

-- what became durable in it
abbrev pub layout_run : List (ℕ × Input)
layout_run =
    (1, Stand red_5 10)
    ∷ (2, Take 0 (Token red_5 alone))
    ∷ (3, Take 0 (Token red_5 alone))
    ∷ (1, Take 0 (Token red_5 alone))
    ∷ (2, Take 1 (Elected red_5 alone))
    ∷ (3, Take 1 (Elected red_5 alone))
    ∷ (1, Take 1 (Elected red_5 alone))
    ∷ []
