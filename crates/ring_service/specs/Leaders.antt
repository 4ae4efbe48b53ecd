-- The nodes of a ring whose hubs run, each with a flusher, and the leaders that they named. Node i is the i-th, from 1 on.
use Rattle.std.specs.Prelude.{ℕ, ◌≡◌, ◌≤◌, ◌⊎◌, List, ◌++◌, Some}
use Rattle.std.specs.List.{Contains}
use mathlib.Core.List.{IsPrefix}
use Rattle.ring_records.specs.declared.candidate.Candidate.{Candidate}
use Rattle.ring_records.specs.declared.input.Input.{Input}
use Rattle.ring_records.specs.declared.input.Input.TheVariants.{Take}
use Rattle.ring_records.specs.declared.key.Key.{Key}
use Rattle.ring_records.specs.declared.msg.Msg.{Msg}
use Rattle.ring_records.specs.declared.notice.Notice.{Notice}
use Rattle.ring_records.specs.declared.packet.Packet.{Packet}
use Rattle.ring_records.specs.declared.packet.Packet.TheVariants.{Carry}
use Rattle.ring_records.specs.declared.reply.Reply.{Reply}
use Rattle.ring_records.specs.declared.reply.Reply.TheVariants as replied
use Rattle.ring_records.specs.declared.request.Request.{Request}
use Rattle.ring_records.specs.declared.request.Request.TheVariants.{Who, Latest}
use Rattle.ring_records.specs.declared.summary.Summary.{Summary}
use Rattle.ring_records.specs.Answer.{Answered, PacketRests}
use Rattle.ring_records.specs.History.{taken}
use Rattle.ring_records.specs.Member.{Member}
use Rattle.ring_records.specs.Message.{candidate_of}
use Rattle.ring_records.specs.Place.{before}
use Rattle.ring_records.specs.Release.{notices}
use Rattle.group_commit.specs.Content.{IsContent}
use Rattle.group_commit.specs.Desk.{IsAnswer}
use Rattle.group_commit.specs.Past.{IsPast}
use Rattle.group_commit.specs.Next.{Durable, IsLawfulBehind}
use Rattle.ring_service.specs.Reads.{IsReadReply}
use Rattle.ring_service.specs.Rounds.{at_rest}

-- A node in one of its lives, from a start to the next: whose it is; the summary that its desk was opened with, and the past
-- that this is of; and what its flusher knows to be durable since.
pub record Life : Type 0 where
  pub member : Member
  pub opening : Summary
  pub past : List Input
  pub known : Durable

-- all its durable inputs, those of earlier lives first
abbrev pub history_of : Life → List Input
history_of life = life.past ++ life.known.inputs

-- It is that of node i of a ring of n, and what is durable is lawful, as what a flusher knows always is.
pub record IsLife (n i : ℕ) (life : Life) : Type 0 where
  pub node : life.member.node ≡ i
  pub ring : life.member.n ≡ n
  pub past : IsPast life.member life.opening life.past
  pub lawful : IsLawfulBehind life.member life.opening (at_rest life.known)

-- each node of the ring has one
abbrev pub AreLives : ℕ → (ℕ → Life) → Type 0
AreLives n lives = (i : ℕ) → 1 ≤ i → i ≤ n → IsLife n i (lives i)

-- a packet that the node may have released: it rests on a beginning of its durable inputs
pub record MayBeReleasedBy (life : Life) (packet : Packet) : Type 0 where
  pub begun : List Input
  pub begins : IsPrefix begun (history_of life)
  pub rests : PacketRests life.member.node begun packet

-- Each message that a node took came in a packet that the node before had released, and names a node, counted from 1.
pub record AreFromReleased (n : ℕ) (lives : ℕ → Life) : Type 0 where
  pub named : (i : ℕ) (m : Msg) → 1 ≤ i → i ≤ n → Contains (taken (history_of (lives i))) m → 1 ≤ (candidate_of m).node
  pub handed : (i msg_no : ℕ) (m : Msg) → 1 ≤ i → i ≤ n → Contains (history_of (lives i)) (Take msg_no m) → MayBeReleasedBy (lives (before n i)) (Carry msg_no m)

-- An earlier moment of a life, or of an earlier life of the same node: what was durable then is how all begins.
pub record IsEarlier (was life : Life) : Type 0 where
  pub node : was.member.node ≡ life.member.node
  pub ring : was.member.n ≡ life.member.n
  pub begins : IsPrefix (history_of was) (history_of life)

-- What the flusher told its board in this life: what the node knew by the inputs that were durable when the board was opened,
-- and then the notices of all that its rounds made durable since, in order.
pub record IsTold (life : Life) (told : List Notice) : Type 0 where
  pub first : List Input
  pub since : List Input
  pub inputs : first ++ since ≡ life.known.inputs
  pub opened : List Notice
  pub content : IsContent life.member.node (life.past ++ first) opened
  pub is : told ≡ opened ++ notices life.member.node (life.past ++ first) since

-- A reply of its hub: given out with a token of these inputs, with which what the flusher knows begins.
pub record IsReplied (life : Life) (question : Request) (reply : Reply) : Type 0 where
  pub begun : List Input
  pub covered : IsPrefix begun life.known.inputs
  pub given : Answered
  pub answer : IsAnswer life.member life.past begun given
  pub asked : given.question ≡ question
  pub says : given.answer.reply ≡ reply

-- A reply of a reader of its board, by the list that it saw, with which what the flusher told begins.
pub record IsReadFrom (life : Life) (question : Request) (reply : Reply) : Type 0 where
  pub told : List Notice
  pub by_flusher : IsTold life told
  pub seen : List Notice
  pub covered : IsPrefix seen told
  pub answer : IsReadReply seen question reply

-- the reply names c as the leader for the key: of the key that was asked for, or of the latest term of its group
abbrev pub Names : Request → Reply → Key → Candidate → Type 0
Names question reply key c =
    ((question ≡ Who key) × (reply ≡ replied.Leader (Some c))) ⊎ ((question ≡ Latest key.group) × (reply ≡ replied.Latest (Some (key.term, c))))

-- A reply of the node named c as the leader for the key: its hub gave it, or a reader of its board, in this life, up to now, or
-- in an earlier one.
pub record IsNamedBy (life : Life) (key : Key) (c : Candidate) : Type 0 where
  pub was : Life
  pub earlier : IsEarlier was life
  pub question : Request
  pub reply : Reply
  pub given : IsReplied was question reply ⊎ IsReadFrom was question reply
  pub names : Names question reply key c

-- some node of the ring did
pub record IsNamed (n : ℕ) (lives : ℕ → Life) (key : Key) (c : Candidate) : Type 0 where
  pub node : ℕ
  pub low : 1 ≤ node
  pub high : node ≤ n
  pub named : IsNamedBy (lives node) key c
