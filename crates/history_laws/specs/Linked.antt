-- Histories of a ring's nodes that fit link by link, and the leaders that their beginnings tell of. History i is that of
-- node i, from 1 on.
use Rattle.std.specs.Prelude.{ℕ, ◌≡◌, ◌≤◌, List, [], ◌++◌, Some}
use Rattle.std.specs.List.{Contains}
use Rattle.ring_records.specs.declared.candidate.Candidate.{Candidate}
use Rattle.ring_records.specs.declared.input.Input.{Input}
use Rattle.ring_records.specs.declared.input.Input.TheVariants.{Take}
use Rattle.ring_records.specs.declared.key.Key.{Key}
use Rattle.ring_records.specs.declared.msg.Msg.{Msg}
use Rattle.ring_records.specs.declared.packet.Packet.TheVariants.{Carry}
use Rattle.ring_records.specs.Allowed.{IsAllowed}
use Rattle.ring_records.specs.Answer.{PacketRests}
use Rattle.ring_records.specs.Emission.{sent}
use Rattle.ring_records.specs.History.{taken}
use Rattle.ring_records.specs.Leader.{leader}
use Rattle.ring_records.specs.Lists.{EachAfter}
use Rattle.ring_records.specs.Message.{candidate_of}
use Rattle.ring_records.specs.Place.{before}

-- Each history is allowed, whatever there is room for. Each message that a node took names a node, counted from 1, and was
-- sent by the node before. Of the order of messages and of credits nothing is asked.
pub record AreLinked (n : ℕ) (history : ℕ → List Input) : Type 0 where
  pub lawful : (i : ℕ) → 1 ≤ i → i ≤ n → EachAfter (IsAllowed i n) [] (history i)
  pub named : (i : ℕ) (m : Msg) → 1 ≤ i → i ≤ n → Contains (taken (history i)) m → 1 ≤ (candidate_of m).node
  pub linked : (i : ℕ) (m : Msg) → 1 ≤ i → i ≤ n → Contains (taken (history i)) m → Contains (sent (before n i) (history (before n i))) m

-- c leads for the key, as some node of the ring knows by a beginning of its history
pub record IsLeaderIn (n : ℕ) (history : ℕ → List Input) (key : Key) (c : Candidate) : Type 0 where
  pub node : ℕ
  pub low : 1 ≤ node
  pub high : node ≤ n
  pub inputs : List Input
  pub rest : List Input
  pub front : inputs ++ rest ≡ history node
  pub leads : leader node inputs key ≡ Some c

-- Each history is allowed, and messages name nodes, as above. Each message that a node took came in a packet that the node
-- before may have released: one that rests on a beginning of that node's history.
pub record AreHanded (n : ℕ) (history : ℕ → List Input) : Type 0 where
  pub lawful : (i : ℕ) → 1 ≤ i → i ≤ n → EachAfter (IsAllowed i n) [] (history i)
  pub named : (i : ℕ) (m : Msg) → 1 ≤ i → i ≤ n → Contains (taken (history i)) m → 1 ≤ (candidate_of m).node
  pub handed : (i msg_no : ℕ) (m : Msg) → 1 ≤ i → i ≤ n → Contains (history i) (Take msg_no m)
      → (begun : List Input) × (rest : List Input) × (begun ++ rest ≡ history (before n i)) × PacketRests (before n i) begun (Carry msg_no m)
