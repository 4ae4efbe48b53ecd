-- Whether the histories of a ring's nodes can be of one time. History i is that of node i, from 1 on.
use Rattle.std.specs.Prelude.{ℕ, ◌≡◌, ◌≤◌, List, length, slice_get, Some}
use Rattle.ring_records.specs.declared.candidate.Candidate.{Candidate}
use Rattle.ring_records.specs.declared.input.Input.{Input}
use Rattle.ring_records.specs.declared.key.Key.{Key}
use Rattle.ring_records.specs.declared.msg.Msg.{Msg}
use Rattle.ring_records.specs.Emission.{sent}
use Rattle.ring_records.specs.History.{taken, credit}
use Rattle.ring_records.specs.Leader.{leader}
use Rattle.ring_records.specs.Place.{after}

-- node i sent at least as many messages as the node behind it took, which took at least as many as node i knows to be taken
pub record CountsFit (i : ℕ) (own next : List Input) : Type 0 where
  pub credited : credit own ≤ length (taken next)
  pub sent : length (taken next) ≤ length (sent i own)

-- what the node behind node i took is what node i sent, where the message's number is known
abbrev pub MessagesFit : (ℕ → Type 0) → ℕ → List Input → List Input → Type 0
MessagesFit known i own next = (no : ℕ) (msg : Msg) → known no → slice_get (taken next) no ≡ Some msg → slice_get (sent i own) no ≡ Some msg

-- and both of them
pub record LinkFits (known : ℕ → Type 0) (i : ℕ) (own next : List Input) : Type 0 where
  pub counts : CountsFit i own next
  pub same : MessagesFit known i own next

-- nodes i and j know no different leaders for a key
abbrev pub LeadersFit : ℕ → ℕ → List Input → List Input → Type 0
LeadersFit i j own other = (key : Key) (c d : Candidate) → leader i own key ≡ Some c → leader j other key ≡ Some d → c ≡ d

-- The histories of a ring of n fit; of the messages from node i those are compared whose numbers are known.
pub record RingFits (n : ℕ) (known : ℕ → ℕ → Type 0) (history : ℕ → List Input) : Type 0 where
  pub links : (i : ℕ) → 1 ≤ i → i ≤ n → LinkFits (known i) i (history i) (history (after n i))
  pub leaders : (i j : ℕ) → 1 ≤ i → i ≤ n → 1 ≤ j → j ≤ n → LeadersFit i j (history i) (history j)
