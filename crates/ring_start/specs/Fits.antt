-- The nodes of a ring as they were opened, and which of them do not fit.
use Rattle.std.specs.Prelude.{ℕ, ◌≡◌, ◌≢◌, ◌+◌, ◌-◌, ◌≤◌, ◌⊎◌, List, [], ◌++◌, length, slice_get, Option, Some, None}
use Rattle.std.specs.List.{Contains}
use Rattle.disk_model.specs.declared.device.Device.{Ghosts}
use Rattle.ring_records.specs.declared.candidate.Candidate.{Candidate}
use Rattle.ring_records.specs.declared.decision.Decision.{Decision}
use Rattle.ring_records.specs.declared.input.Input.{Input}
use Rattle.ring_records.specs.declared.key.Key.{Key}
use Rattle.ring_records.specs.declared.notice.Notice.{Notice}
use Rattle.ring_records.specs.declared.notice.Notice.TheVariants.{Decided}
use Rattle.ring_records.specs.declared.summary.Summary.{Summary}
use Rattle.ring_records.specs.Fitting.{LeadersFit, LinkFits, RingFits}
use Rattle.ring_records.specs.Leader.{leader}
use Rattle.ring_records.specs.Place.{after}
use Rattle.ring_records.specs.Summary.{empty}
use Rattle.group_commit.specs.Desk.{DeskKept}
use Rattle.group_commit.specs.Past.{IsPast}
use Rattle.node_store.specs.Node.{desk_of}
use Rattle.ring_start.specs.declared.found.Found.{Found}
use Rattle.ring_start.specs.declared.found.Found.TheVariants as found
use Rattle.ring_start.specs.declared.open_node.OpenNode.{OpenNode}
use Rattle.ring_start.specs.declared.ring_fault.RingFault.{RingFault}
use Rattle.ring_start.specs.declared.ring_fault.RingFault.TheVariants as fault

-- ---- the nodes

-- the place of an open node in the ring, from 1 on, and its desk
module _ {D : Type 0} {g : Ghosts D} where
  abbrev pub number_of : OpenNode D g → ℕ
  number_of opened = opened.number

  abbrev pub kept_by : OpenNode D g → DeskKept
  kept_by opened = desk_of opened.node

  -- the desk of a node as a start finds it: one that has no file has that of a new node
  abbrev pub found_as : Found D g → DeskKept
  found_as (found.There opened) = kept_by opened
  found_as (found.New new) = new.desk

-- a message of this number was not credited yet when its sender was opened, nor taken when the node behind it was
abbrev pub IsKnownTo : Summary → Summary → ℕ → Type 0
IsKnownTo own next place = (own.credit ≤ place) × (next.taken ≤ place)

-- a ring of which each node has a desk
module _ {A : Type 0} (desk_in : A → DeskKept) where
  -- they are nodes 1, 2, 3 and so on
  abbrev pub IsInOrder : List A → Type 0
  IsInOrder ring = (k : ℕ) (node : A) → slice_get ring k ≡ Some node → (desk_in node).view.member.node ≡ k + 1

  abbrev pub inputs_there : Option A → List Input
  inputs_there None = []
  inputs_there (Some node) = (desk_in node).view.state.inputs

  -- the inputs since its opening of node i, the i-th of them, all of them durable
  abbrev pub since : List A → ℕ → List Input
  since ring i = inputs_there (slice_get ring (i - 1))

  abbrev pub opening_there : Option A → Summary
  opening_there None = empty
  opening_there (Some node) = (desk_in node).opening

  -- what node i was opened with
  abbrev pub opening_of : List A → ℕ → Summary
  opening_of ring i = opening_there (slice_get ring (i - 1))

  -- of the messages from node i in a ring of n those that are known at both its ends have these numbers
  abbrev pub IsKnown : ℕ → List A → ℕ → ℕ → Type 0
  IsKnown n ring i = IsKnownTo (opening_of ring i) (opening_of ring (after n i))

  -- the opening of each node is the summary of its past: that of node i is pasts i
  abbrev pub ArePasts : (ℕ → List Input) → List A → Type 0
  ArePasts pasts ring = (k : ℕ) (node : A) → slice_get ring k ≡ Some node → IsPast (desk_in node).view.member (desk_in node).opening (pasts (k + 1))

  -- the whole history of node i with this past
  abbrev pub history : (ℕ → List Input) → List A → ℕ → List Input
  history pasts ring i = pasts i ++ since ring i

  -- ring fits, with these pasts
  abbrev pub FitsBehind : (ℕ → List Input) → ℕ → List A → Type 0
  FitsBehind pasts n ring = RingFits n (IsKnown n ring) (history pasts ring)

  -- Ring fits, whatever pasts its openings are summaries of.
  abbrev pub Fits : ℕ → List A → Type 0
  Fits n ring = (pasts : ℕ → List Input) → ArePasts pasts ring → FitsBehind pasts n ring

  -- So do its links,
  abbrev pub LinksFit : List A → Type 0
  LinksFit ring = (pasts : ℕ → List Input) → ArePasts pasts ring → (i : ℕ) → 1 ≤ i → i ≤ length ring
      → LinkFits (IsKnown (length ring) ring i) i (history pasts ring i) (history pasts ring (after (length ring) i))

  -- and what its nodes know of leaders.
  abbrev pub AllLeadersFit : List A → Type 0
  AllLeadersFit ring = (pasts : ℕ → List Input) → ArePasts pasts ring → (i j : ℕ) → 1 ≤ i → i ≤ length ring → 1 ≤ j → j ≤ length ring
      → LeadersFit i j (history pasts ring i) (history pasts ring j)

-- ---- leaders beside what is told

-- node i knows no leader for the key of a decision among these notices but the one that it tells
abbrev pub Agrees : ℕ → List Input → List Notice → Type 0
Agrees i h list = (told : Decision) (c : Candidate) → Contains list (Decided told) → leader i h told.key ≡ Some c → c ≡ told.leader

-- node i knows another leader than one of these decisions tells for its key
pub record Differs (i : ℕ) (h : List Input) (list : List Notice) : Type 0 where
  pub told : Decision
  pub other : Candidate
  pub among : Contains list (Decided told)
  pub known : leader i h told.key ≡ Some other
  pub differ : other ≢ told.leader

-- ---- two nodes that do not fit

-- node i sends to node j in a ring of n, and that link does not fit
pub record IsLinkApart (n : ℕ) (known : ℕ → Type 0) (i j : ℕ) (own next : List Input) : Type 0 where
  pub behind : j ≡ after n i
  pub unfit : LinkFits known i own next → ⊥

-- nodes i and j know different leaders for a key
pub record KnowTwo (i j : ℕ) (own other : List Input) : Type 0 where
  pub key : Key
  pub one : Candidate
  pub two : Candidate
  pub here : leader i own key ≡ Some one
  pub there : leader j other key ≡ Some two
  pub differ : one ≢ two

-- i and j are nodes of a ring of n that do not fit
pub record IsApart (n : ℕ) (known : ℕ → ℕ → Type 0) (history : ℕ → List Input) (i j : ℕ) : Type 0 where
  pub one : (1 ≤ i) × (i ≤ n)
  pub other : (1 ≤ j) × (j ≤ n)
  pub why : IsLinkApart n (known i) i j (history i) (history j) ⊎ KnowTwo i j (history i) (history j)

-- it names two nodes that do not fit, or tells that memory was wanting
abbrev pub IsCause : ℕ → (ℕ → ℕ → Type 0) → (ℕ → List Input) → RingFault → Type 0
IsCause n known history (fault.Apart i j) = IsApart n known history i j
IsCause n known history (fault.Memory why) = Unit {0}
IsCause n known history other = ⊥

-- so it does of this ring, whatever pasts its openings are summaries of
module _ {A : Type 0} (desk_in : A → DeskKept) where
  abbrev pub IsCauseOf : List A → RingFault → Type 0
  IsCauseOf ring why = (pasts : ℕ → List Input) → ArePasts desk_in pasts ring → IsCause (length ring) (IsKnown desk_in (length ring) ring) (history desk_in pasts ring) why

-- memory was wanting
abbrev pub IsMemory : RingFault → Type 0
IsMemory (fault.Memory why) = Unit {0}
IsMemory other = ⊥
