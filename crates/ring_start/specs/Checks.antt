-- What an audit says of the nodes of a ring as they were opened.
use Rattle.std.specs.Prelude.{ℕ, ◌≡◌, ◌≤◌, ◌<◌, ◌+◌, List, length, map}
use Rattle.std.specs.List.{AllByRecursion}
use Rattle.ring_records.specs.declared.input.Input.{Input}
use Rattle.ring_records.specs.declared.key.Key.{Key}
use Rattle.ring_records.specs.declared.notice.Notice.{Notice}
use Rattle.ring_records.specs.declared.notice.Notice.TheVariants as tells
use Rattle.ring_audit.specs.Explained.{HasNoRun}
use Rattle.ring_audit.specs.Placement.{IsWhole}
use Rattle.ring_audit.specs.Placed.{IsStuck}
use Rattle.group_commit.specs.Desk.{DeskKept}
use Rattle.ring_start.specs.declared.check.Verdict.{Verdict}
use Rattle.ring_start.specs.declared.check.Verdict.TheVariants as says
use Rattle.ring_start.specs.Fits.{opening_of}

-- what a look at a ring ends with
abbrev pub status_of : Verdict → ℕ
status_of (says.Stuck node place) = 1
status_of (says.Whole count) = 0
status_of (says.Dropped node) = 0

-- the notice tells no leader of a later term of the key's group
abbrev pub IsNoLater : Key → Notice → Type 0
IsNoLater key (tells.Decided decision) = decision.key.group ≡ key.group → decision.key.term ≤ key.term
IsNoLater key (tells.Retired group floor) = Unit {0}

-- none of them does
abbrev pub AreNoLater : Key → List Notice → Type 0
AreNoLater key told = AllByRecursion (IsNoLater key) told

module _ {A : Type 0} (desk_in : A → DeskKept) where
  -- the inputs of each node since its opening
  abbrev pub histories : List A → List (List Input)
  histories ring = map (λ node. (desk_in node).view.state.inputs) ring

  -- the openings of the nodes before this one stand for no inputs
  abbrev pub AreWhole : List A → ℕ → Type 0
  AreWhole ring below = (i : ℕ) → 1 ≤ i → i < below → (opening_of desk_in ring i).inputs ≡ 0

  -- the opening of node i stands for inputs, and that of none before it
  pub record IsFirstDropped (ring : List A) (i : ℕ) : Type 0 where
    pub low : 1 ≤ i
    pub high : i ≤ length ring
    pub dropped : 0 < (opening_of desk_in ring i).inputs
    pub lowest : AreWhole ring i

  -- Where no opening stands for inputs, what the nodes hold can be told as one run, of so many inputs; or no run tells it,
  -- and this is the lowest node of which not all is placed.
  abbrev pub IsVerdict : List A → Verdict → Type 0
  IsVerdict ring (says.Whole count) = AreWhole ring (length ring + 1) × (run : List (ℕ × Input)) × IsWhole (histories ring) run × (count ≡ length run)
  IsVerdict ring (says.Stuck node place) = AreWhole ring (length ring + 1) × HasNoRun (histories ring) × IsStuck (histories ring) node place
  IsVerdict ring (says.Dropped node) = IsFirstDropped ring node
