-- What a desk keeps to.
use Rattle.std.specs.Prelude.{ℕ, ◌≡◌, ◌+◌, ◌-◌, ◌<◌, List, [], ◌∷◌, drop, Option}
use Rattle.std.specs.Option.{option_map}
use Rattle.ring_records.specs.declared.base.Base.{Base}
use Rattle.ring_records.specs.declared.input.Input.{Input}
use Rattle.ring_records.specs.declared.summary.Summary.{Summary}
use Rattle.ring_records.specs.Admission.{newest}
use Rattle.ring_records.specs.Answer.{Answered}
use Rattle.ring_records.specs.Known.{after}
use Rattle.ring_records.specs.Member.{Member}
use Rattle.ring_records.specs.Snapshot.{IsSound}
use Rattle.ring_records.specs.States.{NodeState, durable_in}
use Rattle.node_core.specs.Core.{CoreView}
use Rattle.group_commit.specs.Desk.{IsAnswer}
use Rattle.group_commit.specs.Inputs.{IsKept}
use Rattle.group_commit.specs.Outbox.{Holds}
use Rattle.group_commit.specs.Past.{IsPast}
use Rattle.group_commit.specs.Since.{IsKnownState}
use Rattle.group_commit.specs.CoreOf.{core_in}
use Rattle.group_commit.specs.declared.inputs.Inputs.{Inputs}
use Rattle.group_commit.specs.declared.outbox.Outbox.{Outbox}

-- the number of each ticket is below this one
unfoldable pub AreBelow : ℕ → List (ℕ × Answered) → Type 0
AreBelow number [] = Unit {0}
AreBelow number (ticket ∷ tickets) = (ticket.0 < number) × AreBelow number tickets

-- each kept reply is one that the node gave, behind each past that it may have, by the inputs since its opening
unfoldable pub AreAnswers : Member → Summary → List Input → List (ℕ × Answered) → Type 0
AreAnswers member opening inputs [] = Unit {0}
AreAnswers member opening inputs (ticket ∷ tickets) =
    ((past : List Input) → IsPast member opening past → IsAnswer member past inputs ticket.1) × AreAnswers member opening inputs tickets

-- what the area behind this one stands for, which begins with a snapshot of so many inputs since the opening
abbrev pub area_behind : Base → ℕ → ℕ → Base
area_behind base inputs bytes = record { layout = newest; epoch = base.epoch + 1; inputs = inputs; bytes = bytes }

-- the state of a desk of which, where a snapshot of this length is pending, all that flies does as a checkpoint
abbrev pub state_with : Base → List Input → ℕ → ℕ → Option ℕ → NodeState
state_with base inputs durable flying pending = record {
  inputs = inputs;
  durable = durable;
  flying = flying;
  base = base;
  checkpoint = option_map (area_behind base flying) pending;
}

-- the outbox holds what node me may release, where these inputs are durable, and what those behind them bring
abbrev pub HoldsFor : ℕ → Outbox → Summary → List Input → List Input → ℕ → Type 0
HoldsFor me outbox opening durable rest flying = Holds me outbox (after me opening durable) rest flying

-- The summary of the opening is sound. The state is one that its node may be in since, and the core is the node's in that
-- state; the outbox holds what the durable inputs let the node release; of the inputs none is gone but what the area in use
-- stands for; no number of a ticket is given twice; and what is kept for a ticket is an answer that these inputs gave.
pub record IsDesk (core : CoreView) (outbox : Outbox) (inputs : Inputs) (m : Member) (opening : Summary) (s : NodeState) (tickets : List (ℕ × Answered)) (issued : ℕ) : Type 0 where
  pub sound : IsSound m.n opening
  pub knows : core ≡ core_in m opening s
  pub state : IsKnownState m opening s
  pub holds : HoldsFor m.node outbox opening (durable_in s) (drop s.durable s.inputs) (s.flying - s.durable)
  pub kept : IsKept m opening s inputs
  pub given : AreBelow issued tickets
  pub answers : AreAnswers m opening s.inputs tickets
