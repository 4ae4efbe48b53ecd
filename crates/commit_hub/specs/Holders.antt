-- What the holders of a hub's shares count, what its tie knows, and what its tokens name.
use Rattle.std.specs.Prelude.{ℕ, ◌≡◌, ◌+◌, ◌⊎◌, List, length, Option, Some, None}
use Rattle.std.specs.List.{sum_by}
use Rattle.std.specs.declared.sync.ledger.Ledger as ledger
use Rattle.ring_records.specs.declared.input.Input.{Input}
use Rattle.ring_records.specs.declared.refusal.Refusal.{Refusal}
use Rattle.ring_records.specs.declared.refusal.Refusal.TheVariants as refused
use Rattle.group_commit.specs.Desk.{DeskKept}
use Rattle.commit_hub.specs.Over.{launch_refusal}
use Rattle.commit_hub.specs.declared.ledgers.NodeLedger as node
use Rattle.commit_hub.specs.declared.share.Begun.{Begun}
use Rattle.commit_hub.specs.declared.share.Share.{Share}
use Rattle.commit_hub.specs.declared.share.Tie.{Tie}
use Rattle.group_commit.specs.Next.{Durable}
use Rattle.commit_hub.specs.Ties.{TieView}

module _ {A : Type 0} {a : node.Ghosts A} where
  -- the inputs that its holder submitted and the desk accepted
  abbrev pub count_of : Share A a → ℕ
  count_of share = share.count

  -- of the desk's inputs, behind the first so many, the shares count each one
  abbrev pub AddUp : List (Share A a) → ℕ → DeskKept → Type 0
  AddUp shares first desk = desk.opening.inputs + length desk.view.state.inputs ≡ first + sum_by count_of shares

  module _ {la : ledger.Ghosts A} where
    -- what the tie knows of its hub
    abbrev pub view_by : Tie A a la → TieView
    view_by tie = tie.known.knows

    -- of that, what is durable
    abbrev pub known_by : Tie A a la → Durable
    known_by tie = (view_by tie).durable

    -- why its holder can launch nothing, before memory is asked for
    abbrev pub objection_to : Tie A a la → Option Refusal
    objection_to tie = launch_refusal (view_by tie).failed (view_by tie).flying

    -- why its holder launched nothing: that, or a growth was refused
    abbrev pub IsNotLaunched : Tie A a la → Refusal → Type 0
    IsNotLaunched tie why = (objection_to tie ≡ Some why) ⊎ ((objection_to tie ≡ None) × (why ≡ refused.OutOfMemory))

    -- the inputs since the desk's opening that the token speaks of
    abbrev pub begun_by : Begun A a la → List Input
    begun_by begun = begun.mark.inputs
