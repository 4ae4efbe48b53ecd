use Rattle.std.proofs.Common.{sym, ap, ◌∙◌, subst}
use Rattle.std.specs.List.Sorted.{IsStrictlySortedBy}
use Rattle.ring_records.specs.KeyStates.{keyed}
use Rattle.ring_records.specs.StateOrder.{by_state}
use Rattle.groups_terms.proofs.States.{sorted_states, all_told}
use Rattle.groups_terms.proofs.table.states_of.Goals as goal

pub from_sorted-requires : goal.from_sorted-requires
from_sorted-requires c =
    subst (IsStrictlySortedBy by_state) (sym (all_told c.loop-key.items.items _ c.args.ballots.now.entries c.loop-key.invariant c.in-None.ensures.steps.0))
    (sorted_states c.args.ballots.now.entries c.len.ensures.ordered)

pub returns : goal.returns
returns c = c.from_sorted.ensures ∙ ap keyed (all_told c.loop-key.items.items _ c.args.ballots.now.entries c.loop-key.invariant c.in-None.ensures.steps.0)
