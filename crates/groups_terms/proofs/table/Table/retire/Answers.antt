use Rattle.std.proofs.Common.{not, ap, ◌∙◌}
use Rattle.std.specs.FinMap as map
use Rattle.ring_records.specs.Known.{drops}
use Rattle.groups_terms.specs.Dropped.{states_by}
use Rattle.groups_terms.specs.Table.{TableView}
use Rattle.groups_terms.proofs.Dropping.{latest_under, states-retained, terms_retained}
use Rattle.groups_terms.proofs.table.Table.retire.Goals as goal

pub invariant_of-self-2 : goal.invariant_of-self-2
invariant_of-self-2 c = (
  latest_under c.args.self.now _ _ c.self.inside.latest c.args.group c.args.floor (ap (λ (t : TableView). t.ballots) c.self.view_is) c.drop_under.ensures.ballots c.requires c.self.invariant.0,
  terms_retained _ _ (λ key. not (drops c.args.group c.args.floor key)) c.drop_under.ensures.ballots c.self.invariant.1,
)

pub returns-clause-keys : goal.returns-clause-keys
returns-clause-keys c =
    ap states_by (c.drop_under.ensures.ballots ∙ ap (λ (t : TableView). map.retain_keys t.ballots (λ key. not (drops c.args.group c.args.floor key))) c.self.view_is)
    ∙ states-retained c.args.self.now.ballots (λ key. not (drops c.args.group c.args.floor key))
