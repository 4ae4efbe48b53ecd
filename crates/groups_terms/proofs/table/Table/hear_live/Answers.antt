use Rattle.std.proofs.Common.{ap, ◌∙◌}
use Rattle.std.specs.FinMap as map
use Rattle.groups_terms.specs.Table.{TableView, ballot_at, heard}
use Rattle.groups_terms.proofs.Tables.{hear_kept, put_seen}
use Rattle.groups_terms.proofs.table.Table.hear_live.Goals as goal

pub invariant_of-self-2 : goal.invariant_of-self-2
invariant_of-self-2 c = (
  hear_kept c.args.self.now _ _ c.self.inside.latest c.make_room.new.latest c.note.new.latest c.key-key.result c.known-ballot.result c.hear-on.new.ballot
      (ap (λ (t : TableView). t.ballots) c.self.view_is) c.self.invariant.0
      c.known-ballot.ensures c.make_room.ensures.same c.in_ok-put.ensures.ok c.hear-on.ensures.leader c.note.ensures,
  c.in_ok-put.ensures.terms c.self.invariant.1,
)

pub returns-clause-one_key : goal.returns-clause-one_key
returns-clause-one_key c =
    let me = ap (λ (t : TableView). t.me) c.self.view_is in
    let was = c.known-ballot.ensures ∙ ap (ballot_at c.args.self.now) c.key-key.ensures in
    put_seen c.args.self.now _ _ c.key-key.result c.hear-on.new.ballot (ap (λ (t : TableView). t.ballots) c.self.view_is) c.in_ok-put.ensures.ok
    ∙ (λ i. map.insert c.args.self.now.ballots (c.key-key.ensures i) ((c.hear-on.ensures.heard ∙ (λ j. heard (me j) (was j) c.args.msg.now)) i))
