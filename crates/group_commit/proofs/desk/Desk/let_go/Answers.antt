use Rattle.std.proofs.Common.{rules, ◌≡◌, List, None, sym, subst}
use Rattle.ring_records.specs.declared.input.Input.{Input}
use Rattle.node_core.specs.Core.{IsNodeOf}
use Rattle.group_commit.specs.Desk.{DeskKept}
use Rattle.group_commit.specs.Inputs.{IsKept}
use Rattle.group_commit.specs.Kept.{IsDesk, state_with}
use Rattle.group_commit.proofs.Inside.{member_in, area_in}
use Rattle.group_commit.proofs.KeptInputs.{kept_gone}
use Rattle.group_commit.proofs.desk.Desk.let_go.Goals as goal
use Rattle.group_commit.proofs.desk.Desk.let_go.Goals.{After-let_go}

none_flies : (c : After-let_go) → c.self.inside.pending ≡ None
none_flies c = search rules

-- what it keeps then, and how many are gone
then_kept : (c : After-let_go)
    → IsKept (member_in c.self.inside) c.self.inside.base (state_with (area_in c.self.inside) c.self.inside.inputs.all.list c.self.inside.durable c.self.inside.flying c.self.inside.pending) c.let_go.new.self
    × (c.let_go.new.self.gone ≡ c.self.inside.summarised)
then_kept c =
    let d = c.self.inside in
    kept_gone (member_in d) d.base (area_in d) d.inputs.all.list d.durable d.flying d.pending d.inputs c.let_go.new.self (none_flies c)
    (subst (λ (v : DeskKept). IsNodeOf v.view.member.n v.view.member.node) (sym c.self.view_is) c.requires.inside)
    c.let_go.ensures.none c.let_go.ensures.some c.let_go.ensures.mark c.self.invariant.kept

pub invariant_of-self : goal.invariant_of-self
invariant_of-self c =
    let d = c.self.inside in
    let i = c.self.invariant in
    let all : d.inputs.all.list ≡ c.let_go.new.self.all.list = sym (λ k. (c.let_go.ensures.all k).list) in
    subst (λ (l : List Input). IsDesk d.core d.outbox c.let_go.new.self (member_in d) d.base (state_with (area_in d) l d.durable d.flying d.pending) d.tickets.entries d.issued) all
    (record {
      sound = i.sound;
      knows = i.knows;
      state = i.state;
      holds = i.holds;
      kept = (then_kept c).0;
      given = i.given;
      answers = i.answers;
    })
