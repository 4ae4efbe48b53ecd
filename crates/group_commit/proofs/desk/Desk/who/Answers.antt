use Rattle.std.proofs.Common.{◌≡◌, ◌∙◌, sym, ap, subst}
use Rattle.node_core.specs.Brought.{who_by}
use Rattle.node_core.specs.Core.{CoreView}
use Rattle.group_commit.specs.Desk.{DeskKept, known_all}
use Rattle.group_commit.specs.Since.{IsKnownDesk}
use Rattle.group_commit.proofs.Past.{led_err, led_ok}
use Rattle.group_commit.proofs.desk.Desk.who.Goals as goal
use Rattle.group_commit.proofs.desk.Desk.who.Goals.{After-who}

-- what its core says, by what the desk knows
said : (c : After-who) → c.who.result ≡ who_by (known_all c.args.self.now) c.args.key.now
said c = c.who.ensures ∙ (ap (λ (v : CoreView). who_by v.known c.args.key.now) c.self.invariant.knows ∙ ap (λ (v : DeskKept). who_by (known_all v) c.args.key.now) c.self.view_is)

pub returns-in-Ok-clause-value : goal.returns-in-Ok-clause-value
returns-in-Ok-clause-value c = led_ok (known_all c.args.self.now) c.args.key.now c.in-Ok.leader (sym (said (goal.at.returns-in-Ok-clause-value c).After-who) ∙ c.in-Ok.is)

pub returns-in-Ok-clause-known : goal.returns-in-Ok-clause-known
returns-in-Ok-clause-known c = subst IsKnownDesk c.self.view_is c.self.invariant.state

pub returns-in-Err-clause-value : goal.returns-in-Err-clause-value
returns-in-Err-clause-value c = led_err (known_all c.args.self.now) c.args.key.now _ (sym (said (goal.at.returns-in-Err-clause-value c).After-who) ∙ c.in-Err.is)

pub returns-in-Err-clause-known : goal.returns-in-Err-clause-known
returns-in-Err-clause-known c = subst IsKnownDesk c.self.view_is c.self.invariant.state
