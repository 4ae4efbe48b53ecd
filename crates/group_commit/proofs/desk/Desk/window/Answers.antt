use Rattle.std.proofs.Common.{◌≡◌, ◌∙◌, List, subst}
use Rattle.ring_records.specs.declared.input.Input.{Input}
use Rattle.ring_records.specs.Release.{numbered, window}
use Rattle.ring_records.specs.States.{durable_in}
use Rattle.group_commit.specs.Desk.{DeskKept, seen}
use Rattle.group_commit.specs.Past.{IsPast}
use Rattle.group_commit.specs.Since.{IsKnownDesk}
use Rattle.group_commit.proofs.Inside.{member_in, state_in}
use Rattle.group_commit.proofs.Opening.{ok_so}
use Rattle.group_commit.proofs.Past.{durable_knows}
use Rattle.group_commit.proofs.desk.Desk.window.Goals as goal

pub returns-clause-packets : goal.returns-clause-packets
unfolding window
returns-clause-packets c =
    let d = c.self.inside in
    let keeps = c.self.invariant.holds.released in
    ok_so _ _ c.window.result (λ packets items.
    subst (λ (v : DeskKept). (past : List Input) → IsPast v.view.member v.opening past → packets.items ≡ window v.view.member.node (durable_in (seen past v).state)) c.self.view_is (λ past is.
    let known = durable_knows (member_in d) d.base past (state_in d) is c.self.invariant.state in
    items ∙ (λ i. numbered ((keeps.credited ∙ (λ j. (known j).credit)) i) ((keeps.window ∙ (λ j. (known j).window)) i)))) c.window.ensures

pub returns-clause-known : goal.returns-clause-known
returns-clause-known c = subst IsKnownDesk c.self.view_is c.self.invariant.state
