use Rattle.std.proofs.Common.{◌≡◌, ◌++◌, ◌∙◌, List, ap, subst, sym}
use Rattle.std.specs.List.{filter_map}
use Rattle.ring_records.specs.declared.input.Input.{Input}
use Rattle.ring_records.specs.declared.key_state.KeyState.{KeyState}
use Rattle.ring_records.specs.Floors.{floor_keys}
use Rattle.ring_records.specs.Known.{after}
use Rattle.ring_records.specs.Notices.{decided_all}
use Rattle.ring_records.specs.States.{durable_in}
use Rattle.group_commit.specs.Content.{content_of, retired_all, IsContent}
use Rattle.group_commit.specs.Leads.{led, leaders_in}
use Rattle.group_commit.specs.Desk.{DeskKept, seen}
use Rattle.group_commit.specs.Past.{IsPast, shifted}
use Rattle.group_commit.proofs.Inside.{member_in, state_in}
use Rattle.group_commit.proofs.Leaders.{content-known}
use Rattle.group_commit.proofs.Past.{durable_knows}
use Rattle.group_commit.proofs.desk.Desk.decisions.Goals as goal

pub returns : goal.returns
returns c =
    let d = c.self.inside in
    let s = c.in_ok-known.known in
    let knows : s ≡ after d.node d.base (durable_in (state_in d)) = c.in_ok-known.ensures ∙ ap (λ (v : DeskKept). after v.view.member.node v.opening (durable_in v.view.state)) (sym c.self.view_is) in
    let listed : c.push_floors.new.notices.items ≡ content_of (leaders_in s) (floor_keys s.floors) = c.in_ok-push_floors.ensures
    ∙ (λ i. (c.in_ok-notices.ensures ∙ ap (λ (l : List KeyState). decided_all (filter_map led l)) (sym c.as_slice.ensures.values)) i ++ retired_all (sym c.as_slice-2.ensures.values i)) in
    subst (λ (v : DeskKept). (past : List Input) → IsPast v.view.member v.opening past → IsContent v.view.member.node (durable_in (seen past v).state) c.push_floors.new.notices.items) c.self.view_is (λ past is.
    content-known d.node s (durable_in (shifted past (state_in d))) _ (knows ∙ durable_knows (member_in d) d.base past (state_in d) is c.self.invariant.state) listed)
