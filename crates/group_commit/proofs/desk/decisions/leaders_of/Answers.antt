use Rattle.std.proofs.Common.{◌++◌, ◌∙◌, [], take, sym, ap, arith}
use Rattle.std.specs.List.{cons_option, filter_map}
use Rattle.ring_records.specs.Notices.{decided_all}
use Rattle.ring_records.proofs.Lists.{filter_map-push}
use Rattle.ring_records.proofs.Iteration.{IsItem, take-item}
use Rattle.group_commit.specs.Leads.{led}
use Rattle.group_commit.proofs.Leaders.{all-push}
use Rattle.group_commit.proofs.desk.decisions.leaders_of.Goals as goal

pub loop-state-preserved : goal.loop-state-preserved
loop-state-preserved c =
    let states = c.args.states.now in
    let i = c.loop-state.state-index in
    let here : IsItem states i c.state-item.result = record { within = c.loop-state-test.true; is = c.state-item.is } in
    let within = c.loop-state-test.true in
    let more = c.push_notice.ensures.len in
    let room = c.loop-state.invariant.1 in
    let same = c.push_notice.ensures.capacity in (
      c.push_notice.ensures.items
          ∙ ((λ k. c.loop-state.invariant.0 k ++ cons_option (c.notice_of.ensures k) [])
          ∙ sym (ap decided_all (ap (filter_map led) (take-item states i c.state-item.result here) ∙ filter_map-push led (take i states) c.state-item.result) ∙ all-push (filter_map led (take i states)) (led c.state-item.result))),
      omega (arith, within, more, room, same),
    )
