use Rattle.std.proofs.Common.{◌+◌, ◌++◌, List, length, below_more, arith}
use Rattle.ring_records.specs.declared.input.Input.{Input}
use Rattle.group_commit.specs.Desk.{DeskKept}
use Rattle.ring_start.specs.Fits.{found_as, opening_of, history}
use Rattle.ring_start.proofs.LinkFits.{End, fit, apart}
use Rattle.ring_start.proofs.look_over.look_at_links.Goals as goal

-- a desk as it is looked at, where this is its past
abbrev end_of : DeskKept → List Input → End
end_of desk past = record { node = desk.view.member.node; opening = desk.opening; history = past ++ desk.view.state.inputs }

pub returns-in-Ok-false-clause-apart : goal.returns-in-Ok-false-clause-apart
returns-in-Ok-false-clause-apart g c pasts are =
    let ring = c.args.ring.now in
    let own = c.desk_at.ensures in
    let next = c.desk_at-in-loop-place.ensures in
    let i = c.loop-place.place + 1 in
    let j = c.behind-next.result + 1 in
    let told = c.in-Ok-false.ensures (pasts i) (pasts j) (own.past pasts are) (next.past pasts are) in
    apart (length ring) (opening_of found_as ring) (history found_as pasts ring) (end_of c.desk_at.result.now (pasts i)) (end_of c.desk_at-in-loop-place.result.now (pasts j)) i j
    (λ t. record { node = own.number t; opening = own.opening t; history = pasts i ++ own.inputs t }) (λ t. record { node = next.number t; opening = next.opening t; history = pasts j ++ next.inputs t })
    c.behind-next.ensures.after _ _ c.number_at.ensures c.number_at-in-Ok-false.ensures (omega arith, omega arith) (omega arith, omega arith)
    (λ link. let no_fit = told.1 link in let told_false = c.in-Ok-false.field-0-test in cc)

pub loop-place-preserved : goal.loop-place-preserved
loop-place-preserved g c pasts are =
    let ring = c.args.ring.now in
    let own = c.desk_at.ensures in
    let next = c.desk_at-in-loop-place.ensures in
    let i = c.loop-place.place + 1 in
    let j = c.behind-next.result + 1 in
    let told = c.in-Ok-true.ensures (pasts i) (pasts j) (own.past pasts are) (next.past pasts are) in
    below_more _ _ (c.loop-place.invariant pasts are)
    (fit (length ring) (opening_of found_as ring) (history found_as pasts ring) (end_of c.desk_at.result.now (pasts i)) (end_of c.desk_at-in-loop-place.result.now (pasts j)) i j
    (λ t. record { node = own.number t; opening = own.opening t; history = pasts i ++ own.inputs t }) (λ t. record { node = next.number t; opening = next.opening t; history = pasts j ++ next.inputs t })
    c.behind-next.ensures.after (told.0 c.in-Ok-true.field-0-test))
