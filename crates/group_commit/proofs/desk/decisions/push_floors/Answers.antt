use Rattle.std.proofs.Common.{rules, ◌≤◌, ◌++◌, ◌∷◌, ◌∙◌, [], List, length, take, ap, sym, append-nil, append_assoc, take_all}
use Rattle.ring_records.specs.declared.key.Key.{Key}
use Rattle.ring_records.specs.declared.notice.Notice.{Notice}
use Rattle.ring_records.proofs.Iteration.{IsItem, take-item}
use Rattle.group_commit.specs.Content.{retired_all}
use Rattle.group_commit.proofs.Leaders.{retired-push}
use Rattle.group_commit.proofs.desk.decisions.push_floors.Goals as goal

pub loop-floor-init : goal.loop-floor-init
loop-floor-init c = sym (append-nil c.args.notices.now.items)

pub loop-floor-preserved : goal.loop-floor-preserved
loop-floor-preserved c =
    let floors = c.args.floors.now in
    let i = c.loop-floor.floor-index in
    let here : IsItem floors i c.floor-item.result = record { within = c.loop-floor-test.true; is = c.floor-item.is } in
    c.in_ok-push.ensures.items
    ∙ (ap (λ (l : List Notice). l ++ retired_all (c.floor-item.result ∷ [])) c.loop-floor.invariant
    ∙ (append_assoc c.args.notices.now.items (retired_all (take i floors)) (retired_all (c.floor-item.result ∷ []))
    ∙ ap (λ (l : List Notice). c.args.notices.now.items ++ l) (sym (ap retired_all (take-item floors i c.floor-item.result here) ∙ retired-push (take i floors) c.floor-item.result))))

pub returns : goal.returns
returns c =
    let all : length c.args.floors.now ≤ c.loop-floor.floor-index = search rules in
    c.loop-floor.invariant ∙ ap (λ (l : List Key). c.args.notices.now.items ++ retired_all l) (take_all c.loop-floor.floor-index c.args.floors.now all)
