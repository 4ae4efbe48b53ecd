use Rattle.std.proofs.Common.{rules, ◌≡◌, ◌<◌, ◌≤◌, ◌++◌, length, ◌∙◌, arith}
use Rattle.std.proofs.lemmas.Bool.{leb-true, le-leb}
use Rattle.ring_records.specs.Emission.{sent}
use Rattle.ring_records.specs.History.{credit, taken}
use Rattle.group_commit.proofs.Seen.{all_seen}
use Rattle.ring_start.proofs.look_over.counts_fit.Goals as goal

pub returns-then-credit-taken : goal.returns-then-credit-taken
returns-then-credit-taken c = λ past behind is next_is.
    let own = c.args.own.now in
    let next = c.args.next.now in
    let knows = all_seen past own is c.credit.ensures.known in
    let next_knows = all_seen behind next next_is c.taken.ensures.known in
    let credited : c.credit.result ≡ credit (past ++ own.view.state.inputs) = c.credit.ensures.value ∙ (λ i. (knows i).credit) in
    let took : c.taken.result ≡ length (taken (behind ++ next.view.state.inputs)) = c.taken.ensures.value ∙ (λ i. (next_knows i).taken) in
    let took_too : c.taken-then-credit-taken.result ≡ length (taken (behind ++ next.view.state.inputs)) = c.taken-then-credit-taken.ensures.value ∙ (λ i. (next_knows i).taken) in
    let sends : c.sent.result ≡ length (sent own.view.member.node (past ++ own.view.state.inputs)) = c.sent.ensures.value ∙ (λ i. (knows i).sent) in
    let within : c.credit.result ≤ c.taken.result = search rules in (
      λ t. record { credited = omega (arith, within, credited, took); sent = (let few = leb-true c.taken-then-credit-taken.result c.sent.result t in omega (arith, few, took_too, sends)) },
      λ fits. le-leb c.taken-then-credit-taken.result c.sent.result (omega (arith, fits.sent, took_too, sends)),
    )

pub returns-else-credit-taken : goal.returns-else-credit-taken
returns-else-credit-taken c = λ past behind is next_is.
    let own = c.args.own.now in
    let next = c.args.next.now in
    let knows = all_seen past own is c.credit.ensures.known in
    let next_knows = all_seen behind next next_is c.taken.ensures.known in
    let credited : c.credit.result ≡ credit (past ++ own.view.state.inputs) = c.credit.ensures.value ∙ (λ i. (knows i).credit) in
    let took : c.taken.result ≡ length (taken (behind ++ next.view.state.inputs)) = c.taken.ensures.value ∙ (λ i. (next_knows i).taken) in
    let over : c.taken.result < c.credit.result = search rules in (
      λ t. absurd (let low = leb-true c.credit.result c.taken.result t in omega (arith, low, over)),
      λ fits. le-leb c.credit.result c.taken.result (omega (arith, fits.credited, credited, took)),
    )
