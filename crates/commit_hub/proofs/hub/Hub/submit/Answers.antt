use Rattle.std.proofs.Common.{subst}
use Rattle.ring_records.specs.Member.{Member}
use Rattle.commit_hub.specs.Told.{IsUnasked}
use Rattle.commit_hub.proofs.Requests.{asks, one_more, unasked}
use Rattle.commit_hub.proofs.hub.Hub.submit.Goals as goal

pub returns-in-Err-clause-refusal : goal.returns-in-Err-clause-refusal
returns-in-Err-clause-refusal g c =
    let locked = c.deref_mut.result.now.locked in
    subst (λ (m : Member). IsUnasked m.n c.args.question c.in-Err.refusal) locked.of (unasked locked.shared.desk.view c.args.question c.in-Err.refusal c.in-Err.ensures.refusal)

pub returns-after-wakes-clause-question : goal.returns-after-wakes-clause-question
returns-after-wakes-clause-question g c = asks c.args.question _ _ _ c.in-Ok.ensures.submitted

pub returns-after-wakes-clause-more : goal.returns-after-wakes-clause-more
returns-after-wakes-clause-more g c = one_more c.args.question _ _ _ _ _ c.in-Ok.ensures.submitted c.in-Ok.ensures.counted
