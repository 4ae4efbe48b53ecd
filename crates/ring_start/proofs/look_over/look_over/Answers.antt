use Rattle.std.proofs.Common.{length}
use Rattle.ring_start.specs.Fits.{found_as, history, IsKnown}
use Rattle.group_commit.proofs.Opening.{map_ok}
use Rattle.ring_start.proofs.Fits.{map_err, memory_alone}
use Rattle.ring_start.proofs.look_over.look_over.Goals as goal

pub returns-in-Ok-clause-fits : goal.returns-in-Ok-clause-fits
returns-in-Ok-clause-fits g c =
    map_ok c.look_at_leaders.result (λ leaders pasts are. record { links = c.in-Ok.ensures.fit pasts are; leaders = leaders pasts are }) c.look_at_leaders.ensures.fit

pub returns-in-Ok-clause-memory : goal.returns-in-Ok-clause-memory
returns-in-Ok-clause-memory g c pasts are fits =
    map_err c.look_at_leaders.result (λ fault cause. memory_alone (length c.args.ring.now) (IsKnown found_as (length c.args.ring.now) c.args.ring.now) (history found_as pasts c.args.ring.now) fault fits (cause pasts are)) c.look_at_leaders.ensures.apart

pub returns-in-Err-clause-memory : goal.returns-in-Err-clause-memory
returns-in-Err-clause-memory g c pasts are fits = memory_alone (length c.args.ring.now) (IsKnown found_as (length c.args.ring.now) c.args.ring.now) (history found_as pasts c.args.ring.now) _ fits (c.in-Err.ensures.apart pasts are)
