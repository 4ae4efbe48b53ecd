use Rattle.std.proofs.Common.{inr, subst, ⊎_elim}
use Rattle.std.proofs.lemmas.Result.{IfErr-weaker}
use Rattle.ring_node.specs.declared.flight.Flight.{Flight}
use Rattle.ring_node.specs.Held.{MayFly}
use Rattle.ring_node.proofs.Flights.{both_err, short_alone, fault_alone}
use Rattle.node_store.proofs.Flight.{no_fault}
use Rattle.ring_node.proofs.flight.launch.Goals as goal

-- the area in use is of the newest layout, which holds each input
pub flush_batch-requires : goal.flush_batch-requires
flush_batch-requires c = record { plain = (subst (λ (f : Flight). MayFly f c.args.node.now.desk) c.in-Batch.is c.requires.free).1 }

-- Within its reach the device does not fail, so it is memory that was missing. Else it failed, and what was launched flies.
pub returns-in-Batch : goal.returns-in-Batch
returns-in-Batch c =
    let works = subst (λ (f : Flight). MayFly f c.args.node.now.desk) c.in-Batch.is c.requires.free in
    let called = c.flush_batch.ensures in
    rw c.in-Batch.is (record {
      next = called.next;
      count = called.count;
      packets = called.packets;
      failed = both_err c.flush_batch.result _ _ _ (λ why cause fault not_short. ⊎_elim fault (λ short. absurd (not_short short)) (cause.1 works.0)) called.cause called.fault;
      same = IfErr-weaker c.flush_batch.result _ _ (λ why same short. same (inr (inr (inr short)))) called.same;
      in_reach = λ reaches. both_err c.flush_batch.result _ _ _ (λ why cause within. ⊎_elim (λ fault. absurd (no_fault _ _ _ within fault)) (λ short. short) (cause.1 works.0)) called.cause (called.in_reach reaches);
      stays = called.stays;
      reach = called.reach;
    })

pub returns-in-Checkpoint : goal.returns-in-Checkpoint
returns-in-Checkpoint c =
    let free = subst (λ (f : Flight). MayFly f c.args.node.now.desk) c.in-Checkpoint.is c.requires.free in
    let called = c.checkpoint.ensures in
    rw c.in-Checkpoint.is (record {
      next = called.next;
      count = called.count;
      packets = called.packets;
      failed = both_err c.checkpoint.result _ _ _ (λ why cause fault not_short. fault (fault_alone free cause not_short)) called.cause called.fault;
      same = IfErr-weaker c.checkpoint.result _ _ (λ why same short. same (inr (inr (inr short)))) called.same;
      in_reach = λ reaches. both_err c.checkpoint.result _ _ _ (λ why cause within. short_alone free cause within) called.cause (called.in_reach reaches);
      stays = called.stays;
      reach = called.reach;
    })
