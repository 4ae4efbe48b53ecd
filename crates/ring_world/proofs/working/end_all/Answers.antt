use Rattle.ring_world.proofs.working.end_all.Goals as goal

pub loop-node-init : goal.loop-node-init
loop-node-init c = tt

pub loop-node-preserved : goal.loop-node-preserved
loop-node-preserved c = tt
