use Rattle.ring_records.specs.Summary.{empty}
use Rattle.ring_records.proofs.Sound.{sound-empty}
use Rattle.node_core.proofs.Views.{new_known, restored_counted}
use Rattle.node_core.proofs.free.FreeCore.new.Goals as goal

pub invariant_of-result : goal.invariant_of-result
invariant_of-result c =
    restored_counted c.new.result.me c.args.n empty _ (new_known c.args.node c.new.result c.new-2.result.link c.new-3.result c.new.ensures c.new-2.ensures.credited c.new-2.ensures.window c.new-3.ensures) (sound-empty c.args.n)

pub returns : goal.returns
returns c = λ i. record {
  me = (c.new.ensures i).me;
  size = c.args.n;
  known = new_known c.args.node c.new.result c.new-2.result.link c.new-3.result c.new.ensures c.new-2.ensures.credited c.new-2.ensures.window c.new-3.ensures i;
}
