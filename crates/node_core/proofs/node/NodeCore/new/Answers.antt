use Rattle.std.proofs.Common.{◌≡◌, ◌≤◌, [], false, sym, ap, ◌∙◌, subst, arith}
use Rattle.ring_records.specs.Admission.{newest, snapshot_len}
use Rattle.ring_records.specs.Summary.{empty}
use Rattle.ring_records.proofs.Counts.{used-each}
use Rattle.ring_records.proofs.Snapshots.{length-empty}
use Rattle.ring_records.proofs.Sound.{sound-empty, summary-none}
use Rattle.node_core.specs.FreeCore.{FreeView}
use Rattle.node_core.proofs.Retiring.{stood_count}
use Rattle.node_core.proofs.node.NodeCore.new.Goals as goal

pub invariant_of-result : goal.invariant_of-result
invariant_of-result c =
    let same : c.new.result.known ≡ empty = ap (λ (v : FreeView). v.known) c.new.ensures in
    let len = ap (snapshot_len newest) same ∙ length-empty newest (omega arith) in
    record { exact = sym len; within = subst (λ s. s.credit ≤ s.sent) (sym same) (omega arith); stood = subst (λ s. s.stands ≡ stood_count s.keys) (sym same) (sound-empty c.args.n).stands; short = omega arith; taken = omega arith }

pub returns-clause-empty : goal.returns-clause-empty
returns-clause-empty c = record {
  knows = ap (λ (v : FreeView). v.known) c.new.ensures ∙ sym (summary-none c.new.result.me);
  room = λ i. record { layout = newest; epoch = 1; taken = sym (used-each []) i; waits = false };
  within = omega arith;
}
