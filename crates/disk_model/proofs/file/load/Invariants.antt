use Rattle.std.proofs.Common.{◌≡◌, ◌-◌}
use Rattle.disk_model.specs.Buffer as buffer
use Rattle.disk_model.proofs.file.load.Given as goal

abbrev pub invariant-loop-at : goal.invariant-loop-at
invariant-loop-at l = record {
  stable : (buffer.disk_of l.held).stable ≡ (buffer.disk_of l.initial.held).stable;
  limit : buffer.limit_of l.held ≡ buffer.limit_of l.initial.held;
}

abbrev pub decreases-loop-at : goal.decreases-loop-at
decreases-loop-at l = l.len - l.at
