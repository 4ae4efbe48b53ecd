use Rattle.std.proofs.Common.{◌≡◌, take}
use Rattle.ring_records.specs.Admission.{costs_of}
use Rattle.ring_records.proofs.input.costs_of.Given as goal

abbrev pub invariant-loop-input : goal.invariant-loop-input
invariant-loop-input l = l.costs ≡ costs_of (take l.input-index l.inputs)
