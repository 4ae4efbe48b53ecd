use Rattle.std.proofs.Common.{◌≡◌, ◌++◌, take}
use Rattle.std.specs.List.{flat_map}
use Rattle.ring_records.specs.Record.{key_bytes}
use Rattle.ring_records.proofs.snapshot.put_keys.Given as goal

abbrev pub invariant-loop-floor : goal.invariant-loop-floor
invariant-loop-floor l = l.out.items ≡ l.initial.out.items ++ flat_map key_bytes (take l.floor-index l.floors)
