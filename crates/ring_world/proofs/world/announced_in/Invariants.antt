use Rattle.std.proofs.Common.{◌≡◌, take}
use Rattle.std.specs.List.{filter_map}
use Rattle.ring_world.specs.Announced.{announced_by}
use Rattle.ring_world.proofs.world.announced_in.Given as goal

abbrev pub invariant-loop-event : goal.invariant-loop-event
invariant-loop-event l = l.list.items ≡ filter_map announced_by (take l.event-index l.events)
