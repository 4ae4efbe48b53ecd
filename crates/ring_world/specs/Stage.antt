-- What a world is seen as while it works, and when it has failed.
use Rattle.std.specs.Prelude.{true, []}
use Rattle.ring_world.specs.State.{State}
use Rattle.ring_world.specs.Worlds.{by_log}
use Rattle.ring_world.specs.declared.world.Stage.{Stage}
use Rattle.ring_world.specs.declared.world.Stage.TheVariants.{Working, Failed}

abbrev pub state_of : Stage → State
state_of (Working s) = s
state_of (Failed log) = by_log log true []
