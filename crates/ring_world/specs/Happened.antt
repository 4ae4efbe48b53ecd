-- What a stored event says.
use Rattle.ring_records.specs.Admission.{newest}
use Rattle.ring_world.specs.Events.{Replied, Sent, Action, Submit, Launch, LaunchAll, Land, Release, Crash}
use Rattle.ring_world.specs.Events as events
use Rattle.ring_world.specs.declared.happened.Deed.{Deed}
use Rattle.ring_world.specs.declared.happened.Deed.TheVariants as deed
use Rattle.ring_world.specs.declared.happened.Thing.{Thing}
use Rattle.ring_world.specs.declared.happened.Thing.TheVariants as thing

abbrev pub thing_of : Thing → events.Thing
thing_of (thing.Replied reply) = Replied reply
thing_of (thing.Sent packet) = Sent packet

abbrev pub action_of : Deed → Action
action_of (deed.Submit q) = Submit q
action_of deed.Launch = Launch
action_of deed.LaunchAll = LaunchAll newest
action_of deed.Land = Land
action_of (deed.Release t) = Release (thing_of t)
action_of (deed.Crash keeps_flying) = Crash keeps_flying
