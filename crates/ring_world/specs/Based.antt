-- What is promised of the things that were handed out, where room is counted from what an area of a journal stood for.
use Rattle.std.specs.Prelude.{ℕ, ◌≡◌, ◌<◌, ◌≤◌, List, length, take, Some}
use Rattle.ring_records.specs.declared.base.Base.{Base}
use Rattle.ring_records.specs.declared.input.Input.{Input}
use Rattle.ring_records.specs.Admission.{newest, oldest_area}
use Rattle.ring_records.specs.Lawful.{IsBaseOf}
use Rattle.ring_records.specs.Answer.{Answered, PacketRests}
use Rattle.ring_records.specs.Answering.{Answers}
use Rattle.ring_records.specs.Leader.{leader}
use Rattle.ring_records.specs.States.{NodeState}
use Rattle.ring_world.specs.Events.{Thing, Replied, Sent, Shown}
use Rattle.ring_world.specs.Start.{formatted}

-- What the journal of some version may stand for. In a layout that has no areas it stands for no input, as it was formatted.
pub record IsOfSomeVersion (base : Base) : Type 0 where
  pub least : 1 ≤ base.layout
  pub most : base.layout ≤ newest
  pub frames : base.layout < oldest_area → base ≡ formatted base.layout

-- At some point of h the answer was given, with room counted from what some version's journal may stand for there.
pub record WasAnswered (me n capacity : ℕ) (h : List Input) (a : Answered) : Type 0 where
  pub base : Base
  pub answers : Answers me n capacity base h a.question a.answer
  pub version : IsOfSomeVersion base
  pub based : IsBaseOf me base (take answers.before h)

-- The thing rests on these inputs, all of them: the request left them with this answer; they sent the message, or hold
-- as many takes as are credited; they decide the leader.
unfoldable pub Rests : ℕ → ℕ → ℕ → List Input → Thing → Type 0
Rests me n capacity h (Replied a) = (a.answer.number ≡ length h) × WasAnswered me n capacity h a
Rests me n capacity h (Sent packet) = PacketRests me h packet
Rests me n capacity h (Shown key c) = leader me h key ≡ Some c

-- The thing rests on the first `number` inputs of h.
pub record RestsOn (me n capacity : ℕ) (h : List Input) (number : ℕ) (thing : Thing) : Type 0 where
  pub within : number ≤ length h
  pub rests : Rests me n capacity (take number h) thing

-- What the thing rested on, at its release, were inputs that were durable at its node; they are durable now, and the
-- same.
pub record IsKept (me n capacity : ℕ) (thing : Thing) (at_release now : NodeState) : Type 0 where
  pub number : ℕ
  pub rested : RestsOn me n capacity at_release.inputs number thing
  pub was_durable : number ≤ at_release.durable
  pub is_durable : number ≤ now.durable
  pub same : take number now.inputs ≡ take number at_release.inputs
