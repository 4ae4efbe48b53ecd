-- What holds of all nodes after any schedule, by the rule of room of this service.
use Rattle.std.proofs.Common.{ℕ, ◌≡◌, ◌≤◌, List, [], ◌∷◌, ◌++◌, take}
use Rattle.std.specs.List.{Contains}
use Rattle.ring_records.specs.declared.base.Base.{Base}
use Rattle.ring_records.specs.declared.input.Input.{Input}
use Rattle.ring_records.specs.declared.packet.Packet.{Packet}
use Rattle.ring_records.specs.Answer.{PacketRests}
use Rattle.ring_records.specs.Ring.{IsCarried, IsLegal}
use Rattle.ring_records.specs.Part.{part}
use Rattle.ring_records.proofs.Lists.{along}
use Rattle.ring_world.specs.Capacity.{within, process, state_after, committed}
use Rattle.ring_world.specs.Acts.{act, MayHappen}
use Rattle.ring_world.specs.Events.{Sent, Action, Release, Process}
use Rattle.ring_world.specs.Events as happening
use Rattle.ring_world.specs.CapacitySchedule.{IsSchedule}
use Rattle.ring_world.specs.Start.{IsFormatted}
use Rattle.ring_world.proofs.Lawful.{Sound, sound-new, sound-next}
use Rattle.ring_world.proofs.Schedules as scheduled

pub process-same : (start : ℕ → Base) (n capacity : ℕ) (events : List (ℕ × Action)) (j : ℕ) (a : Action) → process start n capacity (events ++ (j, a) ∷ []) j ≡ act j n capacity (process start n capacity events j) a
process-same start n capacity events j a = scheduled.process-same start n (within capacity) events j a

pub process-other : (start : ℕ → Base) (n capacity : ℕ) (events : List (ℕ × Action)) (j : ℕ) (a : Action) (i : ℕ) → (j ≡ i → ⊥) → process start n capacity (events ++ (j, a) ∷ []) i ≡ process start n capacity events i
process-other start n capacity events j a i ne = scheduled.process-other start n (within capacity) events j a i ne

-- its nodes are sound
abbrev AreSound : (ℕ → Base) → ℕ → ℕ → List (ℕ × Action) → Type 0
AreSound start n capacity events = (i : ℕ) → Sound i n capacity (process start n capacity events i)

sound_first : (start : ℕ → Base) (n capacity : ℕ) → ((i : ℕ) → IsFormatted (start i)) → AreSound start n capacity []
unfolding happening.process part
sound_first start n capacity formatted i = sound-new i n capacity (start i) (formatted i)

sound_next : (start : ℕ → Base) (n capacity : ℕ) (events : List (ℕ × Action)) (e : ℕ × Action) → MayHappen start n capacity events e → AreSound start n capacity events → AreSound start n capacity (events ++ e ∷ [])
sound_next start n capacity events e h sound =
    scheduled.by_node start n (within capacity) events e.0 e.1 (λ k p. Sound k n capacity p)
    (sound-next e.0 n capacity (process start n capacity events e.0) (sound e.0) events e.1 h.may) sound

pub record Holds (start : ℕ → Base) (n capacity : ℕ) (events : List (ℕ × Action)) : Type 0 where
  pub sound : AreSound start n capacity events
  pub parts : (i : ℕ) → part (committed start n capacity events) i ≡ take (state_after start n capacity events i).durable (state_after start n capacity events i).inputs
  pub carried : (i : ℕ) (x : Input) → Contains (state_after start n capacity events i).inputs x → IsCarried n (committed start n capacity events) i x

pub schedule_holds : (start : ℕ → Base) (n capacity : ℕ) (events : List (ℕ × Action)) → IsSchedule start n capacity events → Holds start n capacity events
schedule_holds start n capacity events l =
    let holds = scheduled.schedule_holds start n (within capacity) events l.each in
    record {
      sound = along (MayHappen start n capacity) (AreSound start n capacity) (sound_next start n capacity) [] events l.each (sound_first start n capacity l.formatted);
      parts = holds.parts;
      carried = holds.carried;
    }
