-- What is left begins with the inputs that a token speaks of, and what rests on these rests on what is left.
use Rattle.std.proofs.Common.{ℕ, ◌≤◌, List, ◌++◌, append_assoc, length, take, sym, ◌∙◌, ap, subst}
use mathlib.Core.List.{IsPrefix}
use Rattle.disk_model.specs.declared.device.Device.{Ghosts}
use Rattle.disk_model.specs.Disk.{MayLeave, LeavesOnly}
use Rattle.disk_model.proofs.Moments.{weaken}
use Rattle.ring_records.specs.declared.input.Input.{Input}
use Rattle.ring_records.specs.declared.packet.Packet.{Packet}
use Rattle.ring_records.specs.declared.summary.Summary.{Summary}
use Rattle.ring_records.specs.Admission.{shortage}
use Rattle.ring_records.specs.Answer.{Answered, Answers, PacketRests}
use Rattle.ring_records.specs.Member.{Member}
use Rattle.ring_records.specs.States.{left_by}
use Rattle.ring_records.proofs.Prefixes.{prefix_shorter, prefix_trans}
use Rattle.ring_records.proofs.Resting.{rests-stay}
use Rattle.history_laws.proofs.Beginnings.{longer}
use Rattle.group_commit.specs.Desk.{IsAnswer}
use Rattle.group_commit.specs.Past.{shifted}
use Rattle.group_commit.specs.Next.{Durable}
use Rattle.ring_service.specs.Begun.{Begins}
use Rattle.ring_service.specs.Rounds.{at_rest, with_flying}
use Rattle.ring_service.specs.Series.{Round, AreRounds, IsCut, IsHeld, IsLeftBehind, device_behind, inputs_of, known_since}
use Rattle.ring_service.proofs.Resting.{begins_fly, begins_rest}
use Rattle.ring_service.proofs.Series.{all_inputs, any_moment, known_joined}

-- ---- beginnings

-- behind the past as well
pub prefix_behind : {A : Type 0} (past xs ys : List A) → IsPrefix xs ys → IsPrefix (past ++ xs) (past ++ ys)
prefix_behind past xs ys p = (p.0, append_assoc past xs p.0 ∙ ap (λ l. past ++ l) p.1)

-- rounds only add inputs
since_begins : {V : Type 0} (known : Durable) (rounds : List (Round V)) → IsPrefix known.inputs (known_since known rounds).inputs
since_begins known rounds = (inputs_of rounds, sym (all_inputs known rounds))

later_begins : {V : Type 0} (known : Durable) (before later : List (Round V)) → IsPrefix (known_since known before).inputs (known_since known (before ++ later)).inputs
later_begins known before later =
    subst (λ (k : Durable). IsPrefix (known_since known before).inputs k.inputs) (sym (known_joined known before later)) (since_begins (known_since known before) later)

pub known_sooner : {V : Type 0} (known : Durable) (before later : List (Round V)) (begun : List Input) → IsPrefix begun (known_since known (before ++ later)).inputs
    → length begun ≤ length (known_since known before).inputs → IsPrefix begun (known_since known before).inputs
known_sooner known before later begun p few =
    prefix_shorter begun (known_since known before).inputs (known_since known (before ++ later)).inputs p (later_begins known before later) few

-- ---- what is left

module _ {V : Type 0} (g : Ghosts V) (m : Member) (opening : Summary) where
  -- behind some rounds, at any moment of those after them
  pub begins_behind : ((device : V) (image : List ℕ) → g.left_since device (g.clock device) image → MayLeave (g.disk device) image)
      → (device : V) (known : Durable) (before later : List (Round V)) (begun : List Input) → IsHeld m opening (g.disk device) known
      → AreRounds g m opening device known (before ++ later) → IsPrefix begun (known_since known before).inputs
      → LeavesOnly g.clock g.left_since (device_behind device before) (device_behind device (before ++ later)) (Begins m opening begun)
  begins_behind only device known before later begun held each p =
      let was : Durable = known_since known before in
      weaken g.clock g.left_since (device_behind device before) (device_behind device (before ++ later)) (IsLeftBehind m opening was later) (Begins m opening begun)
      (λ image left past is.
      let some : Durable = known_since was (take left.count later) in
      record {
        state = shifted past (at_rest some);
        left = left.left.left past is;
        begins = λ keep.
            prefix_trans (past ++ begun) (past ++ some.inputs) (left_by keep (shifted past (at_rest some))).inputs
            (prefix_behind past begun some.inputs (prefix_trans begun was.inputs some.inputs p (since_begins was (take left.count later)))) (begins_rest past some keep);
      })
      (any_moment g m opening only device known before later held each)

  -- within a round that did not end
  pub begins_cut : (old new : V) (known : Durable) (begun : List Input) → IsPrefix begun known.inputs → IsCut g m opening old new known
      → LeavesOnly g.clock g.left_since old new (Begins m opening begun)
  begins_cut old new known begun p cut =
      weaken g.clock g.left_since old new _ (Begins m opening begun)
      (λ image left past is. record {
        state = shifted past (with_flying known cut.inputs cut.base);
        left = left.left past is;
        begins = λ keep.
            prefix_trans (past ++ begun) (past ++ known.inputs) (left_by keep (shifted past (with_flying known cut.inputs cut.base))).inputs
            (prefix_behind past begun known.inputs p) (begins_fly past known cut.base cut.inputs keep);
      })
      cut.any_moment

-- ---- what rests on them

-- an answer
pub answers_stay : (m : Member) (past begun l : List Input) (given : Answered) → IsPrefix (past ++ begun) l → (a : IsAnswer m past begun given)
    → Answers m.node m.n (shortage m.node m.capacity a.base) l given.question given.answer
answers_stay m past begun l given p a =
    subst (λ (h : List Input). Answers m.node m.n (shortage m.node m.capacity a.base) h given.question given.answer) p.1
    (longer m.node m.n (shortage m.node m.capacity a.base) (past ++ begun) given.question given.answer a.gives p.0)

-- a packet
pub packet_stays : (me : ℕ) (begun l : List Input) (packet : Packet) → IsPrefix begun l → PacketRests me begun packet → PacketRests me l packet
packet_stays me begun l packet p rests = subst (λ (h : List Input). PacketRests me h packet) p.1 (rests-stay me begun p.0 packet rests)
