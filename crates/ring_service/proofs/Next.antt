-- What a hub launches, and the journal of its flusher takes.
use Rattle.std.proofs.Common.{◌≡◌, ◌+◌, ◌-◌, ◌≤◌, ℕ, List, ◌++◌, length, drop, Option, Some, None, refl, sym, ap, ◌∙◌, subst, arith, length-append}
use Rattle.std.proofs.lemmas.List.{drop_all}
use Rattle.std.proofs.lemmas.Option.{same_Some}
use Rattle.ring_records.specs.declared.input.Input.{Input}
use Rattle.ring_records.specs.declared.summary.Summary.{Summary}
use Rattle.ring_records.specs.Admission.{costs_of, used, newest}
use Rattle.ring_records.specs.Member.{Member}
use Rattle.ring_records.specs.Snapshot.{snapshot_len}
use Rattle.ring_records.proofs.Lists.{none≢some}
use Rattle.node_core.specs.Core.{IsNodeOf}
use Rattle.gated_journal.specs.Batch.{base_by, numbered_by, shown}
use Rattle.gated_journal.specs.Frames.{AreSuited}
use Rattle.gated_journal.specs.declared.work.Work.{Work}
use Rattle.gated_journal.specs.declared.work.Work.TheVariants as works
use Rattle.group_commit.specs.Next.{Durable, with_area, with_batch, flying_behind, IsLawfulBehind, IsNext}
use Rattle.gated_journal.specs.Works.{flown_by, summary_by}
use Rattle.group_commit.proofs.Costs.{used-joined}
use Rattle.group_commit.proofs.KeptInputs.{after-inputs}
use Rattle.gated_journal.specs.WorkTaken.{IsTaken, count_after, epoch_after, layout_after, room_after}
use Rattle.ring_service.specs.Rounds.{HasKnown, IsMade, known_behind}

-- a journal that has what is known to be durable takes it
pub takes : (member : Member) (opening : Summary) (known : Durable) (len room layout epoch : ℕ) (w : Work) → IsNodeOf member.n member.node → HasKnown member opening known len room layout epoch
    → IsNext member opening known w → IsTaken member len room layout epoch w
takes member opening known len room layout epoch (works.Batch batch) inside has next =
    (next.node, next.first ∙ sym has.count, (let fits = next.room in let left = has.left in omega (arith, fits, left)), subst (λ (k : ℕ). AreSuited k (shown batch).inputs) (sym has.form) next.suits)
takes member opening known len room layout epoch (works.Checkpoint made) inside has next = (
  next.node,
  next.first ∙ sym has.count,
  next.fits,
  next.sound inside,
  (let more = next.left in let at = has.area in omega (arith, more, at)),
)

-- and has its inputs more then, which a summary counts too
pub counts : (member : Member) (opening : Summary) (known : Durable) (len room layout epoch : ℕ) (w : Work) → HasKnown member opening known len room layout epoch
    → IsNext member opening known w → count_after (summary_by w) (length (flown_by w).inputs) len ≡ len + length (flown_by w).inputs
counts member opening known len room layout epoch (works.Batch batch) has next = refl
counts member opening known len room layout epoch (works.Checkpoint made) has next =
    let inputs = (numbered_by made).inputs in
    let all : (base_by made).inputs ≡ opening.inputs + length (known.inputs ++ inputs) = ap (λ (s : Summary). s.inputs) next.summary ∙ after-inputs member.node opening (known.inputs ++ inputs) in
    let count = has.count in omega (arith, all, count, length-append known.inputs inputs)

-- what it makes durable
pub makes : (member : Member) (opening : Summary) (known : Durable) (w : Work) → (summary_by w ≡ None → length (flown_by w).inputs ≤ 64)
    → IsNext member opening known w → IsMade member opening known (flown_by w).inputs (summary_by w)
makes member opening known (works.Batch batch) few next = record { few = few; summed = λ s e. none≢some s e; lawful = λ rest. next.lawful }
makes member opening known (works.Checkpoint made) few next = record {
  few = few;
  summed = λ s e. sym (same_Some (base_by made) s e) ∙ next.summary;
  lawful = λ rest. subst (λ (o : Option ℕ). IsLawfulBehind member opening (flying_behind known (numbered_by made).inputs o)) next.snapshot next.lawful;
}

-- what is known to be durable once it landed
pub knows : (member : Member) (opening : Summary) (known new : Durable) (w : Work) → IsNext member opening known w
    → ((flown_by w).snapshot ≡ None → new ≡ with_batch known (flown_by w).inputs) → ((bytes : ℕ) → (flown_by w).snapshot ≡ Some bytes → new ≡ with_area known (flown_by w).inputs bytes)
    → new ≡ known_behind (summary_by w) (flown_by w).inputs known
knows member opening known new (works.Batch batch) next plain anew = plain refl
knows member opening known new (works.Checkpoint made) next plain anew = anew (snapshot_len newest (base_by made)) next.snapshot

-- all that the area stands for takes no other bytes
alone : (known : Durable) (inputs : List Input) (bytes : ℕ) → used (with_area known inputs bytes).base (known.inputs ++ inputs) ≡ bytes
unfolding used
alone known inputs bytes = let none : costs_of (drop (length (known.inputs ++ inputs)) (known.inputs ++ inputs)) ≡ 0 = ap costs_of (drop_all (length (known.inputs ++ inputs)) (known.inputs ++ inputs) (omega arith)) in omega (arith, none)

-- and its journal has that
pub has : (member : Member) (opening : Summary) (known : Durable) (len room layout epoch : ℕ) (w : Work) → known.base.inputs ≤ length known.inputs → HasKnown member opening known len room layout epoch
    → IsNext member opening known w
    → HasKnown member opening (known_behind (summary_by w) (flown_by w).inputs known) (len + length (flown_by w).inputs)
    (room_after (flown_by w).snapshot member.capacity (costs_of (flown_by w).inputs) room) (layout_after (flown_by w).snapshot layout) (epoch_after (flown_by w).snapshot epoch)
has member opening known len room layout epoch (works.Batch batch) based before next =
    let inputs = (flown_by (works.Batch batch)).inputs in
    record {
      count = (let count = before.count in omega (arith, count, length-append known.inputs inputs));
      left = (let left = before.left in omega (arith, left, used-joined known.base known.inputs inputs based));
      form = before.form;
      area = before.area;
    }
has member opening known len room layout epoch (works.Checkpoint made) based before next =
    let inputs = (numbered_by made).inputs in
    record {
      count = (let count = before.count in omega (arith, count, length-append known.inputs inputs));
      left = ap (λ (o : Option ℕ). room_after o member.capacity (costs_of inputs) room) next.snapshot ∙ ap (λ k. member.capacity - k) (sym (alone known inputs (snapshot_len newest (base_by made))));
      form = ap (λ (o : Option ℕ). layout_after o layout) next.snapshot;
      area = ap (λ (o : Option ℕ). epoch_after o epoch) next.snapshot ∙ ap (λ k. k + 1) before.area;
    }
