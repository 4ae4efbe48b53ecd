-- What flies of a node, a batch or a checkpoint, and what becomes of it.
use Rattle.std.proofs.Common.{◌≡◌, ◌⊎◌, ⊎_elim, inl, inr, ℕ, ◌+◌, ◌-◌, ◌<◌, ◌≤◌, Bool, true, false, ◌&&◌, List, [], ◌++◌, length, take, drop, Option, Some, None, refl, sym, ◌∙◌, ap, subst, arith, length-take, length-drop, length-append, if◌then◌else◌}
use Rattle.std.specs.Option.{option_map}
use Rattle.std.specs.Prelude.{nat_eq, nat_le, nat_lt, is_none, unwrap_or}
use Rattle.std.proofs.Math.Seq.{take-add}
use Rattle.std.proofs.lemmas.Bool.{eq-eqb}
use Rattle.std.proofs.lemmas.List.{take_all, drop_all, take-append-le, drop-append-le}
use Rattle.std.proofs.lemmas.Option.{same_Some}
use Rattle.disk_model.specs.declared.device.Device.{Ghosts}
use Rattle.disk_model.specs.Disk.{MayLeave}
use Rattle.ring_records.specs.declared.base.Base.{Base}
use Rattle.ring_records.specs.declared.input.Input.{Input}
use Rattle.ring_records.specs.declared.refusal.Refusal.{Refusal}
use Rattle.ring_records.specs.declared.refusal.Refusal.TheVariants as refused
use Rattle.ring_records.specs.declared.summary.Summary.{Summary}
use Rattle.ring_records.specs.Admission.{costs_of, newest, used}
use Rattle.ring_records.specs.Objection.{where_so}
use Rattle.ring_records.specs.Known.{after}
use Rattle.ring_records.specs.Lists.{or_else}
use Rattle.ring_records.specs.Member.{Member}
use Rattle.ring_records.specs.Snapshot.{IsSound, snapshot_len}
use Rattle.ring_records.specs.States.{NodeState, is_idle, launched, durable_in, flown_in, flying_in}
use Rattle.ring_records.specs.Lawful.{IsNodeState, IsLawfulState}
use Rattle.ring_records.proofs.Counts.{costs-joined}
use Rattle.ring_records.proofs.Lists.{none≢some}
use Rattle.ring_records.proofs.States.{lawful-launched, lawful-launched_all, lawful-landed, next-few}
use Rattle.gated_journal.specs.declared.batch.Batch.{Batch}
use Rattle.gated_journal.specs.declared.checkpoint.Checkpoint.{Checkpoint}
use Rattle.gated_journal.specs.declared.journal.Journal.{Journal}
use Rattle.gated_journal.specs.Areas.{AllReadAs, ReadsAsOneOf}
use Rattle.gated_journal.specs.Batch.{Numbered, numbered, numbered_with, numbered_by, base_by, shown}
use Rattle.gated_journal.specs.Journal.{device_of, member_of, len_of, room_of, layout_of, epoch_of, is_spoiled}
use Rattle.gated_journal.specs.Reading.{Reading, fresh_area, with_more}
use Rattle.gated_journal.specs.Unread.{IsFault}
use Rattle.node_core.specs.Core.{IsNodeOf}
use Rattle.group_commit.specs.Desk.{DeskKept, DeskView, known_all, epochs, seen}
use Rattle.group_commit.specs.DeskCalls.{IsFlying}
use Rattle.group_commit.specs.Launching.{next_area, launch_objection, checkpoint_objection}
use Rattle.group_commit.specs.Desk as desks
use Rattle.group_commit.specs.Launching as launching
use Rattle.group_commit.specs.Past.{moved, shifted}
use Rattle.group_commit.proofs.KeptInputs.{after-inputs}
use Rattle.group_commit.proofs.Past.{flying-shifted}
use Rattle.group_commit.proofs.Seen.{launched_shifted, landed_shifted, lawful_launched_all}
use Rattle.gated_journal.specs.declared.work.Work.{Work}
use Rattle.gated_journal.specs.declared.work.Work.TheVariants as work
use Rattle.node_store.specs.Flushed.{IsNotFlushed}
use Rattle.node_store.specs.Unbegun.{IsUnbegun}
use Rattle.node_store.specs.Standing.{Stands}
use Rattle.node_store.specs.Flying.{Flies}
use Rattle.node_store.specs.State.{MayBeLeft, area_with, durable_held, flown_held}
use Rattle.gated_journal.specs.Frames.{AreSuited}
use Rattle.gated_journal.specs.Works.{flown_by, reading_after, summary_by}
use Rattle.gated_journal.specs.WorkTaken.{count_after, epoch_after, layout_after, room_after}
use Rattle.node_store.proofs.Left.{may_be_left}

-- ---- why nothing is launched

-- a node of which something is launched has not failed
works_launched : (failed : Bool) (why : Refusal) (busy : Option Refusal) → (if failed then Some why else busy) ≡ None → failed ≡ false
works_launched true why busy free = absurd cc
works_launched false why busy free = refl

abbrev objection : Bool → Bool → Option Refusal
objection failed idle = if failed then Some refused.Failed else (if idle then None else Some refused.Busy)

-- where nothing flies while it works, a batch is refused where it has failed
failed_only : (failed idle : Bool) (why : Refusal) → (failed ≡ false → idle ≡ true) → objection failed idle ≡ Some why → (failed ≡ true) × (why ≡ refused.Failed)
failed_only true idle why free is = (refl, cc)
failed_only false true why free is = absurd cc
failed_only false false why free is = absurd (let never = free refl in cc)

-- and a checkpoint for its area or its snapshot too
objects_for : (o : Option Refusal) (few long : Bool) (why : Refusal) → or_else o (or_else (where_so few refused.Limit) (where_so long refused.Full)) ≡ Some why
    → (o ≡ Some why) ⊎ ((why ≡ refused.Limit) ⊎ (why ≡ refused.Full))
objects_for (Some other) few long why is = inl is
objects_for None true long why is = inr (inl cc)
objects_for None false true why is = inr (inr cc)
objects_for None false false why is = absurd cc

-- so the device did not fail
pub no_fault : (why : Refusal) (before now : ℕ) → IsUnbegun why → IsFault before now why → ⊥
no_fault why before now (inl e) fault = let is = fault.is in cc
no_fault why before now (inr (inl e)) fault = let is = fault.is in cc
no_fault why before now (inr (inr (inl e))) fault = let is = fault.is in cc
no_fault why before now (inr (inr (inr e))) fault = let is = fault.is in cc

-- ---- its inputs, and what they cost

-- what flies stands behind what is durable
flown : (s : NodeState) → IsNodeState s → durable_in s ++ flying_in s ≡ flown_in s
flown s counts =
    let sum : s.durable + (s.flying - s.durable) ≡ s.flying = omega (arith, counts.durable) in
    sym (take-add s.durable (s.flying - s.durable) s.inputs) ∙ ap (λ k. take k s.inputs) sum

flown_count : (s : NodeState) → IsNodeState s → s.durable + length (flying_in s) ≡ s.flying
flown_count s counts = omega (arith, counts.durable, counts.flying, length-take (s.flying - s.durable) (drop s.durable s.inputs), length-drop s.durable s.inputs)

-- the area in use stands for none of it
based : (s : NodeState) → IsNodeState s → s.base.inputs ≤ length (durable_in s)
based s counts = omega (arith, counts.based, counts.durable, counts.flying, length-take s.durable s.inputs)

-- so room is taken by each
flown_costs : (s : NodeState) → IsNodeState s → used s.base (flown_in s) ≡ used s.base (durable_in s) + costs_of (flying_in s)
unfolding used
flown_costs s counts =
    let rest = drop s.base.inputs (durable_in s) in
    let split : costs_of (drop s.base.inputs (flown_in s)) ≡ costs_of (rest ++ flying_in s) =
    ap (λ (l : List Input). costs_of (drop s.base.inputs l)) (sym (flown s counts)) ∙ ap costs_of (drop-append-le s.base.inputs (durable_in s) (flying_in s) (based s counts)) in
    omega (arith, costs-joined rest (flying_in s), split)

-- and by none for which the area stands
used-none : (b : Base) (l : List Input) → drop b.inputs l ≡ [] → used b l ≡ b.bytes
unfolding used
used-none b l none = let free : costs_of (drop b.inputs l) ≡ 0 = ap costs_of none in omega (arith, free)

-- nothing flies, behind a past too
idle_here : (s : NodeState) → s.flying ≡ s.durable → s.checkpoint ≡ None → is_idle s ≡ true
idle_here s idle none = (λ i. nat_eq (idle i) s.durable && is_none (none i)) ∙ ap (λ b. b && true) (eq-eqb s.durable s.durable refl)

idle_behind : (past : List Input) (s : NodeState) → s.flying ≡ s.durable → s.checkpoint ≡ None → is_idle (shifted past s) ≡ true
idle_behind past s idle none = idle_here (shifted past s) (ap (λ k. length past + k) idle) (ap (option_map (moved (length past))) none)

-- ---- where none waits

-- nothing flies then
pub none_behind : (past : List Input) (s : NodeState) → s.durable ≡ length s.inputs → flying_in (launched (shifted past s)) ≡ []
none_behind past s whole =
    ap flying_in (sym (launched_shifted past s))
    ∙ (flying-shifted past (launched s) ∙ ap (λ k. take k (drop s.durable s.inputs)) (let none : (launched s).flying - s.durable ≡ 0 = omega (arith, whole) in none))

-- ---- a node of which nothing flies

is_flying : (desk : DeskKept) (n : Numbered)
    → n ≡ numbered_with desk.view.member.node (desk.opening.inputs + desk.view.state.durable) (flying_in desk.view.state) (option_map (λ b. b.bytes) desk.view.state.checkpoint)
    → IsFlying desk n
is_flying desk n is = record { node = ap (λ (m : Numbered). m.node) is; first = ap (λ (m : Numbered). m.first) is; inputs = ap (λ (m : Numbered). m.inputs) is; snapshot = ap (λ (m : Numbered). m.snapshot) is }

module _ {D : Type 0} {g : Ghosts D} (desk : DeskKept) (journal : Journal D g) (stands : Stands desk journal) where
  failed_or : (why : Refusal) → launch_objection desk.view ≡ Some why → (desk.view.failed ≡ true) × (why ≡ refused.Failed)
  failed_or why is = failed_only desk.view.failed (is_idle desk.view.state) why (λ works. idle_here desk.view.state (stands.ready works).idle (stands.ready works).none) is

  pub launch_refused : (why : Refusal)
      → (launch_objection desk.view ≡ Some why) ⊎ ((launch_objection desk.view ≡ None) × (why ≡ refused.OutOfMemory)) → (why ≡ refused.Failed) ⊎ (why ≡ refused.OutOfMemory)
  launch_refused why is = ⊎_elim (λ told. inl (failed_or why told).1) (λ short. inr short.1) is

  pub not_launched : (why : Refusal) (before now : ℕ)
      → (launch_objection desk.view ≡ Some why) ⊎ ((launch_objection desk.view ≡ None) × (why ≡ refused.OutOfMemory)) → IsNotFlushed desk.view.failed before now why
  not_launched why before now (inl told) = let is = failed_or why told in (λ failed. is.1, λ works. let never = sym is.0 ∙ works in absurd cc)
  not_launched why before now (inr short) =
      (λ failed. let never = sym failed ∙ works_launched desk.view.failed refused.Failed (if is_idle desk.view.state then None else Some refused.Busy) short.0 in absurd cc, λ works. inr short.1)

  pub objects : (why : Refusal) → checkpoint_objection desk ≡ Some why → ((desk.view.failed ≡ true) × (why ≡ refused.Failed)) ⊎ ((why ≡ refused.Limit) ⊎ (why ≡ refused.Full))
  objects why is = ⊎_elim (λ told. inl (failed_or why told)) (λ other. inr other)
      (objects_for (launch_objection desk.view) (nat_le epochs (desk.view.state.base.epoch + 1)) (nat_lt desk.view.member.capacity (snapshot_len newest (known_all desk))) why is)

  pub unbegun : (why : Refusal) → (checkpoint_objection desk ≡ Some why) ⊎ ((checkpoint_objection desk ≡ None) × (why ≡ refused.OutOfMemory)) → IsUnbegun why
  unbegun why (inl told) = ⊎_elim (λ failed. inl failed.1) (λ other. inr (⊎_elim (λ few. inl few) (λ long. inr (inl long)) other)) (objects why told)
  unbegun why (inr short) = inr (inr (inr short.1))

  -- while it works, nothing more is held with what flies, so its images hold the durable inputs
  rests : desk.view.failed ≡ false → durable_held desk ≡ flown_held desk
  rests works =
      let ready = stands.ready works in
      λ i. area_with desk (unwrap_or (sym ready.none i) desk.view.state.base) (take (sym ready.idle i) desk.view.state.inputs)

  all : desk.view.failed ≡ false → AllReadAs (member_of journal) (g.disk (device_of journal)) (durable_held desk)
  all works image left = ⊎_elim (λ old. old) (λ new. absurd (new.0 (rests works))) (stands.holds image left)

  pub durable_all : desk.view.failed ≡ false → AllReadAs desk.view.member (g.disk (device_of journal)) (durable_held desk)
  durable_all works = rw stands.named at (all works)

  module _ (free : launch_objection desk.view ≡ None) where
    abbrev s : NodeState
    s = desk.view.state

    abbrev m : Member
    m = desk.view.member

    abbrev first : ℕ
    first = desk.opening.inputs + s.durable

    pub works : desk.view.failed ≡ false
    works = works_launched desk.view.failed refused.Failed (if is_idle s then None else Some refused.Busy) free

    -- where none waits, the desk is as it was
    pub none_launched : s.durable ≡ length s.inputs → record desk { view = desks.launched desk.view } ≡ desk
    none_launched whole =
        let flying : (launched s).flying ≡ s.flying = omega (arith, whole, (stands.ready works).idle) in
        λ i. record desk { view = record desk.view { state = record s { flying = flying i } } }

    -- ---- a batch of those that wait

    batch_counts : IsNodeState (launched s)
    batch_counts = record {
      durable = omega (arith, stands.counts.durable, stands.counts.flying);
      flying = omega arith;
      based = stands.counts.based;
      checkpointed = λ b e. none≢some b (sym (stands.ready works).none ∙ e);
    }

    -- what is held with it
    joined : with_more (durable_held desk) (flying_in (launched s)) ≡ flown_held (record desk { view = desks.launched desk.view })
    joined =
        let within = based s stands.counts in
        let front = take-append-le s.base.inputs (durable_in s) (flying_in (launched s)) within in
        let rest = drop-append-le s.base.inputs (durable_in s) (flying_in (launched s)) within in
        rw (stands.ready works).none
        ((λ i. record { layout = s.base.layout; epoch = s.base.epoch; base = after m.node desk.opening (sym front i); inputs = sym rest i }) ∙ ap (area_with desk s.base) (flown (launched s) batch_counts))

    pub batch_flies : (batch : Batch) → s.durable < length s.inputs → shown batch ≡ numbered m.node first (flying_in (launched s)) → used s.base (flown_in (launched s)) ≤ m.capacity
        → AreSuited s.base.layout (shown batch).inputs → Flies (record desk { view = desks.launched desk.view }) journal (work.Batch batch)
    batch_flies batch some is fits suits =
        let ready = stands.ready works in
        let inputs : (shown batch).inputs ≡ flying_in (launched s) = ap (λ (n : Numbered). n.inputs) is in
        let count : s.durable + length (shown batch).inputs ≡ (launched s).flying = ap (λ (l : List Input). s.durable + length l) inputs ∙ flown_count (launched s) batch_counts in
        let costs = flown_costs (launched s) batch_counts in
        let bytes : costs_of (shown batch).inputs ≡ costs_of (flying_in (launched s)) = ap costs_of inputs in
        record {
          inside = stands.inside;
          whole = stands.whole;
          counts = batch_counts;
          lawful = λ past of. rw (launched_shifted past s) (lawful-launched m (shifted past s) (idle_behind past s ready.idle ready.none) (stands.lawful past of));
          named = stands.named;
          works = works;
          flying = is_flying (record desk { view = desks.launched desk.view }) (shown batch) (rw ready.none is);
          ready = ready.works;
          all = all works;
          taken = (
            ap (λ (n : Numbered). n.node) is ∙ ap (λ (n : Member). n.node) (sym stands.named),
            ap (λ (n : Numbered). n.first) is ∙ sym ready.count,
            omega (arith, costs, fits, ready.left, bytes),
            subst (λ (k : ℕ). AreSuited k (shown batch).inputs) (sym ready.form) suits,
          );
          held = ap (with_more (durable_held desk)) inputs ∙ joined;
          other = λ one. omega (arith, some, ap (λ (r : Reading). length r.inputs) (one ∙ sym joined), length-append (durable_held desk).inputs (flying_in (launched s)), flown_count (launched s) batch_counts);
          behind = record {
            idle = refl;
            none = refl;
            works = refl;
            count = omega (arith, ready.count, count);
            left = rw ready.none (omega (arith, ready.left, costs, bytes));
            form = rw ready.none ready.form;
            area = rw ready.none ready.area;
          };
        }

    -- ---- a checkpoint of all

    abbrev flies_all : DeskKept
    flies_all = record desk { view = launching.launched_all desk }

    all_counts : IsNodeState flies_all.view.state
    all_counts = record {
      durable = omega (arith, stands.counts.durable, stands.counts.flying);
      flying = omega arith;
      based = stands.counts.based;
      checkpointed = λ b e. sym (ap (λ (c : Base). c.inputs) (same_Some (next_area desk) b e));
    }

    none_of : drop (length s.inputs) (take (length s.inputs) s.inputs) ≡ []
    none_of = drop_all (length s.inputs) (take (length s.inputs) s.inputs) (omega (arith, length-take (length s.inputs) s.inputs))

    -- what is held with it
    pub summed : flown_held flies_all ≡ fresh_area newest (s.base.epoch + 1) (known_all desk)
    summed =
        let all_of : take (length s.inputs) s.inputs ≡ s.inputs = take_all (length s.inputs) s.inputs (omega arith) in
        let front : take (length s.inputs) (take (length s.inputs) s.inputs) ≡ s.inputs = ap (take (length s.inputs)) all_of ∙ all_of in
        λ i. record { layout = newest; epoch = s.base.epoch + 1; base = after m.node desk.opening (front i); inputs = none_of i }

    pub checkpoint_flies : (made : Checkpoint) → base_by made ≡ known_all desk → (IsNodeOf m.n m.node → IsSound m.n (base_by made)) → snapshot_len newest (base_by made) ≤ m.capacity
        → s.base.epoch + 1 < epochs
        → numbered_by made ≡ numbered_with m.node first (flying_in flies_all.view.state) (Some (snapshot_len newest (known_all desk))) → Flies flies_all journal (work.Checkpoint made)
    checkpoint_flies made base sound fits more is =
        let ready = stands.ready works in
        let snapshot : (numbered_by made).snapshot ≡ Some (snapshot_len newest (known_all desk)) = ap (λ (n : Numbered). n.snapshot) is in
        record {
          inside = stands.inside;
          whole = stands.whole;
          counts = all_counts;
          lawful = λ past of. subst (λ (v : DeskView). IsLawfulState v.member v.state) (sym (lawful_launched_all past desk of (stands.lawful past of)))
              (lawful-launched_all m (seen past desk).state (idle_behind past s ready.idle ready.none) (stands.lawful past of));
          named = stands.named;
          works = works;
          flying = is_flying flies_all (numbered_by made) is;
          ready = ready.works;
          all = all works;
          taken = (
            ap (λ (n : Numbered). n.node) is ∙ ap (λ (n : Member). n.node) (sym stands.named),
            ap (λ (n : Numbered). n.first) is ∙ sym ready.count,
            omega (arith, fits, ap (λ (n : Member). n.capacity) stands.named),
            subst (λ (n : Member). IsSound n.n (base_by made)) (sym stands.named) (sound stands.inside),
            omega (arith, more, ready.area),
          );
          held = (λ i. fresh_area newest (ready.area i + 1) (base i)) ∙ sym summed;
          other = λ one. omega (arith, ap (λ (r : Reading). r.epoch) one);
          behind = record {
            idle = refl;
            none = refl;
            works = refl;
            count = ap (λ (k : Summary). k.inputs) base ∙ after-inputs m.node desk.opening s.inputs;
            left = ap (λ (o : Option ℕ). room_after o (member_of journal).capacity (costs_of (numbered_by made).inputs) (room_of journal)) snapshot
                ∙ (λ i. (stands.named i).capacity - sym (used-none (next_area desk) (take (length s.inputs) s.inputs) none_of) i);
            form = ap (λ (o : Option ℕ). layout_after o (layout_of journal)) snapshot;
            area = ap (λ (o : Option ℕ). epoch_after o (epoch_of journal)) snapshot ∙ ap (λ k. k + 1) ready.area;
          };
        }

-- ---- what becomes of it

module _ {D : Type 0} {g : Ghosts D} (desk : DeskKept) (old new : Journal D g) (w : Work) (flies : Flies desk old w) where
  abbrev with_it : Reading
  with_it = reading_after (epoch_of old) (summary_by w) (flown_by w).inputs (durable_held desk)

  -- at each moment an image has it or not
  either : (image : List ℕ) → ReadsAsOneOf (member_of old) (durable_held desk) with_it image → ReadsAsOneOf desk.view.member (durable_held desk) (flown_held desk) image
  either image read = rw (flies.named, flies.held) at read

  pub moment : (image : List ℕ) → ReadsAsOneOf (member_of old) (durable_held desk) with_it image → MayBeLeft desk image
  moment image read = may_be_left desk image flies.counts flies.lawful (either image read)

  -- it landed
  pub landed_all : AllReadAs (member_of old) (g.disk (device_of new)) with_it → AllReadAs desk.view.member (g.disk (device_of new)) (flown_held desk)
  landed_all read = rw (flies.named, flies.held) at read

  pub lands : member_of new ≡ member_of old → AllReadAs (member_of old) (g.disk (device_of new)) with_it → is_spoiled new ≡ false
      → len_of new ≡ count_after (summary_by w) (length (flown_by w).inputs) (len_of old)
      → room_of new ≡ room_after (flown_by w).snapshot (member_of old).capacity (costs_of (flown_by w).inputs) (room_of old)
      → layout_of new ≡ layout_after (flown_by w).snapshot (layout_of old) → epoch_of new ≡ epoch_after (flown_by w).snapshot (epoch_of old)
      → Stands (record desk { view = desks.landed desk.view }) new
  lands same read unspoiled longer less layout later = record {
    inside = flies.inside;
    whole = flies.whole;
    counts = record { durable = omega arith; flying = flies.counts.flying; based = next-few desk.view.state flies.counts; checkpointed = λ b e. none≢some b e };
    lawful = λ past of. rw (landed_shifted past desk.view.state) (lawful-landed desk.view.member (seen past desk).state (flies.lawful past of));
    named = same ∙ flies.named;
    holds = λ image left. inl (rw (same, flies.named) (landed_all read image left));
    ready = λ _. let ready = flies.behind in record { idle = refl; none = refl; works = unspoiled; count = longer ∙ ready.count; left = less ∙ ready.left; form = layout ∙ ready.form; area = later ∙ ready.area };
  }

  -- the device failed
  pub breaks : member_of new ≡ member_of old → ((image : List ℕ) → MayLeave (g.disk (device_of new)) image → ReadsAsOneOf (member_of old) (durable_held desk) with_it image)
      → Stands (record desk { view = record desk.view { failed = true } }) new
  breaks same read = record {
    inside = flies.inside;
    whole = flies.whole;
    counts = flies.counts;
    lawful = flies.lawful;
    named = same ∙ flies.named;
    holds = λ image left. rw (same, flies.named) (⊎_elim (λ old. inl old) (λ new. inr (flies.other, new)) (either image (read image left)));
    ready = λ works'. absurd cc;
  }
