-- What a desk launches is lawful while it flies.
use Rattle.std.proofs.Common.{◌≡◌, ℕ, ◌+◌, ◌&&◌, true, List, ◌++◌, length, take, Option, Some, None, refl, sym, ap, ◌∙◌, subst, arith, length-take}
use Rattle.std.specs.Option.{option_map}
use Rattle.std.specs.Prelude.{is_none, nat_eq}
use Rattle.std.proofs.lemmas.Bool.{and_parts, eq-eqb, eqb-true}
use Rattle.std.proofs.lemmas.List.{take_all, take-take}
use Rattle.std.proofs.lemmas.Option.{same_Some}
use Rattle.ring_records.specs.declared.base.Base.{Base}
use Rattle.ring_records.specs.declared.input.Input.{Input}
use Rattle.ring_records.specs.Admission.{newest}
use Rattle.ring_records.specs.Lawful.{IsBaseOf, IsLawful, IsNodeState, IsLawfulState}
use Rattle.ring_records.specs.Member.{Member}
use Rattle.ring_records.specs.Snapshot.{snapshot_len}
use Rattle.ring_records.specs.States as states
use Rattle.ring_records.specs.States.{NodeState, is_idle, launched_base, durable_in, flown_in, flying_in}
use Rattle.ring_records.proofs.States.{base-first, idle-none, lawful-first, lawful-launched, lawful-launched_all, next-few}
use Rattle.gated_journal.specs.Batch.{numbered, numbered_with}
use Rattle.group_commit.specs.Desk.{DeskKept, DeskView, known_all, launched, seen}
use Rattle.group_commit.specs.Launching.{launched_all, next_area}
use Rattle.group_commit.specs.Past.{IsPast, moved, shifted}
use Rattle.group_commit.proofs.Seen.{flown-shifted, launched_shifted, lawful_launched_all}
use Rattle.group_commit.specs.Next.{FliesLawfully, durable_part, flying_behind}
use Rattle.group_commit.proofs.Costs.{durable_count, flown, launched_counts}

-- ---- what is durable or flies, without what waits

flown_size : (s : NodeState) → IsNodeState s → length (flown_in s) ≡ s.flying
flown_size s counts = omega (arith, length-take s.flying s.inputs, counts.flying)

first_flown : (m : Member) (s : NodeState) → IsLawfulState m s → IsLawfulState m (record s { inputs = flown_in s })
first_flown m s lawful =
    let counts = lawful.counts in
    let size = flown_size s counts in
    let durable : take s.durable (flown_in s) ≡ durable_in s = take-take s.durable s.flying s.inputs counts.durable in
    let whole : take s.flying (flown_in s) ≡ flown_in s = take_all s.flying (flown_in s) (omega (arith, size)) in
    record {
      counts = record { durable = counts.durable; flying = omega (arith, size); based = counts.based; checkpointed = counts.checkpointed };
      base = subst (IsBaseOf m.node s.base) (sym durable) lawful.base;
      next = base-first m.node (launched_base s) s.flying s.inputs (next-few s counts) lawful.next;
      held = subst (IsLawful m.node m.n m.capacity s.base) (sym whole) lawful.held;
      all = lawful-first m.node m.n m.capacity (launched_base s) s.flying s.inputs lawful.all;
    }

-- behind a past
first_behind : (m : Member) (past : List Input) (s : NodeState) → IsLawfulState m (shifted past s) → IsLawfulState m (shifted past (record s { inputs = flown_in s }))
first_behind m past s lawful = subst (λ (l : List Input). IsLawfulState m (record (shifted past s) { inputs = l })) (flown-shifted past s) (first_flown m (shifted past s) lawful)

-- told by what is durable
told : (s : NodeState) (bytes : Option ℕ) → IsNodeState s → s.checkpoint ≡ (flying_behind (record { base = s.base; inputs = durable_in s }) (flying_in s) bytes).checkpoint
    → record s { inputs = flown_in s } ≡ flying_behind (record { base = s.base; inputs = durable_in s }) (flying_in s) bytes
told s bytes counts area =
    let whole : flown_in s ≡ durable_in s ++ flying_in s = sym (flown s counts) in
    let first : s.durable ≡ length (durable_in s) = sym (durable_count s counts) in
    let size : s.flying ≡ length (durable_in s ++ flying_in s) = sym (flown_size s counts) ∙ ap length whole in
    λ i. record { inputs = whole i; durable = first i; flying = size i; base = s.base; checkpoint = area i }

-- where all inputs fly as a checkpoint, the counts are in order
all_counts : (desk : DeskKept) → IsNodeState desk.view.state → IsNodeState (launched_all desk).state
all_counts desk counts = record {
  durable = omega (arith, counts.durable, counts.flying);
  flying = omega arith;
  based = counts.based;
  checkpointed = λ b e. sym (ap (λ (c : Base). c.inputs) (same_Some (next_area desk) b e));
}

-- ---- a desk of which nothing flies

pub idle_flies : (s : NodeState) → is_idle s ≡ true → s.flying ≡ s.durable
idle_flies s idle = eqb-true s.flying s.durable (and_parts (nat_eq s.flying s.durable) (is_none s.checkpoint) idle).0

idle_behind : (past : List Input) (s : NodeState) → is_idle s ≡ true → is_idle (shifted past s) ≡ true
idle_behind past s idle =
    let k = length past in
    (λ i. nat_eq (k + idle_flies s idle i) (k + s.durable) && is_none (option_map (moved k) (idle-none s idle i)))
    ∙ ap (λ b. b && true) (eq-eqb (k + s.durable) (k + s.durable) refl)

module _ (desk : DeskKept) (idle : is_idle desk.view.state ≡ true) (counts : IsNodeState desk.view.state)
    (lawful : (past : List Input) → IsPast desk.view.member desk.opening past → IsLawfulState desk.view.member (seen past desk).state) where
  abbrev s : NodeState
  s = desk.view.state

  abbrev m : Member
  m = desk.view.member

  -- its first inputs that wait fly
  pub flies_batch : (node first : ℕ) → FliesLawfully desk.view.member desk.opening (durable_part desk) (numbered node first (flying_in (launched desk.view).state))
  flies_batch node first past is =
      let none = idle-none s idle in
      let flies : IsLawfulState m (shifted past (states.launched s)) =
      subst (IsLawfulState m) (sym (launched_shifted past s)) (lawful-launched m (shifted past s) (idle_behind past s idle) (lawful past is)) in
      subst (λ (t : NodeState). IsLawfulState m (shifted past t)) (told (states.launched s) None (launched_counts s none counts) none) (first_behind m past (states.launched s) flies)

  -- all of them do, as a checkpoint
  pub flies_all : (node first : ℕ)
      → FliesLawfully desk.view.member desk.opening (durable_part desk) (numbered_with node first (flying_in (launched_all desk).state) (Some (snapshot_len newest (known_all desk))))
  flies_all node first past is =
      let t : NodeState = (launched_all desk).state in
      let all : IsNodeState t = all_counts desk counts in
      let size : length s.inputs ≡ length (durable_in s ++ flying_in t) = sym (flown_size t all) ∙ ap length (sym (flown t all)) in
      let area : t.checkpoint ≡ (flying_behind (durable_part desk) (flying_in t) (Some (snapshot_len newest (known_all desk)))).checkpoint =
      λ i. Some (record { layout = newest; epoch = s.base.epoch + 1; inputs = size i; bytes = snapshot_len newest (known_all desk) }) in
      let flies : IsLawfulState m (shifted past t) =
      subst (λ (v : DeskView). IsLawfulState v.member v.state) (sym (lawful_launched_all past desk is (lawful past is)))
      (lawful-launched_all m (seen past desk).state (idle_behind past s idle) (lawful past is)) in
      subst (λ (u : NodeState). IsLawfulState m (shifted past u)) (told t (Some (snapshot_len newest (known_all desk))) all area) (first_behind m past t flies)
