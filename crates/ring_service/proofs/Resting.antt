-- What a round let its node release rests on inputs that any later stop leaves.
use Rattle.std.proofs.Common.{◌≡◌, ℕ, Bool, true, false, List, [], ◌∷◌, ◌++◌, append_assoc, append-nil, length, take, Option, Some, None, refl, sym, inl, inr, ◌∙◌, ap, subst, arith}
use Rattle.std.specs.List.{Contains, cons_option}
use Rattle.std.specs.Option.{option_map}
use Rattle.std.proofs.lemmas.List.{take_all}
use mathlib.Core.List.{IsPrefix}
use Rattle.disk_model.specs.declared.device.Device.{Ghosts}
use Rattle.disk_model.specs.Disk.{MayLeave, LeavesOnly}
use Rattle.disk_model.proofs.Moments.{weaken}
use Rattle.ring_records.specs.declared.decision.Decision.{Decision}
use Rattle.ring_records.specs.declared.input.Input.{Input}
use Rattle.ring_records.specs.declared.input.Input.TheVariants.{Stand, Take, Acked, Retire}
use Rattle.ring_records.specs.declared.notice.Notice.{Notice}
use Rattle.ring_records.specs.declared.notice.Notice.TheVariants.{Decided}
use Rattle.ring_records.specs.declared.summary.Summary.{Summary}
use Rattle.ring_records.specs.Leader.{first_leader}
use Rattle.ring_records.specs.Decided.{decided, told}
use Rattle.ring_records.specs.Lists.{found_after}
use Rattle.ring_records.specs.Member.{Member}
use Rattle.ring_records.specs.Release.{notices}
use Rattle.ring_records.specs.States.{NodeState, durable_in, flown_in, left_by}
use Rattle.ring_records.proofs.Decisions.{decided-tells}
use Rattle.ring_records.proofs.Growth.{EachAfter-front, first_leader-kept}
use Rattle.ring_records.proofs.Leader.{Contains-cons_cases, Contains-nil}
use Rattle.ring_records.proofs.Lists.{none≢some}
use Rattle.ring_records.proofs.Prefixes.{prefix_trans}
use Rattle.group_commit.specs.Past.{IsPast, shifted}
use Rattle.group_commit.proofs.Opening.{EachAfter-behind}
use Rattle.group_commit.proofs.Past.{durable-shifted, take-front}
use Rattle.group_commit.proofs.Seen.{flown-shifted}
use Rattle.node_store.specs.State.{IsLeft}
use Rattle.group_commit.specs.Next.{Durable}
use Rattle.commit_hub.specs.Told.{IsBroughtBehind}
use Rattle.ring_service.specs.Rounds.{at_rest, known_behind, with_flying}
use Rattle.ring_service.specs.Series.{Round, AreRounds, IsCut, IsHeld, IsLeftBehind, IsRoundOf, RestsOn, RestsOnBehind, device_behind, inputs_of, known_since}
use Rattle.ring_service.proofs.Series.{IsOne, all_inputs, device_joined, each_moment, held_behind, inputs_behind, known_joined, one_by_one, steps}
use Rattle.ring_service.proofs.Stops.{none_flies}

-- ---- what is left begins with what is known to be durable

pub begins_fly : (past : List Input) (known : Durable) (base : Option Summary) (inputs : List Input) (keep : Bool)
    → IsPrefix (past ++ known.inputs) (left_by keep (shifted past (with_flying known inputs base))).inputs
begins_fly past known base inputs false =
    let s : NodeState = with_flying known inputs base in
    let is : durable_in (shifted past s) ≡ past ++ known.inputs = durable-shifted past s ∙ ap (λ (l : List Input). past ++ l) (take-front known.inputs inputs) in
    ([], append-nil (past ++ known.inputs) ∙ sym is)
begins_fly past known base inputs true =
    let s : NodeState = with_flying known inputs base in
    let all : List Input = known.inputs ++ inputs in
    let is : flown_in (shifted past s) ≡ past ++ all = flown-shifted past s ∙ ap (λ (l : List Input). past ++ l) (take_all (length all) all (omega arith)) in
    (inputs, append_assoc past known.inputs inputs ∙ sym is)

pub begins_rest : (past : List Input) (known : Durable) (keep : Bool) → IsPrefix (past ++ known.inputs) (left_by keep (shifted past (at_rest known))).inputs
begins_rest past known keep =
    subst (λ (s : NodeState). IsPrefix (past ++ known.inputs) (left_by keep (shifted past s)).inputs) (sym (none_flies known)) (begins_fly past known None [] keep)

-- and that with what a round made durable, however many came behind it
begins_round : {V : Type 0} (past : List Input) (known : Durable) (round : Round V) (later : List (Round V))
    → IsPrefix ((past ++ known.inputs) ++ round.inputs) (past ++ (known_since (known_behind round.base round.inputs known) later).inputs)
begins_round past known round later =
    let rest : List Input = inputs_of later in
    let all : (known.inputs ++ round.inputs) ++ rest ≡ (known_since (known_behind round.base round.inputs known) later).inputs =
    ap (λ (l : List Input). l ++ rest) (sym (inputs_behind round.base round.inputs known)) ∙ sym (all_inputs (known_behind round.base round.inputs known) later) in
    let whole : ((past ++ known.inputs) ++ round.inputs) ++ rest ≡ past ++ ((known.inputs ++ round.inputs) ++ rest) =
    ap (λ (l : List Input). l ++ rest) (append_assoc past known.inputs round.inputs) ∙ append_assoc past (known.inputs ++ round.inputs) rest in
    (rest, whole ∙ ap (λ (l : List Input). past ++ l) all)

-- ---- what it released

-- an input tells a decision where it decides that
pub told_decides : (me : ℕ) (h : List Input) (x : Input) (d : Decision) → told me h x ≡ Some (Decided d) → decided me h x ≡ Some d
unfolding told
told_decides me h (Stand key bid) d e = none≢some (Decided d) e
told_decides me h (Take msg_no msg) d e = go (decided me h (Take msg_no msg)) e
  where
    go : (o : Option Decision) → option_map Decided o ≡ Some (Decided d) → o ≡ Some d
    go None e = none≢some (Decided d) e
    go (Some f) e = let same : f ≡ d = cc in ap Some same
told_decides me h (Acked upto) d e = none≢some (Decided d) e
told_decides me h (Retire group floor) d e = absurd cc

-- a decision that these inputs tell names the first leader, whatever stands behind them
found_leads : (me : ℕ) (h l rest : List Input) (d : Decision) → Contains (found_after (told me) h l) (Decided d) → first_leader me ((h ++ l) ++ rest) d.key ≡ Some d.leader
unfolding found_after
found_leads me h [] rest d has = Contains-nil (Decided d) has
found_leads me h (x ∷ l) rest d has =
    subst (λ (g : List Input). first_leader me (g ++ rest) d.key ≡ Some d.leader) (append_assoc h (x ∷ []) l) (go (λ has. found_leads me (h ++ x ∷ []) l rest d has) (told me h x) refl has)
  where
    go : (Contains (found_after (told me) (h ++ x ∷ []) l) (Decided d) → first_leader me (((h ++ x ∷ []) ++ l) ++ rest) d.key ≡ Some d.leader)
        → (o : Option Notice) → told me h x ≡ o → Contains (cons_option o (found_after (told me) (h ++ x ∷ []) l)) (Decided d) → first_leader me (((h ++ x ∷ []) ++ l) ++ rest) d.key ≡ Some d.leader
    go later None e there = later there
    go later (Some notice) e there = elim (Contains-cons_cases notice (found_after (told me) (h ++ x ∷ []) l) (Decided d) there) [
      | inl same ↦ (
          let first = (decided-tells me h x d (told_decides me h x d (e ∙ ap Some same))).2 in
          first_leader-kept me ((h ++ x ∷ []) ++ l) rest d.key d.leader (first_leader-kept me (h ++ x ∷ []) l d.key d.leader first))
      | inr behind ↦ later behind
    ]

rests : {V : Type 0} (m : Member) (past since : List Input) (round : Round V) (s : NodeState) (image : List ℕ) → IsBroughtBehind m past since round.inputs round.landed → IsLeft m s image
    → ((keep : Bool) → IsPrefix ((past ++ since) ++ round.inputs) (left_by keep s).inputs) → RestsOnBehind m past since round image
unfolding notices
rests m past since round s image brought left begins = record {
  state = s;
  left = left;
  begins = begins;
  packets = brought.packets;
  notices = brought.notices;
  leaders = λ keep d has.
      let first = begins keep in
      subst (λ (l : List Input). first_leader m.node l d.key ≡ Some d.leader) first.1
      (found_leads m.node (past ++ since) round.inputs first.0 d (subst (λ (ns : List Notice). Contains ns (Decided d)) brought.notices has));
}

module _ {V : Type 0} (g : Ghosts V) (m : Member) (opening : Summary) where
  -- what the round brought
  brings : (device : V) (known : Durable) (round : Round V) → IsRoundOf g m opening device known round → (past : List Input) → IsPast m opening past
      → IsBroughtBehind m past known.inputs round.inputs round.landed
  brings device known round one past is = subst (λ (l : List Input). IsBroughtBehind m past known.inputs l round.landed) one.inputs (one.is.brought past is)

  -- over the rounds behind it
  pub rests_behind : ((device : V) (image : List ℕ) → g.left_since device (g.clock device) image → MayLeave (g.disk device) image)
      → (device : V) (known : Durable) (before later : List (Round V)) (round : Round V)
      → IsHeld m opening (g.disk device) known → AreRounds g m opening device known (before ++ round ∷ later)
      → LeavesOnly g.clock g.left_since round.device (device_behind device (before ++ round ∷ later)) (RestsOn m opening (known_since known before) round)
  rests_behind only device known before later round held each =
      let P : List (Round V) → Round V → Type 0 = IsOne g m opening device known in
      let first = held_behind g m opening device known before held (EachAfter-front P [] before (round ∷ later) each) in
      let rest = one_by_one g m opening device known before (round ∷ later) (EachAfter-behind P [] before (round ∷ later) each) in
      let was : Durable = known_since known before in
      let behind : Durable = known_behind round.base round.inputs was in
      let next = steps g m opening (device_behind device before) was round first rest.0 in
      subst (λ (d : V). LeavesOnly g.clock g.left_since round.device d (RestsOn m opening was round)) (sym (device_joined device before (round ∷ later)))
      (weaken g.clock g.left_since round.device (device_behind round.device later) (IsLeftBehind m opening behind later) (RestsOn m opening was round)
      (λ image left past is.
      let some : List (Round V) = take left.count later in
      rests m past was.inputs round (shifted past (at_rest (known_since behind some))) image (brings (device_behind device before) was round rest.0 past is) (left.left.left past is)
      (λ keep. prefix_trans ((past ++ was.inputs) ++ round.inputs) (past ++ (known_since behind some).inputs) (left_by keep (shifted past (at_rest (known_since behind some)))).inputs
      (begins_round past was round some) (begins_rest past (known_since behind some) keep)))
      (each_moment g m opening only later round.device behind next rest.1))

  -- over a round that did not end
  pub rests_cut : (device : V) (known : Durable) (before later : List (Round V)) (round : Round V) (new : V) → AreRounds g m opening device known (before ++ round ∷ later)
      → IsCut g m opening (device_behind device (before ++ round ∷ later)) new (known_since known (before ++ round ∷ later))
      → LeavesOnly g.clock g.left_since (device_behind device (before ++ round ∷ later)) new (RestsOn m opening (known_since known before) round)
  rests_cut device known before later round new each cut =
      let P : List (Round V) → Round V → Type 0 = IsOne g m opening device known in
      let rest = one_by_one g m opening device known before (round ∷ later) (EachAfter-behind P [] before (round ∷ later) each) in
      let was : Durable = known_since known before in
      let all : Durable = known_since known (before ++ round ∷ later) in
      weaken g.clock g.left_since (device_behind device (before ++ round ∷ later)) new _ (RestsOn m opening was round)
      (λ image left past is.
      rests m past was.inputs round (shifted past (with_flying all cut.inputs cut.base)) image (brings (device_behind device before) was round rest.0 past is) (left.left past is)
      (λ keep.
      let so_far : IsPrefix ((past ++ was.inputs) ++ round.inputs) (past ++ all.inputs) =
      subst (λ (k : Durable). IsPrefix ((past ++ was.inputs) ++ round.inputs) (past ++ k.inputs)) (sym (known_joined known before (round ∷ later))) (begins_round past was round later) in
      prefix_trans ((past ++ was.inputs) ++ round.inputs) (past ++ all.inputs) (left_by keep (shifted past (with_flying all cut.inputs cut.base))).inputs
      so_far (begins_fly past all cut.base cut.inputs keep)))
      cut.any_moment
