-- From round to round of a flusher, and what a stop leaves of its device.
use Rattle.std.proofs.Common.{◌≡◌, inl, inr, ℕ, suc, ◌+◌, ◌≤◌, Bool, true, false, List, [], ◌∷◌, ◌++◌, append_assoc, append-nil, length, length-append, take, drop, Option, Some, None, refl, sym, ◌∙◌, ap, subst, arith}
use Rattle.std.proofs.lemmas.List.{drop-append-le, drop_all, take-append-le, take_all}
use Rattle.std.proofs.lemmas.Option.{same_Some}
use Rattle.disk_model.specs.declared.device.Device.{Ghosts}
use Rattle.disk_model.specs.Disk.{Disk, MayLeave, LeavesOnly}
use Rattle.disk_model.proofs.Moments.{joins, now, started, weaken}
use Rattle.ring_records.specs.declared.base.Base.{Base}
use Rattle.ring_records.specs.declared.input.Input.{Input}
use Rattle.ring_records.specs.declared.summary.Summary.{Summary}
use Rattle.ring_records.specs.Admission.{newest}
use Rattle.ring_records.specs.Known.{after}
use Rattle.ring_records.specs.Lists.{EachAfter}
use Rattle.ring_records.specs.Member.{Member}
use Rattle.ring_records.specs.States.{NodeState, durable_in, flown_in, landed, launched_base, left_by, opened}
use Rattle.ring_records.specs.Lawful.{IsNodeState, IsLawfulState}
use Rattle.ring_records.proofs.Growth.{EachAfter-front}
use Rattle.ring_records.proofs.Lists.{EachAfter-push, none≢some}
use Rattle.ring_records.proofs.States.{lawful-landed, lawful-left}
use Rattle.gated_journal.specs.Areas.{ReadsAs, AllReadAs, ReadsAsOneOf}
use Rattle.gated_journal.specs.Reading.{Reading}
use Rattle.group_commit.specs.declared.landed.Landed.{Landed}
use Rattle.group_commit.specs.Desk.{DeskKept, DeskView}
use Rattle.group_commit.specs.Past.{IsPast, moved, shifted}
use Rattle.group_commit.proofs.Opening.{EachAfter-behind}
use Rattle.group_commit.proofs.Past.{durable-shifted, take-front}
use Rattle.group_commit.proofs.Seen.{landed_shifted}
use Rattle.node_store.specs.State.{Holds, IsOpenedAs, MayBeLeft, area_with, durable_held, flown_held}
use Rattle.node_store.proofs.Left.{may_be_left}
use Rattle.group_commit.specs.Next.{Durable, durable_part, IsLawfulBehind}
use Rattle.group_commit.proofs.Costs.{durable_count}
use Rattle.gated_journal.specs.Works.{reading_after}
use Rattle.ring_service.specs.Rounds.{IsMade, IsRound, IsStopped, at_rest, known_behind, with_flying}
use Rattle.ring_service.specs.Series.{Round, AreRounds, IsCut, IsHeld, IsLeftBehind, IsRoundOf, IsSplit, desk_in, device_behind, held_by, inputs_of, known_since}

-- ---- some rounds, and those behind them

pub device_joined : {V : Type 0} (device : V) (before later : List (Round V)) → device_behind device (before ++ later) ≡ device_behind (device_behind device before) later
device_joined device [] later = refl
device_joined device (round ∷ before) later = device_joined round.device before later

pub known_joined : {V : Type 0} (known : Durable) (before later : List (Round V)) → known_since known (before ++ later) ≡ known_since (known_since known before) later
known_joined known [] later = refl
known_joined known (round ∷ before) later = known_joined (known_behind round.base round.inputs known) before later

pub inputs_behind : (base : Option Summary) (inputs : List Input) (known : Durable) → (known_behind base inputs known).inputs ≡ known.inputs ++ inputs
inputs_behind None inputs known = refl
inputs_behind (Some s) inputs known = refl

pub all_inputs : {V : Type 0} (known : Durable) (rounds : List (Round V)) → (known_since known rounds).inputs ≡ known.inputs ++ inputs_of rounds
all_inputs known [] = sym (append-nil known.inputs)
all_inputs known (round ∷ rounds) =
    all_inputs (known_behind round.base round.inputs known) rounds
    ∙ (ap (λ (l : List Input). l ++ inputs_of rounds) (inputs_behind round.base round.inputs known) ∙ append_assoc known.inputs round.inputs (inputs_of rounds))

-- ---- what is lawful

rest_shifted : (past : List Input) (known : Durable) → opened (moved (length past) known.base) (past ++ known.inputs) ≡ shifted past (at_rest known)
rest_shifted past known =
    let size : length (past ++ known.inputs) ≡ length past + length known.inputs = length-append past known.inputs in
    λ i. record { inputs = past ++ known.inputs; durable = size i; flying = size i; base = moved (length past) known.base; checkpoint = None }

-- the durable inputs of a desk
lawful_split : (m : Member) (opening : Summary) (s : NodeState) → IsLawfulBehind m opening s → IsLawfulBehind m opening (at_rest (record { base = s.base; inputs = durable_in s }))
lawful_split m opening s lawful past is =
    subst (IsLawfulState m) (ap (opened (moved (length past) s.base)) (durable-shifted past s) ∙ rest_shifted past (record { base = s.base; inputs = durable_in s }))
    (lawful-left m false (shifted past s) (lawful past is))

lands_as : (base : Option Summary) (inputs : List Input) (known : Durable) → landed (with_flying known inputs base) ≡ at_rest (known_behind base inputs known)
lands_as None inputs known = refl
lands_as (Some s) inputs known = refl

-- what flew
lawful_landed : (m : Member) (opening : Summary) (base : Option Summary) (inputs : List Input) (known : Durable) → IsLawfulBehind m opening (with_flying known inputs base)
    → IsLawfulBehind m opening (at_rest (known_behind base inputs known))
lawful_landed m opening base inputs known lawful past is =
    let s : NodeState = with_flying known inputs base in
    subst (λ (t : NodeState). IsLawfulState m (shifted past t)) (lands_as base inputs known)
    (subst (IsLawfulState m) (sym (landed_shifted past s)) (lawful-landed m (shifted past s) (lawful past is)))

-- ---- what is read

based_behind : (base : Option Summary) (inputs : List Input) (known : Durable) → known.base.inputs ≤ length known.inputs
    → (known_behind base inputs known).base.inputs ≤ length (known_behind base inputs known).inputs
based_behind None inputs known based = omega (arith, based, length-append known.inputs inputs)
based_behind (Some s) inputs known based = omega arith

read_behind : (m : Member) (opening : Summary) (base : Option Summary) (inputs : List Input) (known : Durable) → known.base.inputs ≤ length known.inputs
    → ((s : Summary) → base ≡ Some s → s ≡ after m.node opening (known.inputs ++ inputs))
    → reading_after known.base.epoch base inputs (held_by m opening known) ≡ held_by m opening (known_behind base inputs known)
read_behind m opening None inputs known based summed =
    let k = known.base.inputs in
    let first : take k known.inputs ≡ take k (known.inputs ++ inputs) = sym (take-append-le k known.inputs inputs based) in
    let rest : drop k known.inputs ++ inputs ≡ drop k (known.inputs ++ inputs) = sym (drop-append-le k known.inputs inputs based) in
    λ i. record { layout = known.base.layout; epoch = known.base.epoch; base = after m.node opening (first i); inputs = rest i }
read_behind m opening (Some s) inputs known based summed =
    let all : List Input = known.inputs ++ inputs in
    let whole : take (length all) all ≡ all = take_all (length all) all (omega arith) in
    let none : drop (length all) all ≡ [] = drop_all (length all) all (omega arith) in
    let is : s ≡ after m.node opening (take (length all) all) = summed s refl ∙ ap (after m.node opening) (sym whole) in
    λ i. record { layout = newest; epoch = known.base.epoch + 1; base = is i; inputs = sym none i }

-- ---- what a stop leaves

counts_rest : (known : Durable) → known.base.inputs ≤ length known.inputs → IsNodeState (at_rest known)
counts_rest known based = record { durable = omega arith; flying = omega arith; based = based; checkpointed = λ b e. none≢some b e }

counts_fly : (base : Option Summary) (inputs : List Input) (known : Durable) → known.base.inputs ≤ length known.inputs → IsNodeState (with_flying known inputs base)
counts_fly base inputs known based = record {
  durable = omega (arith, length-append known.inputs inputs);
  flying = omega arith;
  based = based;
  checkpointed = flew base;
}
  where
    flew : (o : Option Summary) (b : Base) → (with_flying known inputs o).checkpoint ≡ Some b → b.inputs ≡ length (known.inputs ++ inputs)
    flew None b e = none≢some b e
    flew (Some s) b e = ap (λ (c : Base). c.inputs) (sym (same_Some (known_behind (Some s) inputs known).base b e))

module _ (m : Member) (opening : Summary) where
  -- an image that reads as all that is known to be durable
  rest_left : (known : Durable) → known.base.inputs ≤ length known.inputs → IsLawfulBehind m opening (at_rest known) → (image : List ℕ) → ReadsAs m image (held_by m opening known)
      → MayBeLeft (desk_in m opening (at_rest known)) image
  rest_left known based lawful image read =
      let whole : take (length known.inputs) known.inputs ≡ known.inputs = take_all (length known.inputs) known.inputs (omega arith) in
      may_be_left (desk_in m opening (at_rest known)) image (counts_rest known based) lawful
      (inl (subst (λ (l : List Input). ReadsAs m image (area_with (desk_in m opening (at_rest known)) known.base l)) (sym whole) read))

  pub holds_rest : (disk : Disk) (known : Durable) → IsHeld m opening disk known → (past : List Input) → IsPast m opening past
      → IsLawfulState m (shifted past (at_rest known)) × Holds m disk (shifted past (at_rest known))
  holds_rest disk known held past is = (held.lawful past is, λ image may. ((rest_left known held.based held.lawful image (held.read image may)).left past is).reads)

  area_flown : (base : Option Summary) (inputs : List Input) (known : Durable)
      → area_with (desk_in m opening (with_flying known inputs base)) (launched_base (with_flying known inputs base)) (known.inputs ++ inputs) ≡ held_by m opening (known_behind base inputs known)
  area_flown None inputs known = refl
  area_flown (Some s) inputs known = refl

  -- one that reads as that, or also as what flies
  fly_left : (base : Option Summary) (inputs : List Input) (known : Durable) → known.base.inputs ≤ length known.inputs → IsMade m opening known inputs base
      → IsLawfulBehind m opening (with_flying known inputs base) → (image : List ℕ)
      → ReadsAsOneOf m (held_by m opening known) (reading_after known.base.epoch base inputs (held_by m opening known)) image → MayBeLeft (desk_in m opening (with_flying known inputs base)) image
  fly_left base inputs known based made lawful image read =
      let desk : DeskKept = desk_in m opening (with_flying known inputs base) in
      let all : List Input = known.inputs ++ inputs in
      let old : held_by m opening known ≡ durable_held desk = ap (area_with desk known.base) (sym (take-front known.inputs inputs)) in
      let whole : all ≡ take (length all) all = sym (take_all (length all) all (omega arith)) in
      let new : reading_after known.base.epoch base inputs (held_by m opening known) ≡ flown_held desk =
      read_behind m opening base inputs known based made.summed ∙ (sym (area_flown base inputs known) ∙ ap (area_with desk (launched_base (with_flying known inputs base))) whole) in
      may_be_left desk image (counts_fly base inputs known based) lawful
      (subst (λ (r : Reading). ReadsAsOneOf m r (flown_held desk) image) old (subst (λ (r : Reading). ReadsAsOneOf m (held_by m opening known) r image) new read))

-- what `Node::split` gives
pub splits : (desk : DeskKept) (disk : Disk) → IsSplit desk disk → IsHeld desk.view.member desk.opening disk (durable_part desk)
splits desk disk is =
    let s = desk.view.state in
    record {
      read = is.durable;
      based = omega (arith, is.counts.based, durable_count s is.counts);
      lawful = lawful_split desk.view.member desk.opening s is.lawful;
    }

-- what was left is opened again
pub opens_again : (m : Member) (run : ℕ) (s : NodeState) (keep : Bool) (desk : DeskKept) → IsOpenedAs m run (left_by keep s) desk
    → take (left_by keep s).base.inputs (left_by keep s).inputs ++ (durable_part desk).inputs ≡ (left_by keep s).inputs
opens_again m run s keep desk is =
    let front = take (left_by keep s).base.inputs (left_by keep s).inputs in
    sym (durable-shifted front desk.view.state) ∙ (ap (λ (v : DeskView). durable_in v.state) is.shows ∙ whole s keep)
  where
    whole : (s : NodeState) (keep : Bool) → durable_in (left_by keep s) ≡ (left_by keep s).inputs
    whole s true = take_all (length (flown_in s)) (flown_in s) (omega arith)
    whole s false = take_all (length (durable_in s)) (durable_in s) (omega arith)

-- ---- from round to round

module _ {V : Type 0} (g : Ghosts V) (m : Member) (opening : Summary) where
  abbrev pub IsOne : V → Durable → List (Round V) → Round V → Type 0
  IsOne device known before round = IsRoundOf g m opening (device_behind device before) (known_since known before) round

  -- the same of the rounds, one by one
  abbrev pub Each : V → Durable → List (Round V) → Type 0
  Each device known [] = Unit {0}
  Each device known (round ∷ rounds) = IsRoundOf g m opening device known round × Each round.device (known_behind round.base round.inputs known) rounds

  pub one_by_one : (device : V) (known : Durable) (before later : List (Round V)) → EachAfter (IsOne device known) before later
      → Each (device_behind device before) (known_since known before) later
  unfolding EachAfter
  one_by_one device known before [] each = tt
  one_by_one device known before (round ∷ later) each = (
    each.0,
    subst (λ (d : V). Each d (known_behind round.base round.inputs (known_since known before)) later) (device_joined device before (round ∷ []))
        (subst (λ (k : Durable). Each (device_behind device (before ++ round ∷ [])) k later) (known_joined known before (round ∷ []))
        (one_by_one device known (before ++ round ∷ []) later each.1)),
  )

  -- what a call tells of is a round
  pub told : (old new : V) (before behind : Durable) (landed : Landed) → IsRound g m opening old new before behind landed
      → (round : Round V) × (IsRoundOf g m opening old before round × ((round.device ≡ new) × (known_behind round.base round.inputs before ≡ behind)))
  told old new before behind landed is = (
    record { inputs = is.inputs; base = is.base; landed = landed; device = new },
    (
      record {
        is = record {
          inputs = is.inputs;
          base = is.base;
          made = is.made;
          some = is.some;
          count = is.count;
          kind = is.kind;
          next = refl;
          durable = is.durable;
          within = is.within;
          brought = is.brought;
        };
        inputs = refl;
        base = refl;
      },
      (refl, sym is.next),
    ),
  )

  -- one round more
  pub goes_on : (device : V) (known : Durable) (rounds : List (Round V)) (round : Round V) → AreRounds g m opening device known rounds
      → IsRoundOf g m opening (device_behind device rounds) (known_since known rounds) round → AreRounds g m opening device known (rounds ++ round ∷ [])
  goes_on device known rounds round each one = EachAfter-push (IsOne device known) [] rounds round each one

  made_by : (device : V) (known : Durable) (round : Round V) → IsRoundOf g m opening device known round → IsMade m opening known round.inputs round.base
  made_by device known round one =
      subst (λ (l : List Input). IsMade m opening known l round.base) one.inputs (subst (λ (o : Option Summary). IsMade m opening known one.is.inputs o) one.base one.is.made)

  -- what is read behind a round
  reads : (device : V) (known : Durable) (round : Round V) → IsHeld m opening (g.disk device) known → (one : IsRoundOf g m opening device known round)
      → reading_after known.base.epoch one.is.base one.is.inputs (held_by m opening known) ≡ held_by m opening (known_behind round.base round.inputs known)
  reads device known round held one =
      (λ i. reading_after known.base.epoch (one.base i) (one.inputs i) (held_by m opening known)) ∙ read_behind m opening round.base round.inputs known held.based (made_by device known round one).summed

  pub steps : (device : V) (known : Durable) (round : Round V) → IsHeld m opening (g.disk device) known → IsRoundOf g m opening device known round
      → IsHeld m opening (g.disk round.device) (known_behind round.base round.inputs known)
  steps device known round held one = record {
    read = subst (λ (r : Reading). AllReadAs m (g.disk round.device) r) (reads device known round held one) (one.is.durable (held_by m opening known) held.read);
    based = based_behind round.base round.inputs known held.based;
    lawful = lawful_landed m opening round.base round.inputs known ((made_by device known round one).lawful held.lawful);
  }

  held_each : (rounds : List (Round V)) (device : V) (known : Durable) → IsHeld m opening (g.disk device) known → Each device known rounds
      → IsHeld m opening (g.disk (device_behind device rounds)) (known_since known rounds)
  held_each [] device known held each = held
  held_each (round ∷ rounds) device known held each = held_each rounds round.device (known_behind round.base round.inputs known) (steps device known round held each.0) each.1

  pub held_behind : (device : V) (known : Durable) (rounds : List (Round V)) → IsHeld m opening (g.disk device) known → AreRounds g m opening device known rounds
      → IsHeld m opening (g.disk (device_behind device rounds)) (known_since known rounds)
  held_behind device known rounds held each = held_each rounds device known held (one_by_one device known [] rounds each)

  -- ---- at each moment

  module _ (only : (device : V) (image : List ℕ) → g.left_since device (g.clock device) image → MayLeave (g.disk device) image) where
    -- within a round
    in_round : (device : V) (known : Durable) (round : Round V) (later : List (Round V)) → IsHeld m opening (g.disk device) known
        → (one : IsRoundOf g m opening device known round) → (image : List ℕ)
        → ReadsAsOneOf m (held_by m opening known) (reading_after known.base.epoch one.is.base one.is.inputs (held_by m opening known)) image → IsLeftBehind m opening known (round ∷ later) image
    in_round device known round later held one image (inl read) = record {
      count = 0;
      within = omega arith;
      left = rest_left m opening known held.based held.lawful image read;
    }
    in_round device known round later held one image (inr read) =
        let next = steps device known round held one in
        record {
          count = 1;
          within = omega arith;
          left = rest_left m opening (known_behind round.base round.inputs known) next.based next.lawful image
              (subst (λ (r : Reading). ReadsAs m image r) (reads device known round held one) read);
        }

    pub each_moment : (rounds : List (Round V)) (device : V) (known : Durable) → IsHeld m opening (g.disk device) known → Each device known rounds
        → LeavesOnly g.clock g.left_since device (device_behind device rounds) (IsLeftBehind m opening known rounds)
    each_moment [] device known held each = started g.clock g.left_since device (IsLeftBehind m opening known [])
        (λ image left. record { count = 0; within = omega arith; left = rest_left m opening known held.based held.lawful image (held.read image (only device image left)) })
    each_moment (round ∷ rounds) device known held each =
        let behind : Durable = known_behind round.base round.inputs known in
        joins g.clock g.left_since device round.device (device_behind round.device rounds) (IsLeftBehind m opening known (round ∷ rounds))
        (weaken g.clock g.left_since device round.device _ (IsLeftBehind m opening known (round ∷ rounds)) (in_round device known round rounds held each.0) (each.0.is.within (held_by m opening known) held.read))
        (weaken g.clock g.left_since round.device (device_behind round.device rounds) (IsLeftBehind m opening behind rounds) (IsLeftBehind m opening known (round ∷ rounds))
        (λ image left. record { count = suc left.count; within = omega (arith, left.within); left = left.left })
        (each_moment rounds round.device behind (steps device known round held each.0) each.1))

    pub any_moment : (device : V) (known : Durable) (before later : List (Round V)) → IsHeld m opening (g.disk device) known
        → AreRounds g m opening device known (before ++ later)
        → LeavesOnly g.clock g.left_since (device_behind device before) (device_behind device (before ++ later)) (IsLeftBehind m opening (known_since known before) later)
    any_moment device known before later held each =
        let P : List (Round V) → Round V → Type 0 = IsOne device known in
        let first = held_behind device known before held (EachAfter-front P [] before later each) in
        let rest = one_by_one device known before later (EachAfter-behind P [] before later each) in
        subst (λ (d : V). LeavesOnly g.clock g.left_since (device_behind device before) d (IsLeftBehind m opening (known_since known before) later)) (sym (device_joined device before later))
        (each_moment later (device_behind device before) (known_since known before) first rest)

  -- within a round that did not end
  pub cuts : (old new : V) (known : Durable) → ((t : ℕ) (image : List ℕ) → t ≤ g.clock new → MayLeave (g.disk new) image → g.left_since new t image) → IsHeld m opening (g.disk old) known
      → ((r : Reading) → AllReadAs m (g.disk old) r → IsStopped g old new m opening known r) → IsCut g m opening old new known
  cuts old new known counts held stopped =
      let stop = stopped (held_by m opening known) held.read in
      let lawful = stop.made.lawful held.lawful in
      let moments = weaken g.clock g.left_since old new _ (MayBeLeft (desk_in m opening (with_flying known stop.inputs stop.base)))
      (fly_left m opening stop.base stop.inputs known held.based stop.made lawful) stop.any_moment in
      record {
        inputs = stop.inputs;
        base = stop.base;
        any_moment = moments;
        lawful = lawful;
        holds = λ past is image may. ((now g.clock g.left_since old new (g.disk new) _ moments counts image may).left past is).reads;
      }
