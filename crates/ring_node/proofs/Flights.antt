-- What a node launches, a batch or a checkpoint: what is objected to it, and what it makes of the node.
use Rattle.std.proofs.Common.{arith, Ok, Err, ◌≡◌, ◌⊎◌, ⊎_elim, ℕ, ◌+◌, ◌-◌, ◌≤◌, Bool, true, false, cond, nat_le, nat_lt, List, ◌++◌, length, length-take, take, min, Option, Some, None, inl, inr, refl, sym, ap, subst, ◌∙◌}
use Rattle.std.specs.Prelude.{Result, ◌||◌, IfSome, IfErr}
use Rattle.std.specs.Option.{option_map}
use Rattle.std.proofs.lemmas.Bool.Decides.{nat_tests}
use Rattle.disk_model.specs.Disk.{Reach}
use Rattle.ring_records.specs.declared.base.Base.{Base}
use Rattle.ring_records.specs.declared.input.Input.{Input}
use Rattle.ring_records.specs.declared.msg.Msg.{Msg}
use Rattle.ring_records.specs.declared.packet.Packet.{Packet}
use Rattle.ring_records.specs.declared.refusal.Refusal.{Refusal}
use Rattle.ring_records.specs.declared.refusal.Refusal.TheVariants as refused
use Rattle.ring_records.specs.Admission.{epochs, newest}
use Rattle.ring_records.specs.Objection.{where_so}
use Rattle.ring_records.specs.Emission.{sent}
use Rattle.ring_records.specs.Lists.{or_else}
use Rattle.ring_records.specs.Member.{Member}
use Rattle.ring_records.specs.Release.{packets}
use Rattle.ring_records.specs.Snapshot.{snapshot_len}
use Rattle.ring_records.specs.States as states
use Rattle.ring_records.specs.States.{NodeState, is_idle, launched_base, durable_in, flown_in, flying_in}
use Rattle.ring_records.specs.Lawful.{IsLawfulState}
use Rattle.ring_records.specs.Summary.{summary}
use Rattle.ring_records.proofs.Lists.{none≢some}
use Rattle.ring_records.proofs.States.{lawful-launched, lawful-launched_all, lawful-landed}
use Rattle.gated_journal.specs.Unread.{IsFault}
use Rattle.group_commit.specs.Desk.{DeskView, DeskKept, known_all, seen, landed}
use Rattle.group_commit.specs.Launching.{checkpoint_objection, needs_checkpoint}
use Rattle.group_commit.specs.Opening.{waits_for_area}
use Rattle.group_commit.specs.Past.{IsPast, moved}
use Rattle.group_commit.proofs.Seen.{launched_seen, landed_seen, lawful_launched_all}
use Rattle.node_store.specs.Unbegun.{IsUnbegun}
use Rattle.ring_node.specs.declared.flight.Flight.{Flight}
use Rattle.ring_node.specs.declared.flight.Flight.TheVariants.{Batch, Checkpoint}
use Rattle.ring_node.specs.Held.{HeldView, view_with, AreHeld, AreInside, IsServed, IsWhole, MayFly, MayBegin, MayStop, launched_by, flies}
use Rattle.ring_node.specs.Messages.{carried_in}
use Rattle.ring_node.specs.Node.{NodeView, state_of, launched_as, flying, made_durable, left}
use Rattle.ring_node.specs.Refusals.{checkpoint_refusal}
use Rattle.ring_node.proofs.Ring.{me_within}
use Rattle.ring_node.proofs.Sending.{sent-flying, flying-few, inside-front}
use Rattle.ring_node.proofs.Serving.{base_stays, is_idle_state}
use Rattle.ring_node.proofs.Waits.{holds_all}

-- ---- the state with what flies

pub inputs_stay : (flight : Flight) (me : ℕ) (s : NodeState) → (launched_as flight me s).inputs ≡ s.inputs
inputs_stay Batch me s = refl
inputs_stay Checkpoint me s = refl

pub durable_stays : (flight : Flight) (me : ℕ) (s : NodeState) → (launched_as flight me s).durable ≡ s.durable
durable_stays Batch me s = refl
durable_stays Checkpoint me s = refl

pub base_same : (flight : Flight) (me : ℕ) (s : NodeState) → (launched_as flight me s).base ≡ s.base
base_same Batch me s = refl
base_same Checkpoint me s = refl

pub lawful_flies : (flight : Flight) (m : Member) (s : NodeState) → is_idle s ≡ true → IsLawfulState m s → IsLawfulState m (launched_as flight m.node s)
lawful_flies Batch m s idle lawful = lawful-launched m s idle lawful
lawful_flies Checkpoint m s idle lawful = lawful-launched_all m s idle lawful

-- where it landed
pub durable_state : (flight : Flight) (v : NodeView) → state_of (made_durable flight v) ≡ states.landed (flying flight v)
durable_state Batch v = refl
durable_state Checkpoint v = refl

-- the desk shows it of its whole history
pub flies_seen : (flight : Flight) (past : List Input) (d : DeskKept) → IsPast d.view.member d.opening past → IsLawfulState d.view.member (seen past d).state
    → seen past (record d { view = launched_by flight d }) ≡ flies flight (seen past d)
flies_seen Batch past d is lawful = launched_seen past d
flies_seen Checkpoint past d is lawful = lawful_launched_all past d is lawful

-- and shows that it landed
pub lands_seen : (flight : Flight) (past : List Input) (d new : DeskKept) → IsPast d.view.member d.opening past → IsLawfulState d.view.member (seen past d).state
    → new ≡ record d { view = landed (launched_by flight d) } → seen past new ≡ landed (flies flight (seen past d))
lands_seen flight past d new is lawful next = ap (seen past) next ∙ (landed_seen past (record d { view = launched_by flight d }) ∙ ap (λ (v : DeskView). landed v) (flies_seen flight past d is lawful))

-- ---- what is objected to it

unmoved : (k : ℕ) (o : Option Base) → option_map (moved k) o ≡ None → o ≡ None
unmoved k None e = refl
unmoved k (Some b) e = none≢some _ (sym e)

-- the snapshot of what it knows is that of its whole history
snapshot_is : (past : List Input) (d : DeskKept) → IsPast d.view.member d.opening past → IsLawfulState d.view.member (seen past d).state
    → snapshot_len newest (known_all d) ≡ snapshot_len newest (summary d.view.member.node (past ++ d.view.state.inputs))
snapshot_is past d is lawful = ap (λ (v : DeskView). (launched_base v.state).bytes) (lawful_launched_all past d is lawful)

-- what is objected to a checkpoint is what its whole history says
pub objection_is : (past : List Input) (d : DeskKept) (reach : Reach) (queue : List HeldView) → IsPast d.view.member d.opening past → IsServed (seen past d) reach queue
    → checkpoint_objection d ≡ checkpoint_refusal d.view.member (seen past d).state
objection_is past d reach queue is here =
    let same = here.idle in
    let idle : is_idle d.view.state ≡ true = is_idle_state d.view.state (omega (arith, same)) (unmoved (length past) d.view.state.checkpoint here.none) in
    λ i. or_else
    (cond (here.works i) (Some refused.Failed) (cond (idle i) None (Some refused.Busy)))
    (or_else (where_so (nat_le epochs (d.view.state.base.epoch + 1)) refused.Limit) (where_so (nat_lt d.view.member.capacity (snapshot_is past d is here.lawful i)) refused.Full))

-- it is none of want of memory
limit_or_full : (full limit : Bool) → IfSome (or_else (where_so limit refused.Limit) (where_so full refused.Full)) (λ why. why ≡ refused.OutOfMemory → ⊥)
limit_or_full full true = λ e. absurd cc
limit_or_full true false = λ e. absurd cc
limit_or_full false false = tt

pub no_memory : (m : Member) (s : NodeState) → IfSome (checkpoint_refusal m s) (λ why. why ≡ refused.OutOfMemory → ⊥)
no_memory m s = limit_or_full (nat_lt m.capacity (snapshot_len newest (summary m.node s.inputs))) (nat_le epochs (s.base.epoch + 1))

-- where the area in use is of the newest layout, and no checkpoint flies, none is needed
plain : (d : DeskKept) → d.view.state.base.layout ≡ newest → d.view.state.checkpoint ≡ None → needs_checkpoint d ≡ false
plain d layout none =
    ap (λ (b : Base). waits_for_area b d.view.state.inputs) (base_stays d.view.state none) ∙ holds_all d.view.state.base d.view.state.inputs layout

-- what flies has the newest layout
pub launched_newest : (flight : Flight) (me : ℕ) (s : NodeState) → s.checkpoint ≡ None → s.base.layout ≡ newest → (launched_base (launched_as flight me s)).layout ≡ newest
launched_newest Batch me s none layout = ap (λ (b : Base). b.layout) (base_stays s none) ∙ layout
launched_newest Checkpoint me s none layout = refl

-- a node at work launches what it may begin
pub may_fly : (flight : Flight) (past : List Input) (d : DeskKept) (reach : Reach) (queue : List HeldView) → IsPast d.view.member d.opening past → IsServed (seen past d) reach queue
    → MayBegin flight d.view.member (state_of (view_with 0 (seen past d) queue)) → MayFly flight d
may_fly Batch past d reach queue is here may = (here.works, plain d here.layout (unmoved (length past) d.view.state.checkpoint here.none))
may_fly Checkpoint past d reach queue is here may = objection_is past d reach queue is here ∙ may

pub may_begin : (flight : Flight) (v : NodeView) → MayStop flight v → MayBegin flight v.member (state_of v)
may_begin Batch v may = tt
may_begin Checkpoint v may = may

-- ---- what the device makes of it

-- a refusal of which both is so
pub both_err : {T E : Type 0} (r : Result T E) (P Q R : E → Type 0) → ((y : E) → P y → Q y → R y) → IfErr r P → IfErr r Q → IfErr r R
both_err (Ok x) P Q R f p q = tt
both_err (Err y) P Q R f p q = f y p q

-- where nothing is objected to a checkpoint, and the device works, it is refused for memory alone
pub short_alone : {objection : Option Refusal} {before now : ℕ} {why : Refusal} → objection ≡ None
    → (objection ≡ Some why) ⊎ ((objection ≡ None) × (IsFault before now why ⊎ (why ≡ refused.OutOfMemory))) → IsUnbegun why → why ≡ refused.OutOfMemory
short_alone free (inl objects) unbegun = none≢some _ (sym free ∙ objects)
short_alone free (inr (none, inr short)) unbegun = short
short_alone free (inr (none, inl fault)) unbegun =
    let is = fault.is in
    ⊎_elim (λ failed. absurd cc) (λ others. ⊎_elim (λ limit. absurd cc) (λ more. ⊎_elim (λ full. absurd cc) (λ short. short) more) others) unbegun

-- and else the device failed
pub fault_alone : {objection : Option Refusal} {before now : ℕ} {why : Refusal} → objection ≡ None
    → (objection ≡ Some why) ⊎ ((objection ≡ None) × (IsFault before now why ⊎ (why ≡ refused.OutOfMemory))) → (why ≡ refused.OutOfMemory → ⊥) → IsFault before now why
fault_alone free (inl objects) not_short = none≢some _ (sym free ∙ objects)
fault_alone free (inr (none, inr short)) not_short = absurd (not_short short)
fault_alone free (inr (none, inl fault)) not_short = fault

-- ---- a node at work

by_first : (a b : Bool) → a ≡ true → (a || b) ≡ true
by_first a b e = ap (λ c. c || b) e

by_second : (a b : Bool) → b ≡ true → (a || b) ≡ true
by_second true b e = refl
by_second false b e = e

-- more inputs are durable than of the node, or another area is in use
abbrev pub gains : NodeView → NodeState → Bool
gains v t = nat_lt v.durable t.durable || nat_lt v.base.epoch t.base.epoch

-- that tells whether a stop left what flew
pub told : (flight : Flight) (keep : Bool) (v : NodeView) → MayStop flight v → gains v (left flight keep v) ≡ keep
told Batch true v waits =
    let long = length-take (min (v.durable + 64) (length v.inputs)) v.inputs in
    let more : nat_lt v.durable (left Batch true v).durable ≡ true = grind (arith, nat_tests) in
    by_first _ _ more
told Checkpoint true v free =
    let other : nat_lt v.base.epoch (left Checkpoint true v).base.epoch ≡ true = grind (arith, nat_tests) in
    by_second (nat_lt v.durable (left Checkpoint true v).durable) _ other
told Batch false v waits = (let long = length-take v.durable v.inputs in grind (arith, nat_tests))
told Checkpoint false v free = (let long = length-take v.durable v.inputs in grind (arith, nat_tests))

module _ (desk : DeskView) (reach : Reach) (queue : List HeldView) (here : IsServed desk reach queue) (flight : Flight) where
  abbrev s : NodeState
  s = launched_as flight desk.member.node desk.state

  lawful_served : IsLawfulState desk.member s
  lawful_served = lawful_flies flight desk.member desk.state (is_idle_state desk.state here.idle here.none) here.lawful

  -- its state is what it shows
  pub state_shown : state_of (view_with 0 desk queue) ≡ desk.state
  state_shown = λ i. record desk.state { flying = sym here.idle i; checkpoint = sym here.none i }

  pub flying_shown : flying flight (view_with 0 desk queue) ≡ s
  flying_shown = ap (launched_as flight desk.member.node) state_shown

  lands_served : IsServed (landed (flies flight desk)) reach queue
  lands_served = record {
    takes = here.takes;
    works = here.works;
    idle = refl;
    none = refl;
    lawful = lawful-landed desk.member s lawful_served;
    layout = launched_newest flight desk.member.node desk.state here.none here.layout;
    held = subst (λ (l : List Input). AreHeld desk.member.node desk.run 0 (length l) desk.tickets queue) (sym (inputs_stay flight desk.member.node desk.state)) here.held;
    reaches = here.reaches;
  }

  pub lands_shown : {dropped : ℕ} → view_with dropped (landed (flies flight desk)) queue ≡ made_durable flight (view_with dropped desk queue)
  lands_shown {dropped} = (λ i. record (view_with dropped desk queue) { inputs = inputs_stay flight desk.member.node desk.state i; durable = s.flying; base = launched_base s })
      ∙ λ i. record (view_with dropped desk queue) { durable = (sym flying_shown i).flying; base = launched_base (sym flying_shown i) }

module _ (m : Member) (desk : DeskView) (reach : Reach) (queue : List HeldView) (messages : List Msg) (here : IsWhole m desk reach queue messages) (flight : Flight) where
  abbrev f : NodeState
  f = launched_as flight m.node desk.state

  -- its state stays lawful while this flies
  pub lawful_flying : IsLawfulState m f
  lawful_flying = lawful_flies flight m desk.state (is_idle_state desk.state here.served.idle here.served.none) (subst (λ (k : Member). IsLawfulState k desk.state) here.is here.served.lawful)

  -- and its durable inputs stay
  pub durable_same : durable_in desk.state ≡ durable_in f
  durable_same = λ i. take (sym (durable_stays flight m.node desk.state) i) (sym (inputs_stay flight m.node desk.state) i)

  -- it landed, with these packets
  module _ (found : List Packet) (is : found ≡ packets desk.member.node (durable_in desk.state) (flying_in (launched_as flight desk.member.node desk.state))) where
    carried : carried_in found ≡ carried_in (packets m.node (durable_in f) (flying_in f))
    carried =
        ap carried_in is
        ∙ (ap (λ (k : Member). carried_in (packets k.node (durable_in desk.state) (flying_in (launched_as flight k.node desk.state)))) here.is
        ∙ ap (λ (l : List Input). carried_in (packets m.node l (flying_in f))) durable_same)

    -- they carry no more messages than inputs wait
    pub no_more : length (carried_in found) ≤ length desk.state.inputs - desk.state.durable
    no_more =
        let few = flying-few m.node f lawful_flying.counts.durable in
        let high = lawful_flying.counts.flying in
        let same = ap length carried in
        let inputs = ap length (inputs_stay flight m.node desk.state) in
        let durable = durable_stays flight m.node desk.state in
        omega arith

    after : messages ++ carried_in found ≡ sent m.node (flown_in f)
    after = (λ i. here.sends i ++ carried i) ∙ ((λ i. sent m.node (durable_same i) ++ carried_in (packets m.node (durable_in f) (flying_in f))) ∙ sent-flying m.node f lawful_flying.counts.durable)

    pub lands : IsWhole m (landed (flies flight desk)) reach queue (messages ++ carried_in found)
    lands = record {
      range = here.range;
      is = here.is;
      served = lands_served desk reach queue here.served flight;
      sends = after ∙ ap (λ (k : Member). sent m.node (flown_in (launched_as flight k.node desk.state))) (sym here.is);
      inside = subst (AreInside m.n) (sym after) (inside-front m.node m.n m.capacity f.flying (launched_base f) (me_within m here.range) f.inputs lawful_flying.all);
    }
