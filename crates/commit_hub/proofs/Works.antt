-- What a hub launches next, and what lands.
use Rattle.std.proofs.Common.{◌≡◌, ℕ, ◌+◌, ◌≤◌, Bool, true, false, List, ◌++◌, length, refl, sym, ap, ◌∙◌, subst, arith, length-take, Option, Some, None, if◌then◌else◌, Result, Ok, Err, IfNone, IfOk, IfSome, OnOk}
use Rattle.std.specs.Option.{option_map}
use Rattle.std.specs.Prelude.{unwrap_or, MatchOption, OnErr}
use Rattle.std.proofs.lemmas.Option.{same_Some}
use Rattle.ring_records.specs.declared.base.Base.{Base}
use Rattle.ring_records.specs.declared.input.Input.{Input}
use Rattle.ring_records.specs.declared.summary.Summary.{Summary}
use Rattle.ring_records.specs.Member.{Member}
use Rattle.ring_records.specs.States.{NodeState, launched_base, durable_in, flown_in, flying_in}
use Rattle.ring_records.specs.Lawful.{IsNodeState}
use Rattle.ring_records.proofs.Lists.{none≢some}
use Rattle.ring_records.proofs.States.{idle-none}
use Rattle.gated_journal.specs.declared.work.Work.{Work}
use Rattle.group_commit.specs.Desk.{DeskKept, landed, launched}
use Rattle.group_commit.specs.Launching.{next_area, launch_objection, launched_all, is_checkpoint_next, launched_next, IsFitting, IsNoWork, IsWorkOf}
use Rattle.group_commit.specs.Next.{IsNext, Durable, durable_part, with_area, with_batch}
use Rattle.group_commit.proofs.Checkpoints.{idle_free, none_pending}
use Rattle.group_commit.proofs.Costs.{base_stays, flown, launched_counts}
use Rattle.commit_hub.specs.Works.{IsNextArea}

-- ---- what is told of an option

pub of_some : {X : Type 0} (o : Option X) (x : X) (P : X → Type 0) → o ≡ Some x → IfSome o P → P x
of_some o x P is holds = subst (λ q. IfSome q P) is holds

-- ---- a desk that launched

-- what stays of it, and what flies
pub record Launches (old new : DeskKept) : Type 0 where
  pub member : new.view.member ≡ old.view.member
  pub opening : new.opening ≡ old.opening
  pub inputs : new.view.state.inputs ≡ old.view.state.inputs
  pub durable : new.view.state.durable ≡ old.view.state.durable
  pub base : new.view.state.base ≡ old.view.state.base
  pub closed : new.view.closed ≡ old.view.closed
  pub failed : new.view.failed ≡ old.view.failed
  pub counts : IsNodeState new.view.state
  pub next : IsNextArea new.view.state

pub launches_batch : (old new : DeskKept) → launch_objection old.view ≡ None → IsNodeState old.view.state → new ≡ record old { view = launched old.view } → Launches old new
launches_batch old new free counts next =
    let s = old.view.state in
    let none = idle-none s (idle_free old.view free) in
    subst (Launches old) (sym next) (record {
      member = refl;
      opening = refl;
      inputs = refl;
      durable = refl;
      base = refl;
      closed = refl;
      failed = refl;
      counts = launched_counts s none counts;
      next = λ b e. none≢some b (sym none ∙ e);
    })

pub launches_all : (old new : DeskKept) → IsNodeState old.view.state → new ≡ record old { view = launched_all old } → Launches old new
launches_all old new counts next =
    subst (Launches old) (sym next) (record {
      member = refl;
      opening = refl;
      inputs = refl;
      durable = refl;
      base = refl;
      closed = refl;
      failed = refl;
      counts = record {
        durable = omega (arith, counts.durable, counts.flying);
        flying = omega arith;
        based = counts.based;
        checkpointed = λ b e. sym (ap (λ (c : Base). c.inputs) (same_Some (next_area old) b e));
      };
      next = λ b e. let is = sym (same_Some (next_area old) b e) in (ap (λ (c : Base). c.layout) is, ap (λ (c : Base). c.epoch) is);
    })

pub launches : {T E : Type 0} (w : Bool) (result : Result T E) (old new : DeskKept) → IsNodeState old.view.state → IsNextArea old.view.state
    → OnOk result (new ≡ launched_next w old) → OnOk result (launch_objection old.view ≡ None) → OnErr result (new ≡ old) → Launches old new
launches w (Err e) old new counts next is free same =
    subst (Launches old) (sym same) (record { member = refl; opening = refl; inputs = refl; durable = refl; base = refl; closed = refl; failed = refl; counts = counts; next = next })
launches w (Ok some) old new counts next is free same = go (is_checkpoint_next w old) is
  where
    go : (b : Bool) → new ≡ record old { view = if b then launched_all old else launched old.view } → Launches old new
    go true e = launches_all old new counts e
    go false e = launches_batch old new free counts e

-- where none is given all inputs are durable
pub none_waits : {E : Type 0} (w : Bool) (result : Result (Option Work) E) (old new : DeskKept) (first durable : ℕ) → IfOk result (λ some. MatchOption some (IsNoWork w old) (IsWorkOf w old new))
    → durable ≡ old.opening.inputs + old.view.state.durable → first ≤ old.opening.inputs + length old.view.state.inputs → IfOk result (λ some. IfNone some (first ≤ durable))
none_waits w (Err e) old new first durable is counted within = tt
none_waits w (Ok None) old new first durable is counted within = omega (arith, is.all, counted, within)
none_waits w (Ok (Some work)) old new first durable is counted within = tt

-- what fits behind the durable inputs of the desk is for a journal that has what is known of these
pub fits_next : {E : Type 0} (result : Result (Option Work) E) (d : DeskKept) (m : Member) (opening : Summary) (known : Durable) → d.view.member ≡ m → d.opening ≡ opening → durable_part d ≡ known
    → IfOk result (λ some. IfSome some (IsFitting d)) → IfOk result (λ some. IfSome some (IsNext m opening known))
fits_next result d m opening known of from is fits =
    subst (λ (x : Member). IfOk result (λ some. IfSome some (IsNext x opening known))) of
    (subst (λ (o : Summary). IfOk result (λ some. IfSome some (IsNext d.view.member o known))) from
    (subst (λ (k : Durable). IfOk result (λ some. IfSome some (IsNext d.view.member d.opening k))) is fits))

-- ---- what landed

joined : (s : NodeState) (inputs : List Input) → IsNodeState s → inputs ≡ flying_in s → flown_in s ≡ durable_in s ++ inputs
joined s inputs counts is = sym (flown s counts) ∙ ap (λ (l : List Input). durable_in s ++ l) (sym is)

-- no checkpoint flew, where the receipt is a batch's
pub flew_none : (s : NodeState) (snapshot : Option ℕ) → snapshot ≡ option_map (λ (b : Base). b.bytes) s.checkpoint → snapshot ≡ None → s.checkpoint ≡ None
flew_none s snapshot is none = none_pending (λ (b : Base). b.bytes) s.checkpoint (sym is ∙ none)

-- the area of the checkpoint that flew, where the receipt has a snapshot of this length
pub record Flew (s : NodeState) (bytes : ℕ) : Type 0 where
  pub area : Base
  pub flies : s.checkpoint ≡ Some area
  pub is : area.bytes ≡ bytes

pub flew_some : (s : NodeState) (snapshot : Option ℕ) (bytes : ℕ) → snapshot ≡ option_map (λ (b : Base). b.bytes) s.checkpoint → snapshot ≡ Some bytes → Flew s bytes
flew_some s snapshot bytes is some = go s.checkpoint refl (sym is ∙ some)
  where
    go : (o : Option Base) → s.checkpoint ≡ o → option_map (λ (b : Base). b.bytes) o ≡ Some bytes → Flew s bytes
    go None e never = absurd (none≢some bytes never)
    go (Some b) e same = record { area = b; flies = e; is = same_Some b.bytes bytes same }

-- what is durable then: the inputs that flew too, in the same area
pub lands_batch : (old new : DeskKept) (inputs : List Input) → old.view.state.checkpoint ≡ None → IsNodeState old.view.state → new ≡ record old { view = landed old.view }
    → inputs ≡ flying_in old.view.state → durable_part new ≡ with_batch (durable_part old) inputs
lands_batch old new inputs none counts next is =
    let s = old.view.state in
    ap durable_part next ∙ (λ i. record { base = base_stays s none i; inputs = joined s inputs counts is i })

-- or in the next one
pub lands_area : (old new : DeskKept) (inputs : List Input) (bytes : ℕ) → Flew old.view.state bytes → IsNextArea old.view.state → IsNodeState old.view.state
    → new ≡ record old { view = landed old.view }
    → inputs ≡ flying_in old.view.state → durable_part new ≡ with_area (durable_part old) inputs bytes
lands_area old new inputs bytes flew area counts next is =
    let s = old.view.state in
    let whole = joined s inputs counts is in
    let same : launched_base s ≡ flew.area = ap (λ o. unwrap_or o s.base) flew.flies in
    let stands : flew.area.inputs ≡ length (durable_in s ++ inputs) = omega (arith, counts.checkpointed flew.area flew.flies, ap length whole, length-take s.flying s.inputs, counts.flying) in
    let at = area flew.area flew.flies in
    ap durable_part next ∙ (λ i. record {
      base = (same ∙ (λ j. record { layout = at.0 j; epoch = at.1 j; inputs = stands j; bytes = flew.is j })) i;
      inputs = whole i;
    })
