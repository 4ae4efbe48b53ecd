-- What a tie knows of its hub's desk: what flies there, and whether it has failed or is done.
use Rattle.std.proofs.Common.{◌≡◌, inl, inr, ℕ, ◌+◌, ◌-◌, Bool, true, false, cond, not, ◌&&◌, ◌||◌, length, drop, refl, sym, ap, ◌∙◌, subst, arith, length-take, length-drop, Option, Some, None, Result, Ok, Err, IfNone, IfOk, OnOk}
use Rattle.std.specs.Option.{option_map}
use Rattle.std.specs.Prelude.{MatchOption, OnErr, is_none, is_some, nat_eq, nat_lt}
use Rattle.std.proofs.lemmas.Bool.{true≢false, false≢true, lt-ltb, le-ltb, eq-eqb, ne_eqb, cases_lt}
use Rattle.ring_records.specs.declared.base.Base.{Base}
use Rattle.ring_records.specs.declared.refusal.Refusal.TheVariants as refused
use Rattle.ring_records.specs.declared.summary.Summary.{Summary}
use Rattle.ring_records.specs.Admission.{newest}
use Rattle.ring_records.specs.Snapshot.{snapshot_len}
use Rattle.ring_records.specs.States.{NodeState, is_idle, flying_in}
use Rattle.ring_records.specs.Lawful.{IsNodeState}
use Rattle.ring_records.proofs.Lists.{none≢some}
use Rattle.ring_records.proofs.States.{idle-none}
use Rattle.gated_journal.specs.Batch.{Numbered, numbered_with}
use Rattle.gated_journal.specs.declared.work.Work.{Work}
use Rattle.group_commit.specs.Desk.{DeskKept, DeskView, known_all, landed, launched}
use Rattle.group_commit.specs.DeskCalls.{IsFlying}
use Rattle.group_commit.specs.Launching.{launch_objection, launched_all, needs_checkpoint, is_checkpoint_next, launched_next, IsNoWork, IsWorkOf}
use Rattle.group_commit.specs.Next.{is_to_make_room}
use Rattle.group_commit.proofs.Checkpoints.{idle_free}
use Rattle.group_commit.proofs.Costs.{launched_counts}
use Rattle.commit_hub.specs.Desks.{flying_part, has_waiting, is_done, is_resting}
use Rattle.commit_hub.specs.Over.{flies, launch_refusal}
use Rattle.gated_journal.specs.Works.{flown_by, summary_by}

-- ---- what flies

flown_count : (s : NodeState) → IsNodeState s → s.flying ≡ s.durable + length (flying_in s)
flown_count s counts = omega (arith, counts.durable, counts.flying, length-take (s.flying - s.durable) (drop s.durable s.inputs), length-drop s.durable s.inputs)

pub as_flies : (d : DeskKept) (b : Numbered) → flying_part d ≡ b → IsFlying d b
as_flies d b e = record {
  node = sym (ap (λ (n : Numbered). n.node) e);
  first = sym (ap (λ (n : Numbered). n.first) e);
  inputs = sym (ap (λ (n : Numbered). n.inputs) e);
  snapshot = sym (ap (λ (n : Numbered). n.snapshot) e);
}

pub flies_as : (d : DeskKept) (b : Numbered) → IsFlying d b → flying_part d ≡ b
flies_as d b f = sym (λ i. record { node = f.node i; first = f.first i; inputs = f.inputs i; snapshot = f.snapshot i })

-- ---- why nothing is launched

some_mapped : (o : Option Base) → is_some (option_map (λ (b : Base). b.bytes) o) ≡ not (is_none o)
some_mapped None = refl
some_mapped (Some b) = refl

or_not : (waits same none : Bool) → waits ≡ not same → (waits || not none) ≡ not (same && none)
or_not true true none e = absurd (true≢false e)
or_not true false none e = refl
or_not false true none e = refl
or_not false false none e = absurd (false≢true e)

counted : (f d n : ℕ) → f ≡ d + n → nat_lt 0 n ≡ not (nat_eq f d)
counted f d n e = elim (cases_lt 0 n) [
  | inl some ↦ lt-ltb 0 n some ∙ sym (ap not (ne_eqb f d (λ same. omega (arith, e, same, some))))
  | inr none ↦ le-ltb 0 n none ∙ sym (ap not (eq-eqb f d (omega (arith, e, none))))
]

-- inputs or a snapshot fly exactly where it is not idle
pub flies_is : (d : DeskKept) → IsNodeState d.view.state → flies (flying_part d) ≡ not (is_idle d.view.state)
flies_is d counts =
    let s = d.view.state in
    ap (λ b. nat_lt 0 (length (flying_in s)) || b) (some_mapped s.checkpoint)
    ∙ or_not (nat_lt 0 (length (flying_in s))) (nat_eq s.flying s.durable) (is_none s.checkpoint) (counted s.flying s.durable (length (flying_in s)) (flown_count s counts))

pub refusal_is : (d : DeskKept) → IsNodeState d.view.state → launch_refusal d.view.failed (flying_part d) ≡ launch_objection d.view
refusal_is d counts = go d.view.failed (flies (flying_part d)) (is_idle d.view.state) (flies_is d counts)
  where
    go : (failed some idle : Bool) → some ≡ not idle
        → cond failed (Some refused.Failed) (cond some (Some refused.Busy) None) ≡ cond failed (Some refused.Failed) (cond idle None (Some refused.Busy))
    go true some idle e = refl
    go false true true e = absurd (true≢false e)
    go false true false e = refl
    go false false true e = refl
    go false false false e = absurd (false≢true e)

pub works : (v : DeskView) → launch_objection v ≡ None → v.failed ≡ false
works v e = go v.failed (is_idle v.state) e
  where
    go : (failed idle : Bool) → cond failed (Some refused.Failed) (cond idle None (Some refused.Busy)) ≡ None → failed ≡ false
    go true idle e = none≢some refused.Failed (sym e)
    go false idle e = refl

-- nothing flies where all is durable that did
pub idle_refusal : (d : DeskKept) → IsNodeState d.view.state → d.view.failed ≡ false → d.view.state.flying ≡ d.view.state.durable → d.view.state.checkpoint ≡ None
    → launch_refusal d.view.failed (flying_part d) ≡ None
idle_refusal d counts works same none =
    refusal_is d counts
    ∙ ((λ i. cond (works i) (Some refused.Failed) (cond (is_idle d.view.state) None (Some refused.Busy)))
    ∙ (λ i. cond (eq-eqb d.view.state.flying d.view.state.durable same i && is_none (none i)) None (Some refused.Busy)))

-- ---- behind a launch

module _ (w : Bool) (old new : DeskKept) (counts : IsNodeState old.view.state) (free : launch_objection old.view ≡ None) (next : new ≡ launched_next w old) where
  flown_all : (work : Work) → is_checkpoint_next w old ≡ true → IsWorkOf w old new work → flying_part new ≡ flown_by work
  flown_all work b is =
      let to : new ≡ record old { view = launched_all old } = next ∙ ap (λ (c : Bool). record old { view = cond c (launched_all old) (launched old.view) }) b in
      let summed : summary_by work ≡ Some (known_all old) = is.summary ∙ ap (λ (c : Bool). cond c (Some (known_all old)) None) b in
      (λ i. numbered_with (to i).view.member.node ((to i).opening.inputs + (to i).view.state.durable) (flying_in new.view.state) (option_map (λ (c : Base). c.bytes) (to i).view.state.checkpoint))
      ∙ sym (is.flown ∙ ap (λ (o : Option Summary). numbered_with old.view.member.node (old.opening.inputs + old.view.state.durable) (flying_in new.view.state) (option_map (snapshot_len newest) o)) summed)

  flown_first : (work : Work) → is_checkpoint_next w old ≡ false → IsWorkOf w old new work → flying_part new ≡ flown_by work
  flown_first work b is =
      let to : new ≡ record old { view = launched old.view } = next ∙ ap (λ (c : Bool). record old { view = cond c (launched_all old) (launched old.view) }) b in
      let summed : summary_by work ≡ None = is.summary ∙ ap (λ (c : Bool). cond c (Some (known_all old)) None) b in
      (λ i. numbered_with (to i).view.member.node ((to i).opening.inputs + (to i).view.state.durable) (flying_in new.view.state) (option_map (λ (c : Base). c.bytes) (to i).view.state.checkpoint))
      ∙ (ap (λ (o : Option Base). numbered_with old.view.member.node (old.opening.inputs + old.view.state.durable) (flying_in new.view.state) (option_map (λ (c : Base). c.bytes) o)) (idle-none old.view.state (idle_free old.view free))
      ∙ sym (is.flown ∙ ap (λ (o : Option Summary). numbered_with old.view.member.node (old.opening.inputs + old.view.state.durable) (flying_in new.view.state) (option_map (snapshot_len newest) o)) summed))

  flown_work : (work : Work) → IsWorkOf w old new work → flying_part new ≡ flown_by work
  flown_work work is = go (is_checkpoint_next w old) refl
    where
      go : (b : Bool) → is_checkpoint_next w old ≡ b → flying_part new ≡ flown_by work
      go true b = flown_all work b is
      go false b = flown_first work b is

  -- where none is given
  to_none : IsNoWork w old → new ≡ record old { view = launched old.view }
  to_none rest = next ∙ ap (λ (c : Bool). record old { view = cond c (launched_all old) (launched old.view) }) rest.batch

  none_flies : IsNoWork w old → launch_refusal new.view.failed (flying_part new) ≡ None
  none_flies rest =
      let none = idle-none old.view.state (idle_free old.view free) in
      let c = launched_counts old.view.state none counts in
      subst (λ (d : DeskKept). launch_refusal d.view.failed (flying_part d) ≡ None) (sym (to_none rest))
      (idle_refusal (record old { view = launched old.view }) c (works old.view free) (omega (arith, c.durable, c.flying, rest.all)) none)

  none_done : IsNoWork w old → is_resting w old ≡ false → is_done new ≡ true
  none_done rest busy =
      let rests : has_waiting old ≡ false = le-ltb old.view.state.durable (length old.view.state.inputs) (omega (arith, rest.all)) in
      let closed = go old.view.closed old.view.failed (has_waiting old) (is_to_make_room w old) (needs_checkpoint old) (works old.view free) rests rest.batch busy in
      subst (λ (d : DeskKept). is_done d ≡ true) (sym (to_none rest)) (λ i. closed i && not (rests i))
    where
      go : (closed failed waits room needs : Bool) → failed ≡ false → waits ≡ false → (needs || room && (waits || not (closed || failed))) ≡ false
          → ((not waits && not (closed || failed)) && not room) ≡ false → closed ≡ true
      go true failed waits room needs f x n b = refl
      go false true waits room needs f x n b = absurd (true≢false f)
      go false false true room needs f x n b = absurd (true≢false x)
      go false false false true true f x n b = absurd (true≢false n)
      go false false false true false f x n b = absurd (true≢false n)
      go false false false false needs f x n b = absurd (true≢false b)

-- what flies behind it, which is its work, or nothing
pub launch_flies : {E : Type 0} (w : Bool) (result : Result (Option Work) E) (old new : DeskKept) → IsNodeState old.view.state → OnOk result (launch_objection old.view ≡ None) → OnOk result (new ≡ launched_next w old)
    → IfOk result (λ some. MatchOption some (IsNoWork w old) (IsWorkOf w old new))
    → IfOk result (λ some. MatchOption some (launch_refusal new.view.failed (flying_part new) ≡ None) (λ work. flying_part new ≡ flown_by work))
launch_flies w (Err e) old new counts free next is = tt
launch_flies w (Ok None) old new counts free next is = none_flies w old new counts free next is
launch_flies w (Ok (Some work)) old new counts free next is = flown_work w old new counts free next work is

pub launch_done : {E : Type 0} (w : Bool) (result : Result (Option Work) E) (old new : DeskKept) → IsNodeState old.view.state → OnOk result (launch_objection old.view ≡ None) → OnOk result (new ≡ launched_next w old)
    → IfOk result (λ some. MatchOption some (IsNoWork w old) (IsWorkOf w old new)) → IfOk result (λ some. IfNone some (is_resting w old ≡ false → is_done new ≡ true))
launch_done w (Err e) old new counts free next is = tt
launch_done w (Ok None) old new counts free next is = none_done w old new counts free next is
launch_done w (Ok (Some work)) old new counts free next is = tt

-- ---- behind what lands

pub landed_free : (old new : DeskKept) → new ≡ record old { view = landed old.view } → IsNodeState new.view.state → old.view.failed ≡ false → launch_refusal new.view.failed (flying_part new) ≡ None
landed_free old new next counts works =
    idle_refusal new counts (ap (λ (d : DeskKept). d.view.failed) next ∙ works) (ap (λ (d : DeskKept). d.view.state.flying) next ∙ sym (ap (λ (d : DeskKept). d.view.state.durable) next))
    (ap (λ (d : DeskKept). d.view.state.checkpoint) next)

-- ---- where it is refused

pub on_err : {T E : Type 0} (result : Result T E) (P Q : Type 0) → (P → Q) → OnErr result P → OnErr result Q
on_err (Ok x) P Q f is = tt
on_err (Err e) P Q f is = f is
