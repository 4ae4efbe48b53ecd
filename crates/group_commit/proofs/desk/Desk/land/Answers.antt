use Rattle.std.proofs.Common.{rules, ◌≡◌, ℕ, ◌<◌, ◌≤◌, ◌-◌, ◌++◌, ◌∙◌, List, length, take, drop, true, Option, Some, None, refl, ap, sym, subst, arith}
use Rattle.std.specs.Option.{option_map}
use Rattle.std.proofs.lemmas.List.{length-take}
use Rattle.ring_records.specs.declared.base.Base.{Base}
use Rattle.ring_records.specs.declared.input.Input.{Input}
use Rattle.ring_records.specs.declared.notice.Notice.{Notice}
use Rattle.ring_records.specs.Admission.{used}
use Rattle.ring_records.specs.Known.{after}
use Rattle.ring_records.specs.Release.{packets, notices}
use Rattle.ring_records.specs.States.{launched_base, durable_in, flown_in, flying_in}
use Rattle.ring_records.proofs.Counts.{length-filter_map}
use Rattle.gated_journal.specs.Batch.{kept_in, landed}
use Rattle.node_core.specs.declared.effects.Effects.{Effects}
use Rattle.group_commit.specs.Desk.{DeskKept, seen}
use Rattle.group_commit.specs.DeskCalls.{IsFlying}
use Rattle.group_commit.specs.Kept.{IsDesk, HoldsFor, area_behind, state_with}
use Rattle.group_commit.specs.Past.{IsPast}
use Rattle.group_commit.specs.Outbox.{AreFree, Holds, told_in}
use Rattle.group_commit.proofs.Checkpoints.{none_pending}
use Rattle.group_commit.proofs.Inside.{member_in, area_in, state_in}
use Rattle.group_commit.proofs.KeptInputs.{kept_landed}
use Rattle.group_commit.proofs.Landing.{part, part-length, flies, free, lands, landed_packets, landed_notices}
use Rattle.group_commit.proofs.Past.{free_since, durable-shifted, flying-shifted}
use Rattle.group_commit.proofs.Since.{known_landed, flown_fit}
use Rattle.group_commit.proofs.desk.Desk.land.Goals as goal
use Rattle.group_commit.proofs.desk.Desk.land.Goals.{After-land-landed, in-Some, in_default}

pub land-landed-requires : goal.land-landed-requires
land-landed-requires c =
    let d = c.self.inside in
    let i = c.self.invariant in
    record {
      holds = rw c.between-flown.ensures (
        d.node,
        d.n,
        after d.node d.base (take d.durable d.inputs.all.list),
        drop d.flying d.inputs.all.list,
        flies d.node d.durable d.flying d.outbox d.base d.inputs.all.list i.state.counts.durable i.state.counts.flying i.holds,
        free d.node d.n d.durable d.flying d.base d.inputs.all.list i.state.counts.durable (free_since (member_in d) d.base (launched_base (state_in d)) d.inputs.all.list i.state.all),
      );
    }

-- the inputs that flew
flew : (c : After-land-landed)
    → c.between-flown.result.now ≡ part c.self.inside.durable c.self.inside.flying c.self.inside.inputs.all.list
flew c = c.between-flown.ensures

-- the outbox once they are durable
settled : (c : After-land-landed)
    → HoldsFor c.self.inside.node c.land-landed.new.self c.self.inside.base (take c.self.inside.flying c.self.inside.inputs.all.list) (drop c.self.inside.flying c.self.inside.inputs.all.list) (c.self.inside.flying - c.self.inside.flying)
settled c =
    let d = c.self.inside in
    let i = c.self.invariant in
    let rest = drop d.flying d.inputs.all.list in
    let s = after d.node d.base (take d.durable d.inputs.all.list) in
    let holds = subst (λ (k : List Input). Holds d.node d.outbox s (k ++ rest) (length k) → AreFree d.node d.n s k → Holds d.node c.land-landed.new.self (after d.node s k) rest 0) (flew c) (c.land-landed.ensures.holds d.node d.n s rest) in
    lands d.node d.durable d.flying c.land-landed.new.self d.base d.inputs.all.list i.state.counts.durable
    (holds (flies d.node d.durable d.flying d.outbox d.base d.inputs.all.list i.state.counts.durable i.state.counts.flying i.holds) (free d.node d.n d.durable d.flying d.base d.inputs.all.list i.state.counts.durable (free_since (member_in d) d.base (launched_base (state_in d)) d.inputs.all.list i.state.all)))

-- the desk then, where this is the area that is in use, and no other is pending
landed_desk : (c : After-land-landed) (area : Base) (pending : Option ℕ) → launched_base (state_in c.self.inside) ≡ area → pending ≡ None
    → IsDesk c.self.inside.core c.land-landed.new.self c.self.inside.inputs (member_in c.self.inside) c.self.inside.base (state_with area c.self.inside.inputs.all.list c.self.inside.flying c.self.inside.flying pending) c.self.inside.tickets.entries c.self.inside.issued
landed_desk c area pending launched none =
    let d = c.self.inside in
    let i = c.self.invariant in
    subst (λ (p : Base × Option ℕ). IsDesk d.core c.land-landed.new.self d.inputs (member_in d) d.base (state_with p.0 d.inputs.all.list d.flying d.flying p.1) d.tickets.entries d.issued) (λ k. (launched k, sym none k))
    (record {
      sound = i.sound;
      knows = i.knows;
      state = known_landed (member_in d) d.base (state_in d) i.state;
      holds = settled c;
      kept = kept_landed (member_in d) d.base (state_in d) d.inputs i.state.counts i.kept;
      given = i.given;
      answers = i.answers;
    })

pub invariant_of-self : goal.invariant_of-self
invariant_of-self c =
    let d = c.self.inside in
    landed_desk (goal.at.invariant_of-self c).After-land-landed _ None (ap (λ o. launched_base (state_with (area_in d) d.inputs.all.list d.durable d.flying o)) c.in-Some.is) refl

pub invariant_of-self-in_default : goal.invariant_of-self-in_default
invariant_of-self-in_default c =
    let d = c.self.inside in
    landed_desk (goal.at.invariant_of-self-in_default c).After-land-landed (area_in d) d.pending (ap (λ o. launched_base (state_with (area_in d) d.inputs.all.list d.durable d.flying o)) c.in_default.is) c.in_default.is

-- inputs make as many leaders known as they are, at most
few : (count k : ℕ) (all : List Notice) (waiting : List Effects) → count ≡ k → all ≡ told_in (take k waiting) → length all ≤ count
few count k all waiting same are = omega (arith, same, ap length are, length-filter_map (λ (e : Effects). e.notice) (take k waiting), length-take k waiting)

pub returns-clause-few : goal.returns-clause-few
returns-clause-few c = few _ _ _ c.self.inside.outbox.waiting.items c.land-landed.ensures.count c.land-landed.ensures.notices

-- an input flew, where no checkpoint did
some_flew : (c : After-land-landed) → c.self.inside.pending ≡ None → c.self.inside.durable < c.self.inside.flying
some_flew c none =
    let d = c.self.inside in
    let flies : c.is_flying-flies.result ≡ true = search rules in
    let is = subst (λ (v : DeskKept). IsFlying v (landed c.args.receipt)) (sym c.self.view_is) (subst (λ f. IsFlying c.args.self.now (kept_in f)) c.deref.ensures (c.is_flying-flies.ensures.yes flies)) in
    let batch : c.args.receipt.flown.snapshot ≡ None = is.snapshot ∙ ap (λ o. option_map (λ (b : Base). b.bytes) (option_map (area_behind (area_in d) d.flying) o)) none in
    let one = c.args.receipt.flown.some batch in
    let count = ap length is.inputs ∙ part-length d.durable d.flying d.inputs.all.list c.self.invariant.state.counts.flying in
    omega (arith, one, count)

-- what is durable then fits
fits_now : (c : After-land-landed) → used (launched_base (state_in c.self.inside)) (flown_in (state_in c.self.inside)) ≤ c.self.inside.capacity
fits_now c =
    let d = c.self.inside in
    flown_fit (member_in d) d.base (state_in d) c.self.invariant.state
    (λ none. some_flew c (none_pending (area_behind (area_in d) d.flying) d.pending none))

pub returns-clause-fits : goal.returns-clause-fits
returns-clause-fits c =
    let d = c.self.inside in
    let a = (goal.at.returns-clause-fits c).After-land-landed in
    let fits : (o : Option ℕ) → d.pending ≡ o → used (launched_base (state_with (area_in d) d.inputs.all.list d.durable d.flying o)) (flown_in (state_in d)) ≤ d.capacity =
    λ o e. subst (λ p. used (launched_base (state_with (area_in d) d.inputs.all.list d.durable d.flying p)) (flown_in (state_in d)) ≤ d.capacity) e (fits_now a) in
    elim c.match-self.branch [
      | in-Some w ↦ subst (λ (v : DeskKept). used v.view.state.base (durable_in v.view.state) ≤ v.view.member.capacity) (sym w.self-is) (fits (Some w.in-Some.length) w.in-Some.is)
      | in_default w ↦ subst (λ (v : DeskKept). used v.view.state.base (durable_in v.view.state) ≤ v.view.member.capacity) (sym w.self-is) (fits None w.in_default.is)
    ]

pub returns-clause-packets : goal.returns-clause-packets
returns-clause-packets c =
    let d = c.self.inside in
    let i = c.self.invariant in
    let a = (goal.at.returns-clause-packets c).After-land-landed in
    let m = member_in d in
    let s = state_in d in
    let each = free_since m d.base (launched_base s) d.inputs.all.list i.state.all in
    subst (λ (v : DeskKept). (past : List Input) → IsPast v.view.member v.opening past → c.land-landed.result.packets.items ≡ packets v.view.member.node (durable_in (seen past v).state) (flying_in (seen past v).state)) c.self.view_is (λ past is.
    landed_packets m d.base past d.inputs.all.list d.durable d.flying d.outbox.waiting.items _ _ _ _ is each i.state.counts.durable i.holds.waiting (flew a) i.holds.released.taken
    (settled a).released.taken c.land-landed.ensures.packets
    ∙ (λ k. packets d.node (sym (durable-shifted past s) k) (sym (flying-shifted past s) k)))

pub returns-clause-notices : goal.returns-clause-notices
returns-clause-notices c =
    let d = c.self.inside in
    let i = c.self.invariant in
    let a = (goal.at.returns-clause-notices c).After-land-landed in
    let m = member_in d in
    let s = state_in d in
    let each = free_since m d.base (launched_base s) d.inputs.all.list i.state.all in
    subst (λ (v : DeskKept). (past : List Input) → IsPast v.view.member v.opening past → c.land-landed.result.notices.items ≡ notices v.view.member.node (durable_in (seen past v).state) (flying_in (seen past v).state)) c.self.view_is (λ past is.
    landed_notices m d.base past d.inputs.all.list d.durable d.flying d.outbox.waiting.items _ _ is each i.state.counts.durable i.holds.waiting (flew a) c.land-landed.ensures.notices
    ∙ (λ k. notices d.node (sym (durable-shifted past s) k) (sym (flying-shifted past s) k)))
