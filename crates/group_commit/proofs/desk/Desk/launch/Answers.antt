use Rattle.std.proofs.Common.{rules, ◌≡◌, ℕ, ◌<◌, ◌≤◌, ◌+◌, ◌-◌, ◌∙◌, false, List, length, take, drop, Option, None, sym, ap, subst, arith}
use Rattle.ring_records.specs.declared.input.Input.{Input}
use Rattle.ring_records.specs.Known.{after}
use Rattle.ring_records.specs.States.{launched_base}
use Rattle.gated_journal.specs.Batch.{Numbered, numbered}
use Rattle.gated_journal.specs.Frames.{AreSuited}
use Rattle.group_commit.specs.Desk.{DeskKept}
use Rattle.group_commit.specs.Launching.{needs_checkpoint}
use Rattle.group_commit.specs.Kept.{state_with}
use Rattle.group_commit.specs.declared.desk.Desk.TheInside.{Inside}
use Rattle.group_commit.specs.Opening.{waits_for_area}
use Rattle.group_commit.specs.Outbox.{Holds}
use Rattle.group_commit.specs.Since.{IsLawfulSince}
use Rattle.group_commit.proofs.Checkpoints.{idle_free}
use Rattle.group_commit.proofs.Flies.{idle_flies}
use Rattle.group_commit.proofs.Inside.{member_in, area_in, shown_by}
use Rattle.group_commit.proofs.KeptInputs.{kept_launched}
use Rattle.group_commit.proofs.Landing.{part-length}
use Rattle.group_commit.proofs.Settling.{holds_still, loaded_holds, still_holds}
use Rattle.group_commit.proofs.Since.{known_launched, core_launched, first_fit, plain_suited}
use Rattle.group_commit.proofs.desk.Desk.launch.Goals as goal

-- no input waits for another area, where none is pending
plain_in : (d : Inside) (now : DeskKept) → shown_by d ≡ now → needs_checkpoint now ≡ false → d.pending ≡ None → waits_for_area (area_in d) d.inputs.all.list ≡ false
plain_in d now view plain none =
    ap (λ (o : Option ℕ). waits_for_area (launched_base (state_with (area_in d) d.inputs.all.list d.durable d.flying o)) d.inputs.all.list) (sym none) ∙ (ap needs_checkpoint view ∙ plain)

pub returns-in-Ok-clause-suits : goal.returns-in-Ok-clause-suits
returns-in-Ok-clause-suits c =
    let d = c.self.inside in
    let none : d.pending ≡ None = search rules in
    let layout : d.layout ≡ c.args.self.now.view.state.base.layout = ap (λ (v : DeskKept). v.view.state.base.layout) c.self.view_is in
    let inputs = ap (λ (n : Numbered). n.inputs) c.in-Ok.ensures.batch ∙ c.between-inputs.ensures in
    subst (λ (p : ℕ × List Input). AreSuited p.0 p.1) (λ i. (layout i, sym inputs i))
    (plain_suited (area_in d) d.durable (c.min-end.result - d.durable) d.inputs.all.list c.self.invariant.state.counts.based (plain_in d c.args.self.now c.self.view_is c.requires.plain none))

pub invariant_of-self : goal.invariant_of-self
invariant_of-self c =
    let d = c.self.inside in
    let i = c.self.invariant in
    let s = after d.node d.base (take d.durable d.inputs.all.list) in
    let waits = drop d.durable d.inputs.all.list in
    let within : c.min-end.result ≤ length d.inputs.all.list = search rules in
    let none : d.pending ≡ None = search rules in
    let low : d.durable ≤ c.min-end.result = search rules in
    let count = ap length c.between-inputs.ensures ∙ part-length d.durable c.min-end.result d.inputs.all.list within in
    record {
      sound = i.sound;
      knows = i.knows ∙ core_launched (member_in d) d.base (area_in d) d.inputs.all.list d.durable d.flying c.min-end.result d.pending none;
      state = known_launched (member_in d) d.base (area_in d) d.inputs.all.list d.durable d.flying c.min-end.result d.pending none low within (plain_in d c.args.self.now c.self.view_is c.requires.plain none) i.state;
      holds = subst (λ k. Holds d.node c.prepare.new.outbox s waits k) count (loaded_holds d.node _ d.outbox c.prepare.new.outbox s waits c.in-Ok.ensures.loaded (holds_still d.node _ d.outbox _ _ i.holds));
      kept = kept_launched (member_in d) d.base (area_in d) d.inputs.all.list d.durable d.flying c.min-end.result d.pending d.inputs none i.kept;
      given = i.given;
      answers = i.answers;
    }

pub returns-in-Ok-clause-batch : goal.returns-in-Ok-clause-batch
returns-in-Ok-clause-batch c =
    let d = c.self.inside in
    c.in-Ok.ensures.batch
    ∙ (λ k. numbered d.node (c.durable-first.ensures k) (c.between-inputs.ensures k))
    ∙ ap (λ (v : DeskKept). numbered v.view.member.node (c.args.self.now.opening.inputs + c.args.self.now.view.state.durable) (take (c.min-end.result - d.durable) (drop d.durable d.inputs.all.list))) c.self.view_is

pub returns-in-Ok-clause-fits : goal.returns-in-Ok-clause-fits
returns-in-Ok-clause-fits c =
    let d = c.self.inside in
    let i = c.self.invariant in
    let none : d.pending ≡ None = search rules in
    let some : d.durable < c.min-end.result = search rules in
    let within : c.min-end.result ≤ length d.inputs.all.list = search rules in
    let based = i.state.counts.based in
    first_fit (member_in d) d.base (area_in d) c.min-end.result d.inputs.all.list
    (subst (λ b. IsLawfulSince (member_in d) d.base b d.inputs.all.list) (ap (λ o. launched_base (state_with (area_in d) d.inputs.all.list d.durable d.flying o)) none) i.state.all) (plain_in d c.args.self.now c.self.view_is c.requires.plain none) (omega (arith, some, based)) within

pub invariant_of-self-in-Err : goal.invariant_of-self-in-Err
invariant_of-self-in-Err c =
    let d = c.self.inside in
    let i = c.self.invariant in
    let s = after d.node d.base (take d.durable d.inputs.all.list) in
    let waits = drop d.durable d.inputs.all.list in
    let free : c.launch_objection.result ≡ None = search rules in
    let idle = idle_flies c.args.self.now.view.state (idle_free c.args.self.now.view (sym c.launch_objection.ensures ∙ free)) in
    let same : d.flying ≡ d.durable = ap (λ (v : DeskKept). v.view.state.flying) c.self.view_is ∙ idle ∙ sym (ap (λ (v : DeskKept). v.view.state.durable) c.self.view_is) in
    let none : d.flying - d.durable ≡ 0 = omega (arith, same) in
    record {
      sound = i.sound;
      knows = i.knows;
      state = i.state;
      holds = subst (λ k. Holds d.node c.prepare.new.outbox s waits k) (sym none) (still_holds d.node d.outbox c.prepare.new.outbox s waits c.in-Err.ensures.err (holds_still d.node _ d.outbox _ _ i.holds));
      kept = i.kept;
      given = i.given;
      answers = i.answers;
    }
