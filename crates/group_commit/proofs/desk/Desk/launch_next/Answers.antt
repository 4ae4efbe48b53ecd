use Rattle.std.proofs.Common.{◌≡◌, ◌+◌, ◌-◌, ◌*◌, ◌<◌, ◌≤◌, ◌++◌, drop, Some, inl, inr, refl, sym, ap, ◌∙◌, subst, arith}
use Rattle.std.specs.Prelude.{nat_lt}
use Rattle.std.proofs.lemmas.Bool.{and_parts, ltb-true}
use Rattle.std.proofs.lemmas.List.{take-append-drop}
use Rattle.ring_records.specs.declared.base.Base.{Base}
use Rattle.ring_records.specs.declared.summary.Summary.{Summary}
use Rattle.ring_records.specs.Admission.{costs_of, used, newest}
use Rattle.ring_records.specs.Known.{after}
use Rattle.ring_records.specs.Snapshot.{snapshot_len}
use Rattle.ring_records.specs.States as states
use Rattle.ring_records.specs.States.{durable_in, flying_in, flown_in, launched_base}
use Rattle.ring_records.proofs.States.{idle-none, idle-base}
use Rattle.gated_journal.specs.Batch.{Numbered, numbered, numbered_by, numbered_with}
use Rattle.group_commit.specs.Desk.{DeskKept, known_all}
use Rattle.group_commit.specs.Next.{FliesLawfully, durable_part}
use Rattle.group_commit.proofs.Checkpoints.{idle_free, may_launch, next_refused, next_why}
use Rattle.group_commit.proofs.Costs.{durable_costs, durable_count, flown_costs, launched_counts, not_durable}
use Rattle.group_commit.proofs.Since.{may_renew}
use Rattle.group_commit.proofs.Flies.{flies_all, flies_batch}
use Rattle.group_commit.proofs.Seen.{lawful_desk}
use Rattle.group_commit.proofs.desk.Desk.launch_next.Goals as goal

pub returns-in-Ok-clause-fits : goal.returns-in-Ok-clause-fits
returns-in-Ok-clause-fits c =
    let desk = c.args.self.now in
    let s = desk.view.state in
    let m = desk.view.member in
    let launch = c.in-Ok.ensures in
    let made = c.in-Ok.made in
    let counts = c.accepted-accepted.ensures.counts in
    let idle = (may_launch desk launch.free).idle in
    let is = next_why c.args.is_wanted desk (sym c.is_checkpoint_next.ensures ∙ c.if-is_checkpoint_next.true) in
    let inputs : (numbered_by made).inputs ≡ drop s.durable s.inputs = ap (λ (n : Numbered). n.inputs) launch.checkpoint ∙ (ap (λ (d : DeskKept). flying_in d.view.state) launch.next ∙ not_durable s) in
    record {
      node = ap (λ (n : Numbered). n.node) launch.checkpoint;
      first = ap (λ (n : Numbered). n.first) launch.checkpoint ∙ ap (λ k. desk.opening.inputs + k) (sym (durable_count s counts));
      snapshot = refl;
      summary = launch.summary ∙ ap (after m.node desk.opening) (sym (take-append-drop s.durable s.inputs) ∙ ap (λ l. durable_in s ++ l) (sym inputs));
      why = elim is [
        | inl (inl due) ↦ (
            let base : used (launched_base s) s.inputs ≡ used s.base s.inputs = ap (λ (b : Base). used b s.inputs) (idle-base s idle) in
            inl (omega (arith, due.filled, base, durable_costs s counts, ap costs_of inputs), subst (λ (b : Summary). 4 * snapshot_len newest b ≤ m.capacity) (sym launch.summary) due.short))
        | inl (inr freed) ↦ (
            let base : used (launched_base s) s.inputs ≡ used s.base s.inputs = ap (λ (b : Base). used b s.inputs) (idle-base s idle) in
            let taken : used (launched_base s) s.inputs ≡ used s.base (durable_in s) + costs_of (numbered_by made).inputs = omega (arith, base, durable_costs s counts, ap costs_of inputs) in
            inr (inl (subst (λ (b : Summary). m.capacity ≤ 16 * (used s.base (durable_in s) + costs_of (numbered_by made).inputs - snapshot_len newest b)) (sym launch.summary)
            (subst (λ k. m.capacity ≤ 16 * (k - snapshot_len newest (known_all desk))) taken freed.freed))))
        | inr needs ↦ inr (inr (subst (λ (b : Base). b.layout < newest) (idle-base s idle) (ltb-true (launched_base s).layout newest (and_parts (nat_lt (launched_base s).layout newest) _ needs).0)))
      ];
      fits = launch.fits;
      sound = launch.sound;
      left = launch.epoch;
      lawful = (
          let from = desk.opening.inputs + s.durable in
          let snapshot = Some (snapshot_len newest (known_all desk)) in
          let flown = launch.checkpoint ∙ ap (λ (d : DeskKept). numbered_with m.node from (flying_in d.view.state) snapshot) launch.next in
          subst (FliesLawfully m desk.opening (durable_part desk)) (sym flown) (flies_all desk idle counts (lawful_desk desk c.accepted-accepted.ensures.known) m.node from)
          );
    }

pub returns-in-Ok-Some-clause-fits : goal.returns-in-Ok-Some-clause-fits
returns-in-Ok-Some-clause-fits c =
    let desk = c.args.self.now in
    let s = desk.view.state in
    let counts = c.accepted-accepted.ensures.counts in
    let launch = c.in-Ok-Some.ensures in
    let is = rw c.in-Ok-Some.field-0-is at launch.batch in
    let fits = rw c.in-Ok-Some.field-0-is at launch.fits in
    let inputs = ap (λ (n : Numbered). n.inputs) is ∙ ap (λ (d : DeskKept). flying_in d.view.state) launch.next in
    record {
      node = ap (λ (n : Numbered). n.node) is;
      first = ap (λ (n : Numbered). n.first) is ∙ ap (λ k. desk.opening.inputs + k) (sym (durable_count s counts));
      room = (
          let within = subst (λ (d : DeskKept). used d.view.state.base (flown_in d.view.state) ≤ d.view.member.capacity) launch.next fits in
          omega (arith, ap costs_of inputs, within, flown_costs (states.launched s) (launched_counts s (idle-none s (idle_free desk.view launch.free)) counts))
          );
      suits = rw c.in-Ok-Some.field-0-is at launch.suits;
      lawful = (
          let from = desk.opening.inputs + s.durable in
          let flown = is ∙ ap (λ (d : DeskKept). numbered desk.view.member.node from (flying_in d.view.state)) launch.next in
          subst (FliesLawfully desk.view.member desk.opening (durable_part desk)) (sym flown)
          (flies_batch desk (idle_free desk.view launch.free) counts (lawful_desk desk c.accepted-accepted.ensures.known) desk.view.member.node from)
          );
    }

pub returns-in-Err-clause-refusal : goal.returns-in-Err-clause-refusal
returns-in-Err-clause-refusal c =
    next_refused c.args.is_wanted c.args.self.now c.in-Err.refusal (sym c.is_checkpoint_next.ensures ∙ c.if-is_checkpoint_next.true) (may_renew c.args.self.now c.accepted-accepted.ensures.known) c.in-Err.ensures.refusal
