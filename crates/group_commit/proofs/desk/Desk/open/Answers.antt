use Rattle.std.proofs.Common.{rules, ◌≡◌, ◌⊎◌, None, List, [], true, false, length, refl, sym, subst, ◌∙◌, arith}
use Rattle.std.specs.Prelude.{is_ok}
use Rattle.ring_records.specs.declared.base.Base.{Base}
use Rattle.ring_records.specs.declared.input.Input.{Input}
use Rattle.ring_records.specs.declared.refusal.Refusal.TheVariants.{OutOfMemory}
use Rattle.ring_records.specs.Known.{after}
use Rattle.ring_records.specs.Member.{member}
use Rattle.node_core.specs.Core.{CoreView}
use Rattle.gated_journal.specs.Opened.{reading_of_opening}
use Rattle.group_commit.specs.Desk.{core_of, first_base}
use Rattle.group_commit.specs.Kept.{AreAnswers, IsDesk, state_with}
use Rattle.group_commit.specs.Opening.{opened_core, core_after, IsKnownLawful, IsUnlawful}
use Rattle.group_commit.specs.Outbox.{Holds}
use Rattle.group_commit.proofs.KeptInputs.{kept_none}
use Rattle.group_commit.proofs.Landing.{whole_holds}
use Rattle.group_commit.proofs.Numbers.{below_none}
use Rattle.group_commit.proofs.Opening.{on_ok}
use Rattle.group_commit.proofs.Replies.{answers_none}
use Rattle.group_commit.proofs.Since.{known_opened, core_opened, used-first}
use Rattle.group_commit.proofs.desk.Desk.open.Goals as goal
use Rattle.group_commit.proofs.desk.Desk.open.Goals.{After-restore-2}

-- the core of the node before the inputs since
restored : (c : After-restore-2) → c.in-Ok.core ≡ core_of (member c.args.node c.args.n c.args.capacity) (reading_of_opening c.args.opening)
restored c = c.in-Ok.ensures ∙ (λ i. record { me = c.args.node; size = c.args.n; capacity = c.args.capacity; known = c.args.opening.base; room = record { layout = c.args.opening.layout; epoch = c.args.opening.epoch; taken = (c.summary_len-taken.ensures.value ∙ sym (used-first (first_base c.args.opening.layout c.args.opening.epoch c.args.opening.base) refl)) i; waits = false } })

pub replay-requires : goal.replay-requires
replay-requires c =
    let first = restored (goal.at.replay-requires c).After-restore-2 in
    subst (λ (core : CoreView). Holds core.me c.in-Ok-restore.outbox core.known [] 0) (sym first) (c.in-Ok-restore.ensures c.args.node)

pub returns-in-Err-clause-refusal : goal.returns-in-Err-clause-refusal
returns-in-Err-clause-refusal c =
    subst (λ (p : CoreView × List Input). (c.in-Err.refusal ≡ OutOfMemory) ⊎ IsUnlawful p.0 p.1 c.in-Err.refusal)
    (λ i. (restored (goal.at.returns-in-Err-clause-refusal c).After-restore-2 i, c.deref.ensures.value i)) c.in-Err.ensures.refusal

pub returns-clause-lawful : goal.returns-clause-lawful
returns-clause-lawful c =
    let replayed : is_ok c.replay.result ≡ true = search rules in
    subst (λ (p : CoreView × List Input). IsKnownLawful p.0 p.1) (λ i. (restored (goal.at.returns-clause-lawful c).After-restore-2 i, c.deref.ensures.value i))
    (on_ok c.replay.result replayed c.replay.ensures.lawful)

pub invariant_of-result : goal.invariant_of-result
invariant_of-result c =
    let m = member c.args.node c.args.n c.args.capacity in
    let o = c.args.opening in
    let l = o.inputs.items in
    let first = restored (goal.at.invariant_of-result c).After-restore-2 in
    let area : Base = record { layout = o.layout; epoch = o.epoch; inputs = 0; bytes = c.summary_len-taken.result } in
    let began : c.in-Ok.core ≡ opened_core m o.base area = c.in-Ok.ensures ∙ (λ i. record { me = m.node; size = m.n; capacity = m.capacity; known = o.base; room = record { layout = o.layout; epoch = o.epoch; taken = sym (used-first area refl) i; waits = false } }) in
    let replayed : is_ok c.replay.result ≡ true = search rules in
    let count : c.len-count.result ≡ length l = search rules in
    let holds = subst (λ (p : CoreView × List Input). Holds p.0.me c.replay.new.outbox (after p.0.me p.0.known p.1) [] 0)
    (λ i. (first i, c.deref.ensures.value i)) (on_ok c.replay.result replayed c.replay.ensures.holds) in
    subst (λ g. IsDesk c.replay.new.core c.replay.new.outbox c.new.result m o.base (state_with area g c.len-count.result c.len-count.result None) c.new-2.result.entries 0) (sym c.new.ensures.all) (record {
      sound = c.requires;
      knows = core_opened m o.base area l c.len-count.result c.len-count.result c.replay.new.core refl (on_ok c.replay.result replayed c.replay.ensures.knows ∙ (λ i. core_after (began i) (c.deref.ensures.value i)));
      state = known_opened m o.base area l c.len-count.result c.len-count.result refl c.summary_len-taken.ensures.value (omega arith) (omega (arith, count))
          (subst (λ (p : CoreView × List Input). IsKnownLawful p.0 p.1) (λ i. (began i, c.deref.ensures.value i)) (on_ok c.replay.result replayed c.replay.ensures.lawful));
      holds = whole_holds m.node c.len-count.result c.replay.new.outbox o.base l count holds;
      kept = kept_none m o.base area l c.len-count.result c.len-count.result c.new.result refl c.new.ensures.gone c.new.ensures.known c.new.ensures.mark;
      given = search (rules, below_none);
      answers = subst (AreAnswers m o.base l) (sym c.new-2.ensures.empty) (answers_none m o.base l);
    })
