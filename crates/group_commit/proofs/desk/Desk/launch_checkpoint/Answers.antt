use Rattle.std.proofs.Common.{rules, ◌≡◌, ℕ, ◌≤◌, ◌-◌, ◌++◌, ◌∙◌, List, length, take, drop, take_all, Some, None, sym, ap, subst, arith}
use Rattle.std.proofs.lemmas.List.{length-drop}
use Rattle.ring_records.specs.Admission.{newest}
use Rattle.ring_records.specs.declared.input.Input.{Input}
use Rattle.ring_records.specs.Known.{after}
use Rattle.ring_records.specs.Snapshot.{IsSound, snapshot_len}
use Rattle.ring_records.specs.Launching as launching
use Rattle.ring_records.specs.Summary.{summary}
use Rattle.ring_records.proofs.States.{idle-none}
use Rattle.gated_journal.specs.Batch.{base_by}
use Rattle.node_core.specs.Core.{CoreView, IsNodeOf}
use Rattle.group_commit.specs.Desk.{DeskKept, seen}
use Rattle.group_commit.specs.Kept.{area_behind, IsDesk, state_with}
use Rattle.group_commit.specs.Outbox.{Holds}
use Rattle.group_commit.specs.Past.{IsPast}
use Rattle.group_commit.specs.declared.all_inputs.AllInputs.{AllInputs}
use Rattle.group_commit.proofs.Checkpoints.{MayLaunch, may_launch, none_pending}
use Rattle.group_commit.proofs.Flies.{idle_flies}
use Rattle.group_commit.proofs.Inside.{member_in, area_in, state_in}
use Rattle.group_commit.proofs.KeptInputs.{kept_all}
use Rattle.group_commit.proofs.Past.{core_past, core_knows}
use Rattle.group_commit.proofs.Seen.{launched_all_seen}
use Rattle.group_commit.proofs.Settling.{holds_still, loaded_holds, still_holds}
use Rattle.group_commit.proofs.Since.{known_all, core_all}
use Rattle.group_commit.proofs.desk.Desk.launch_checkpoint.Goals as goal
use Rattle.group_commit.proofs.desk.Desk.launch_checkpoint.Goals.{After-between-inputs}

-- what it shows
abbrev shown_by : After-between-inputs → DeskKept
shown_by c = record {
  opening = c.self.inside.base;
  view = record {
    member = member_in c.self.inside;
    run = c.self.inside.run;
    state = state_in c.self.inside;
    tickets = c.self.inside.tickets.entries;
    issued = c.self.inside.issued;
    closed = c.self.inside.is_closed;
    failed = c.self.inside.is_failed;
  };
  gone = c.self.inside.inputs.gone;
}

-- and with these inputs, so many of which fly, and a snapshot of this length
abbrev next_by : After-between-inputs → List Input → ℕ → ℕ → DeskKept
next_by c inputs flying length = record (shown_by c) {
  view = record ((shown_by c).view) { state = state_with (area_in c.self.inside) inputs c.self.inside.durable flying (Some length) };
}

-- nothing is against a checkpoint
may : (c : After-between-inputs) → MayLaunch (shown_by c)
may c =
    let none : c.checkpoint_objection.result ≡ None = search rules in
    subst MayLaunch (sym c.self.view_is) (may_launch c.args.self.now (sym c.checkpoint_objection.ensures ∙ none))

no_other : (c : After-between-inputs) → c.self.inside.pending ≡ None
no_other c = none_pending (area_behind (area_in c.self.inside) c.self.inside.flying) c.self.inside.pending (idle-none (state_in c.self.inside) (may c).idle)

-- the inputs that wait
waits : (c : After-between-inputs) → c.between-inputs.result.now ≡ drop c.self.inside.durable c.self.inside.inputs.all.list
waits c =
    let d = c.self.inside in
    let left = length-drop d.durable d.inputs.all.list in
    let all : d.inputs.count ≡ length d.inputs.all.list = search rules in
    c.between-inputs.ensures ∙ take_all (d.inputs.count - d.durable) (drop d.durable d.inputs.all.list) (omega (arith, left, all))

-- the inputs are the same
list_is : (new old : AllInputs) → new ≡ old → old.list ≡ new.list
list_is new old same = λ k. (sym same k).list

pub invariant_of-self : goal.invariant_of-self
invariant_of-self c =
    let d = c.self.inside in
    let i = c.self.invariant in
    let a = (goal.at.invariant_of-self c).After-between-inputs in
    let m = member_in d in
    let none = no_other a in
    let all : c.self.inside.inputs.count ≡ length d.inputs.all.list = search rules in
    let spells : c.summary_len-length.result ≡ snapshot_len newest (after d.node d.base d.inputs.all.list) = c.summary_len-length.ensures ∙ ap (λ (v : CoreView). snapshot_len newest v.known) i.knows in
    let s = after d.node d.base (take d.durable d.inputs.all.list) in
    let count : length (drop d.durable d.inputs.all.list) ≡ c.self.inside.inputs.count - d.durable = length-drop d.durable d.inputs.all.list ∙ ap (λ n. n - d.durable) (sym all) in
    subst (λ l. IsDesk c.summarise.new.core c.summarise.new.outbox c.stand_for.new.self m d.base (state_with (area_in d) l d.durable d.inputs.count (Some c.summary_len-length.result)) d.tickets.entries d.issued) (list_is c.stand_for.new.self.all d.inputs.all c.stand_for.ensures.all)
    (record {
      sound = i.sound;
      knows = core_all m d.base (area_in d) d.inputs.all.list d.durable d.flying c.self.inside.inputs.count c.summary_len-length.result d.pending d.core c.summarise.new.core all spells i.knows c.in-Ok-summarise.ensures.rebased;
      state = known_all m d.base (area_in d) d.inputs.all.list d.durable d.flying c.self.inside.inputs.count c.summary_len-length.result d.pending none all spells (may a).few (subst (λ k. k ≤ d.capacity) (sym spells) (may a).fits) i.state;
      holds = subst (λ k. Holds d.node c.summarise.new.outbox s (drop d.durable d.inputs.all.list) k) (ap length (waits a) ∙ count)
          (loaded_holds d.node _ d.outbox c.summarise.new.outbox s (drop d.durable d.inputs.all.list) c.in-Ok-summarise.ensures.loaded (holds_still d.node _ d.outbox s _ i.holds));
      kept = kept_all m d.base (area_in d) d.inputs.all.list d.durable d.flying d.inputs.count c.summary_len-length.result d.pending c.in-Ok.known d.inputs c.stand_for.new.self all
          (c.in-Ok.ensures.value ∙ (λ k. (i.knows k).known)) (λ inside. subst (IsSound m.n) (sym c.in-Ok.ensures.value) (subst (λ (core : CoreView). IsNodeOf core.size core.me → IsSound core.size d.core.known) i.knows c.in-Ok.ensures.sound inside))
          c.stand_for.ensures.gone c.stand_for.ensures.known c.stand_for.ensures.marked c.stand_for.ensures.mark i.kept;
      given = i.given;
      answers = i.answers;
    })

pub returns-in-Ok-summarise-clause-known : goal.returns-in-Ok-summarise-clause-known
returns-in-Ok-summarise-clause-known c =
    let d = c.self.inside in
    let i = c.self.invariant in
    subst (λ (v : DeskKept). (past : List Input) → IsPast v.view.member v.opening past → base_by c.in-Ok-summarise.checkpoint ≡ summary v.view.member.node (past ++ v.view.state.inputs)) c.self.view_is
    (λ past is. c.in-Ok-summarise.ensures.summary ∙ core_knows (member_in d) d.base past (state_in d) d.core is i.state i.knows)

pub returns-in-Ok-summarise-clause-lifted : goal.returns-in-Ok-summarise-clause-lifted
returns-in-Ok-summarise-clause-lifted c =
    let d = c.self.inside in
    let i = c.self.invariant in
    let a = (goal.at.returns-in-Ok-summarise-clause-lifted c).After-between-inputs in
    let all : c.self.inside.inputs.count ≡ length d.inputs.all.list = search rules in
    let spells : c.summary_len-length.result ≡ snapshot_len newest (after d.node d.base d.inputs.all.list) = c.summary_len-length.ensures ∙ ap (λ (v : CoreView). snapshot_len newest v.known) i.knows in
    subst (λ (v : DeskKept). (past : List Input) → IsPast v.view.member v.opening past
    → seen past (next_by a c.stand_for.new.self.all.list c.self.inside.inputs.count c.summary_len-length.result) ≡ record (seen past v) { state = launching.launched_all v.view.member.node (seen past v).state }) c.self.view_is
    (λ past is. (λ k. seen past (next_by a (sym (list_is c.stand_for.new.self.all d.inputs.all c.stand_for.ensures.all) k) (all k) (spells k))) ∙ launched_all_seen past (shown_by a) is (core_past (member_in d) d.base past (state_in d) is i.state).knows)

pub invariant_of-self-in-Err-summarise : goal.invariant_of-self-in-Err-summarise
invariant_of-self-in-Err-summarise c =
    let d = c.self.inside in
    let i = c.self.invariant in
    let a = (goal.at.invariant_of-self-in-Err-summarise c).After-between-inputs in
    let s = after d.node d.base (take d.durable d.inputs.all.list) in
    let waits = drop d.durable d.inputs.all.list in
    let same = idle_flies (state_in d) (may a).idle in
    let none : d.flying - d.durable ≡ 0 = omega (arith, same) in
    record {
      sound = i.sound;
      knows = c.in-Err.ensures.same ∙ i.knows;
      state = i.state;
      holds = subst (λ k. Holds d.node c.summarise.new.outbox s waits k) (sym none) (still_holds d.node d.outbox c.summarise.new.outbox s waits c.in-Err.ensures.err (holds_still d.node _ d.outbox _ _ i.holds));
      kept = i.kept;
      given = i.given;
      answers = i.answers;
    }
