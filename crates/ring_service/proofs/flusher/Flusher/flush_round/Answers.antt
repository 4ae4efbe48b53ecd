use Rattle.std.proofs.Common.{rules, ◌≡◌, ℕ, inl, sym, ap, subst, arith, ◌∙◌}
use Rattle.ring_records.specs.Member.{Member}
use Rattle.gated_journal.specs.Journal.{device_of, member_of, epoch_of}
use Rattle.gated_journal.specs.Areas.{AllReadAs}
use Rattle.group_commit.specs.declared.landed.Landed.{Landed}
use Rattle.commit_hub.specs.Holders.{known_by, view_by}
use Rattle.gated_journal.specs.Reading.{Reading}
use Rattle.group_commit.specs.Next.{Durable, IsNext}
use Rattle.commit_hub.specs.Told.{IsBrought}
use Rattle.gated_journal.specs.Works.{flown_by, summary_by}
use Rattle.gated_journal.specs.Works.{reading_after}
use Rattle.ring_service.specs.Rounds.{known_behind}
use Rattle.commit_hub.proofs.Works.{of_some}
use Rattle.ring_service.specs.Flushers.{journal_of}
use Rattle.ring_service.proofs.Launches.{of_match, short, works}
use Rattle.ring_service.proofs.Next.{makes}
use Rattle.ring_service.proofs.Stops.{idle, moments, written}
use Rattle.ring_service.proofs.flusher.Flusher.flush_round.Goals as goal

-- nothing was written

pub returns-then-is_err-clause-any_moment : goal.returns-then-is_err-clause-any_moment
returns-then-is_err-clause-any_moment g c =
    let device = device_of (journal_of c.args.self.now) in
    λ goes_on r reads. idle g.V.Device device (g.V.Device.disk device) g.A.NodeLedger.member g.A.NodeLedger.opening _ r (g.met.V.Device.only_now device) reads

pub returns-in-Err-clause-any_moment : goal.returns-in-Err-clause-any_moment
returns-in-Err-clause-any_moment g c =
    let device = device_of (journal_of c.args.self.now) in
    λ goes_on r reads. idle g.V.Device device (g.V.Device.disk device) g.A.NodeLedger.member g.A.NodeLedger.opening _ r (g.met.V.Device.only_now device) reads

pub returns-in-Ok-None-clause-any_moment : goal.returns-in-Ok-None-clause-any_moment
returns-in-Ok-None-clause-any_moment g c =
    let device = device_of (journal_of c.args.self.now) in
    λ goes_on r reads. idle g.V.Device device (g.V.Device.disk device) g.A.NodeLedger.member g.A.NodeLedger.opening _ r (g.met.V.Device.only_now device) reads

-- a growth was refused

pub returns-in-Err-clause-refused : goal.returns-in-Err-clause-refused
returns-in-Err-clause-refused g c =
    let lack = short _ _ (c.args.self.now.free c.if-self.false) c.in-Err.ensures.tied.cause in
    record {
      refusal = inl (inl lack);
      idle = search rules;
      spoiled = λ fault. let is = fault.is in absurd cc;
      in_reach = λ reaches. inl lack;
    }

pub returns-in-Err-clause-ends : goal.returns-in-Err-clause-ends
returns-in-Err-clause-ends g c =
    let lack = short _ _ (c.args.self.now.free c.if-self.false) c.in-Err.ensures.tied.cause in
    record {
      ends = inl (inl lack);
      goes_on = tt;
      ended = λ ended. absurd cc;
      failed = λ failed. absurd cc;
    }

-- its work flies, and the hub has not failed

pub settle-requires-clause-flies : goal.settle-requires-clause-flies
settle-requires-clause-flies g c =
    of_match c.in-Ok-Some.field-0 c.in-Ok-Some.work _ (λ work. (view_by c.launch.new.tie).flying ≡ flown_by work) c.in-Ok-Some.field-0-is c.in-Ok-Some.ensures.tied.flies

pub settle-requires-clause-works : goal.settle-requires-clause-works
settle-requires-clause-works g c = c.launch.ensures.tied.works ∙ works (view_by c.args.self.now.tie).failed (view_by c.args.self.now.tie).flying (c.args.self.now.free c.if-self.false)

-- a batch or a checkpoint was

pub returns-in-Ok-clause-round : goal.returns-in-Ok-clause-round
returns-in-Ok-clause-round g c =
    let m = g.A.NodeLedger.member in
    let o = g.A.NodeLedger.opening in
    let w = c.in-Ok-Some.work in
    let inputs = (flown_by w).inputs in
    let disk = g.V.Device.disk (device_of (journal_of c.args.self.now)) in
    let behind = g.V.Device.disk (device_of c.settle.new.journal) in
    let next = of_some c.in-Ok-Some.field-0 w (IsNext m o (known_by c.args.self.now.tie)) c.in-Ok-Some.field-0-is c.in-Ok-Some.ensures.tied.next in
    let same = c.launch.ensures.tied.tie in
    let kept = c.take_notices-told.ensures.same in
    record {
      inputs = inputs;
      base = summary_by w;
      made = makes m o _ w (λ e. omega (arith, (c.count.ensures.size e).1, c.count.ensures.value)) next;
      some = λ e. omega (arith, (c.count.ensures.size e).0, c.count.ensures.value);
      count = ap (λ (l : Landed). l.count) kept ∙ c.in-Ok.ensures.count;
      kind = ap (λ (l : Landed). l.is_checkpoint) kept ∙ c.in-Ok.ensures.kind;
      next = c.in-Ok.ensures.next ∙ ap (known_behind (summary_by w) inputs) same;
      durable = subst (λ (k : ℕ). (r : Reading) → AllReadAs m disk r → AllReadAs m behind (reading_after k (summary_by w) inputs r)) (c.args.self.now.known c.if-self.false).area c.in-Ok.ensures.durable;
      within = (
          let journal = journal_of c.args.self.now in
          let of = c.args.self.now.member c.if-self.false in
          λ r reads. moments g.V.Device (device_of journal) (device_of c.settle.new.journal) (member_of journal) m (known_by c.args.self.now.tie) (epoch_of journal) r inputs (summary_by w)
          of (c.args.self.now.known c.if-self.false).area (c.settle.ensures.any_moment r (subst (λ (x : Member). AllReadAs x disk r) (sym of) reads))
          );
      brought = λ past is.
          let brought = subst (λ (d : Durable). IsBrought m o d.inputs inputs c.in-Ok.landed) same c.in-Ok.ensures.brought past is in
          record {
            state = brought.state;
            lawful = brought.lawful;
            durable = brought.durable;
            packets = ap (λ (l : Landed). l.packets.items) kept ∙ brought.packets;
            notices = ap (λ (l : Landed). l.notices.items) kept ∙ brought.notices;
          };
    }

pub returns-in-Err-settle-clause-any_moment : goal.returns-in-Err-settle-clause-any_moment
returns-in-Err-settle-clause-any_moment g c =
    let journal = journal_of c.args.self.now in
    let w = c.in-Ok-Some.work in
    let next = of_some c.in-Ok-Some.field-0 w (IsNext g.A.NodeLedger.member g.A.NodeLedger.opening (known_by c.args.self.now.tie)) c.in-Ok-Some.field-0-is c.in-Ok-Some.ensures.tied.next in
    λ goes_on r reads.
    let same = c.args.self.now.member goes_on in
    let made = makes g.A.NodeLedger.member g.A.NodeLedger.opening _ w (λ e. omega (arith, (c.count.ensures.size e).1, c.count.ensures.value)) next in
    written g.V.Device (device_of journal) (device_of c.settle.new.journal) (member_of journal) g.A.NodeLedger.member g.A.NodeLedger.opening _ (epoch_of journal) r
    (flown_by w).inputs (summary_by w) same (c.args.self.now.known goes_on).area made (c.settle.ensures.any_moment r (subst (λ (m : Member). AllReadAs m (g.V.Device.disk (device_of journal)) r) (sym same) reads))

pub returns-in-Ok-clause-any_moment : goal.returns-in-Ok-clause-any_moment
returns-in-Ok-clause-any_moment g c =
    let journal = journal_of c.args.self.now in
    let w = c.in-Ok-Some.work in
    let next = of_some c.in-Ok-Some.field-0 w (IsNext g.A.NodeLedger.member g.A.NodeLedger.opening (known_by c.args.self.now.tie)) c.in-Ok-Some.field-0-is c.in-Ok-Some.ensures.tied.next in
    λ goes_on r reads.
    let same = c.args.self.now.member goes_on in
    let made = makes g.A.NodeLedger.member g.A.NodeLedger.opening _ w (λ e. omega (arith, (c.count.ensures.size e).1, c.count.ensures.value)) next in
    written g.V.Device (device_of journal) (device_of c.settle.new.journal) (member_of journal) g.A.NodeLedger.member g.A.NodeLedger.opening _ (epoch_of journal) r
    (flown_by w).inputs (summary_by w) same (c.args.self.now.known goes_on).area made (c.settle.ensures.any_moment r (subst (λ (m : Member). AllReadAs m (g.V.Device.disk (device_of journal)) r) (sym same) reads))
