use Rattle.std.proofs.Common.{rules, ◌∙◌, ◌≡◌, ◌+◌, ◌-◌, ℕ, None, Some, is_some, refl, sym, ap, subst, length}
use Rattle.ring_records.specs.Admission.{costs_of, used}
use Rattle.ring_records.specs.Member.{Member}
use Rattle.gated_journal.specs.Areas.{AllReadAs}
use Rattle.gated_journal.specs.declared.work.Work.{Work}
use Rattle.gated_journal.specs.declared.work.Work.TheVariants.{Batch, Checkpoint}
use Rattle.gated_journal.specs.Batch.{Numbered, is_checkpoint}
use Rattle.gated_journal.specs.Journal.{device_of, len_of, room_of, layout_of, epoch_of}
use Rattle.gated_journal.specs.Reading.{Reading}
use Rattle.commit_hub.specs.Holders.{known_by}
use Rattle.commit_hub.specs.Told.{IsBrought}
use Rattle.group_commit.specs.Next.{Durable, with_area, with_batch}
use Rattle.gated_journal.specs.Works.{flown_by, summary_by}
use Rattle.gated_journal.specs.Works.{reading_after}
use Rattle.gated_journal.specs.WorkTaken.{IsTaken, room_after}
use Rattle.ring_service.proofs.Next.{counts, has, knows, takes}
use Rattle.ring_service.proofs.flusher.settle.Goals as goal

pub write-requires-clause-taken : goal.write-requires-clause-taken
write-requires-clause-taken g c =
    let journal = c.args.journal.now in
    subst (λ (m : Member). IsTaken m (len_of journal) (room_of journal) (layout_of journal) (epoch_of journal) c.args.work) (sym c.requires.member)
    (takes g.A.NodeLedger.member g.A.NodeLedger.opening _ _ _ _ _ c.args.work c.requires.inside c.requires.known c.requires.next)

-- a work is a checkpoint where it has a summary
works_kind : (w : Work) → is_checkpoint (flown_by w) ≡ is_some (summary_by w)
works_kind (Batch batch) = refl
works_kind (Checkpoint made) = refl

-- the receipt is that of the work, and what reads so before it, reads with it behind
pub returns-in-Ok-land : goal.returns-in-Ok-land
returns-in-Ok-land g c =
    let disk = g.V.Device.disk (device_of c.args.journal.now) in
    let now = g.V.Device.disk (device_of c.write.new.self) in
    let old = known_by c.args.tie.now in
    let new = known_by c.land.new.tie in
    let journal = c.args.journal.now in
    let w = c.args.work in
    let is = knows g.A.NodeLedger.member g.A.NodeLedger.opening old new w c.requires.next
    (subst (λ (n : Numbered). n.snapshot ≡ None → new ≡ with_batch old n.inputs) c.in-Ok.ensures.receipt c.in-Ok-land.ensures.batch)
    (subst (λ (n : Numbered). (bytes : ℕ) → n.snapshot ≡ Some bytes → new ≡ with_area old n.inputs bytes) c.in-Ok.ensures.receipt c.in-Ok-land.ensures.checkpoint) in
    let behind = has g.A.NodeLedger.member g.A.NodeLedger.opening old (len_of journal) (room_of journal) (layout_of journal) (epoch_of journal) w c.requires.based c.requires.known c.requires.next in
    let room = ap (λ (m : Member). room_after (flown_by w).snapshot m.capacity (costs_of (flown_by w).inputs) (room_of journal)) c.requires.member in
    record {
      count = c.in-Ok-land.ensures.count ∙ ap (λ (n : Numbered). length n.inputs) c.in-Ok.ensures.receipt;
      kind = c.in-Ok-land.ensures.kind ∙ (ap is_checkpoint c.in-Ok.ensures.receipt ∙ works_kind w);
      brought = subst (λ (n : Numbered). IsBrought g.A.NodeLedger.member g.A.NodeLedger.opening old.inputs n.inputs c.in-Ok-land.landed) c.in-Ok.ensures.receipt c.in-Ok-land.ensures.brought;
      again = c.in-Ok-land.ensures.again;
      durable = subst (λ (m : Member). (r : Reading) → AllReadAs m disk r → AllReadAs m now (reading_after (epoch_of journal) (summary_by w) (flown_by w).inputs r)) c.requires.member c.in-Ok.ensures.durable;
      ready = search rules;
      member = c.in-Ok.ensures.header ∙ c.requires.member;
      next = is;
      known = record {
        count = c.in-Ok.ensures.len ∙ (counts g.A.NodeLedger.member g.A.NodeLedger.opening old (len_of journal) (room_of journal) (layout_of journal) (epoch_of journal) w c.requires.known c.requires.next ∙ (behind.count ∙ ap (λ (d : Durable). g.A.NodeLedger.opening.inputs + length d.inputs) (sym is)));
        left = c.in-Ok.ensures.room ∙ (room ∙ (behind.left ∙ ap (λ (d : Durable). g.A.NodeLedger.member.capacity - used d.base d.inputs) (sym is)));
        form = c.in-Ok.ensures.layout ∙ (behind.form ∙ ap (λ (d : Durable). d.base.layout) (sym is));
        area = c.in-Ok.ensures.epoch ∙ (behind.area ∙ ap (λ (d : Durable). d.base.epoch) (sym is));
      };
      free = c.in-Ok-land.ensures.free;
      refusal = tt;
      spoiled = tt;
      in_reach = λ reaches. refl;
      any_moment = c.in-Ok.ensures.any_moment;
    }

-- it flies by the tie, and the hub has not failed

pub unreachable-requires : goal.unreachable-requires
unreachable-requires g c = c.in-Err-land.ensures.cause (c.requires.flies ∙ sym c.in-Ok.ensures.receipt) c.requires.works

pub unreachable-requires-in-Err-fail : goal.unreachable-requires-in-Err-fail
unreachable-requires-in-Err-fail g c = c.in-Err-fail.ensures.cause (c.requires.flies ∙ sym c.in-Err.ensures.spoiled)
