use Rattle.std.proofs.Common.{◌≡◌, ◌-◌, ⊎_elim, inl, inr, ap, ◌∙◌, arith}
use Rattle.disk_model.specs.Disk.{Disk}
use Rattle.ring_records.specs.Member.{member}
use Rattle.gated_journal.specs.Journal as journals
use Rattle.gated_journal.specs.Opened.{reading_of_opening, used_in}
use Rattle.gated_journal.specs.Unread.{IsFault}
use Rattle.node_store.proofs.Recovered.{kept_by, short_only, not_opened, short_or_not, still_holds, same_image, holds_again, no_fault, capacity_again, made_again, named_again}
use Rattle.node_store.proofs.Standing.{opens}
use Rattle.node_store.proofs.node.Node.recover.Goals as goal

pub invariant_of-result : goal.invariant_of-result
invariant_of-result g c =
    let journal = c.in-Ok.journal in
    let r = reading_of_opening c.in-Ok.opening in
    let here = member c.args.node c.args.n c.capacity.result in
    let made = c.in-Ok-open.ensures in
    let read = c.in-Ok.ensures in
    let named : journals.member_of journal ≡ here = named_again c.args.node c.args.n c.capacity.result (journals.member_of journal) read.header.0 read.header.1 c.capacity.ensures.value in
    let left : journals.room_of journal ≡ c.capacity.result - used_in r = omega (arith, read.holds.room, c.capacity.ensures.value) in
    record { stands = rw made.desk (opens here journal c.args.run r c.inside.ensures named made.lawful read.holds.durable read.holds.ready read.holds.len left read.holds.layout read.holds.epoch) }

-- ---- the journal is not opened

pub returns-in-Err-clause-again : goal.returns-in-Err-clause-again
returns-in-Err-clause-again g c =
    let old = g.D.Device.disk c.args.device in
    let stays = g.met.D.Device.may_stay c.args.device in
    record {
      recovery = λ capacity s lawful holds. tt;
      recovery_err = λ capacity s lawful holds. (
        no_fault c.args.node c.args.n capacity s _ _ old.image c.in-Err.refusal (holds old.image stays) c.in-Err.ensures.refusal,
        still_holds (member c.args.node c.args.n capacity) s old (g.D.Device.disk c.in-Err.device) stays c.in-Err.ensures.device.disk_err holds,
      );
      image = λ capacity s left. tt;
      image_err = λ capacity s left. (
        no_fault c.args.node c.args.n capacity s _ _ old.image c.in-Err.refusal left.reads c.in-Err.ensures.refusal,
        same_image old (g.D.Device.disk c.in-Err.device) c.in-Err.ensures.device.disk_err,
      );
    }

pub returns-in-Err-clause-refusal : goal.returns-in-Err-clause-refusal
returns-in-Err-clause-refusal g c = record { cause = inl c.in-Err.ensures.refusal }

pub returns-in-Err-clause-works : goal.returns-in-Err-clause-works
returns-in-Err-clause-works g c = λ reach. ⊎_elim (λ short. inl short) (λ unread. inr (inl unread)) (c.in-Err.ensures.works reach)

-- ---- it is, and the desk too

pub returns-in-Ok-open-clause-stands : goal.returns-in-Ok-open-clause-stands
returns-in-Ok-open-clause-stands g c =
    let read = c.in-Ok.ensures in
    let named = named_again c.args.node c.args.n c.capacity.result (journals.member_of c.in-Ok.journal) read.header.0 read.header.1 c.capacity.ensures.value in
    record {
      desk = rw c.in-Ok-open.ensures.desk;
      lawful = rw c.in-Ok-open.ensures.desk (read.sound, c.in-Ok-open.ensures.lawful);
      reads = rw c.in-Ok-open.ensures.desk (rw named at read.reads);
      durable = rw c.in-Ok-open.ensures.desk (rw named at read.holds.durable);
    }

pub returns-in-Ok-open-clause-again : goal.returns-in-Ok-open-clause-again
returns-in-Ok-open-clause-again g c =
    let image = (g.D.Device.disk c.args.device).image in
    let other = journals.member_of c.in-Ok.journal in
    let r = reading_of_opening c.in-Ok.opening in
    record {
      recovery = λ capacity s lawful holds.
          let header = member c.args.node c.args.n capacity in
          let found = kept_by header other s image r (holds image (g.met.D.Device.may_stay c.args.device)) c.in-Ok.ensures.reads in
          let capacity_is : c.capacity.result ≡ capacity = capacity_again c.capacity.result other header c.capacity.ensures.value found.0 in
          (found.1.0, made_again c.in-Ok-open.desk c.args.node c.args.n c.capacity.result capacity c.args.run s found.1.0 r lawful c.in-Ok-open.ensures.desk capacity_is found.1.1);
      recovery_err = λ capacity s lawful holds. tt;
      image = λ capacity s left.
          let header = member c.args.node c.args.n capacity in
          let found = kept_by header other s image r left.reads c.in-Ok.ensures.reads in
          let capacity_is : c.capacity.result ≡ capacity = capacity_again c.capacity.result other header c.capacity.ensures.value found.0 in
          (found.1.0, made_again c.in-Ok-open.desk c.args.node c.args.n c.capacity.result capacity c.args.run s found.1.0 r left.lawful c.in-Ok-open.ensures.desk capacity_is found.1.1);
      image_err = λ capacity s left. tt;
    }

-- ---- it is, and the desk is not

pub returns-in-Err-open-clause-again : goal.returns-in-Err-open-clause-again
returns-in-Err-open-clause-again g c =
    let other = journals.member_of c.in-Ok.journal in
    let old = g.D.Device.disk c.args.device in
    let r = reading_of_opening c.in-Ok.opening in
    let why = c.in-Err-open.refusal in
    record {
      recovery = λ capacity s lawful holds. tt;
      recovery_err = λ capacity s lawful holds.
          let header = member c.args.node c.args.n capacity in
          let found = kept_by header other s old.image r (holds old.image (g.met.D.Device.may_stay c.args.device)) c.in-Ok.ensures.reads in
          let capacity_is : c.capacity.result ≡ capacity = capacity_again c.capacity.result other header c.capacity.ensures.value found.0 in
          let held = holds_again header other s (g.D.Device.disk (journals.device_of c.in-Ok.journal)) found.1.0 r found.0 found.1.1 c.in-Ok.ensures.holds.durable in (
            short_only c.args.node c.args.n capacity c.capacity.result s found.1.0 r why
                (IsFault (g.D.Device.count c.args.device) (g.D.Device.count c.into_device.result) why) capacity_is found.1.1 lawful c.in-Err-open.ensures.refusal,
            rw c.into_device.ensures held,
          );
      image = λ capacity s left. tt;
      image_err = λ capacity s left.
          let header = member c.args.node c.args.n capacity in
          let found = kept_by header other s old.image r left.reads c.in-Ok.ensures.reads in
          let capacity_is : c.capacity.result ≡ capacity = capacity_again c.capacity.result other header c.capacity.ensures.value found.0 in (
            short_only c.args.node c.args.n capacity c.capacity.result s found.1.0 r why
                (IsFault (g.D.Device.count c.args.device) (g.D.Device.count c.into_device.result) why) capacity_is found.1.1 left.lawful c.in-Err-open.ensures.refusal,
            ap (λ (d : g.row.D.Denot). (g.D.Device.disk d).image) c.into_device.ensures ∙ ap (λ (d : Disk). d.image) c.in-Ok.ensures.device.disk,
          );
    }

pub returns-in-Err-open-clause-refusal : goal.returns-in-Err-open-clause-refusal
returns-in-Err-open-clause-refusal g c =
    let read = c.in-Ok.ensures in
    let journal = journals.member_of c.in-Ok.journal in
    let named = named_again c.args.node c.args.n c.capacity.result journal read.header.0 read.header.1 c.capacity.ensures.value in
    record { cause = inr (not_opened c.args.node c.args.n c.capacity.result journal (reading_of_opening c.in-Ok.opening) _ _ named read.reads c.in-Err-open.ensures.refusal) }

pub returns-in-Err-open-clause-works : goal.returns-in-Err-open-clause-works
returns-in-Err-open-clause-works g c = λ reach.
    let read = c.in-Ok.ensures in
    let journal = journals.member_of c.in-Ok.journal in
    let named = named_again c.args.node c.args.n c.capacity.result journal read.header.0 read.header.1 c.capacity.ensures.value in
    short_or_not _ _ _ _ _ (not_opened c.args.node c.args.n c.capacity.result journal (reading_of_opening c.in-Ok.opening) _ _ named read.reads c.in-Err-open.ensures.refusal)
