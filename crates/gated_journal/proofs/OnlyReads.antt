-- What follows from reads of a device, one behind the other.
use Rattle.std.proofs.Common.{◌≡◌, inl, inr, ⊎_elim, ℕ, ◌≤◌, List, length, Result, Ok, Err, OnOk, IfErr, refl, sym, ◌∙◌, ap, subst, arith}
use Rattle.disk_model.specs.declared.device.Device.{Ghosts}
use Rattle.disk_model.specs.Disk.{Disk, MayLeave, LeavesOnly, Reach, Reaches, synced}
use Rattle.disk_model.specs.Synced.{IsSynced}
use Rattle.disk_model.proofs.Moments.{joins, weaken}
use Rattle.ring_records.specs.declared.refusal.Refusal.{Refusal}
use Rattle.gated_journal.specs.OnlyReads.{OnlyReadsTo, OnlyReads, SyncsAndReads}
use Rattle.gated_journal.specs.Unread.{IsFault}
use Rattle.gated_journal.proofs.Results.{on_ok, on_err, of_ok, of_err}

module _ {D : Type 0} (g : Ghosts D) where
  -- it goes less far
  pub within : {T : Type 0} (end farther : ℕ) (old new : D) (result : Result T Refusal) (Cause : Refusal → Type 0) → end ≤ farther
      → OnlyReadsTo end g old new result Cause → OnlyReadsTo farther g old new result Cause
  within end farther old new result Cause le reads = record {
    kept = reads.kept;
    any_moment = reads.any_moment;
    later = reads.later;
    same = reads.same;
    refusal = reads.refusal;
    first = reads.first;
    stays = reads.stays;
    works = λ goes. reads.works (record { reliable = goes.reliable; within = omega (arith, le, goes.within) });
  }

  -- it is refused, and so is what did it
  pub refused : {T U : Type 0} (end : ℕ) (old new : D) (result : Result T Refusal) (e : Refusal) (P Q : Refusal → Type 0) → result ≡ Err e → (P e → Q e)
      → OnlyReadsTo end g old new result P → OnlyReadsTo {T = U} end g old new (Err e) Q
  refused end old new result e P Q is to reads = record {
    kept = reads.kept;
    any_moment = reads.any_moment;
    later = reads.later;
    same = tt;
    refusal = ⊎_elim (λ fault. inl fault) (λ cause. inr (to cause)) (of_err result e _ is reads.refusal);
    first = of_err result e _ is reads.first;
    stays = reads.stays;
    works = λ goes. to (of_err result e P is (reads.works goes));
  }

  -- it succeeded, and what follows reads no more
  pub then : {T U : Type 0} (end : ℕ) (old new : D) (result : Result T Refusal) (x : T) (behind : Result U Refusal) (P Q : Refusal → Type 0) → result ≡ Ok x → IfErr behind Q
      → OnlyReadsTo end g old new result P → OnlyReadsTo end g old new behind Q
  then end old new result x behind P Q is cause reads =
      let same = of_ok result x _ is reads.same in
      record {
        kept = reads.kept;
        any_moment = reads.any_moment;
        later = reads.later;
        same = on_any behind same;
        refusal = on_err behind Q _ (λ e why. inr why) cause;
        first = on_err behind Q _ (λ e why. inr same) cause;
        stays = reads.stays;
        works = λ goes. cause;
      }
    where
      on_any : {V : Type 0} (r : Result V Refusal) → g.count new ≡ g.count old → OnOk r (g.count new ≡ g.count old)
      on_any (Ok v) same = same
      on_any (Err e) same = tt

  -- it succeeded, and one more read follows
  pub then_reads : {T U : Type 0} (old mid new : D) (result : Result T Refusal) (x : T) (behind : Result U Refusal) (P Q R : Refusal → Type 0) → result ≡ Ok x
      → ((e : Refusal) → Q e → R e) → OnlyReads g old mid result P
      → OnlyReads g mid new behind Q → OnlyReads g old new behind R
  then_reads old mid new result x behind P Q R is to first second =
      let same = of_ok result x _ is first.same in
      let fault : (e : Refusal) → IsFault (g.count mid) (g.count new) e → IsFault (g.count old) (g.count new) e =
      λ e told. subst (λ (k : ℕ). IsFault k (g.count new) e) same told in
      let time : LeavesOnly g.clock g.left_since mid new (MayLeave (g.disk old)) = subst (λ (d : Disk). LeavesOnly g.clock g.left_since mid new (MayLeave d)) first.kept second.any_moment in
      record {
        kept = second.kept ∙ first.kept;
        any_moment = joins g.clock g.left_since old mid new (MayLeave (g.disk old)) first.any_moment time;
        later = omega (arith, first.later, second.later);
        same = on_ok behind _ _ (λ also. also ∙ same) second.same;
        refusal = on_err behind _ _ (λ e why. ⊎_elim (λ told. inl (fault e told)) (λ cause. inr (to e cause)) why) second.refusal;
        first = on_err behind _ _ (λ e why. ⊎_elim (λ told. inl (fault e told)) (λ also. inr (also ∙ same)) why) second.first;
        stays = second.stays ∙ first.stays;
        works = λ goes. on_err behind Q R to (second.works
            (subst (λ (d : Disk). Reaches (g.reach mid) (length d.image)) (sym first.kept) (subst (λ (r : Reach). Reaches r (length (g.disk old).image)) (sym first.stays) goes)));
      }

  -- so far all succeeded, and so does one more read
  pub goes_on : {S T U : Type 0} (old mid new : D) (before : S) (result : Result T Refusal) (x : T) (behind : U) (P Q R : Refusal → Type 0) → result ≡ Ok x
      → OnlyReads g old mid (Ok before) P → OnlyReads g mid new result Q
      → OnlyReads g old new (Ok behind) R
  goes_on old mid new before result x behind P Q R is first second =
      then (length (g.disk old).image) old new result x (Ok behind) Q R is tt (then_reads old mid new (Ok before) before result P Q Q refl (λ e why. why) first second)

  -- and one more is refused
  pub ends : {S T U : Type 0} (old mid new : D) (before : S) (result : Result T Refusal) (e : Refusal) (P Q R : Refusal → Type 0) → result ≡ Err e → (Q e → R e)
      → OnlyReads g old mid (Ok before) P → OnlyReads g mid new result Q
      → OnlyReads {T = U} g old new (Err e) R
  ends old mid new before result e P Q R is to first second =
      refused (length (g.disk old).image) old new result e Q R is to (then_reads old mid new (Ok before) before result P Q Q refl (λ e why. why) first second)

  pub is_synced : {T : Type 0} (old new : D) (result : Result T Refusal) (x : T) (P : Refusal → Type 0) → result ≡ Ok x → SyncsAndReads g old new result P → IsSynced (g.disk new)
  is_synced old new result x P is reads = subst IsSynced (sym (of_ok result x _ is reads.settled)) (record { stable = refl; ranges = refl })

  -- the device was made stable, and is read then
  pub settled_reads : {S T : Type 0} (old mid new : D) (result : Result S Refusal) (x : S) (behind : Result T Refusal) (P Q R : Refusal → Type 0) → result ≡ Ok x
      → ((e : Refusal) → Q e → R e) → ((image : List ℕ) → MayLeave (g.disk mid) image → MayLeave (g.disk old) image)
      → SyncsAndReads g old mid result P → OnlyReads g mid new behind Q → SyncsAndReads g old new behind R
  settled_reads old mid new result x behind P Q R is to narrows first second =
      let same = of_ok result x _ is first.same in
      let stable : g.disk new ≡ synced (g.disk old) = second.kept ∙ of_ok result x _ is first.settled in
      let fault : (e : Refusal) → IsFault (g.count mid) (g.count new) e → IsFault (g.count old) (g.count new) e =
      λ e told. subst (λ (k : ℕ). IsFault k (g.count new) e) same told in
      record {
        settled = on_ok behind _ _ (λ also. stable) second.same;
        kept = inr stable;
        stable = on_err behind _ _ (λ e why. inr stable) second.refusal;
        image = ap (λ (d : Disk). d.image) second.kept ∙ first.image;
        any_moment = joins g.clock g.left_since old mid new (MayLeave (g.disk old)) first.any_moment (weaken g.clock g.left_since mid new _ _ narrows second.any_moment);
        same = on_ok behind _ _ (λ also. also ∙ same) second.same;
        refusal = on_err behind _ _ (λ e why. ⊎_elim (λ told. inl (fault e told)) (λ cause. inr (to e cause)) why) second.refusal;
        first = on_err behind _ _ (λ e why. ⊎_elim (λ told. inl (fault e told)) (λ also. inr (also ∙ same)) why) second.first;
        stays = second.stays ∙ first.stays;
        works = λ goes. on_err behind Q R to (second.works
            (subst (λ (l : List ℕ). Reaches (g.reach mid) (length l)) (sym first.image) (subst (λ (r : Reach). Reaches r (length (g.disk old).image)) (sym first.stays) goes)));
      }
