use Rattle.std.proofs.Common.{◌≡◌, ◌+◌, ℕ, List, Bool, true, [], ◌∷◌, ◌++◌, length, sym, ◌∙◌, ap, subst}
use Rattle.disk_model.specs.Disk.{Disk, IsTorn}
use Rattle.disk_model.specs.Synced.{IsSynced}
use Rattle.disk_model.specs.Calls.{Changes, Puts}
use Rattle.disk_model.proofs.Changed.{torn_changes, puts_changes}
use Rattle.disk_model.proofs.Moments.{weaken, joins}
use Rattle.ring_records.specs.Member.{Member}
use Rattle.gated_journal.specs.Areas.{ReadsAt}
use Rattle.gated_journal.specs.AreaWritten.{IsGate, first_write}
use Rattle.gated_journal.specs.Reading.{Reading}
use Rattle.gated_journal.proofs.AreaShut.{closing, closed_then, writing}
use Rattle.gated_journal.proofs.AreaStaged.{staged_by}
use Rattle.gated_journal.proofs.Results.{on_ok}
use Rattle.gated_journal.proofs.replace.write_area.Goals as goal
use Rattle.gated_journal.proofs.replace.write_area.Goals.{then-is_closed, else-is_closed}

module _ (header : Member) (r : Reading) (start other offset gate_at first : ℕ) (is_closed : Bool) (first_is : first ≡ first_write is_closed other) where
  -- while the other area is closed
  close_torn : (disk : Disk) (image : List ℕ) → IsSynced disk → ReadsAt header disk.image r start other offset gate_at → IsGate is_closed other disk.image
      → IsTorn disk.stable (disk.ranges ++ (first, 1) ∷ []) image
      → ReadsAt header image r start other offset gate_at
  close_torn disk image is reads gate torn =
      closing is_closed header disk.image image r start other offset gate_at reads gate (subst (λ (f : ℕ). Changes f 1 disk.image image) first_is (torn_changes first 1 disk image is torn))

  -- once it is
  close_put : (old new : List ℕ) → ReadsAt header old r start other offset gate_at → IsGate is_closed other old → Puts first (0 ∷ []) old new
      → ReadsAt header new r start other offset gate_at × IsGate true other new
  close_put old new reads gate put =
      let here : Puts (first_write is_closed other) (0 ∷ []) old new = subst (λ (f : ℕ). Puts f (0 ∷ []) old new) first_is put in
      (closing is_closed header old new r start other offset gate_at reads gate (puts_changes (first_write is_closed other) (0 ∷ []) old new here), closed_then is_closed other old new gate here)

pub returns-in_err-write_through-clause-any_moment : goal.returns-in_err-write_through-clause-any_moment
returns-in_err-write_through-clause-any_moment g c = λ header r start offset gate_at is reads gate fits.
    let d = c.args.device.now in
    let other = c.args.other in
    let first = c.if-is_closed.first in
    let first_is : first ≡ first_write c.args.is_closed other = elim c.if-is_closed.branch [ then-is_closed w ↦ w.first-is ∙ ap (λ (b : Bool). first_write b other) (sym w.if-is_closed.true) | else-is_closed w ↦ w.first-is ∙ ap (λ (b : Bool). first_write b other) (sym w.if-is_closed.false) ] in
    weaken g.D.Device.clock g.D.Device.left_since d c.write_through.new.device _ (λ image. ReadsAt header image r start other offset gate_at)
    (λ image torn. close_torn header r start other offset gate_at first c.args.is_closed first_is (g.D.Device.disk d) image is reads gate torn) c.write_through.ensures.any_moment

pub returns-clause-any_moment : goal.returns-clause-any_moment
returns-clause-any_moment g c = λ header r start offset gate_at is reads gate fits.
    let d = c.args.device.now in
    let mid = c.write_through.new.device in
    let old = g.D.Device.disk d in
    let shut = g.D.Device.disk mid in
    let other = c.args.other in
    let bytes = c.args.bytes.now in
    let first = c.if-is_closed.first in
    let first_is : first ≡ first_write c.args.is_closed other = elim c.if-is_closed.branch [ then-is_closed w ↦ w.first-is ∙ ap (λ (b : Bool). first_write b other) (sym w.if-is_closed.true) | else-is_closed w ↦ w.first-is ∙ ap (λ (b : Bool). first_write b other) (sym w.if-is_closed.false) ] in
    let P = λ (image : List ℕ). ReadsAt header image r start other offset gate_at in
    let one = weaken g.D.Device.clock g.D.Device.left_since d mid _ P
    (λ image torn. close_torn header r start other offset gate_at first c.args.is_closed first_is old image is reads gate torn) c.write_through.ensures.any_moment in
    let then = close_put header r start other offset gate_at first c.args.is_closed first_is old.image shut.image reads gate c.in_ok-write_through.ensures.written in
    let two = weaken g.D.Device.clock g.D.Device.left_since mid c.write_through-2.new.device _ P
    (λ image torn. writing header shut.image image r start other offset gate_at (length bytes) then.0 then.1 (torn_changes (other + 1) (length bytes) shut image c.in_ok-write_through.ensures.synced torn) fits) c.write_through-2.ensures.any_moment in
    joins g.D.Device.clock g.D.Device.left_since d mid c.write_through-2.new.device P one two

pub returns-clause-done : goal.returns-clause-done
returns-clause-done g c =
    let old = g.D.Device.disk c.args.device.now in
    let shut = g.D.Device.disk c.write_through.new.device in
    let new = g.D.Device.disk c.write_through-2.new.device in
    let other = c.args.other in
    let bytes = c.args.bytes.now in
    let first = c.if-is_closed.first in
    let first_is : first ≡ first_write c.args.is_closed other = elim c.if-is_closed.branch [ then-is_closed w ↦ w.first-is ∙ ap (λ (b : Bool). first_write b other) (sym w.if-is_closed.true) | else-is_closed w ↦ w.first-is ∙ ap (λ (b : Bool). first_write b other) (sym w.if-is_closed.false) ] in
    on_ok c.write_through-2.result _ _ (λ put header r start offset gate_at reads gate fits.
    let then = close_put header r start other offset gate_at first c.args.is_closed first_is old.image shut.image reads gate c.in_ok-write_through.ensures.written in
    writing header shut.image new.image r start other offset gate_at (length bytes) then.0 then.1 (puts_changes (other + 1) bytes shut.image new.image put) fits) c.write_through-2.ensures.written

pub returns-clause-staged : goal.returns-clause-staged
returns-clause-staged g c =
    let shut = g.D.Device.disk c.write_through.new.device in
    let new = g.D.Device.disk c.write_through-2.new.device in
    let other = c.args.other in
    on_ok c.write_through-2.result _ _ (λ put n epoch s bytes_are small short spells.
    staged_by n other epoch s shut.image new.image small short spells (subst (λ (l : List ℕ). Puts (other + 1) l shut.image new.image) bytes_are put)) c.write_through-2.ensures.written
