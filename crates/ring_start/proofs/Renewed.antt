-- What a checkpoint makes of a node that a start found.
use Rattle.std.proofs.Common.{ℕ, ◌≡◌, ◌⊎◌, inl, inr, Bool, true, false, Option, Some, None, refl, sym, ap, subst, ◌∙◌, arith}
use Rattle.std.specs.Prelude.{◌||◌, ◌+◌, if◌then◌else◌}
use Rattle.disk_model.specs.declared.device.Device.{Ghosts}
use Rattle.ring_records.specs.Admission.{newest}
use Rattle.ring_records.specs.declared.summary.Summary.{Summary}
use Rattle.ring_records.specs.declared.refusal.Refusal.{Refusal}
use Rattle.ring_records.specs.declared.refusal.Refusal.TheVariants as refused
use Rattle.ring_records.specs.Known.{after}
use Rattle.gated_journal.specs.Areas.{AllReadAs}
use Rattle.gated_journal.specs.Reading.{fresh_area}
use Rattle.gated_journal.specs.Unread.{IsFault}
use Rattle.group_commit.specs.Desk.{DeskKept, known_all}
use Rattle.node_store.specs.Node.{device_of, member_of}
use Rattle.node_store.proofs.Flight.{no_fault}
use Rattle.node_store.specs.Unbegun.{IsUnbegun}
use Rattle.ring_start.specs.declared.found.Found.TheVariants as found
use Rattle.ring_start.specs.declared.open_node.OpenNode.{OpenNode}
use Rattle.ring_start.specs.declared.ready.Ready.{Ready}
use Rattle.ring_start.specs.Fits.{kept_by}
use Rattle.ring_start.specs.Written.{GoesOn, IsBarred, IsReady, IsRenewed, IsTried, IsUntouched, IsWritten, epoch_of, is_of_old, renewals}

-- a desk that takes requests works
pub works : (closed failed : Bool) → (closed || failed) ≡ false → failed ≡ false
works false failed is = is
works true failed is = absurd cc

-- ---- what it is refused for

-- one of the two objections
abbrev pub IsEither : Refusal → Type 0
IsEither why = (why ≡ refused.Limit) ⊎ (why ≡ refused.Full)

-- a desk that works has no other
pub objects : (failed : Bool) (why : Refusal) → failed ≡ false → ((failed ≡ true) × (why ≡ refused.Failed)) ⊎ IsEither why → IsEither why
objects failed why works (inl told) = absurd (let failed_is = told.0 in cc)
objects failed why works (inr either) = either

pub unbegun : (why : Refusal) → IsEither why → IsUnbegun why
unbegun why (inl is) = inr (inl is)
unbegun why (inr is) = inr (inr (inl is))

never : (before now : ℕ) (why : Refusal) → IsFault before now why ⊎ (why ≡ refused.OutOfMemory) → IsEither why → ⊥
never before now why (inl fault) (inl is) = let device = fault.is in cc
never before now why (inl fault) (inr is) = let device = fault.is in cc
never before now why (inr memory) (inl is) = cc
never before now why (inr memory) (inr is) = cc

-- so it was objected to
pub objected : (o : Option Refusal) (before now : ℕ) (why : Refusal) → (o ≡ Some why) ⊎ ((o ≡ None) × (IsFault before now why ⊎ (why ≡ refused.OutOfMemory)))
    → IsEither why → (o ≡ Some refused.Limit) ⊎ (o ≡ Some refused.Full)
objected o before now why (inl is) (inl e) = inl (is ∙ ap Some e)
objected o before now why (inl is) (inr e) = inr (is ∙ ap Some e)
objected o before now why (inr short) either = absurd (never before now why short.1 either)

neither : (why : Refusal) → (why ≡ refused.Limit → ⊥) → (why ≡ refused.Full → ⊥) → IsEither why → ⊥
neither why limit full (inl is) = limit is
neither why limit full (inr is) = full is

-- where it is refused for something else, the device failed or memory was wanting
pub broken : (o : Option Refusal) (before now : ℕ) (why : Refusal) → (o ≡ Some why → IsEither why) → (why ≡ refused.Limit → ⊥) → (why ≡ refused.Full → ⊥)
    → (o ≡ Some why) ⊎ ((o ≡ None) × (IsFault before now why ⊎ (why ≡ refused.OutOfMemory))) → IsFault before now why ⊎ (why ≡ refused.OutOfMemory)
broken o before now why objects limit full (inl is) = absurd (neither why limit full (objects is))
broken o before now why objects limit full (inr short) = short.1

pub in_memory : (before now : ℕ) (why : Refusal) → IsUnbegun why → IsFault before now why ⊎ (why ≡ refused.OutOfMemory) → why ≡ refused.OutOfMemory
in_memory before now why begun (inl fault) = absurd (no_fault why before now begun fault)
in_memory before now why begun (inr memory) = memory

-- ---- the checkpoints of a start

-- the node goes on as the same behind both
both_go_on : (old first second : DeskKept) → GoesOn old first → GoesOn first second → GoesOn old second
both_go_on old first second a b = record { member = b.member ∙ a.member; opening = b.opening ∙ a.opening; inputs = b.inputs ∙ a.inputs }

module _ {D : Type 0} {g : Ghosts D} (old first second : OpenNode D g) where
  -- it holds all that the node held before the first one
  renewed_twice : GoesOn (kept_by old) (kept_by first) → IsRenewed 1 old first → IsRenewed 1 first second → IsRenewed 2 old second
  renewed_twice goes_on renewed again =
      let same : known_all (kept_by first) ≡ known_all (kept_by old) = λ i. after (goes_on.member i).node (goes_on.opening i) (goes_on.inputs i) in
      record {
        later = omega (arith, renewed.later, again.later);
        holds = subst (λ (s : Summary). AllReadAs (member_of second.node) (g.disk (device_of second.node)) (fresh_area newest (epoch_of (kept_by second)) s)) same again.holds;
      }

  -- and so does the first one where nothing more was done
  renewed_once : IsRenewed 1 old first → IsUntouched first second → IsRenewed 1 old second
  renewed_once renewed same = record {
    later = subst (λ (d : DeskKept). epoch_of d ≡ epoch_of (kept_by old) + 1) (sym same.desk) renewed.later;
    holds =
        subst (λ (d : DeskKept). AllReadAs d.view.member (g.disk (device_of second.node)) (fresh_area newest (epoch_of d) (known_all (kept_by old)))) (sym same.desk)
        (subst (λ (device : D). AllReadAs (member_of first.node) (g.disk device) (fresh_area newest (epoch_of (kept_by first)) (known_all (kept_by old)))) (sym same.device) renewed.holds);
  }

module _ {D : Type 0} {g : Ghosts D} (old : OpenNode D g) (ready : Ready D g) (tried : IsTried old ready) where
  -- these are all that a start makes
  all_made : (b : Bool) (new : OpenNode D g) → is_of_old (kept_by old) ≡ b → IsRenewed (if b then 2 else 1) old new → IsRenewed (renewals (kept_by old)) old new
  all_made b new is = subst (λ (c : Bool). IsRenewed (if c then 2 else 1) old new) (sym is)

  -- a node may be served behind one, unless its area in use was of an earlier layout
  pub ready_once : (ready.is_written ≡ true → is_of_old (kept_by old) ≡ false) → IsReady (found.There old) ready
  ready_once is_newest = record {
    goes_on = tried.goes_on;
    written = λ is. inl (all_made false ready.opened (is_newest is) (tried.written is));
    kept = tried.kept;
  }

  module _ (again both : Ready D g) (is_old : is_of_old (kept_by old) ≡ true) (wrote : ready.is_written ≡ true) (is_again : IsTried ready.opened again) where
    behind : (b : Bool) → again.is_written ≡ b → IsWritten (found.There old) again.opened
    behind true is = inl (all_made true again.opened is_old (renewed_twice old ready.opened again.opened tried.goes_on (tried.written wrote) (is_again.written is)))
    behind false is =
        let same = is_again.kept is in
        inr (renewed_once old ready.opened again.opened (tried.written wrote) same, subst IsBarred (sym same.desk) same.objection)

    -- else behind another one, where that could be had
    pub ready_again : both ≡ record { opened = again.opened; is_written = true } → IsReady (found.There old) both
    ready_again is = subst (λ (r : Ready D g). IsReady (found.There old) r) (sym is) (record {
      goes_on = both_go_on (kept_by old) (kept_by ready.opened) (kept_by again.opened) tried.goes_on is_again.goes_on;
      written = λ _. behind again.is_written refl;
      kept = λ is. absurd cc;
    })
