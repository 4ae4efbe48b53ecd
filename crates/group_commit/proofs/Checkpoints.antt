-- When a checkpoint is launched, and the desk then.
use Rattle.std.proofs.Common.{◌≡◌, ◌+◌, ◌-◌, ◌*◌, ◌<◌, ◌≤◌, ◌⊎◌, ◌&&◌, ◌||◌, not, true, false, Bool, cond, length, Option, Some, None, inl, inr, refl, sym, ap, ◌∙◌, subst, arith}
use Rattle.std.specs.Option.{option_map}
use Rattle.std.specs.Prelude.{nat_le, nat_lt}
use Rattle.std.proofs.lemmas.Bool.{and_parts, leb-false, leb-true, ltb-false, ltb-true, lt-leb, le-ltb}
use Rattle.ring_records.specs.declared.refusal.Refusal.TheVariants.{Failed, Busy, Limit, Full, OutOfMemory}
use Rattle.ring_records.specs.declared.refusal.Refusal.{Refusal}
use Rattle.ring_records.specs.Lists.{or_else}
use Rattle.ring_records.specs.Admission.{used, newest}
use Rattle.ring_records.specs.Objection.{where_so}
use Rattle.ring_records.specs.Snapshot.{snapshot_len}
use Rattle.ring_records.specs.States.{is_idle, launched_base}
use Rattle.ring_records.specs.declared.base.Base.{Base}
use Rattle.ring_records.proofs.Admission.{or_else-none, where_so-none, or_else-free, where_so-free}
use Rattle.ring_records.proofs.States.{idle-base}
use Rattle.ring_records.proofs.Lists.{none≢some}
use Rattle.group_commit.specs.Desk.{DeskView, DeskKept, known_all, frees_room, is_due, epochs}
use Rattle.group_commit.specs.Launching.{launch_objection, checkpoint_objection, needs_checkpoint, MayRenew, is_checkpoint_next, IsUnlaunched}
use Rattle.group_commit.specs.Next.{is_to_make_room}

-- where nothing is against a launch, nothing flies
pub idle_free : (d : DeskView) → launch_objection d ≡ None → is_idle d.state ≡ true
idle_free d e = go d.failed (is_idle d.state) e
  where
    go : (failed idle : Bool) → cond failed (Some Failed) (cond idle None (Some Busy)) ≡ None → idle ≡ true
    go true idle e = none≢some Failed (sym e)
    go false true e = refl
    go false false e = none≢some Busy (sym e)

-- where nothing is against a checkpoint, nothing flies, the journal may write another area, and the snapshot fits it
pub record MayLaunch (d : DeskKept) : Type 0 where
  pub idle : is_idle d.view.state ≡ true
  pub few : d.view.state.base.epoch + 1 < epochs
  pub fits : snapshot_len newest (known_all d) ≤ d.view.member.capacity

pub may_launch : (d : DeskKept) → checkpoint_objection d ≡ None → MayLaunch d
may_launch d e =
    let first = or_else-none (launch_objection d.view) _ e in
    let others = or_else-none (where_so (nat_le epochs (d.view.state.base.epoch + 1)) Limit) _ first.1 in
    record {
      idle = idle_free d.view first.0;
      few = leb-false epochs (d.view.state.base.epoch + 1) (where_so-none _ Limit others.0);
      fits = ltb-false d.view.member.capacity (snapshot_len newest (known_all d)) (where_so-none _ Full others.1);
    }

-- no other is pending
pub none_pending : {A B : Type 0} (f : A → B) (o : Option A) → option_map f o ≡ None → o ≡ None
none_pending f None e = refl
none_pending f (Some x) e = none≢some (f x) (sym e)

-- where one is due, more than half of the capacity is taken, and the snapshot takes a quarter at most
pub record Due (d : DeskKept) : Type 0 where
  pub filled : d.view.member.capacity < 2 * used (launched_base d.view.state) d.view.state.inputs
  pub short : 4 * snapshot_len newest (known_all d) ≤ d.view.member.capacity
  pub left : (launched_base d.view.state).epoch + 1 < epochs

due : (d : DeskKept) → is_due d ≡ true → Due d
due d is =
    let taken = 2 * used (launched_base d.view.state) d.view.state.inputs in
    let length = 4 * snapshot_len newest (known_all d) in
    let filled = and_parts (nat_lt d.view.member.capacity taken) _ is in
    let short = and_parts (nat_le length d.view.member.capacity) _ filled.1 in
    record { filled = ltb-true d.view.member.capacity taken filled.0; short = leb-true length d.view.member.capacity short.0; left = ltb-true _ epochs short.1 }

-- where one frees room, it frees a sixteenth of the capacity, and may be written
pub record Frees (d : DeskKept) : Type 0 where
  pub freed : d.view.member.capacity ≤ 16 * (used (launched_base d.view.state) d.view.state.inputs - snapshot_len newest (known_all d))
  pub fits : snapshot_len newest (known_all d) ≤ d.view.member.capacity
  pub left : (launched_base d.view.state).epoch + 1 < epochs

frees : (d : DeskKept) → frees_room d ≡ true → Frees d
frees d is =
    let length = snapshot_len newest (known_all d) in
    let freed = 16 * (used (launched_base d.view.state) d.view.state.inputs - length) in
    let first = and_parts (nat_le d.view.member.capacity freed) _ is in
    let others = and_parts (nat_le length d.view.member.capacity) _ first.1 in
    record { freed = leb-true d.view.member.capacity freed first.0; fits = leb-true length d.view.member.capacity others.0; left = ltb-true _ epochs others.1 }

-- where one is to make room, it is due or frees some
makes_room : (w : Bool) (d : DeskKept) → is_to_make_room w d ≡ true → Due d ⊎ Frees d
makes_room w d is = go (is_due d) refl w is
  where
    go : (b : Bool) → is_due d ≡ b → (w : Bool) → (b || w && frees_room d) ≡ true → Due d ⊎ Frees d
    go true e w is = inl (due d e)
    go false e w is = inr (frees d (and_parts w (frees_room d) is).1)

-- where a checkpoint is next, one is due, or frees room, or is needed
pub next_why : (w : Bool) (d : DeskKept) → is_checkpoint_next w d ≡ true → (Due d ⊎ Frees d) ⊎ (needs_checkpoint d ≡ true)
next_why w d next = go (needs_checkpoint d) refl next
  where
    go : (b : Bool) → needs_checkpoint d ≡ b → (b || is_to_make_room w d && (nat_lt d.view.state.durable (length d.view.state.inputs) || not (d.view.closed || d.view.failed))) ≡ true
        → (Due d ⊎ Frees d) ⊎ (needs_checkpoint d ≡ true)
    go true e next = inr e
    go false e next = inl (makes_room w d (and_parts (is_to_make_room w d) _ next).0)

-- and of one of which it is, nothing is against it but what is against a batch
pub next_free : (w : Bool) (d : DeskKept) → is_checkpoint_next w d ≡ true → (needs_checkpoint d ≡ true → MayRenew d) → launch_objection d.view ≡ None → checkpoint_objection d ≡ None
next_free w d next renews free = or_else-free (launch_objection d.view) _ free (or_else-free _ _ (where_so-free _ _ (lt-leb epochs (d.view.state.base.epoch + 1) left)) (where_so-free _ _ (le-ltb d.view.member.capacity (snapshot_len newest (known_all d)) may.fits)))
  where
    may : MayRenew d
    may = elim (next_why w d next) [
      | inl (inl is) ↦ record { left = is.left; fits = (let s = is.short in omega arith) }
      | inl (inr is) ↦ record { left = is.left; fits = is.fits }
      | inr needs ↦ renews needs
    ]

    left : d.view.state.base.epoch + 1 < epochs
    left = subst (λ (b : Base). b.epoch + 1 < epochs) (idle-base d.view.state (idle_free d.view free)) may.left

-- so it is refused as a batch would be, or for want of memory
pub next_refused : (w : Bool) (d : DeskKept) (why : Refusal) → is_checkpoint_next w d ≡ true → (needs_checkpoint d ≡ true → MayRenew d)
    → (checkpoint_objection d ≡ Some why) ⊎ ((checkpoint_objection d ≡ None) × (why ≡ OutOfMemory)) → IsUnlaunched d why
next_refused w d why next renews (inl objected) = go (launch_objection d.view) refl
  where
    go : (o : Option Refusal) → launch_objection d.view ≡ o → IsUnlaunched d why
    go None e = none≢some why (sym (next_free w d next renews e) ∙ objected)
    go (Some first) e = inl (e ∙ (sym (ap (λ (p : Option Refusal). or_else p (or_else (where_so (nat_le epochs (d.view.state.base.epoch + 1)) Limit) (where_so (nat_lt d.view.member.capacity (snapshot_len newest (known_all d))) Full))) e) ∙ objected))
next_refused w d why next renews (inr memory) = inr ((or_else-none (launch_objection d.view) _ memory.0).0, memory.1)
