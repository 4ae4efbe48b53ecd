-- Why a flusher launches nothing: its tie says that nothing flies, and that the hub has not failed.
use Rattle.std.proofs.Common.{◌≡◌, ◌⊎◌, inl, inr, Bool, true, false, cond, Option, Some, None, refl, sym, ◌∙◌, subst}
use Rattle.std.specs.Prelude.{MatchOption}
use Rattle.ring_records.specs.declared.refusal.Refusal.{Refusal}
use Rattle.ring_records.specs.declared.refusal.Refusal.TheVariants as refused
use Rattle.ring_records.proofs.Lists.{none≢some}
use Rattle.gated_journal.specs.Batch.{Numbered}
use Rattle.commit_hub.specs.Over.{flies, launch_refusal}

-- a growth was refused, where nothing else is against it
pub short : (against : Option Refusal) (why : Refusal) → against ≡ None → (against ≡ Some why) ⊎ ((against ≡ None) × (why ≡ refused.OutOfMemory)) → why ≡ refused.OutOfMemory
short against why free cause = elim cause [
  | inl some ↦ absurd (none≢some why (sym free ∙ some))
  | inr memory ↦ memory.1
]

-- the hub has not failed, where nothing is against it
pub works : (failed : Bool) (flown : Numbered) → launch_refusal failed flown ≡ None → failed ≡ false
works failed flown free = go failed (flies flown) free
  where
    go : (failed some : Bool) → cond failed (Some refused.Failed) (cond some (Some refused.Busy) None) ≡ None → failed ≡ false
    go true some e = absurd (none≢some refused.Failed (sym e))
    go false some e = refl

-- what is told of the work that was launched
pub of_match : {X : Type 0} (o : Option X) (x : X) (P : Type 0) (Q : X → Type 0) → o ≡ Some x → MatchOption o P Q → Q x
of_match o x P Q is holds = subst (λ q. MatchOption q P Q) is holds
