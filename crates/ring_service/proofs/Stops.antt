-- What a stop within a round leaves.
use Rattle.std.proofs.Common.{◌≡◌, inl, ℕ, List, [], ◌++◌, append-nil, length, Option, None, sym, subst, arith}
use Rattle.ring_records.proofs.Lists.{none≢some}
use Rattle.disk_model.specs.declared.device.Device.{Ghosts}
use Rattle.disk_model.specs.Disk.{Disk, MayLeave, LeavesOnly}
use Rattle.disk_model.proofs.Moments.{started}
use Rattle.ring_records.specs.declared.input.Input.{Input}
use Rattle.ring_records.specs.declared.summary.Summary.{Summary}
use Rattle.ring_records.specs.Member.{Member}
use Rattle.gated_journal.specs.Areas.{AllReadAs, ReadsAsOneOf}
use Rattle.gated_journal.specs.Reading.{Reading}
use Rattle.group_commit.specs.Next.{Durable, IsLawfulBehind}
use Rattle.gated_journal.specs.Works.{reading_after}
use Rattle.ring_service.specs.Rounds.{IsMade, IsStopped, at_rest, with_flying}

-- what flies is durable alone, where nothing does
pub none_flies : (known : Durable) → at_rest known ≡ with_flying known [] None
none_flies known =
    let same : known.inputs ≡ known.inputs ++ [] = sym (append-nil known.inputs) in
    λ i. record { inputs = same i; durable = length known.inputs; flying = length (same i); base = known.base; checkpoint = None }

module _ {V : Type 0} (g : Ghosts V) where
  -- nothing was called
  pub idle : (device : V) (disk : Disk) (member : Member) (opening : Summary) (known : Durable) (r : Reading) → ((image : List ℕ) → g.left_since device (g.clock device) image → MayLeave disk image)
      → AllReadAs member disk r → IsStopped g device device member opening known r
  idle device disk member opening known r only reads = record {
    inputs = [];
    base = None;
    made = record { few = λ _. omega arith; summed = λ s e. none≢some s e; lawful = subst (IsLawfulBehind member opening) (none_flies known) };
    any_moment = started g.clock g.left_since device _ (λ image left. inl (reads image (only image left)));
  }

  -- each moment of a write
  pub moments : (old new : V) (of member : Member) (known : Durable) (epoch : ℕ) (r : Reading) (inputs : List Input) (base : Option Summary) → of ≡ member → epoch ≡ known.base.epoch
      → LeavesOnly g.clock g.left_since old new (ReadsAsOneOf of r (reading_after epoch base inputs r)) → LeavesOnly g.clock g.left_since old new (ReadsAsOneOf member r (reading_after known.base.epoch base inputs r))
  moments old new of member known epoch r inputs base is at leaves =
      subst (λ (k : ℕ). LeavesOnly g.clock g.left_since old new (ReadsAsOneOf member r (reading_after k base inputs r))) at
      (subst (λ (m : Member). LeavesOnly g.clock g.left_since old new (ReadsAsOneOf m r (reading_after epoch base inputs r))) is leaves)

  -- it was written, or the device failed with it
  pub written : (old new : V) (of member : Member) (opening : Summary) (known : Durable) (epoch : ℕ) (r : Reading) (inputs : List Input) (base : Option Summary) → of ≡ member
      → epoch ≡ known.base.epoch
      → IsMade member opening known inputs base → LeavesOnly g.clock g.left_since old new (ReadsAsOneOf of r (reading_after epoch base inputs r)) → IsStopped g old new member opening known r
  written old new of member opening known epoch r inputs base is at made leaves = record {
    inputs = inputs;
    base = base;
    made = made;
    any_moment = moments old new of member known epoch r inputs base is at leaves;
  }
