-- A node that is opened again stands for what a stop left of it.
use Rattle.std.proofs.Common.{◌≡◌, ◌⊎◌, ⊎_elim, inl, inr, ℕ, Bool, true, false, List, refl, sym, ◌∙◌, ap, subst}
use Rattle.disk_model.specs.Disk.{Disk, MayLeave, synced}
use Rattle.disk_model.proofs.Ranges.{torn_none}
use Rattle.ring_records.specs.declared.refusal.Refusal.{Refusal}
use Rattle.ring_records.specs.declared.refusal.Refusal.TheVariants.{OutOfMemory}
use Rattle.ring_records.specs.Member.{Member, member}
use Rattle.ring_records.specs.States.{NodeState, left_by}
use Rattle.ring_records.specs.Lawful.{IsLawfulState}
use Rattle.gated_journal.specs.Areas.{ReadsAs, AllReadAs, ReadsAsOneOf}
use Rattle.gated_journal.specs.Reading.{Reading}
use Rattle.gated_journal.specs.Unread.{IsFault, IsUnopened}
use Rattle.gated_journal.proofs.AreaAlone.{one_reading, one_header}
use Rattle.gated_journal.proofs.Fault.{not_read}
use Rattle.group_commit.specs.Desk.{DeskKept, core_of, new_desk}
use Rattle.group_commit.specs.Opening.{IsUnlawful}
use Rattle.node_store.specs.Recovery.{IsNotLawful, IsShort}
use Rattle.node_store.specs.State.{Holds, IsOpenedAs, ReadsAsLeft, reading_of}
use Rattle.node_store.proofs.Left.{opened_as, free_of}

-- ---- what is read

-- what an image reads as that a stop may leave
pub kept_by : (header other : Member) (s : NodeState) (image : List ℕ) (r : Reading) → ReadsAsLeft header s image → ReadsAs other image r
    → (other ≡ header) × ((keep : Bool) × (r ≡ reading_of header.node (left_by keep s)))
kept_by header other s image r (inl old) read = (one_header other header image r _ read old, (false, one_reading other header image r _ read old))
kept_by header other s image r (inr new) read = (one_header other header image r _ read new, (true, one_reading other header image r _ read new))

left_reads : (header : Member) (s : NodeState) (image : List ℕ) (keep : Bool) → ReadsAs header image (reading_of header.node (left_by keep s)) → ReadsAsLeft header s image
left_reads header s image false read = inl read
left_reads header s image true read = inr read

-- ---- what is refused

-- where a desk is not opened with it, memory is short
pub short_only : (node n capacity found : ℕ) (s : NodeState) (keep : Bool) (r : Reading) (why : Refusal) (Fault : Type 0)
    → found ≡ capacity → r ≡ reading_of node (left_by keep s) → IsLawfulState (member node n capacity) s
    → (why ≡ OutOfMemory) ⊎ IsUnlawful (core_of (member node n found) r) r.inputs why → (why ≡ OutOfMemory) ⊎ Fault
short_only node n capacity found s keep r why Fault capacity_is is lawful (inl short) = inl short
short_only node n capacity found s keep r why Fault capacity_is is lawful (inr un) =
    let here : IsUnlawful (core_of (member node n capacity) (reading_of node (left_by keep s))) (reading_of node (left_by keep s)).inputs why =
    rw is at (rw capacity_is at un) in
    absurd (free_of (member node n capacity) s keep why lawful here)

-- and where it is opened with no history's, the first of its inputs that is not admitted is told, or that memory is short
pub not_opened : (node n capacity : ℕ) (journal : Member) (r : Reading) (image : List ℕ) (why : Refusal) → journal ≡ member node n capacity → ReadsAs journal image r
    → (why ≡ OutOfMemory) ⊎ IsUnlawful (core_of (member node n capacity) r) r.inputs why → IsNotLawful node n image why ⊎ IsShort node n image why
not_opened node n capacity journal r image why named read (inl short) = inr (record { capacity = capacity; reading = r; reads = rw named at read; is = short })
not_opened node n capacity journal r image why named read (inr un) = inl (record { capacity = capacity; reading = r; reads = rw named at read; unlawful = un })

pub short_or_not : (node n : ℕ) (image : List ℕ) (why : Refusal) (Unread : Type 0)
    → IsNotLawful node n image why ⊎ IsShort node n image why → (why ≡ OutOfMemory) ⊎ (Unread ⊎ IsNotLawful node n image why)
short_or_not node n image why Unread (inl un) = inr (inr un)
short_or_not node n image why Unread (inr short) = inl short.is

-- the device is handed back as it was, or synced
pub still_holds : (header : Member) (s : NodeState) (old new : Disk) → MayLeave old old.image → (new ≡ old) ⊎ (new ≡ synced old) → Holds header old s → Holds header new s
still_holds header s old new stays (inl same) holds = rw same holds
still_holds header s old new stays (inr is) holds = λ image left.
    let only : image ≡ old.image = torn_none old.image image (subst (λ (disk : Disk). MayLeave disk image) is left) in
    subst (λ (l : List ℕ). ReadsAsLeft header s l) (sym only) (holds old.image stays)

pub same_image : (old new : Disk) → (new ≡ old) ⊎ (new ≡ synced old) → new.image ≡ old.image
same_image old new (inl same) = ap (λ (disk : Disk). disk.image) same
same_image old new (inr is) = ap (λ (disk : Disk). disk.image) is

some_reading : (header : Member) (old new : Reading) (image : List ℕ) → ReadsAsOneOf header old new image → (r : Reading) × ReadsAs header image r
some_reading header old new image (inl read) = (old, read)
some_reading header old new image (inr read) = (new, read)

-- an image that reads has no fault, so its journal is refused for the device or for memory
pub no_fault : (node n capacity : ℕ) (s : NodeState) (before now : ℕ) (image : List ℕ) (why : Refusal) → ReadsAsLeft (member node n capacity) s image
    → IsUnopened node n before now image why → (why ≡ OutOfMemory) ⊎ IsFault before now why
no_fault node n capacity s before now image why read un =
    let found = some_reading (member node n capacity) (reading_of node (left_by false s)) (reading_of node (left_by true s)) image read in
    ⊎_elim (λ fault. inr fault)
    (⊎_elim (λ short. inl short.2) (λ unread. absurd (not_read node n image why (member node n capacity) found.0 unread found.1 refl refl))) un.cause

-- what is read stands in every image
pub holds_again : (header other : Member) (s : NodeState) (disk : Disk) (keep : Bool) (r : Reading)
    → other ≡ header → r ≡ reading_of header.node (left_by keep s) → AllReadAs other disk r → Holds header disk s
holds_again header other s disk keep r same is all = λ image left.
    left_reads header s image keep (subst (λ (h : Member). ReadsAs h image (reading_of header.node (left_by keep s))) same (subst (λ (t : Reading). ReadsAs other image t) is (all image left)))

-- ---- what it stands for

pub capacity_again : (value : ℕ) (found header : Member) → value ≡ found.capacity → found ≡ header → value ≡ header.capacity
capacity_again value found header is same = is ∙ ap (λ (h : Member). h.capacity) same

pub named_again : (node n capacity : ℕ) (journal : Member) → journal.node ≡ node → journal.n ≡ n → capacity ≡ journal.capacity → journal ≡ member node n capacity
named_again node n capacity journal node_is n_is capacity_is = λ i. record { node = node_is i; n = n_is i; capacity = sym capacity_is i }

pub made_again : (desk : DeskKept) (node n found capacity run : ℕ) (s : NodeState) (keep : Bool) (r : Reading)
    → IsLawfulState (member node n capacity) s → desk ≡ new_desk (member node n found) run r → found ≡ capacity
    → r ≡ reading_of node (left_by keep s) → IsOpenedAs (member node n capacity) run (left_by keep s) desk
made_again desk node n found capacity run s keep r lawful is capacity_is read =
    let made : desk ≡ new_desk (member node n capacity) run (reading_of node (left_by keep s)) = is ∙ (λ i. new_desk (member node n (capacity_is i)) run (read i)) in
    subst (IsOpenedAs (member node n capacity) run (left_by keep s)) (sym made) (opened_as (member node n capacity) run s keep lawful)
