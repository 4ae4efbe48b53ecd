-- An image has one reading or one fault.
use Rattle.std.proofs.Common.{◌≡◌, ◌⊎◌, inl, inr, ⊎_elim, get_or, ℕ, ◌+◌, ◌≤◌, ◌<◌, List, length, Ok, Err, sym, ◌∙◌, ap, subst, arith}
use Rattle.ring_records.specs.declared.refusal.Refusal.{Refusal}
use Rattle.ring_records.specs.declared.refusal.Refusal.TheVariants.{Damaged}
use Rattle.ring_records.specs.Member.{Member}
use Rattle.ring_records.specs.Snapshot.{Spells}
use Rattle.gated_journal.specs.Areas.{AreAreas, epoch_at, snapshot_at, Counts, HasBase, IsPlain, Begins, ReadsAt, ReadsAs}
use Rattle.gated_journal.specs.Choose.{IsChosen, IsUnchosen, IsPlainly}
use Rattle.gated_journal.specs.Damage.{IsBroken, IsHeadBroken, GoesPast, AreFramesBroken, IsAreaBroken, IsPlainBroken, AreAreasUnread}
use Rattle.gated_journal.specs.Frames.{ReadsTo}
use Rattle.gated_journal.specs.Reading.{Reading}
use Rattle.gated_journal.specs.Unread.{header_at, IsUnread}
use Rattle.gated_journal.proofs.AreaAlone.{counts}
use Rattle.gated_journal.proofs.AreaBeside.{where_are}
use Rattle.gated_journal.proofs.AreaKept.{within}
use Rattle.gated_journal.proofs.Head.{header_again, same_ok}
use Rattle.gated_journal.proofs.Unique.{unique, not_both, damaged_once}

-- ---- which area is read

-- an area that an image reads by is chosen
chosen : (header : Member) (image : List ℕ) (r : Reading) (start other offset gate_at : ℕ) → ReadsAt header image r start other offset gate_at
    → (get_or image start 0 ≡ 1) × HasBase header.n start image r offset → IsChosen start other image
chosen header image r start other offset gate_at read area =
    record { counts = counts header.n image r start offset area; older = λ there. subst (λ (k : ℕ). epoch_at other image < k) area.1.epoch (read.older there) }

-- where one is chosen none is read plainly
not_plainly : (capacity start other : ℕ) (image : List ℕ) → AreAreas capacity start other → Counts start image → IsPlainly capacity image → ⊥
not_plainly capacity start other image areas counts plainly =
    ⊎_elim (λ (a : (start ≡ 16) × (other ≡ 31 + capacity)). plainly.first (subst (λ (k : ℕ). Counts k image) a.0 counts))
    (λ (b : (start ≡ 31 + capacity) × (other ≡ 16)). plainly.second (subst (λ (k : ℕ). Counts k image) b.0 counts)) (where_are capacity start other areas)

-- and where it is read plainly none is
plainly : (header : Member) (image : List ℕ) (r : Reading) (start other offset gate_at : ℕ) → ReadsAt header image r start other offset gate_at → IsPlain start image r offset
    → IsPlainly header.capacity image
plainly header image r start other offset gate_at read p =
    let there : other ≡ 31 + header.capacity = omega (arith, read.areas.both, p.start_is) in
    record { marked = p.marked; first = p.none; second = λ counts. omega (arith, read.older (subst (λ (k : ℕ). Counts k image) (sym there) counts), p.epoch) }

-- none other is
one_chosen : (capacity : ℕ) (image : List ℕ) (start other start2 other2 : ℕ) → AreAreas capacity start other → AreAreas capacity start2 other2 → IsChosen start other image
    → IsChosen start2 other2 image → start ≡ start2
one_chosen capacity image start other start2 other2 one two here there =
    ⊎_elim
    (λ (a : (start ≡ 16) × (other ≡ 31 + capacity)). ⊎_elim (λ (c : (start2 ≡ 16) × (other2 ≡ 31 + capacity)). a.0 ∙ sym c.0)
    (λ (d : (start2 ≡ 31 + capacity) × (other2 ≡ 16)). absurd (apart (a.1 ∙ sym d.0) (d.1 ∙ sym a.0))) (where_are capacity start2 other2 two))
    (λ (b : (start ≡ 31 + capacity) × (other ≡ 16)). ⊎_elim (λ (c : (start2 ≡ 16) × (other2 ≡ 31 + capacity)). absurd (apart (b.1 ∙ sym c.0) (c.1 ∙ sym b.0)))
    (λ (d : (start2 ≡ 31 + capacity) × (other2 ≡ 16)). b.0 ∙ sym d.0) (where_are capacity start2 other2 two))
    (where_are capacity start other one)
  where
    apart : other ≡ start2 → other2 ≡ start → ⊥
    apart first second =
        let less : epoch_at other image < epoch_at start image = here.older (subst (λ (k : ℕ). Counts k image) (sym first) there.counts) in
        let more : epoch_at other2 image < epoch_at start2 image = there.older (subst (λ (k : ℕ). Counts k image) (sym second) here.counts) in
        omega (arith, less, more, ap (λ (k : ℕ). epoch_at k image) first, ap (λ (k : ℕ). epoch_at k image) second)

-- and it is not so that none is
not_unchosen : (capacity : ℕ) (image : List ℕ) (start other : ℕ) → AreAreas capacity start other → IsChosen start other image → IsUnchosen capacity image → ⊥
not_unchosen capacity image start other areas here (inl neither) =
    ⊎_elim (λ (a : (start ≡ 16) × (other ≡ 31 + capacity)). neither.0 (subst (λ (k : ℕ). Counts k image) a.0 here.counts))
    (λ (b : (start ≡ 31 + capacity) × (other ≡ 16)). neither.1 (subst (λ (k : ℕ). Counts k image) b.0 here.counts)) (where_are capacity start other areas)
not_unchosen capacity image start other areas here (inr both) =
    ⊎_elim
    (λ (a : (start ≡ 16) × (other ≡ 31 + capacity)).
    let less = here.older (subst (λ (k : ℕ). Counts k image) (sym a.1) both.1) in
    omega (arith, less, ap (λ (k : ℕ). epoch_at k image) a.0, ap (λ (k : ℕ). epoch_at k image) a.1, both.2))
    (λ (b : (start ≡ 31 + capacity) × (other ≡ 16)).
    let less = here.older (subst (λ (k : ℕ). Counts k image) (sym b.1) both.0) in
    omega (arith, less, ap (λ (k : ℕ). epoch_at k image) b.0, ap (λ (k : ℕ). epoch_at k image) b.1, both.2)) (where_are capacity start other areas)

-- ---- what is wrong with it

-- a head that is whole is not broken
head_whole : (n start : ℕ) (image : List ℕ) (r : Reading) (offset : ℕ) → HasBase n start image r offset → IsHeadBroken n start image → ⊥
head_whole n start image r offset base (inl short) = omega (arith, short, base.offset_is, base.there)
head_whole n start image r offset base (inr (inl great)) = omega (arith, great, base.epoch, base.small)
head_whole n start image r offset base (inr (inr none)) = none r.base (subst (λ (k : ℕ). Spells k n (snapshot_at start image) r.base) base.layout base.snapshot)

-- what the frames of an area are broken by
abbrev AreBroken : ℕ → ℕ → ℕ → ℕ → List ℕ → Refusal → Type 0
AreBroken layout bound start offset image refusal = IsBroken layout offset image refusal ⊎ ((refusal ≡ Damaged start) × GoesPast layout bound offset image)

-- frames that end within the bound are not
frames_whole : (bound start offset : ℕ) (image : List ℕ) (r : Reading) (gate_at : ℕ) (refusal : Refusal) → ReadsTo r.layout offset image r.inputs gate_at → gate_at ≤ bound
    → AreBroken r.layout bound start offset image refusal → ⊥
frames_whole bound start offset image r gate_at refusal read within (inl broken) = not_both offset image r.inputs gate_at broken.gate_at read broken.damaged
frames_whole bound start offset image r gate_at refusal read within (inr past) =
    let same = (unique offset image r.inputs past.1.inputs gate_at past.1.gate_at read past.1.frames).1 in omega (arith, same, within, past.1.past)

-- and others are so in one way
frames_once : {layout : ℕ} (bound start offset : ℕ) (image : List ℕ) (refusal other : Refusal) → AreBroken layout bound start offset image refusal
    → AreBroken layout bound start offset image other → refusal ≡ other
frames_once bound start offset image refusal other (inl a) (inl b) = a.is ∙ ap Damaged (damaged_once offset image a.gate_at b.gate_at a.damaged b.damaged) ∙ sym b.is
frames_once bound start offset image refusal other (inl a) (inr b) = absurd (not_both offset image b.1.inputs b.1.gate_at a.gate_at b.1.frames a.damaged)
frames_once bound start offset image refusal other (inr a) (inl b) = absurd (not_both offset image a.1.inputs a.1.gate_at b.gate_at a.1.frames b.damaged)
frames_once bound start offset image refusal other (inr a) (inr b) = a.0 ∙ sym b.0

-- they are of one layout, and begin at one place
of_layout : (n start : ℕ) (image : List ℕ) (r s : Reading) (offset offset2 : ℕ) → HasBase n start image r offset → HasBase n start image s offset2 → r.layout ≡ s.layout
of_layout n start image r s offset offset2 one two = one.layout ∙ sym two.layout

begins : (n start : ℕ) (image : List ℕ) (r s : Reading) (offset offset2 : ℕ) → HasBase n start image r offset → HasBase n start image s offset2 → offset ≡ offset2
begins n start image r s offset offset2 one two = one.offset_is ∙ sym two.offset_is

-- ---- the areas

areas_read : (header : Member) (image : List ℕ) (r : Reading) (start other offset gate_at : ℕ) (refusal : Refusal) → ReadsAt header image r start other offset gate_at
    → AreAreasUnread header.n header.capacity image refusal → ⊥
areas_read header image r start other offset gate_at refusal read unread = both read.begins unread.cause
  where
    at_start : (area : (get_or image start 0 ≡ 1) × HasBase header.n start image r offset) (k : ℕ) → k ≡ start
        → ((refusal ≡ Damaged k) × IsHeadBroken header.n k image) ⊎ AreFramesBroken header.n header.capacity k image refusal → ⊥
    at_start area k same (inl head) = head_whole header.n start image r offset area.1 (subst (λ (p : ℕ). IsHeadBroken header.n p image) same head.1)
    at_start area k same (inr frames) =
        let base : HasBase header.n start image frames.reading frames.offset = subst (λ (p : ℕ). HasBase header.n p image frames.reading frames.offset) same frames.base in
        let cause : AreBroken frames.reading.layout (start + 14 + header.capacity) start frames.offset image refusal = subst (λ (p : ℕ). AreBroken frames.reading.layout (p + 14 + header.capacity) p frames.offset image refusal) same frames.cause in
        frames_whole (start + 14 + header.capacity) start offset image r gate_at refusal read.frames read.within
        (subst (λ (k : ℕ). AreBroken k (start + 14 + header.capacity) start offset image refusal) (of_layout header.n start image frames.reading r frames.offset offset base area.1)
        (subst (λ (p : ℕ). AreBroken frames.reading.layout (start + 14 + header.capacity) start p image refusal) (begins header.n start image frames.reading r frames.offset offset base area.1) cause))

    both : Begins header.n start image r offset
        → ((refusal ≡ Damaged 16) × IsUnchosen header.capacity image × (IsPlainly header.capacity image → ⊥)) ⊎ (IsAreaBroken header.n header.capacity image refusal ⊎ IsPlainBroken header.capacity image refusal) → ⊥
    both (inl area) (inl none) = not_unchosen header.capacity image start other read.areas (chosen header image r start other offset gate_at read area) none.1
    both (inl area) (inr (inl b)) =
        at_start area b.start (one_chosen header.capacity image b.start b.other start other b.areas read.areas b.area (chosen header image r start other offset gate_at read area)) b.cause
    both (inl area) (inr (inr b)) = not_plainly header.capacity start other image read.areas (counts header.n image r start offset area) b.plainly
    both (inr p) (inl none) = none.2 (plainly header image r start other offset gate_at read p)
    both (inr p) (inr (inl b)) = not_plainly header.capacity b.start b.other image b.areas b.area.counts (plainly header image r start other offset gate_at read p)
    both (inr p) (inr (inr b)) =
        frames_whole (start + 14 + header.capacity) start offset image r gate_at refusal read.frames read.within
        (subst (λ (k : ℕ). AreBroken k (start + 14 + header.capacity) start offset image refusal) (sym p.layout)
        (subst (λ (k : ℕ). AreBroken 1 (start + 14 + header.capacity) start k image refusal) (sym p.offset_is)
        (subst (λ (k : ℕ). AreBroken 1 (k + 14 + header.capacity) k 16 image refusal) (sym p.start_is) b.cause)))

areas_once : (n capacity : ℕ) (image : List ℕ) (refusal other : Refusal) → AreAreasUnread n capacity image refusal → AreAreasUnread n capacity image other → refusal ≡ other
areas_once n capacity image refusal other one two = both one.cause two.cause
  where
    Cause : Refusal → ℕ → Type 0
    Cause why start = ((why ≡ Damaged start) × IsHeadBroken n start image) ⊎ AreFramesBroken n capacity start image why

    in_area : (start : ℕ) → Cause refusal start → Cause other start → refusal ≡ other
    in_area start (inl a) (inl b) = a.0 ∙ sym b.0
    in_area start (inl a) (inr b) = absurd (head_whole n start image b.reading b.offset b.base a.1)
    in_area start (inr a) (inl b) = absurd (head_whole n start image a.reading a.offset a.base b.1)
    in_area start (inr a) (inr b) =
        frames_once (start + 14 + capacity) start a.offset image refusal other a.cause
        (subst (λ (k : ℕ). AreBroken k (start + 14 + capacity) start a.offset image other) (of_layout n start image b.reading a.reading b.offset a.offset b.base a.base)
        (subst (λ (p : ℕ). AreBroken b.reading.layout (start + 14 + capacity) start p image other) (begins n start image b.reading a.reading b.offset a.offset b.base a.base) b.cause))

    both : ((refusal ≡ Damaged 16) × IsUnchosen capacity image × (IsPlainly capacity image → ⊥)) ⊎ (IsAreaBroken n capacity image refusal ⊎ IsPlainBroken capacity image refusal)
        → ((other ≡ Damaged 16) × IsUnchosen capacity image × (IsPlainly capacity image → ⊥)) ⊎ (IsAreaBroken n capacity image other ⊎ IsPlainBroken capacity image other) → refusal ≡ other
    both (inl a) (inl b) = a.0 ∙ sym b.0
    both (inl a) (inr (inl b)) = absurd (not_unchosen capacity image b.start b.other b.areas b.area a.1)
    both (inl a) (inr (inr b)) = absurd (a.2 b.plainly)
    both (inr (inl a)) (inl b) = absurd (not_unchosen capacity image a.start a.other a.areas a.area b.1)
    both (inr (inl a)) (inr (inl b)) = in_area a.start a.cause (subst (Cause other) (one_chosen capacity image b.start b.other a.start a.other b.areas a.areas b.area a.area) b.cause)
    both (inr (inl a)) (inr (inr b)) = absurd (not_plainly capacity a.start a.other image a.areas a.area.counts b.plainly)
    both (inr (inr a)) (inl b) = absurd (b.2 a.plainly)
    both (inr (inr a)) (inr (inl b)) = absurd (not_plainly capacity b.start b.other image b.areas b.area.counts a.plainly)
    both (inr (inr a)) (inr (inr b)) = frames_once (30 + capacity) 16 16 image refusal other a.cause b.cause

-- ---- the whole image

pub not_read : (node n : ℕ) (image : List ℕ) (refusal : Refusal) (header : Member) (r : Reading) → IsUnread node n image refusal → ReadsAs header image r → header.node ≡ node
    → header.n ≡ n → ⊥
not_read node n image refusal header r unread read node_is n_is =
    let at = read.at in
    let p = within header.n read.start image r read.offset read.gate_at at.begins at.frames in
    let long : 17 ≤ length image =
    ⊎_elim (λ (a : (read.start ≡ 16) × (read.other ≡ 31 + header.capacity)). omega (arith, a.0, p)) (λ (b : (read.start ≡ 31 + header.capacity) × (read.other ≡ 16)). omega (arith, b.0, p)) (where_are header.capacity read.start read.other at.areas) in
    let found : header_at node n image ≡ Ok header.capacity = (λ i. header_at (sym node_is i) (sym n_is i) image) ∙ header_again header image long at.head in
    apart unread.cause found
  where
    apart : (header_at node n image ≡ Err refusal) ⊎ ((capacity : ℕ) × (header_at node n image ≡ Ok capacity) × AreAreasUnread n capacity image refusal)
        → header_at node n image ≡ Ok header.capacity → ⊥
    apart (inl fault) found = let same = sym fault ∙ found in cc
    apart (inr broken) found =
        let capacity_is : broken.0 ≡ header.capacity = same_ok broken.0 header.capacity (sym broken.1 ∙ found) in
        areas_read header image r read.start read.other read.offset read.gate_at refusal read.at
        (subst (λ (k : ℕ). AreAreasUnread k header.capacity image refusal) (sym n_is) (subst (λ (k : ℕ). AreAreasUnread n k image refusal) capacity_is broken.2))

pub one_fault : (node n : ℕ) (image : List ℕ) (refusal other : Refusal) → IsUnread node n image refusal → IsUnread node n image other → refusal ≡ other
one_fault node n image refusal other one two = both one.cause two.cause
  where
    both : (header_at node n image ≡ Err refusal) ⊎ ((capacity : ℕ) × (header_at node n image ≡ Ok capacity) × AreAreasUnread n capacity image refusal)
        → (header_at node n image ≡ Err other) ⊎ ((capacity : ℕ) × (header_at node n image ≡ Ok capacity) × AreAreasUnread n capacity image other) → refusal ≡ other
    both (inl a) (inl b) = let same = sym a ∙ b in cc
    both (inl a) (inr b) = let same = sym a ∙ b.1 in absurd cc
    both (inr a) (inl b) = let same = sym a.1 ∙ b in absurd cc
    both (inr a) (inr b) = areas_once n a.0 image refusal other a.2 (subst (λ (k : ℕ). AreAreasUnread n k image other) (same_ok b.0 a.0 (sym b.1 ∙ a.1)) b.2)
