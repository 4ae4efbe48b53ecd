-- What is found in the area that was chosen, and what is wrong with it.
use Rattle.std.proofs.Common.{◌≡◌, ◌⊎◌, inl, inr, ⊎_elim, ℕ, ◌+◌, ◌<◌, ◌≤◌, List, [], drop, refl, sym, ◌∙◌, subst, arith, length-drop}
use Rattle.ring_records.specs.declared.input.Input.{Input}
use Rattle.ring_records.specs.declared.refusal.Refusal.{Refusal}
use Rattle.ring_records.specs.declared.refusal.Refusal.TheVariants.{Damaged, OutOfMemory}
use Rattle.ring_records.specs.declared.summary.Summary.{Summary}
use Rattle.ring_records.specs.Member.{Member}
use Rattle.ring_records.specs.Snapshot.{Spells}
use Rattle.gated_journal.specs.Areas.{IsLayout, layout_at, epoch_at, frames_of, snapshot_at, AreAreas, Counts, HasBase, Begins, ReadsAt}
use Rattle.gated_journal.specs.InUse.{IsUsed, IsInUseBy}
use Rattle.gated_journal.specs.Damage.{AreAreasUnread}
use Rattle.gated_journal.specs.Feeding.{IsAreaAt, IsContentless}
use Rattle.gated_journal.specs.Frames.{ReadsTo}
use Rattle.gated_journal.specs.Pieces.{IsNoArea, AreFramesDamaged, IsAreaDamaged}
use Rattle.gated_journal.specs.declared.area.Chosen.{Chosen}
use Rattle.gated_journal.specs.Reading.{Reading, fresh_area, HasHeader}
use Rattle.gated_journal.proofs.Shift.{gate_behind, layout_behind, epoch_behind, size_behind, snapshot_behind, reads_behind, damaged_behind}

module _ (n capacity : ℕ) (image : List ℕ) (chosen : Chosen) (used : IsUsed capacity image chosen) where
  -- its snapshot is read
  pub base_found : (base : Summary) (inputs : List Input) → Spells chosen.layout n (snapshot_at chosen.start image) base
      → HasBase n chosen.start image (record { layout = chosen.layout; epoch = chosen.epoch; base = base; inputs = inputs }) chosen.offset
  base_found base inputs spells =
      record { layout = used.layout; known = subst IsLayout (sym used.layout) used.area.counts.known; epoch = used.epoch; small = used.small; offset_is = used.offset; there = used.there; snapshot = spells }

  -- its bytes are those of an area, with this summary and these inputs
  area_spells : (base : Summary) (inputs : List Input) (gate_at : ℕ) → IsAreaAt chosen.layout n chosen.start image base inputs gate_at
      → Spells chosen.layout n (snapshot_at chosen.start image) base
  area_spells base inputs gate_at a = subst (λ (l : List ℕ). Spells chosen.layout n l base) (snapshot_behind chosen.start image) a.read.base.snapshot

  pub area_base : (base : Summary) (inputs : List Input) (gate_at : ℕ) → IsAreaAt chosen.layout n chosen.start image base inputs gate_at
      → HasBase n chosen.start image (record { layout = chosen.layout; epoch = chosen.epoch; base = base; inputs = inputs }) chosen.offset
  area_base base inputs gate_at a = base_found base inputs (area_spells base inputs gate_at a)

  frames_begin : chosen.start + frames_of 0 (drop chosen.start image) ≡ chosen.offset
  frames_begin = omega (arith, used.offset, size_behind chosen.start image)

  pub area_frames : (base : Summary) (inputs : List Input) (gate_at : ℕ) → IsAreaAt chosen.layout n chosen.start image base inputs gate_at
      → ReadsTo chosen.layout chosen.offset image inputs gate_at
  area_frames base inputs gate_at a =
      reads_behind chosen.start image (frames_of 0 (drop chosen.start image)) chosen.offset a.at gate_at inputs frames_begin (sym a.gate_is) a.read.frames

  -- its frames go too far
  pub goes_past : (base : Summary) (inputs : List Input) (gate_at : ℕ) → IsAreaAt chosen.layout n chosen.start image base inputs gate_at → chosen.start + 14 + capacity < gate_at
      → AreAreasUnread n capacity image (Damaged chosen.start)
  goes_past base inputs gate_at a past = record {
    cause = inr (inl (record {
      start = chosen.start;
      other = chosen.other;
      areas = used.areas;
      area = used.area;
      cause = inr (record {
        reading = fresh_area chosen.layout chosen.epoch base;
        offset = chosen.offset;
        base = base_found base [] (area_spells base inputs gate_at a);
        cause = inr (refl, record { inputs = inputs; gate_at = gate_at; frames = area_frames base inputs gate_at a; past = past });
      });
    }));
  }

  -- ---- or they are damaged

  no_area : IsNoArea chosen.layout n (drop chosen.start image) → AreAreasUnread n capacity image (Damaged chosen.start)
  no_area (inl gate) = absurd (gate (gate_behind chosen.start image ∙ used.area.counts.gate))
  no_area (inr (inl other)) = absurd (other (layout_behind chosen.start image ∙ sym used.layout))
  no_area (inr (inr (inl unknown))) = absurd (unknown (subst IsLayout (sym used.layout) used.area.counts.known))
  no_area (inr (inr (inr (inl short)))) = absurd (omega (arith, short, frames_begin, used.there, length-drop chosen.start image))
  no_area (inr (inr (inr (inr (inl great))))) = absurd (omega (arith, great, epoch_behind chosen.start image, used.epoch, used.small))
  no_area (inr (inr (inr (inr (inr none))))) = record {
    cause = inr (inl (record {
      start = chosen.start;
      other = chosen.other;
      areas = used.areas;
      area = used.area;
      cause = inl (refl, inr (inr (λ s spells. none s (subst (λ (k : ℕ). Spells k n (snapshot_at 0 (drop chosen.start image)) s) (sym (layout_behind chosen.start image)) (subst (λ (l : List ℕ). Spells (layout_at chosen.start image) n l s) (sym (snapshot_behind chosen.start image)) spells)))));
    }));
  }

  frames_broken : (at : ℕ) → AreFramesDamaged chosen.layout n (drop chosen.start image) at → AreAreasUnread n capacity image (Damaged (chosen.start + at))
  frames_broken at d = record {
    cause = inr (inl (record {
      start = chosen.start;
      other = chosen.other;
      areas = used.areas;
      area = used.area;
      cause = inr (record {
        reading = fresh_area chosen.layout chosen.epoch d.base_of;
        offset = chosen.offset;
        base = base_found d.base_of [] (subst (λ (l : List ℕ). Spells chosen.layout n l d.base_of) (snapshot_behind chosen.start image) d.base.snapshot);
        cause = inl (record {
          gate_at = chosen.start + at;
          is = refl;
          damaged = damaged_behind chosen.start image (frames_of 0 (drop chosen.start image)) chosen.offset at (chosen.start + at) frames_begin refl d.damaged;
        });
      });
    }));
  }

  damaged : (at : ℕ) → IsAreaDamaged chosen.layout n (drop chosen.start image) at → AreAreasUnread n capacity image (Damaged (chosen.start + at))
  damaged at d =
      ⊎_elim
      (λ (none : (at ≡ 0) × IsNoArea chosen.layout n (drop chosen.start image)).
      let here : chosen.start ≡ chosen.start + at = omega (arith, none.0) in
      subst (λ (k : ℕ). AreAreasUnread n capacity image (Damaged k)) here (no_area none.1))
      (frames_broken at) d.cause

  -- it gives nothing
  pub contentless : (refusal : Refusal) → IsContentless chosen.layout n chosen.start image refusal → (refusal ≡ OutOfMemory) ⊎ AreAreasUnread n capacity image refusal
  contentless refusal is =
      ⊎_elim (λ memory. inl memory)
      (λ (d : (at : ℕ) × ((refusal ≡ Damaged (chosen.start + at)) × IsAreaDamaged chosen.layout n (drop chosen.start image) at)).
      inr (subst (λ (r : Refusal). AreAreasUnread n capacity image r) (sym d.1.0) (damaged d.0 d.1.1))) is.cause

-- it is read, where the image has a header
pub area_found : (header : Member) (image : List ℕ) (chosen : Chosen) (r : Reading) (gate_at : ℕ) → HasHeader header image → IsInUseBy header.capacity image chosen → r.epoch ≡ chosen.epoch
    → Begins header.n chosen.start image r chosen.offset → ReadsTo r.layout chosen.offset image r.inputs gate_at → gate_at ≤ chosen.start + 14 + header.capacity → ReadsAt header image r chosen.start chosen.other chosen.offset gate_at
area_found header image chosen r gate_at head used epoch begins frames within = record { head = head; areas = areas used; begins = begins; older = older used; frames = frames; within = within }
  where
    areas : IsInUseBy header.capacity image chosen → AreAreas header.capacity chosen.start chosen.other
    areas (inl u) = u.areas
    areas (inr p) = record { both = omega (arith, p.start, p.other); one = λ ne. absurd (ne p.start) }

    older : IsInUseBy header.capacity image chosen → Counts chosen.other image → epoch_at chosen.other image < r.epoch
    older (inl u) counts = subst (λ (k : ℕ). epoch_at chosen.other image < k) (sym (epoch ∙ u.epoch)) (u.area.older counts)
    older (inr p) counts = absurd (p.plainly.second (subst (λ (k : ℕ). Counts k image) p.other counts))
