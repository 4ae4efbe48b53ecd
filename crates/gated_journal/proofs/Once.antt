-- An image reads as one reading in one way only.
use Rattle.std.proofs.Common.{◌≡◌, ◌≢◌, inl, inr, arith, ℕ, ◌+◌, Bool, List, [], ◌∷◌, ◌++◌, length, take, drop, get_or, ap, ◌⊎◌}
use Rattle.std.proofs.Math.Path.{Σ_path, to_path_p}
use Rattle.std.proofs.Props.{props}
use Rattle.std.specs.FinMap as fin
use Rattle.std.specs.Coded.{Coded-set, coded_ℕ, le_prop, Unit-prop, ×_prop}
use Rattle.ring_records.specs.declared.input.Input.{Input}
use Rattle.ring_records.specs.declared.candidate.Candidate.{Candidate}
use Rattle.ring_records.specs.declared.key.Key.{Key}
use Rattle.ring_records.specs.declared.key_state.KeyState.{KeyState}
use Rattle.ring_records.specs.declared.msg.Msg.{Msg}
use Rattle.ring_records.specs.declared.summary.Summary.{Summary}
use Rattle.ring_records.specs.Codes.{coded_summary}
use Rattle.ring_records.specs.Coded.{coded_group}
use Rattle.ring_records.specs.Member.{Member}
use Rattle.ring_records.specs.Message.{key_of}
use Rattle.ring_records.specs.Snapshot.{IsCandidateOf, IsStateOf, IsMessageOf, IsSound, Spells}
use Rattle.ring_records.specs.Summary.{empty}
use Rattle.gated_journal.specs.Areas.{Counts, AreAreas, HasBase, IsPlain, Begins, ReadsAt, ReadsAs}
use Rattle.gated_journal.specs.Frames.{frames, joined, AreBatches, ReadsTo}
use Rattle.gated_journal.specs.Props.{key_prop, candidate_prop, IsBatch-prop}
use Rattle.gated_journal.specs.Reading.{Reading, mark, old_mark, HasHeader}
use Rattle.gated_journal.proofs.AreaAlone.{alone}
use Rattle.gated_journal.proofs.Head.{two_marks}
use Rattle.gated_journal.proofs.Unique.{parts-unique}

Inputs-set : IsSet (List Input)
Inputs-set = hlevel props

AreBatches-prop : (layout : ℕ) (batches : List (List Input)) → IsProp (AreBatches layout batches)
AreBatches-prop layout [] = Unit-prop
AreBatches-prop layout (batch ∷ batches) = ×_prop (IsBatch-prop layout batch) (AreBatches-prop layout batches)

-- a value with a fact that has one proof at most
with_fact : {A : Type 0} {B : A → Type 0} → ((x : A) → IsProp (B x)) → (u v : (x : A) × B x) → u.0 ≡ v.0 → u ≡ v
with_fact {B = B} once u v same = Σ_path same (to_path_p (λ i. B (same i)) (once v.0 _ v.1))

-- the batches, the gate and what is after it
abbrev Parts : Type 0
Parts = List (List Input) × (ℕ × List ℕ)

module _ (layout offset : ℕ) (image : List ℕ) (inputs : List Input) (gate_at : ℕ) where
  record Facts (parts : Parts) : Type 0 where
    whole : drop offset image ≡ frames parts.0 ++ parts.1.0 ∷ parts.1.1
    sized : AreBatches layout parts.0
    closed : parts.1.0 ≢ 1
    same : inputs ≡ joined parts.0
    ends : gate_at ≡ offset + length (frames parts.0)

  Facts-prop : (parts : Parts) → IsProp (Facts parts)
  Facts-prop parts p q =
      let closed_prop : IsProp (parts.1.0 ≢ 1) = hlevel props in
      let bytes_set : IsSet (List ℕ) = hlevel props in
      let ends_prop : IsProp (gate_at ≡ offset + length (frames parts.0)) = hlevel props in
      λ i. record {
        whole = bytes_set _ _ p.whole q.whole i;
        sized = AreBatches-prop layout parts.0 p.sized q.sized i;
        closed = closed_prop p.closed q.closed i;
        same = Inputs-set _ _ p.same q.same i;
        ends = ends_prop p.ends q.ends i;
      }

  abbrev parts_of : ReadsTo layout offset image inputs gate_at → (parts : Parts) × Facts parts
  parts_of r = ((r.batches, (r.gate, r.after)), record { whole = r.whole; sized = r.sized; closed = r.closed; same = r.same; ends = r.ends })

  abbrev reads_by : ((parts : Parts) × Facts parts) → ReadsTo layout offset image inputs gate_at
  reads_by r = record { batches = r.0.0; gate = r.0.1.0; after = r.0.1.1; whole = r.1.whole; sized = r.1.sized; closed = r.1.closed; same = r.1.same; ends = r.1.ends }

  pub ReadsTo-prop : IsProp (ReadsTo layout offset image inputs gate_at)
  ReadsTo-prop p q =
      let same = parts-unique offset image inputs inputs gate_at gate_at p q in
      let gate : p.gate ≡ q.gate = ap (λ (l : List ℕ). get_or l 0 0) same.1 in
      let after : p.after ≡ q.after = ap (drop 1) same.1 in
      let parts : ◌≡◌ {A = Parts} (p.batches, (p.gate, p.after)) (q.batches, (q.gate, q.after)) = λ i. (same.0 i, (gate i, after i)) in
      ap reads_by (with_fact Facts-prop (parts_of p) (parts_of q) parts)

-- ---- a snapshot

Numbers-set : IsSet ℕ
Numbers-set = hlevel props

Bytes-set : IsSet (List ℕ)
Bytes-set = hlevel props

Key-set : IsSet Key
Key-set = hlevel props

Tests-set : IsSet Bool
Tests-set = hlevel props

IsCandidateOf-prop : (n : ℕ) (c : Candidate) → IsProp (IsCandidateOf n c)
IsCandidateOf-prop n c p q i = record { in_range = candidate_prop c p.in_range q.in_range i; in_ring = le_prop p.in_ring q.in_ring i }

IsStateOf-prop : (n : ℕ) (key : Key) (s : KeyState) → IsProp (IsStateOf n key s)
IsStateOf-prop n key s p q i = record {
  own = Key-set _ _ p.own q.own i;
  named = key_prop key p.named q.named i;
  bid = λ bid is. le_prop (p.bid bid is) (q.bid bid is) i;
  led = λ c is. IsCandidateOf-prop n c (p.led c is) (q.led c is) i;
}

IsMessageOf-prop : (n : ℕ) (msg : Msg) → IsProp (IsMessageOf n msg)
IsMessageOf-prop n msg p q i = record { named = key_prop (key_of msg) p.named q.named i; candidate = IsCandidateOf-prop n _ p.candidate q.candidate i }

IsSound-prop : (n : ℕ) (s : Summary) → IsProp (IsSound n s)
IsSound-prop n s p q i = record {
  inputs = le_prop p.inputs q.inputs i;
  acts = le_prop p.acts q.acts i;
  sent = le_prop p.sent q.sent i;
  credit = le_prop p.credit q.credit i;
  window = Numbers-set _ _ p.window q.window i;
  few = le_prop p.few q.few i;
  stands = Numbers-set _ _ p.stands q.stands i;
  states = λ key state is. IsStateOf-prop n key state (p.states key state is) (q.states key state is) i;
  messages = λ msg there. IsMessageOf-prop n msg (p.messages msg there) (q.messages msg there) i;
  floors = λ group floor is. key_prop (record { group = group; term = floor }) (p.floors group floor is) (q.floors group floor is) i;
  live = λ key state is. Tests-set _ _ (p.live key state is) (q.live key state is) i;
}

Spells-prop : (layout n : ℕ) (bytes : List ℕ) (s : Summary) → IsProp (Spells layout n bytes s)
Spells-prop layout n bytes s p q i =
    record {
      is = Bytes-set _ _ p.is q.is i;
      sound = IsSound-prop n s p.sound q.sound i;
      few_keys = le_prop p.few_keys q.few_keys i;
      few_floors = le_prop p.few_floors q.few_floors i;
      none = λ old. Coded-set (fin.code coded_group coded_ℕ) s.floors fin.empty (p.none old) (q.none old) i;
      plain = λ old. Coded-set coded_summary s empty (p.plain old) (q.plain old) i;
    }

-- ---- a journal

-- the marks are two
Marked-prop : (image : List ℕ) → IsProp ((take 8 image ≡ mark) ⊎ (take 8 image ≡ old_mark))
Marked-prop image (inl a) (inl b) = λ i. inl (Bytes-set _ _ a b i)
Marked-prop image (inl a) (inr b) = absurd (two_marks image a b)
Marked-prop image (inr a) (inl b) = absurd (two_marks image b a)
Marked-prop image (inr a) (inr b) = λ i. inr (Bytes-set _ _ a b i)

HasHeader-prop : (header : Member) (image : List ℕ) → IsProp (HasHeader header image)
HasHeader-prop header image p q i = record {
  marked = Marked-prop image p.marked q.marked i;
  node = Numbers-set _ _ p.node q.node i;
  n = Numbers-set _ _ p.n q.n i;
  capacity = Numbers-set _ _ p.capacity q.capacity i;
  from = le_prop p.from q.from i;
  to = le_prop p.to q.to i;
  blank = Numbers-set _ _ p.blank q.blank i;
}

AreAreas-prop : (capacity start other : ℕ) → IsProp (AreAreas capacity start other)
AreAreas-prop capacity start other p q i = record { both = Numbers-set _ _ p.both q.both i; one = λ ne. Numbers-set _ _ (p.one ne) (q.one ne) i }

HasBase-prop : (n start : ℕ) (image : List ℕ) (r : Reading) (offset : ℕ) → IsProp (HasBase n start image r offset)
HasBase-prop n start image r offset p q i = record {
  layout = Numbers-set _ _ p.layout q.layout i;
  known = (le_prop p.known.0 q.known.0 i, le_prop p.known.1 q.known.1 i);
  epoch = Numbers-set _ _ p.epoch q.epoch i;
  small = le_prop p.small q.small i;
  offset_is = Numbers-set _ _ p.offset_is q.offset_is i;
  there = le_prop p.there q.there i;
  snapshot = Spells-prop r.layout n _ r.base p.snapshot q.snapshot i;
}

IsPlain-prop : (start : ℕ) (image : List ℕ) (r : Reading) (offset : ℕ) → IsProp (IsPlain start image r offset)
IsPlain-prop start image r offset p q =
    let none_prop : IsProp (Counts 16 image → ⊥) = hlevel props in
    λ i. record {
      start_is = Numbers-set _ _ p.start_is q.start_is i;
      offset_is = Numbers-set _ _ p.offset_is q.offset_is i;
      marked = Bytes-set _ _ p.marked q.marked i;
      none = none_prop p.none q.none i;
      layout = Numbers-set _ _ p.layout q.layout i;
      epoch = Numbers-set _ _ p.epoch q.epoch i;
      base = Coded-set coded_summary _ _ p.base q.base i;
    }

-- by its layout it begins in one way
Begins-prop : (n start : ℕ) (image : List ℕ) (r : Reading) (offset : ℕ) → IsProp (Begins n start image r offset)
Begins-prop n start image r offset (inl a) (inl b) = λ i. inl (Numbers-set _ _ a.0 b.0 i, HasBase-prop n start image r offset a.1 b.1 i)
Begins-prop n start image r offset (inl a) (inr q) = absurd (omega (arith, a.1.known.0, q.layout))
Begins-prop n start image r offset (inr p) (inl b) = absurd (omega (arith, b.1.known.0, p.layout))
Begins-prop n start image r offset (inr p) (inr q) = λ i. inr (IsPlain-prop start image r offset p q i)

-- where an image is read: the area in use, the other one, the frames, and their closed gate
abbrev Places : Type 0
Places = ℕ × (ℕ × (ℕ × ℕ))

module _ (header : Member) (image : List ℕ) (r : Reading) where
  abbrev ReadsIn : Places → Type 0
  ReadsIn p = ReadsAt header image r p.0 p.1.0 p.1.1.0 p.1.1.1

  ReadsIn-prop : (places : Places) → IsProp (ReadsIn places)
  ReadsIn-prop places p q i = record {
    head = HasHeader-prop header image p.head q.head i;
    areas = AreAreas-prop header.capacity places.0 places.1.0 p.areas q.areas i;
    begins = Begins-prop header.n places.0 image r places.1.1.0 p.begins q.begins i;
    older = λ counts. le_prop (p.older counts) (q.older counts) i;
    frames = ReadsTo-prop r.layout places.1.1.0 image r.inputs places.1.1.1 p.frames q.frames i;
    within = le_prop p.within q.within i;
  }

  abbrev read_in : ((places : Places) × ReadsIn places) → ReadsAs header image r
  read_in read = record { start = read.0.0; other = read.0.1.0; offset = read.0.1.1.0; gate_at = read.0.1.1.1; at = read.1 }

  pub ReadsAs-prop : IsProp (ReadsAs header image r)
  ReadsAs-prop p q =
      let same = alone header image r r p.start q.start p.other q.other p.offset q.offset p.gate_at q.gate_at p.at q.at in
      let here : Places = (p.start, (p.other, (p.offset, p.gate_at))) in
      let there : Places = (q.start, (q.other, (q.offset, q.gate_at))) in
      let places : here ≡ there = λ i. (same.start_is i, (same.other_is i, (same.offset_is i, same.gate_is i))) in
      ap read_in (with_fact ReadsIn-prop (here, p.at) (there, q.at) places)
