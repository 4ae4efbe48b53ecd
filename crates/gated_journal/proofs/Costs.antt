-- What inputs cost, and the bytes that they take.
use Rattle.std.proofs.Common.{◌≡◌, ℕ, ◌+◌, ◌*◌, ◌≤◌, List, [], ◌∷◌, length, leb, ◌&&◌, true, refl, ap, arith, length-append}
use Rattle.std.proofs.lemmas.Bool.{and_parts, leb-true}
use Rattle.ring_records.specs.declared.input.Input.{Input}
use Rattle.ring_records.specs.Admission.{costs_of}
use Rattle.ring_records.specs.Member.{Member}
use Rattle.ring_records.specs.Record.{record_of}
use Rattle.ring_records.proofs.Counts.{costs-joined}
use Rattle.ring_records.proofs.Records.{cost-record, record-long}
use Rattle.gated_journal.specs.Frames.{records, body, frames, joined, HaveRecords, AreBatches, ReadsTo}
use Rattle.gated_journal.specs.AreaWritten.{IsFrame}
use Rattle.gated_journal.specs.Reading.{is_header}

-- ---- sums of costs

costs-parts : (inputs : List Input) → costs_of inputs ≡ length (records inputs) + 7 * length inputs
costs-parts [] = refl
costs-parts (x ∷ inputs) = omega (arith, costs-joined (x ∷ []) inputs, cost-record x, costs-parts inputs, length-append (record_of x) (records inputs))

length-body : (inputs : List Input) → length (body inputs) ≡ 6 + length (records inputs)
length-body inputs = omega arith

-- a frame takes no more bytes than its inputs by their costs
frames-within : (layout : ℕ) (batches : List (List Input)) → AreBatches layout batches → length (frames batches) ≤ costs_of (joined batches)
frames-within layout [] sized = omega arith
frames-within layout (b ∷ batches) sized =
    let some : 1 ≤ length b = sized.0.some in
    omega (arith, frames-within layout batches sized.1, costs-joined b (joined batches), costs-parts b, length-append (body b) (frames batches), length-body b, some)

-- records are longer than what a frame adds to them, so the sum of the costs is less than twice the bytes
records-long : (layout : ℕ) (inputs : List Input) → HaveRecords layout inputs → 7 * length inputs ≤ length (records inputs)
records-long layout [] have = omega arith
records-long layout (x ∷ inputs) have = omega (arith, record-long x have.0.0, records-long layout inputs have.1, length-append (record_of x) (records inputs))

costs-bound : (layout : ℕ) (batches : List (List Input)) → AreBatches layout batches → costs_of (joined batches) ≤ 2 * length (frames batches)
costs-bound layout [] sized = omega arith
costs-bound layout (b ∷ batches) sized = omega (arith, costs-bound layout batches sized.1, costs-joined b (joined batches), costs-parts b, records-long layout b sized.0.have, length-append (body b) (frames batches), length-body b)

-- ---- that a batch fits

-- a frame takes no more bytes than its inputs by their costs, and these are at least as many as the inputs
pub record Fits (batch : List Input) (bytes : List ℕ) : Type 0 where
  pub within : length bytes ≤ costs_of batch
  pub count : length batch ≤ costs_of batch
  pub some : 1 ≤ costs_of batch

pub fits : {layout : ℕ} (batch : List Input) (bytes : List ℕ) → IsFrame layout batch bytes → Fits batch bytes
fits batch bytes frame =
    let some : 1 ≤ length batch = frame.is_batch.some in
    record {
      within = omega (arith, ap length frame.bytes_are, length-append (body batch) (0 ∷ []), length-body batch, costs-parts batch, some);
      count = omega (arith, costs-parts batch);
      some = omega (arith, costs-parts batch, some);
    }

-- ---- a journal that is opened

-- the costs of inputs whose frames end at this gate
pub record Costs (offset : ℕ) (inputs : List Input) (gate_at : ℕ) : Type 0 where
  pub within : gate_at ≤ offset + costs_of inputs
  pub counted : length inputs ≤ costs_of inputs
  pub bound : costs_of inputs + 2 * offset ≤ 2 * gate_at

pub costs : {layout : ℕ} (offset : ℕ) (image : List ℕ) (inputs : List Input) (gate_at : ℕ) → ReadsTo layout offset image inputs gate_at → Costs offset inputs gate_at
costs {layout = layout} offset image inputs gate_at r =
    let same = ap costs_of r.same in
    record {
      within = omega (arith, r.ends, same, frames-within layout r.batches r.sized);
      counted = omega (arith, costs-parts inputs);
      bound = omega (arith, r.ends, same, costs-bound layout r.batches r.sized);
    }

-- the capacity of a header that may be written
pub in_range : (header : Member) → is_header header ≡ true → (4096 ≤ header.capacity) × (header.capacity ≤ 1048576)
in_range header is =
    let capacity = leb 4096 header.capacity && leb header.capacity 1048576 in
    let size = leb header.n 16 && (leb header.node header.n && capacity) in
    let a = and_parts (leb 2 header.n) size is in
    let b = and_parts (leb header.n 16) (leb header.node header.n && capacity) a.1 in
    let d = and_parts (leb header.node header.n) capacity b.1 in
    let e = and_parts (leb 4096 header.capacity) (leb header.capacity 1048576) d.1 in
    (leb-true 4096 header.capacity e.0, leb-true header.capacity 1048576 e.1)
