-- Which inputs an area of a layout may hold.
use Rattle.std.proofs.Common.{◌≡◌, ◌≤◌, ℕ, false, arith, List, [], ◌∷◌}
use Rattle.std.specs.List.{list_any}
use Rattle.std.proofs.lemmas.Bool.{lt-ltb, or_parts}
use Rattle.ring_records.specs.declared.input.Input.{Input}
use Rattle.ring_records.specs.declared.input.Input.TheVariants.{Stand, Take, Acked, Retire}
use Rattle.ring_records.specs.Admission.{newest, is_retire}
use Rattle.gated_journal.specs.Frames.{Suits, AreSuited, HaveRecords}
use Rattle.gated_journal.specs.AreaWritten.{IsFrame}

-- an area of the newest layout, or of a later one, may hold each input
pub newest-suits : (layout : ℕ) (x : Input) → newest ≤ layout → Suits layout x
newest-suits layout (Stand key bid) new = tt
newest-suits layout (Take msg_no msg) new = tt
newest-suits layout (Acked upto) new = tt
newest-suits layout (Retire group floor) new = lt-ltb 2 layout (omega (arith, new))

-- and so each list of them
pub newest-all : (layout : ℕ) (inputs : List Input) → newest ≤ layout → AreSuited layout inputs
newest-all layout [] new = tt
newest-all layout (x ∷ inputs) new = (newest-suits layout x new, newest-all layout inputs new)

-- but a Retire each layout may hold an input
pub plain-suits : (layout : ℕ) (x : Input) → is_retire x ≡ false → Suits layout x
unfolding is_retire
plain-suits layout (Stand key bid) plain = tt
plain-suits layout (Take msg_no msg) plain = tt
plain-suits layout (Acked upto) plain = tt
plain-suits layout (Retire group new) plain = absurd cc

-- and so each list of inputs none of which is a Retire
pub plain-all : (layout : ℕ) (inputs : List Input) → list_any is_retire inputs ≡ false → AreSuited layout inputs
plain-all layout [] plain = tt
plain-all layout (x ∷ inputs) plain =
    let parts = or_parts (is_retire x) (list_any is_retire inputs) plain in
    (plain-suits layout x parts.0, plain-all layout inputs parts.1)

-- what has records in one layout has them in another that may hold it
have-suited : (layout other : ℕ) (inputs : List Input) → HaveRecords other inputs → AreSuited layout inputs → HaveRecords layout inputs
have-suited layout other [] have suited = tt
have-suited layout other (x ∷ inputs) have suited = ((have.0.0, suited.0), have-suited layout other inputs have.1 suited.1)

-- and a frame of the one is one of the other
pub frame-suited : (layout other : ℕ) (batch : List Input) (bytes : List ℕ) → IsFrame other batch bytes → AreSuited layout batch → IsFrame layout batch bytes
frame-suited layout other batch bytes frame suited = record {
  is_batch = record { some = frame.is_batch.some; few = frame.is_batch.few; have = have-suited layout other batch frame.is_batch.have suited };
  bytes_are = frame.bytes_are;
}
