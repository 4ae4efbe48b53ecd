-- The open tickets of a node of the ring.
use Rattle.std.specs.Prelude.{ℕ, Bool, not, nat_le, List, Option}
use Rattle.std.specs.List.{filter}
use Rattle.ring_records.specs.Answer.{Answered}

-- an open ticket: the ticket number that the ring gave it, if any, and what the node keeps for it
pub record Open : Type 0 where
  pub serial : Option ℕ
  pub kept : Answered

abbrev pub open_with : Option ℕ → Answered → Open
open_with serial kept = record { serial = serial; kept = kept }

-- the number that the ring gave it, if any
abbrev pub serial_of : Open → Option ℕ
serial_of t = t.serial

-- the ticket's reply rests on so many inputs at most
abbrev pub is_due : ℕ → Open → Bool
is_due durable t = nat_le t.kept.answer.number durable

-- the tickets of which that is so, with so many durable inputs
abbrev pub due : ℕ → List Open → List Open
due durable held = filter (is_due durable) held

-- the others
abbrev pub sealed : ℕ → List Open → List Open
sealed durable held = filter (λ t. not (is_due durable t)) held
