-- Why an input is refused after h, room aside: the first cause that there is.
use Rattle.std.specs.Prelude.{ℕ, Bool, ◌^◌, nat_lt, nat_le, if◌then◌else◌, List, length, Option, Some, None}
use Rattle.ring_records.specs.declared.candidate.Candidate.{Candidate}
use Rattle.ring_records.specs.declared.input.Input.{Input}
use Rattle.ring_records.specs.declared.input.Input.TheVariants.{Stand, Take, Acked, Retire}
use Rattle.ring_records.specs.declared.key.Key.{Key}
use Rattle.ring_records.specs.declared.limits.TheConstants.{STANDS}
use Rattle.ring_records.specs.declared.refusal.Refusal.{Refusal}
use Rattle.ring_records.specs.declared.refusal.Refusal.TheVariants as refused
use Rattle.ring_records.specs.Emission.{sent}
use Rattle.ring_records.specs.History.{floor, is_retired, touched, stood, taken, credit, stands}
use Rattle.ring_records.specs.Leader.{latest, term_of}
use Rattle.ring_records.specs.Lists.{or_else}
use Rattle.ring_records.specs.Message.{candidate_of}

abbrev pub where_so : Bool → Refusal → Option Refusal
where_so b cause = if b then Some cause else None

-- the node stood for the key
unfoldable pub already : Option ℕ → Option Refusal
already None = None
already (Some bid) = Some (refused.Already bid)

-- the key is retired
unfoldable pub retired : List Input → Key → Option Refusal
retired h key = where_so (is_retired h key) (refused.Retired (floor h key.group))

-- the key is touched: the node stood for it, or it only relayed
unfoldable pub is_touched : List Input → Key → Option Refusal
is_touched h key = or_else (already (stood h key)) (where_so (touched h key) refused.Late)

-- a greater term of the group has a leader
unfoldable pub stale : ℕ → Option (ℕ × Candidate) → Option Refusal
stale term None = None
stale term (Some led) = where_so (nat_lt term led.0) (refused.Stale led.0)

-- the number is not the next
unfoldable pub out_of_turn : ℕ → ℕ → Option Refusal
out_of_turn expected msg_no = or_else (where_so (nat_lt msg_no expected) (refused.Old expected)) (where_so (nat_lt expected msg_no) (refused.Gap expected))

-- the history has as many inputs as there may be
unfoldable pub too_many : List Input → Option Refusal
too_many h = where_so (nat_le (2 ^ 56) (length h)) refused.Limit

-- what the history says against the input
unfoldable pub objection : ℕ → ℕ → List Input → Input → Option Refusal
objection me n h (Stand key bid) =
    or_else (retired h key)
    (or_else (is_touched h key)
    (or_else (stale key.term (latest me h key.group))
    (or_else (where_so (nat_le STANDS (stands h)) refused.Limit)
    (too_many h))))
objection me n h (Take msg_no msg) =
    or_else (where_so (nat_lt n (candidate_of msg).node) refused.BadNumber)
    (or_else (out_of_turn (length (taken h)) msg_no)
    (too_many h))
objection me n h (Acked upto) =
    or_else (where_so (nat_le upto (credit h)) (refused.Old (credit h)))
    (or_else (where_so (nat_lt (length (sent me h)) upto) (refused.AckAhead (length (sent me h))))
    (too_many h))
objection me n h (Retire group new) =
    or_else (where_so (nat_le new (floor h group)) (refused.Retired (floor h group)))
    (or_else (where_so (nat_lt (term_of (latest me h group)) new) refused.Undecided)
    (too_many h))
