-- What is said against an input, by what a core keeps.
use Rattle.std.specs.Prelude.{ℕ, ◌^◌, nat_lt, nat_le, Option, Some, None}
use Rattle.ring_records.specs.declared.candidate.Candidate.{Candidate}
use Rattle.ring_records.specs.declared.limits.TheConstants.{STANDS}
use Rattle.ring_records.specs.declared.msg.Msg.{Msg}
use Rattle.ring_records.specs.declared.refusal.Refusal.{Refusal}
use Rattle.ring_records.specs.declared.refusal.Refusal.TheVariants as refused
use Rattle.ring_records.specs.Objection.{where_so, already, stale, out_of_turn}
use Rattle.ring_records.specs.Leader.{term_of}
use Rattle.ring_records.specs.Lists.{or_else}
use Rattle.ring_records.specs.Message.{candidate_of}
use Rattle.cr_automaton.specs.declared.ballot.Ballot.{Ballot}
use Rattle.neighbour_link.specs.Outlink.{LinkView, sent_count, credit_objection}

-- as many inputs as there may be were accepted
unfoldable pub full_count : ℕ → Option Refusal
full_count inputs = where_so (nat_le (2 ^ 56) inputs) refused.Limit

-- the term is below the floor of its group
unfoldable pub by_floor : Option ℕ → ℕ → Option Refusal
by_floor None term = None
by_floor (Some floor) term = where_so (nat_lt term floor) (refused.Retired floor)

-- the key is touched
unfoldable pub by_ballot : Option Ballot → Option Refusal
by_ballot None = None
by_ballot (Some ballot) = or_else (already ballot.stood) (Some refused.Late)

-- the new floor is not above the group's
unfoldable pub by_last : Option ℕ → ℕ → Option Refusal
by_last None new = None
by_last (Some floor) new = where_so (nat_le new floor) (refused.Retired floor)

-- a Stand for a term, by the floor of its group, the key's ballot, the latest leader of the group, and the count of Stands
unfoldable pub against_stand : Option ℕ → ℕ → Option Ballot → Option (ℕ × Candidate) → ℕ → ℕ → Option Refusal
against_stand floor term ballot latest stands inputs =
    or_else (by_floor floor term)
    (or_else (by_ballot ballot)
    (or_else (stale term latest)
    (or_else (where_so (nat_le STANDS stands) refused.Limit)
    (full_count inputs))))

-- a Take, by the ring's size and the number that is expected
unfoldable pub against_take : ℕ → ℕ → ℕ → ℕ → Msg → Option Refusal
against_take size expected inputs msg_no msg =
    or_else (where_so (nat_lt size (candidate_of msg).node) refused.BadNumber)
    (or_else (out_of_turn expected msg_no)
    (full_count inputs))

-- an Acked, by the link to the successor
unfoldable pub against_acked : LinkView → ℕ → ℕ → Option Refusal
against_acked link inputs upto = or_else (credit_objection link.credited (sent_count link) upto) (full_count inputs)

-- a new floor, by that of the group, the latest leader of the group and the count of inputs
unfoldable pub against_retire : Option ℕ → ℕ → Option (ℕ × Candidate) → ℕ → Option Refusal
against_retire floor new latest inputs =
    or_else (by_last floor new)
    (or_else (where_so (nat_lt (term_of latest) new) refused.Undecided)
    (full_count inputs))
