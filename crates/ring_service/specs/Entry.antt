-- What is refused in front of a hub, and what is asked of it once more.
use Rattle.std.specs.Prelude.{ℕ, ◌≡◌, ◌⊎◌, ◌+◌, ◌&&◌, not, nat_lt, if◌then◌else◌, Option, Some, None, Ok, Err, MatchOption}
use Rattle.ring_records.specs.declared.key.Key.{Key}
use Rattle.ring_records.specs.declared.refusal.Refusal.{Refusal}
use Rattle.ring_records.specs.declared.refusal.Refusal.TheVariants as refused
use Rattle.ring_records.specs.declared.reply.Reply.TheVariants as replied
use Rattle.ring_records.specs.declared.request.Request.{Request}
use Rattle.ring_records.specs.declared.request.Request.TheVariants.{Stand, Take, Acked, Retire, Who, Latest}
use Rattle.ring_records.specs.declared.summary.Summary.{Summary}
use Rattle.ring_records.specs.Objection.{where_so}
use Rattle.ring_records.specs.Lists.{or_else}
use Rattle.ring_records.specs.Member.{Member}
use Rattle.commit_hub.specs.declared.look.Look.{Look}
use Rattle.commit_hub.specs.Told.{IsLook}
use Rattle.commit_hub.specs.Stances.{takes_stands}
use Rattle.sessions.specs.Session.{Answer, Asks}

-- Why a Stand for the term is refused, where this is the latest that is known for its group and the hub shows this: it is more
-- than the leap above the latest, or the node takes no Stand for want of room. A leap of 0 is for no bound. A hub that is not open is
-- asked whatever it shows, and refuses all.
abbrev pub objection_to : ℕ → ℕ → Look → ℕ → Option Refusal
objection_to leap latest look term = if look.is_open then
    or_else (where_so (nat_lt 0 leap && nat_lt (latest + leap) term) (refused.TooFar (latest + leap)))
    (where_so (not (takes_stands look)) refused.Full)
    else None

-- the latest term that is told of a group, 0 where none is
abbrev pub latest_in : Answer → ℕ
latest_in (Ok (replied.Latest (Some found))) = found.0
latest_in (Ok (replied.Latest None)) = 0
latest_in (Ok replied.Stood) = 0
latest_in (Ok replied.Taken) = 0
latest_in (Ok replied.Acked) = 0
latest_in (Ok replied.Retired) = 0
latest_in (Ok (replied.Leader leader)) = 0
latest_in (Ok (replied.Refused why)) = 0
latest_in (Err why) = 0

module _ {S : Type 0} (asks : Asks S) where
  -- it was asked once, and not refused for room
  pub record IsAskedOnce (before : S) (q : Request) (answer : Answer) (after : S) : Type 0 where
    pub asked : asks before q answer after
    pub other : answer ≡ Ok (replied.Refused refused.Full) → ⊥

  -- it was refused for room, and then asked again
  pub record IsAskedAgain (before : S) (q : Request) (answer : Answer) (after : S) : Type 0 where
    pub between : S
    pub first : asks before q (Ok (replied.Refused refused.Full)) between
    pub second : asks between q answer after

  -- What is refused for room is asked once more; the answer is that of the last time.
  abbrev pub IsAsked : S → Request → Answer → S → Type 0
  IsAsked before q answer after = IsAskedOnce before q answer after ⊎ IsAskedAgain before q answer after

  -- A Stand is decided by the latest term of its group and by what the hub shows at some moment: it is refused, and not asked, or
  -- asked.
  pub record IsStand (member : Member) (opening : Summary) (leap : ℕ) (before : S) (key : Key) (bid : ℕ) (answer : Answer) (after : S) : Type 0 where
    pub told : Answer
    pub between : S
    pub latest : asks before (Latest key.group) told between
    pub look : Look
    pub shown : IsLook member opening look
    pub decided : MatchOption (objection_to leap (latest_in told) look key.term) (IsAsked between (Stand key bid) answer after)
        (λ why. (answer ≡ Ok (replied.Refused why)) × (after ≡ between))

  -- what may come of a question in front of a hub of such a node
  abbrev pub EntryAnswers : Member → Summary → ℕ → S → Request → Answer → S → Type 0
  EntryAnswers member opening leap before (Stand key bid) answer after = IsStand member opening leap before key bid answer after
  EntryAnswers member opening leap before (Retire group floor) answer after = IsAsked before (Retire group floor) answer after
  EntryAnswers member opening leap before (Who key) answer after = asks before (Who key) answer after
  EntryAnswers member opening leap before (Latest group) answer after = asks before (Latest group) answer after
  EntryAnswers member opening leap before (Take number msg) answer after = ⊥
  EntryAnswers member opening leap before (Acked upto) answer after = ⊥
