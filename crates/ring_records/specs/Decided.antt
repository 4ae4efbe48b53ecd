-- What an input decides, and what it tells a board.
use Rattle.std.specs.Prelude.{ℕ, List, [], ◌∷◌, ◌++◌, Option, Some, None}
use Rattle.std.specs.Option.{option_map}
use Rattle.ring_records.specs.declared.candidate.Candidate.{Candidate}
use Rattle.ring_records.specs.declared.decision.Decision.{Decision}
use Rattle.ring_records.specs.declared.input.Input.{Input}
use Rattle.ring_records.specs.declared.input.Input.TheVariants.{Stand, Take, Acked, Retire}
use Rattle.ring_records.specs.declared.key.Key.{Key}
use Rattle.ring_records.specs.declared.notice.Notice.{Notice}
use Rattle.ring_records.specs.declared.notice.Notice.TheVariants.{Decided, Retired}
use Rattle.ring_records.specs.Message.{key_of}
use Rattle.ring_records.specs.Leader.{leader}

-- the decision, where the leader for the key went from none to one
abbrev pub newly : Key → Option Candidate → Option Candidate → Option Decision
newly key None None = None
newly key None (Some c) = Some (record { key = key; leader = c })
newly key (Some b) now = None

-- what the input after h decides: the key that it names has a leader now, and had none before
unfoldable pub decided : ℕ → List Input → Input → Option Decision
decided me h (Stand key bid) = newly key (leader me h key) (leader me (h ++ Stand key bid ∷ []) key)
decided me h (Take msg_no msg) = newly (key_of msg) (leader me h (key_of msg)) (leader me (h ++ Take msg_no msg ∷ []) (key_of msg))
decided me h (Acked upto) = None
decided me h (Retire group floor) = None

-- what the input after h tells a board: the leader that a message decides, or a floor
unfoldable pub told : ℕ → List Input → Input → Option Notice
told me h (Stand key bid) = None
told me h (Take msg_no msg) = option_map Decided (decided me h (Take msg_no msg))
told me h (Acked upto) = None
told me h (Retire group floor) = Some (Retired group floor)
