-- An outcome with a letter, and that letter.
use Rattle.std.specs.Prelude.{Option, None, Some}
use Rattle.ring_post.specs.declared.outcome.Outcome.{Outcome}
use Rattle.ring_post.specs.declared.outcome.Outcome.TheVariants.{Nothing, Done, Credit, Refused, Full}
use Rattle.ring_post.specs.Letters.{Sent}

abbrev pub letter_in : Outcome → Option Sent
letter_in Nothing = None
letter_in Done = None
letter_in (Credit letter) = Some letter
letter_in Refused = None
letter_in Full = None

abbrev pub outcome_with : Option Sent → Outcome
outcome_with None = Done
outcome_with (Some letter) = Credit letter
