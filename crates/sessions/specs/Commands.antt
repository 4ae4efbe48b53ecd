-- What a line asks, or its first fault.
use Rattle.std.specs.Prelude.{ℕ, Bool, true, false, List, [], ◌∷◌, Option, Some, None, Result, Ok, Err, codes}
use Rattle.std.specs.Str.Lines.{strip_carriage_return}
use Rattle.line_words.specs.Forms.{Fixed, Name, Form, bid, term, line_says}
use Rattle.ring_records.specs.declared.key.Key.{Key}
use Rattle.ring_records.specs.declared.refusal.Refusal.{Refusal}
use Rattle.ring_records.specs.declared.request.Request.{Request}
use Rattle.ring_records.specs.declared.request.Request.TheVariants as ask
use Rattle.sessions.specs.declared.command.Command.{Command}
use Rattle.sessions.specs.declared.command.Command.TheVariants.{Ask, Bye}
use Rattle.sessions.specs.declared.command.Question.{Question}
use Rattle.sessions.specs.declared.command.Question.TheVariants.{Stand, Retire, Who, Latest}

abbrev pub key : List ℕ → ℕ → Key
key group term = record { group = group; term = term }

-- the form of each command, and what it says
unfoldable pub commands : List (Form Command)
commands =
    (Fixed (codes "stand") ∷ Name ∷ term ∷ bid ∷ [], λ g t b. Ask (Stand (key g t) b))
    ∷ (Fixed (codes "retire") ∷ Name ∷ term ∷ [], λ g f. Ask (Retire g f))
    ∷ (Fixed (codes "who") ∷ Name ∷ term ∷ [], λ g t. Ask (Who (key g t)))
    ∷ (Fixed (codes "latest") ∷ Name ∷ [], λ g. Ask (Latest g))
    ∷ (Fixed (codes "bye") ∷ [], Bye)
    ∷ []

-- what a line says that was read up to its line feed
unfoldable pub said : List ℕ → Result Command Refusal
said line = line_says commands (strip_carriage_return line)

-- the request that a question is
abbrev pub request_of : Question → Request
request_of (Stand key bid) = ask.Stand key bid
request_of (Retire group floor) = ask.Retire group floor
request_of (Who key) = ask.Who key
request_of (Latest group) = ask.Latest group

-- what a command asks the service, if it is one and asks anything
abbrev pub question_in : Result Command Refusal → Option Request
question_in (Err refusal) = None
question_in (Ok (Ask question)) = Some (request_of question)
question_in (Ok Bye) = None

-- whether it ends the session
abbrev pub is_bye : Result Command Refusal → Bool
is_bye (Err refusal) = false
is_bye (Ok (Ask question)) = false
is_bye (Ok Bye) = true
