-- The text of a session.
use Rattle.std.specs.Prelude.{◌≡◌, ◌≢◌, ◌⊎◌, ℕ, ◌<◌, ◌≤◌, Bool, false, true, ◌||◌, nat_lt, nat_le, if◌then◌else◌, List, [], ◌∷◌, ◌++◌, length, slice_get, Option, Some, None, Result, Ok, Err, codes}
use Rattle.std.specs.Io.KnownBytes.{Appends, Consumes, IsAtEnd}
use Rattle.std.specs.List.{All, filter_map}
use Rattle.line_words.specs.Texts.{text_of, IsFront}
use Rattle.ring_records.specs.Lists.{joined_after}
use Rattle.ring_records.specs.Texts.{reply_text, refusal_text}
use Rattle.ring_records.specs.declared.refusal.Refusal.{Refusal}
use Rattle.ring_records.specs.declared.reply.Reply.{Reply}
use Rattle.ring_records.specs.declared.request.Request.{Request}
use Rattle.sessions.specs.Commands.{said, question_in, is_bye}
use Rattle.sessions.specs.declared.command.Command.{Command}
use Rattle.sessions.specs.declared.command.Command.TheVariants.{Ask, Bye}
use Rattle.sessions.specs.declared.session.SessionFault.{SessionFault}
use Rattle.sessions.specs.declared.session.SessionFault.TheVariants.{Read, Write, Memory}

-- ---- what the lines ask, and how they are answered

-- what a line asks the service, if anything
abbrev pub question : List ℕ → Option Request
question line = question_in (said line)

-- what lines ask the service, in order
unfoldable pub questions : List (List ℕ) → List Request
questions lines = filter_map question lines

-- what the service answers to a question: a reply, or why it refuses it
abbrev pub Answer : Type 0
Answer = Result Reply Refusal

abbrev pub answer_text : Answer → List ℕ
answer_text (Ok reply) = reply_text reply
answer_text (Err refusal) = refusal_text refusal

abbrev pub told : Option Answer → List ℕ
told None = []
told (Some answer) = answer_text answer

-- the line that answers what a line says, where this is what the service answers to it
abbrev pub response : Result Command Refusal → Option Answer → List ℕ
response (Err refusal) answer = refusal_text refusal
response (Ok (Ask question)) answer = told answer
response (Ok Bye) answer = codes "bye"

-- The response to a line after those before it: the answers of the service stand in the order of the questions.
abbrev pub response_after : List Answer → List (List ℕ) → List ℕ → List (List ℕ)
response_after answers before line = response (said line) (slice_get answers (length (questions before))) ∷ []

-- one line for each line that was read
unfoldable pub session : List (List ℕ) → List Answer → List (List ℕ)
session lines answers = joined_after (response_after answers) [] lines

-- ---- what the service does

-- What may come of a question: the service before it, the question, the answer, and the service after it.
abbrev pub Asks : Type 0 → Type 1
Asks S = S → Request → Answer → S → Type 0

-- the service goes from s to t, and answers the questions so, one after the other
abbrev pub Runs : {S : Type 0} → Asks S → S → List Request → List Answer → S → Type 0
Runs A s [] [] t = t ≡ s
Runs {S} A s (q ∷ qs) (r ∷ rs) t = (mid : S) × A s q r mid × Runs A mid qs rs t
Runs A s [] (r ∷ rs) t = ⊥
Runs A s (q ∷ qs) [] t = ⊥

-- ---- what is read

-- A line has no line feed in it, and one behind it, unless it was cut after 202 bytes.
abbrev pub end_of : List ℕ → List ℕ
end_of line = if nat_lt (length line) 202 then 10 ∷ [] else []

-- the bytes of the lines
abbrev pub heard : List (List ℕ) → List ℕ
heard [] = []
heard (line ∷ lines) = line ++ (end_of line ++ heard lines)

-- a line, as far as it is read
abbrev pub IsLine : List ℕ → Type 0
IsLine line = (length line ≤ 202) × All (λ b. b ≢ 10) line

-- whether the session ends with the line: it says `bye`, or it was cut
abbrev pub is_last : List ℕ → Bool
is_last line = is_bye (said line) || nat_le 202 (length line)

-- a line after which the session goes on
pub record GoesOn (line : List ℕ) : Type 0 where
  pub is : IsLine line
  pub more : is_last line ≡ false

-- A line feed does not come behind it any more.
pub record IsRest (rest : List ℕ) : Type 0 where
  pub is : IsLine rest
  pub short : length rest < 202

-- ---- how a session ends

-- with the last of the lines
pub record EndsByLine (lines : List (List ℕ)) (rest : List ℕ) : Type 0 where
  pub before : List (List ℕ)
  pub line : List ℕ
  pub all : lines ≡ before ++ (line ∷ [])
  pub few : length before < 10000
  pub went_on : All GoesOn before
  pub is : IsLine line
  pub last : is_last line ≡ true
  pub alone : rest ≡ []

-- with the input: what stood there behind the last line feed is dropped
pub record EndsByInput (lines : List (List ℕ)) (rest : List ℕ) (left : Option (List ℕ)) : Type 0 where
  pub few : length lines < 10000
  pub went_on : All GoesOn lines
  pub is : IsRest rest
  pub over : IsAtEnd left

-- by their count
pub record EndsByCount (lines : List (List ℕ)) (rest : List ℕ) : Type 0 where
  pub many : length lines ≡ 10000
  pub went_on : All GoesOn lines
  pub alone : rest ≡ []

abbrev pub Ends : List (List ℕ) → List ℕ → Option (List ℕ) → Type 0
Ends lines rest left = EndsByLine lines rest ⊎ (EndsByInput lines rest left ⊎ EndsByCount lines rest)

-- ---- what a session read, asked and wrote, by what it answers

-- What is read goes from `old` to `left`, what is written from `held` to `holds`, the service from s to t.

-- the lines were answered, and the session ended
pub record Finished {S : Type 0} (A : Asks S) (s t : S) (old left held holds : Option (List ℕ)) (count : ℕ) : Type 0 where
  pub lines : List (List ℕ)
  pub rest : List ℕ
  pub answers : List Answer
  pub read : Consumes old left (heard lines ++ rest)
  pub ran : Runs A s (questions lines) answers t
  pub wrote : Appends held holds (text_of (session lines answers))
  pub counted : count ≡ length lines
  pub ends : Ends lines rest left

-- the lines were answered, and the reader failed
pub record Unread {S : Type 0} (A : Asks S) (s t : S) (old left held holds : Option (List ℕ)) : Type 0 where
  pub lines : List (List ℕ)
  pub rest : List ℕ
  pub answers : List Answer
  pub read : Consumes old left (heard lines ++ rest)
  pub ran : Runs A s (questions lines) answers t
  pub wrote : Appends held holds (text_of (session lines answers))
  pub few : length lines < 10000
  pub went_on : All GoesOn lines
  pub is : IsRest rest

-- the last of the lines was asked, and the writer failed: a front of the text went out
pub record Unwritten {S : Type 0} (A : Asks S) (s t : S) (old left held holds : Option (List ℕ)) : Type 0 where
  pub before : List (List ℕ)
  pub line : List ℕ
  pub answers : List Answer
  pub front : List ℕ
  pub read : Consumes old left (heard (before ++ (line ∷ [])))
  pub ran : Runs A s (questions (before ++ (line ∷ []))) answers t
  pub is_front : IsFront front (text_of (session (before ++ (line ∷ [])) answers))
  pub wrote : Appends held holds front
  pub few : length before < 10000
  pub went_on : All GoesOn before
  pub is : IsLine line

-- The lines were answered, and a growth was refused: nothing more went out. One line more was read then, or none, and
-- the service was asked what it asks, or not.
pub record Starved {S : Type 0} (A : Asks S) (s t : S) (old left held holds : Option (List ℕ)) : Type 0 where
  pub lines : List (List ℕ)
  pub more : List (List ℕ)
  pub answers : List Answer
  pub read : Consumes old left (heard (lines ++ more))
  pub one : length more ≤ 1
  pub ran : Runs A s (questions lines) answers t ⊎ Runs A s (questions (lines ++ more)) answers t
  pub wrote : Appends held holds (text_of (session lines answers))
  pub few : length (lines ++ more) ≤ 10000
  pub went_on : All GoesOn lines
  pub is : All IsLine more

abbrev pub Serves : {S : Type 0} → Asks S → S → S → Option (List ℕ) → Option (List ℕ) → Option (List ℕ) → Option (List ℕ) → Result ℕ SessionFault → Type 0
Serves A s t old left held holds (Ok count) = Finished A s t old left held holds count
Serves A s t old left held holds (Err Read) = Unread A s t old left held holds
Serves A s t old left held holds (Err Write) = Unwritten A s t old left held holds
Serves A s t old left held holds (Err Memory) = Starved A s t old left held holds

-- ---- one line

-- what a line may ask is answered, or it asks nothing
abbrev pub Replied : {S : Type 0} → Asks S → S → Option Request → Option Answer → S → Type 0
Replied A s None None t = t ≡ s
Replied A s None (Some r) t = ⊥
Replied A s (Some q) None t = ⊥
Replied A s (Some q) (Some r) t = A s q r t
