-- What node me of a ring of n, with a capacity, answers to a request after the history h, and what h becomes. Base is what the
-- area of the journal in use stands for beside its frames: room is counted from it.
use Rattle.std.specs.Prelude.{ℕ, List, Option}
use Rattle.ring_records.specs.declared.base.Base.{Base}
use Rattle.ring_records.specs.declared.input.Input.{Input}
use Rattle.ring_records.specs.declared.reply.Reply.{Reply}
use Rattle.ring_records.specs.declared.request.Request.{Request}
use Rattle.ring_records.specs.Admission.{shortage}
use Rattle.ring_records.specs.Answer.{Answer, Answered}
use Rattle.ring_records.specs.Answer as by_rule
use Rattle.ring_records.specs.declared.refusal.Refusal.{Refusal}

abbrev pub if_input : ℕ → ℕ → ℕ → Base → List Input → Option Input → List Input
if_input me n capacity base h o = by_rule.if_input me n (shortage me capacity base) h o

-- the inputs, one or none, that the history gains
abbrev pub gained : ℕ → ℕ → ℕ → Base → List Input → Request → List Input
gained me n capacity base h q = by_rule.gained me n (shortage me capacity base) h q

-- the reply
abbrev pub reply : ℕ → ℕ → ℕ → Base → List Input → Request → Reply
reply me n capacity base h q = by_rule.reply me n (shortage me capacity base) h q

-- the reply, and the number of inputs that it rests on
abbrev pub answer : ℕ → ℕ → ℕ → Base → List Input → Request → Answer
answer me n capacity base h q = by_rule.answer me n (shortage me capacity base) h q

abbrev pub answered : ℕ → ℕ → ℕ → Base → List Input → Request → Answered
answered me n capacity base h q = by_rule.answered me n (shortage me capacity base) h q

-- at some point of h the answer was given, with room counted from this base
abbrev pub Answers : ℕ → ℕ → ℕ → Base → List Input → Request → Answer → Type 0
Answers me n capacity base h q a = by_rule.Answers me n (shortage me capacity base) h q a

-- why the input is refused, where this is the rule of room
abbrev pub refusal : ℕ → ℕ → ℕ → Base → List Input → Input → Option Refusal
refusal me n capacity base h x = by_rule.refusal me n (shortage me capacity base) h x
