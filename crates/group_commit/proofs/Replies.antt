-- What is kept for tickets is what the node answered, behind its past, by its inputs since.
use Rattle.std.proofs.Common.{◌≡◌, ℕ, ◌+◌, ◌≤◌, Bool, true, false, nat_eq, cond, List, [], ◌∷◌, ◌++◌, append_assoc, length, take, Option, Some, sym, ap, ◌∙◌, subst, arith}
use Rattle.std.proofs.lemmas.List.{length-append, take_all}
use Rattle.std.proofs.lemmas.Option.{same_Some}
use Rattle.std.specs.Map.{lookup, remove_entry}
use Rattle.ring_records.specs.declared.base.Base.{Base}
use Rattle.ring_records.specs.declared.input.Input.{Input}
use Rattle.ring_records.specs.declared.request.Request.{Request}
use Rattle.ring_records.specs.declared.summary.Summary.{Summary}
use Rattle.ring_records.specs.Lawful.{IsBaseOf, IsLawful, IsLawfulState}
use Rattle.ring_records.specs.Admission.{shortage}
use Rattle.ring_records.specs.Answer.{Answer, Answered}
use Rattle.ring_records.specs.Answering.{Answers, answer, gained}
use Rattle.ring_records.specs.Member.{Member}
use Rattle.ring_records.specs.States.{NodeState, launched_base, durable_in}
use Rattle.ring_records.specs.Serving.{answered_by, gained_by}
use Rattle.ring_records.proofs.Lists.{none≢some}
use Rattle.history_laws.proofs.Beginnings.{longer, longer_at, shorter, shorter_at}
use Rattle.group_commit.specs.Desk.{IsAnswer}
use Rattle.group_commit.specs.Kept.{AreAnswers}
use Rattle.group_commit.specs.Past.{IsPast, shifted}
use Rattle.group_commit.proofs.Past.{take-front, durable-shifted}

-- ---- one answer

-- it was given at some point of h, behind so many inputs, with room counted from this base
abbrev Gives : Member → ℕ → Base → Answered → List Input → Type 0
Gives m count base a h = (s : Answers m.node m.n m.capacity base h a.question a.answer) × (count ≤ s.before) × IsBaseOf m.node base (take s.before h) × IsLawful m.node m.n m.capacity base (take s.before h)

answer_by : (m : Member) (past inputs : List Input) (base : Base) (a : Answered) → Gives m (length past) base a (past ++ inputs) → IsAnswer m past inputs a
answer_by m past inputs base a (gives, behind, based, lawful) = record { base = base; gives = gives; behind = behind; based = based; lawful = lawful }

-- what the node answers now, its history has given once it gained its input
gives_now : (m : Member) (count : ℕ) (base : Base) (h : List Input) (a : Answered) (more : List Input) → count ≤ length h → IsBaseOf m.node base h → IsLawful m.node m.n m.capacity base h
    → a.answer ≡ answer m.node m.n m.capacity base h a.question → more ≡ gained m.node m.n m.capacity base h a.question → Gives m count base a (h ++ more)
gives_now m count base h a more behind based lawful is gains =
    let cut = take-front h more in
    let whole = h ++ more in
    let number : a.answer.number ≡ length whole = ap (λ (x : Answer). x.number) is ∙ ap (λ (g : List Input). length (h ++ g)) (sym gains) in (
      record {
        before = length h;
        within = omega (arith, length-append h more);
        same = is ∙ ap (λ (g : List Input). answer m.node m.n m.capacity base g a.question) (sym cut);
        front = ap (λ (g : List Input). g ++ gained m.node m.n m.capacity base g a.question) cut
            ∙ (ap (λ (g : List Input). h ++ g) (sym gains) ∙ sym (take_all a.answer.number whole (omega (arith, number))));
      },
      behind,
      subst (IsBaseOf m.node base) (sym cut) based,
      subst (IsLawful m.node m.n m.capacity base) (sym cut) lawful,
    )

pub answer_now : (m : Member) (past : List Input) (s : NodeState) (q : Request) (a : Answered) (more : List Input) → IsLawfulState m (shifted past s)
    → a ≡ answered_by m (shifted past s) q → more ≡ gained_by m (shifted past s) q → IsAnswer m past (s.inputs ++ more) a
answer_now m past s q a more lawful is gains =
    let base = launched_base (shifted past s) in
    let asks : q ≡ a.question = ap (λ (x : Answered). x.question) (sym is) in
    let same = ap (λ (x : Answered). x.answer) is ∙ ap (λ (p : Request). answer m.node m.n m.capacity base (past ++ s.inputs) p) asks in
    let gained_is = gains ∙ ap (λ (p : Request). gained m.node m.n m.capacity base (past ++ s.inputs) p) asks in
    answer_by m past (s.inputs ++ more) base a
    (subst (Gives m (length past) base a) (append_assoc past s.inputs more)
    (gives_now m (length past) base (past ++ s.inputs) a more (omega (arith, length-append past s.inputs)) lawful.next lawful.all same gained_is))

-- it stays one as inputs come
answer_longer : (m : Member) (past inputs more : List Input) (a : Answered) → IsAnswer m past inputs a → IsAnswer m past (inputs ++ more) a
answer_longer m past inputs more a is =
    let h = past ++ inputs in
    let at = longer_at m.node m.n (shortage m.node m.capacity is.base) h a.question a.answer is.gives more in
    answer_by m past (inputs ++ more) is.base a (subst (Gives m (length past) is.base a) (append_assoc past inputs more) (
      longer m.node m.n (shortage m.node m.capacity is.base) h a.question a.answer is.gives more,
      subst (λ (k : ℕ). length past ≤ k) at.0 is.behind,
      subst (IsBaseOf m.node is.base) at.1 is.based,
      subst (IsLawful m.node m.n m.capacity is.base) at.1 is.lawful,
    ))

-- the durable inputs gave it, where what it rests on is durable
pub answer_durable : (m : Member) (past : List Input) (s : NodeState) (a : Answered) → a.answer.number ≤ length past + s.durable → IsAnswer m past s.inputs a → IsAnswer m past (durable_in s) a
answer_durable m past s a enough is =
    let h = past ++ s.inputs in
    let k = length past + s.durable in
    let at = shorter_at m.node m.n (shortage m.node m.capacity is.base) h a.question a.answer is.gives k enough in
    answer_by m past (durable_in s) is.base a (subst (Gives m (length past) is.base a) (durable-shifted past s) (
      shorter m.node m.n (shortage m.node m.capacity is.base) h a.question a.answer is.gives k enough,
      subst (λ (k : ℕ). length past ≤ k) at.0 is.behind,
      subst (IsBaseOf m.node is.base) at.1 is.based,
      subst (IsLawful m.node m.n m.capacity is.base) at.1 is.lawful,
    ))

-- ---- what is kept for the tickets

-- for each past that the node may have
abbrev pub IsAnswerOf : Member → Summary → List Input → Answered → Type 0
IsAnswerOf member opening inputs a = (past : List Input) → IsPast member opening past → IsAnswer member past inputs a

pub answers_none : (member : Member) (opening : Summary) (inputs : List Input) → AreAnswers member opening inputs []
unfolding AreAnswers
answers_none member opening inputs = tt

-- inputs are accepted
pub answers_longer : (member : Member) (opening : Summary) (inputs more : List Input) (tickets : List (ℕ × Answered)) → AreAnswers member opening inputs tickets
    → AreAnswers member opening (inputs ++ more) tickets
unfolding AreAnswers
answers_longer member opening inputs more [] all = tt
answers_longer member opening inputs more (t ∷ tickets) all =
    (λ past is. answer_longer member past inputs more t.1 (all.0 past is), answers_longer member opening inputs more tickets all.1)

-- a ticket is given
pub answers_next : (member : Member) (opening : Summary) (inputs : List Input) (own : ℕ) (kept : Answered) (tickets : List (ℕ × Answered)) → AreAnswers member opening inputs tickets
    → IsAnswerOf member opening inputs kept → AreAnswers member opening inputs (tickets ++ (own, kept) ∷ [])
unfolding AreAnswers
answers_next member opening inputs own kept [] all one = (one, tt)
answers_next member opening inputs own kept (t ∷ tickets) all one = (all.0, answers_next member opening inputs own kept tickets all.1 one)

-- a ticket ends
pub answers_without : (member : Member) (opening : Summary) (inputs : List Input) (own : ℕ) (tickets : List (ℕ × Answered)) → AreAnswers member opening inputs tickets
    → AreAnswers member opening inputs (remove_entry (nat_eq own) tickets)
unfolding AreAnswers
answers_without member opening inputs own [] all = tt
answers_without member opening inputs own (t ∷ tickets) all = by_test (nat_eq own t.0) (answers_without member opening inputs own tickets all.1)
  where
    by_test : (b : Bool) → AreAnswers member opening inputs (remove_entry (nat_eq own) tickets) → AreAnswers member opening inputs (cond b tickets (t ∷ remove_entry (nat_eq own) tickets))
    by_test true others = all.1
    by_test false others = (all.0, others)

-- what is kept for one ticket
pub answers_at : (member : Member) (opening : Summary) (inputs : List Input) (own : ℕ) (kept : Answered) (tickets : List (ℕ × Answered)) → AreAnswers member opening inputs tickets
    → lookup (nat_eq own) tickets ≡ Some kept → IsAnswerOf member opening inputs kept
unfolding AreAnswers
answers_at member opening inputs own kept [] all here = none≢some kept here
answers_at member opening inputs own kept (t ∷ tickets) all here = by_test (nat_eq own t.0) (answers_at member opening inputs own kept tickets all.1) here
  where
    by_test : (b : Bool) → (lookup (nat_eq own) tickets ≡ Some kept → IsAnswerOf member opening inputs kept) → ◌≡◌ {A = Option Answered} (cond b (Some t.1) (lookup (nat_eq own) tickets)) (Some kept)
        → IsAnswerOf member opening inputs kept
    by_test true others e = subst (IsAnswerOf member opening inputs) (same_Some t.1 kept e) all.0
    by_test false others e = others e
