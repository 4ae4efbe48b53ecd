-- What a history gives to a request, where no room is left.
use Rattle.std.proofs.Common.{◌≡◌, ℕ, true, ◌+◌, ◌-◌, ◌<◌, ◌≤◌, List, [], ◌++◌, length, get_or, take, Option, Some, None, inl, inr, refl, sym, ◌∙◌, ap, append-nil, subst, arith}
use Rattle.std.specs.Prelude.{slice_get}
use Rattle.std.proofs.lemmas.List.{length-append, length-take-le}
use Rattle.std.proofs.lemmas.Option.{same_Some, slice_get_read, get_or_from_slice_get}
use Rattle.std.proofs.Math.Seq.{take-add}
use Rattle.ring_records.specs.declared.input.Input.{Input}
use Rattle.ring_records.specs.declared.input.Input.TheVariants.{Stand, Take, Acked, Retire}
use Rattle.ring_records.specs.declared.refusal.Refusal.{Refusal}
use Rattle.ring_records.specs.declared.refusal.Refusal.TheVariants.{Full, Limit}
use Rattle.ring_records.specs.declared.reply.Reply.{Reply}
use Rattle.ring_records.specs.declared.reply.Reply.TheVariants as say
use Rattle.ring_records.specs.declared.request.Request.{Request}
use Rattle.ring_records.specs.declared.request.Request.TheVariants as ask
use Rattle.ring_records.specs.declared.summary.Summary.{Summary}
use Rattle.ring_records.specs.Admission.{cost, fresh, lacks, used}
use Rattle.ring_records.specs.Answering.{refusal, gained, reply, answer}
use Rattle.ring_records.specs.Objection.{objection}
use Rattle.ring_records.specs.Answer.{Answer, Answered, input_of, if_free, unless}
use Rattle.ring_records.specs.Answer as by_rule
use Rattle.ring_records.specs.Known.{Objects, known_of, leader_of, leads_in}
use Rattle.ring_records.specs.Leader.{leader, latest}
use Rattle.ring_records.specs.Lists.{or_else}
use Rattle.ring_records.specs.Member.{Member}
use Rattle.ring_records.specs.States.{NodeState}
use Rattle.ring_records.specs.Summary.{summary}
use Rattle.ring_records.proofs.Growth.{slice_get-behind}
use Rattle.ring_records.proofs.Known.{leader-known, objects-known}
use Rattle.ring_records.proofs.Latest.{latest_is, latest_same, one_latest}
use Rattle.ring_records.proofs.Lists.{none≢some}
use Rattle.ring_records.proofs.Iteration.{shortage-full}
use Rattle.std.proofs.lemmas.Bool.{lt-ltb}
use Rattle.node_core.specs.Brought.{who_by}
use Rattle.node_core.specs.FreeCore.{FreeView}
use Rattle.group_commit.specs.Replying.{who_reply}
use Rattle.group_commit.specs.Past.{shifted}
use Rattle.group_commit.specs.Vouch.{acceptance, Accepts, IsInput, IsVouched, RepliesFull, refused_or_full}
use Rattle.group_commit.proofs.Past.{take-front, who_said}
use Rattle.group_commit.proofs.Settling.{drop-front}
use Rattle.group_commit.proofs.Costs.{cost_least}

-- ---- without room

lacking : (h : List Input) (x : Input) → lacks 0 (used fresh h) x ≡ true
lacking h x =
    let some = cost_least x in
    lt-ltb 0 (used fresh h + cost x) (omega (arith, some))

refusal-full : (me n : ℕ) (h : List Input) (x : Input) → refusal me n 0 fresh h x ≡ or_else (objection me n h x) (Some Full)
unfolding by_rule.refusal
refusal-full me n h x = ap (or_else (objection me n h x)) (shortage-full me 0 fresh h x refl (omega arith) (lacking h x))

refused-or : (o : Option Refusal) (good : Reply) → refused_or_full o ≡ unless (or_else o (Some Full)) good
refused-or None good = refl
refused-or (Some why) good = refl

gains-none : (o : Option Refusal) (x : Input) → if_free (or_else o (Some Full)) x ≡ []
gains-none None x = refl
gains-none (Some why) x = refl

weighed : (me n : ℕ) (s : Summary) (h : List Input) (x : Input) (good given : Reply) (o : Option Refusal) → s ≡ summary me h → Objects n s x o → given ≡ refused_or_full o
    → (given ≡ unless (refusal me n 0 fresh h x) good) × (if_free (refusal me n 0 fresh h x) x ≡ [])
weighed me n s h x good given o knows objects says =
    let same = objects-known me n h x o (subst (λ (k : Summary). Objects n k x o) knows objects) in
    let full = ap (λ p. or_else p (Some Full)) same ∙ sym (refusal-full me n h x) in
    (says ∙ (refused-or o good ∙ ap (λ p. unless p good) full), ap (λ p. if_free p x) (refusal-full me n h x) ∙ gains-none (objection me n h x) x)

-- what such a node replies to a request, which it never accepts
replies-full : (core : FreeView) (h : List Input) (q : Request) (given : Reply) → core.known ≡ summary core.me h → RepliesFull core q given
    → (given ≡ reply core.me core.size 0 fresh h q) × (gained core.me core.size 0 fresh h q ≡ [])
unfolding by_rule.reply by_rule.gained input_of
replies-full core h (ask.Stand key bid) given knows (o, objects, says) = weighed core.me core.size core.known h (Stand key bid) say.Stood given o knows objects says
replies-full core h (ask.Take msg_no msg) given knows (o, objects, says) = weighed core.me core.size core.known h (Take msg_no msg) say.Taken given o knows objects says
replies-full core h (ask.Acked upto) given knows (o, objects, says) = weighed core.me core.size core.known h (Acked upto) say.Acked given o knows objects says
replies-full core h (ask.Retire group new) given knows (o, objects, says) = weighed core.me core.size core.known h (Retire group new) say.Retired given o knows objects says
replies-full core h (ask.Who key) given knows says = (says ∙ (ap (λ (s : Summary). who_reply (who_by s key)) knows ∙ who_said core.me h key), refl)
replies-full core h (ask.Latest group) given knows (led, is, says) =
    let leads = λ (term : ℕ). ap (λ (s : Summary). leader_of (known_of s (record { group = group; term = term }))) knows ∙ leader-known core.me h (record { group = group; term = term }) in
    let same = one_latest (λ term. leader core.me h (record { group = group; term = term })) led (latest core.me h group)
    (latest_same (leads_in core.known group) (λ term. leader core.me h (record { group = group; term = term })) (λ term. sym (leads term)) led is) (latest_is core.me h group) in
    (says ∙ ap say.Latest same, refl)

pub answer-full : (core : FreeView) (h : List Input) (q : Request) (given : Reply) → core.known ≡ summary core.me h → RepliesFull core q given
    → ◌≡◌ {A = Answer} (record { reply = given; number = length h }) (answer core.me core.size 0 fresh h q)
answer-full core h q given knows replies =
    let full = replies-full core h q given knows replies in
    λ i. record { reply = full.0 i; number = (ap length (sym (append-nil h)) ∙ ap (λ l. length (h ++ l)) (sym full.1)) i }

-- so an acceptance is none of its answers
refused-none : (o : Option Refusal) (good : Reply) → ((why : Refusal) → good ≡ say.Refused why → ⊥) → unless (or_else o (Some Full)) good ≡ good → ⊥
refused-none None good accepted e = accepted Full (sym e)
refused-none (Some why) good accepted e = accepted why (sym e)

says : (given : Reply) (x y : Input) → ◌≡◌ {A = Option Input} (Some y) (Some x) → given ≡ acceptance x → given ≡ acceptance y
says given x y asked accepts = accepts ∙ ap acceptance (sym (same_Some y x asked))

pub no_acceptance : (me n : ℕ) (h : List Input) (q : Request) (a : Answer) (x : Input) → Accepts q a.reply x → a ≡ answer me n 0 fresh h q → ⊥
unfolding by_rule.reply input_of acceptance
no_acceptance me n h (ask.Stand key bid) a x accepts e =
    refused-none (objection me n h (Stand key bid)) say.Stood (λ why s. cc) (ap (λ p. unless p say.Stood) (sym (refusal-full me n h (Stand key bid))) ∙ (sym (ap (λ (b : Answer). b.reply) e) ∙ says a.reply x (Stand key bid) accepts.asked accepts.says))
no_acceptance me n h (ask.Take msg_no msg) a x accepts e =
    refused-none (objection me n h (Take msg_no msg)) say.Taken (λ why s. cc) (ap (λ p. unless p say.Taken) (sym (refusal-full me n h (Take msg_no msg))) ∙ (sym (ap (λ (b : Answer). b.reply) e) ∙ says a.reply x (Take msg_no msg) accepts.asked accepts.says))
no_acceptance me n h (ask.Acked upto) a x accepts e =
    refused-none (objection me n h (Acked upto)) say.Acked (λ why s. cc) (ap (λ p. unless p say.Acked) (sym (refusal-full me n h (Acked upto))) ∙ (sym (ap (λ (b : Answer). b.reply) e) ∙ says a.reply x (Acked upto) accepts.asked accepts.says))
no_acceptance me n h (ask.Retire group new) a x accepts e =
    refused-none (objection me n h (Retire group new)) say.Retired (λ why s. cc) (ap (λ p. unless p say.Retired) (sym (refusal-full me n h (Retire group new))) ∙ (sym (ap (λ (b : Answer). b.reply) e) ∙ says a.reply x (Retire group new) accepts.asked accepts.says))
no_acceptance me n h (ask.Who key) a x accepts e = none≢some x accepts.asked
no_acceptance me n h (ask.Latest group) a x accepts e = none≢some x accepts.asked

-- ---- inputs behind a past

-- where the reply accepts this input, it is the one with that number
accepts_one : (q : Request) (reply : Reply) (x y : Input) → Accepts q reply x → Accepts q reply y → x ≡ y
accepts_one q reply x y a b = same_Some x y (sym a.asked ∙ b.asked)

-- a refusal accepts nothing
no_limit : (x : Input) → acceptance x ≡ say.Refused Limit → ⊥
unfolding acceptance
no_limit (Stand key bid) e = cc
no_limit (Take msg_no msg) e = cc
no_limit (Acked upto) e = cc
no_limit (Retire group floor) e = cc

pub vouched-accepted : (m : Member) (first gone : ℕ) (past : List Input) (s : NodeState) (a : Answered) (x : Input) → first ≡ length past → first + gone < a.answer.number
    → a.answer.number - first ≤ s.durable → Accepts a.question a.answer.reply x
    → IsInput s.inputs (a.answer.number - first) x → IsVouched m (first + gone) (shifted past s) a
vouched-accepted m first gone past s a x is from durable accepts there =
    let count = there.number in
    record {
      durable = omega (arith, is, from, durable);
      from = omega (arith, from);
      gives = inl (
        from,
        record {
          input = x;
          accepts = accepts;
          is_input = record { before = length past + there.before; number = omega (arith, is, from, count); there = slice_get-behind past s.inputs there.before ∙ there.there };
        },
      );
    }

pub accepted-vouched : (m : Member) (first gone : ℕ) (past : List Input) (s : NodeState) (a : Answered) (x : Input) → first ≡ length past → Accepts a.question a.answer.reply x
    → IsVouched m (first + gone) (shifted past s) a
    → (first + gone < a.answer.number) × IsInput s.inputs (a.answer.number - first) x
accepted-vouched m first gone past s a x is accepts vouched = elim vouched.gives [
  | inl accepted ↦ (
      let found = accepted.1.is_input in
      let count = found.number in
      let above = accepted.0 in
      let back : length past + (found.before - first) ≡ found.before = omega (arith, is, count, above) in (
        above,
        record {
          before = found.before - first;
          number = omega (arith, count, above);
          there = sym (slice_get-behind past s.inputs (found.before - first)) ∙ (ap (slice_get (past ++ s.inputs)) back ∙ (found.there ∙ ap Some (accepts_one a.question a.answer.reply accepted.1.input x accepted.1.accepts accepts)));
        },
      ))
  | inr full ↦ absurd (elim full.1 [
    | inl same ↦ no_acceptance m.node m.n (take a.answer.number (past ++ s.inputs)) a.question a.answer x accepts (λ i. record { reply = same i; number = full.0 i })
    | inr limit ↦ no_limit x (sym accepts.says ∙ limit.0)
  ])
]

-- as many of the first inputs
pub take-past : (first number : ℕ) (past l : List Input) → first ≡ length past → first ≤ number → take number (past ++ l) ≡ past ++ take (number - first) l
take-past first number past l is from =
    let sum : number ≡ length past + (number - first) = omega (arith, is, from) in
    ap (λ k. take k (past ++ l)) sum ∙ (take-add (length past) (number - first) (past ++ l) ∙ (λ i. take-front past l i ++ take (number - first) (drop-front past l i)))

-- the answer of the core of so many inputs
pub answer-past : (m : Member) (first : ℕ) (past l : List Input) (core : FreeView) (q : Request) (given : Reply) (number : ℕ) → first ≡ length past → first ≤ number
    → number - first ≤ length l → core.me ≡ m.node → core.size ≡ m.n
    → core.known ≡ summary m.node (past ++ take (number - first) l) → RepliesFull core q given
    → ◌≡◌ {A = Answer} (record { reply = given; number = number }) (answer m.node m.n 0 fresh (take number (past ++ l)) q)
answer-past m first past l core q given number is from within me size knows replies =
    let h = past ++ take (number - first) l in
    let size_of = length-append past (take (number - first) l) in
    let taken = length-take-le (number - first) l within in
    let count : number ≡ length h = omega (arith, is, from, size_of, taken) in
    (λ i. record { reply = given; number = count i })
    ∙ (answer-full core h q given (knows ∙ ap (λ k. summary k h) (sym me)) replies
    ∙ (λ i. answer (me i) (size i) 0 fresh (sym (take-past first number past l is from) i) q))

-- ---- an input with a number

-- the input with this number, compared with another
pub same_there : (inputs : List Input) (k : ℕ) (found x : Input) → 0 < k → k ≤ length inputs → found ≡ get_or inputs (k - 1) found → found ≡ x → IsInput inputs k x
same_there inputs k found x some within is same = record { before = k - 1; number = omega arith; there = slice_get_read inputs (length inputs) (k - 1) found refl (omega arith) is ∙ ap Some same }

pub there_same : (inputs : List Input) (k : ℕ) (found x : Input) → found ≡ get_or inputs (k - 1) found → IsInput inputs k x → found ≡ x
there_same inputs k found x is there =
    let number = there.number in
    let index : k - 1 ≡ there.before = omega arith in
    is ∙ ap (λ i. get_or inputs i found) index ∙ get_or_from_slice_get inputs there.before x found there.there
