-- What one more line adds to a session.
use Rattle.std.proofs.Common.{◌≡◌, ℕ, zero, suc, ◌<◌, ◌≤◌, true, List, [], ◌∷◌, ◌++◌, length, refl, sym, ap, ◌∙◌, arith, append_assoc, append-nil, subst, Option, Some, None, Ok, Err}
use Rattle.std.specs.Prelude.{slice_get, is_some, Result}
use Rattle.std.specs.List.{cons_option}
use Rattle.std.proofs.lemmas.List.{length-append}
use Rattle.std.proofs.lemmas.List.Elements.{filter_map-append}
use Rattle.line_words.specs.Texts.{text_of}
use Rattle.line_words.proofs.Texts.{text_of-append}
use Rattle.ring_records.specs.Lists.{joined_after}
use Rattle.ring_records.proofs.Lists.{filter_map-push, joined_after-push}
use Rattle.ring_records.specs.declared.refusal.Refusal.{Refusal}
use Rattle.ring_records.specs.declared.request.Request.{Request}
use Rattle.sessions.specs.Commands.{said, question_in}
use Rattle.sessions.specs.declared.command.Command.{Command}
use Rattle.sessions.specs.declared.command.Command.TheVariants.{Ask, Bye}
use Rattle.sessions.specs.Session.{question, questions, Answer, response, response_after, session, Asks, Runs, Replied, heard, end_of}

-- ---- what is read

pub heard-push : (lines : List (List ℕ)) (line : List ℕ) → heard (lines ++ line ∷ []) ≡ heard lines ++ (line ++ end_of line)
heard-push [] line = ap (λ t. line ++ t) (append-nil (end_of line))
heard-push (x ∷ xs) line =
    ap (λ t. x ++ (end_of x ++ t)) (heard-push xs line)
    ∙ ap (λ t. x ++ t) (sym (append_assoc (end_of x) (heard xs) (line ++ end_of line)))
    ∙ sym (append_assoc x (end_of x ++ heard xs) (line ++ end_of line))

-- ---- what is asked

pub questions-push : (lines : List (List ℕ)) (line : List ℕ) → questions (lines ++ line ∷ []) ≡ questions lines ++ cons_option (question line) []
unfolding questions
questions-push lines line = filter_map-push question lines line

pub Runs-length : {S : Type 0} (A : Asks S) (s t : S) (qs : List Request) (rs : List Answer) → Runs A s qs rs t → length rs ≡ length qs
Runs-length A s t [] [] h = refl
Runs-length A s t [] (r ∷ rs) h = absurd h
Runs-length A s t (q ∷ qs) [] h = absurd h
Runs-length A s t (q ∷ qs) (r ∷ rs) (mid, one, rest) = let e = Runs-length A mid t qs rs rest in omega (arith, e)

Runs-append : {S : Type 0} (A : Asks S) (s mid t : S) (qs more : List Request) (rs others : List Answer) → Runs A s qs rs mid → Runs A mid more others t → Runs A s (qs ++ more) (rs ++ others) t
Runs-append A s mid t [] more [] others same h = subst (λ v. Runs A v more others t) same h
Runs-append A s mid t [] more (r ∷ rs) others none h = absurd none
Runs-append A s mid t (q ∷ qs) more [] others none h = absurd none
Runs-append A s mid t (q ∷ qs) more (r ∷ rs) others (first, one, rest) h = (first, one, Runs-append A first mid t qs more rs others rest h)

Runs-one : {S : Type 0} (A : Asks S) (s t : S) (q : Option Request) (r : Option Answer) → Replied A s q r t → Runs A s (cons_option q []) (cons_option r []) t
Runs-one A s t None None same = same
Runs-one A s t None (Some r) none = absurd none
Runs-one A s t (Some q) None none = absurd none
Runs-one A s t (Some q) (Some r) one = (t, one, refl)

pub Runs-push : {S : Type 0} (A : Asks S) (s mid t : S) (lines : List (List ℕ)) (line : List ℕ) (rs : List Answer) (r : Option Answer)
    → Runs A s (questions lines) rs mid → Replied A mid (question line) r t → Runs A s (questions (lines ++ line ∷ [])) (rs ++ cons_option r []) t
Runs-push A s mid t lines line rs r ran one =
    subst (λ qs. Runs A s qs (rs ++ cons_option r []) t) (sym (questions-push lines line))
    (Runs-append A s mid t (questions lines) (cons_option (question line) []) rs (cons_option r []) ran (Runs-one A mid t (question line) r one))

-- ---- what is answered

slice_get_front : {X : Type 0} (xs more : List X) (k : ℕ) → k < length xs → slice_get (xs ++ more) k ≡ slice_get xs k
slice_get_front [] more k h = absurd (omega (arith, h))
slice_get_front (x ∷ xs) more zero h = refl
slice_get_front (x ∷ xs) more (suc k) h = slice_get_front xs more k (omega (arith, h))

slice_get_end : {X : Type 0} (xs : List X) (o : Option X) → slice_get (xs ++ cons_option o []) (length xs) ≡ o
slice_get_end [] None = refl
slice_get_end [] (Some x) = refl
slice_get_end (x ∷ xs) o = slice_get_end xs o

-- a response looks at the answer to its own question alone
same_response : (answers more : List Answer) (k : ℕ) (judged : Result Command Refusal) → (is_some (question_in judged) ≡ true → k < length answers)
    → response judged (slice_get (answers ++ more) k) ≡ response judged (slice_get answers k)
same_response answers more k (Err refusal) h = refl
same_response answers more k (Ok Bye) h = refl
same_response answers more k (Ok (Ask q)) h = ap (response (Ok (Ask q))) (slice_get_front answers more k (h refl))

asks_more : (qs rest : List Request) (q : Option Request) → is_some q ≡ true → length qs < length (qs ++ cons_option q rest)
asks_more qs rest None e = cc
asks_more qs rest (Some q) e = omega (arith, length-append qs (q ∷ rest))

questions_with : (before : List (List ℕ)) (line : List ℕ) (lines : List (List ℕ)) → questions (before ++ line ∷ lines) ≡ questions before ++ cons_option (question line) (questions lines)
unfolding questions
questions_with before line lines = filter_map-append question before (line ∷ lines)

-- answers that come later change no response
same_front : (answers more : List Answer) (before lines : List (List ℕ)) → length (questions (before ++ lines)) ≤ length answers
    → joined_after (response_after (answers ++ more)) before lines ≡ joined_after (response_after answers) before lines
unfolding joined_after
same_front answers more before [] h = refl
same_front answers more before (x ∷ xs) h =
    let one = same_response answers more (length (questions before)) (said x)
    (λ asks. let less = asks_more (questions before) (questions xs) (question x) asks in let e = ap length (questions_with before x xs) in omega (arith, less, e, h)) in
    let rest = same_front answers more (before ++ x ∷ []) xs (subst (λ l. length (questions l) ≤ length answers) (sym (append_assoc before (x ∷ []) xs)) h) in
    ap (λ l. (l ∷ []) ++ joined_after (response_after (answers ++ more)) (before ++ x ∷ []) xs) one
    ∙ ap (λ l. (response (said x) (slice_get answers (length (questions before))) ∷ []) ++ l) rest

pub session-kept : (lines : List (List ℕ)) (answers : List Answer) (r : Option Answer) → length answers ≡ length (questions lines)
    → session lines (answers ++ cons_option r []) ≡ session lines answers
unfolding session
session-kept lines answers r e = same_front answers (cons_option r []) [] lines (omega (arith, e))

pub session-push : (lines : List (List ℕ)) (line : List ℕ) (answers : List Answer) (r : Option Answer) → length answers ≡ length (questions lines)
    → session (lines ++ line ∷ []) (answers ++ cons_option r []) ≡ session lines answers ++ (response (said line) r ∷ [])
unfolding session
session-push lines line answers r e =
    joined_after-push (response_after (answers ++ cons_option r [])) lines line
    ∙ ap (λ l. l ++ response_after (answers ++ cons_option r []) lines line) (session-kept lines answers r e)
    ∙ ap (λ o. joined_after (response_after answers) [] lines ++ (response (said line) o ∷ []))
    (ap (slice_get (answers ++ cons_option r [])) (sym e) ∙ slice_get_end answers r)

pub text-push : (lines : List (List ℕ)) (line : List ℕ) (answers : List Answer) (r : Option Answer) → length answers ≡ length (questions lines)
    → text_of (session (lines ++ line ∷ []) (answers ++ cons_option r [])) ≡ text_of (session lines answers) ++ (response (said line) r ++ 10 ∷ [])
text-push lines line answers r e = ap text_of (session-push lines line answers r e) ∙ text_of-append (session lines answers) (response (said line) r ∷ [])
