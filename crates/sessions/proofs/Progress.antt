-- What the loop over the lines keeps, and what follows from it.
use Rattle.std.proofs.Common.{◌≡◌, ◌⊎◌, inl, inr, ℕ, ◌+◌, ◌<◌, Bool, true, false, List, [], ◌∷◌, ◌++◌, length, refl, sym, ap, ◌∙◌, arith, append_assoc, append-nil, subst, Option, Err}
use Rattle.std.specs.Prelude.{Result}
use Rattle.std.specs.Io.KnownBytes.{Appends, Consumes, IsAtEnd}
use Rattle.std.specs.List.{All, cons_option}
use Rattle.std.proofs.KnownBytes.{Appends-nil, Appends-trans, Consumes-nil, Consumes-trans}
use Rattle.std.proofs.lemmas.List.{length-append}
use Rattle.std.proofs.lemmas.List.Elements.{All-nil, All-push, All-cons}
use Rattle.line_words.specs.Texts.{text_of, IsFront}
use Rattle.ring_records.specs.Lists.{joined_after}
use Rattle.sessions.specs.Commands.{said}
use Rattle.sessions.specs.Session.{question, questions, Answer, response, session, Asks, Runs, Replied, heard, end_of, IsLine, GoesOn, is_last, Finished, Unread, Unwritten, Starved, Serves}
use Rattle.sessions.specs.declared.session.SessionFault.{SessionFault}
use Rattle.sessions.specs.declared.session.SessionFault.TheVariants.{Read, Write, Memory}
use Rattle.sessions.proofs.Lines.{heard-push, Runs-length, Runs-push, session-kept, text-push}

-- so far: the lines were answered, and the session goes on
pub record Progress {S : Type 0} (A : Asks S) (s t : S) (old left held holds : Option (List ℕ)) (count : ℕ) : Type 0 where
  pub lines : List (List ℕ)
  pub answers : List Answer
  pub read : Consumes old left (heard lines)
  pub ran : Runs A s (questions lines) answers t
  pub wrote : Appends held holds (text_of (session lines answers))
  pub counted : count ≡ length lines
  pub went_on : All GoesOn lines

pub begin : {S : Type 0} (A : Asks S) (s : S) (old held : Option (List ℕ)) → Progress A s s old old held held 0
unfolding questions session joined_after
begin A s old held = record {
  lines = [];
  answers = [];
  read = Consumes-nil old;
  ran = refl;
  wrote = Appends-nil held;
  counted = refl;
  went_on = All-nil GoesOn;
}

-- a line more that was read
pub read_more : (old left now : Option (List ℕ)) (lines : List (List ℕ)) (line : List ℕ) → Consumes old left (heard lines) → Consumes left now (line ++ end_of line)
    → Consumes old now (heard (lines ++ line ∷ []))
read_more old left now lines line before more = subst (Consumes old now) (sym (heard-push lines line)) (Consumes-trans old left now (heard lines) (line ++ end_of line) before more)

-- a line more that was read, and its answer written
pub record Step {S : Type 0} (A : Asks S) (s t : S) (old left held holds : Option (List ℕ)) (line : List ℕ) : Type 0 where
  pub read : Consumes old left (line ++ end_of line)
  pub answer : Option Answer
  pub replied : Replied A s (question line) answer t
  pub wrote : Appends held holds (response (said line) answer ++ 10 ∷ [])

-- the line is lent as a slice of bytes
pub lent : (left now : Option (List ℕ)) (line bytes : List ℕ) → bytes ≡ line → Consumes left now (line ++ end_of line) → IsLine line → Consumes left now (bytes ++ end_of bytes) × IsLine bytes
lent left now line bytes e read is = (subst (λ l. Consumes left now (l ++ end_of l)) (sym e) read, subst IsLine (sym e) is)

pub go_on : {S : Type 0} (A : Asks S) (s mid t : S) (old left now held holds sends : Option (List ℕ)) (count : ℕ) (line : List ℕ)
    → Progress A s mid old left held holds count → Step A mid t left now holds sends line → IsLine line → is_last line ≡ false
    → Progress A s t old now held sends (count + 1)
go_on A s mid t old left now held holds sends count line p step is more =
    let matched = Runs-length A s mid (questions p.lines) p.answers p.ran in
    record {
      lines = p.lines ++ line ∷ [];
      answers = p.answers ++ cons_option step.answer [];
      read = read_more old left now p.lines line p.read step.read;
      ran = Runs-push A s mid t p.lines line p.answers step.answer p.ran step.replied;
      wrote = subst (Appends held sends) (sym (text-push p.lines line p.answers step.answer matched)) (Appends-trans held holds sends _ _ p.wrote step.wrote);
      counted = omega (arith, p.counted, length-append p.lines (line ∷ []));
      went_on = All-push GoesOn p.lines line p.went_on (record { is = is; more = more });
    }

pub finish : {S : Type 0} (A : Asks S) (s mid t : S) (old left now held holds sends : Option (List ℕ)) (count : ℕ) (line : List ℕ)
    → Progress A s mid old left held holds count → Step A mid t left now holds sends line → IsLine line → is_last line ≡ true → count < 10000
    → Finished A s t old now held sends (count + 1)
finish A s mid t old left now held holds sends count line p step is last few =
    let matched = Runs-length A s mid (questions p.lines) p.answers p.ran in
    record {
      lines = p.lines ++ line ∷ [];
      rest = [];
      answers = p.answers ++ cons_option step.answer [];
      read = subst (Consumes old now) (sym (append-nil (heard (p.lines ++ line ∷ [])))) (read_more old left now p.lines line p.read step.read);
      ran = Runs-push A s mid t p.lines line p.answers step.answer p.ran step.replied;
      wrote = subst (Appends held sends) (sym (text-push p.lines line p.answers step.answer matched)) (Appends-trans held holds sends _ _ p.wrote step.wrote);
      counted = omega (arith, p.counted, length-append p.lines (line ∷ []));
      ends = inl (record {
        before = p.lines;
        line = line;
        all = refl;
        few = omega (arith, p.counted, few);
        went_on = p.went_on;
        is = is;
        last = last;
        alone = refl;
      });
    }

pub ends_input : {S : Type 0} (A : Asks S) (s t : S) (old left now held holds : Option (List ℕ)) (count : ℕ) (rest : List ℕ)
    → Progress A s t old left held holds count → Consumes left now rest → IsAtEnd now → IsLine rest → length rest < 202 → count < 10000
    → Finished A s t old now held holds count
ends_input A s t old left now held holds count rest p more over is short few = record {
  lines = p.lines;
  rest = rest;
  answers = p.answers;
  read = Consumes-trans old left now (heard p.lines) rest p.read more;
  ran = p.ran;
  wrote = p.wrote;
  counted = p.counted;
  ends = inr (inl (record { few = omega (arith, p.counted, few); went_on = p.went_on; is = record { is = is; short = short }; over = over }));
}

pub ends_count : {S : Type 0} (A : Asks S) (s t : S) (old left held holds : Option (List ℕ)) (count : ℕ)
    → Progress A s t old left held holds count → count ≡ 10000 → Finished A s t old left held holds 10000
ends_count A s t old left held holds count p many = record {
  lines = p.lines;
  rest = [];
  answers = p.answers;
  read = subst (Consumes old left) (sym (append-nil (heard p.lines))) p.read;
  ran = p.ran;
  wrote = p.wrote;
  counted = sym many ∙ p.counted;
  ends = inr (inr (record { many = sym p.counted ∙ many; went_on = p.went_on; alone = refl }));
}

pub unread : {S : Type 0} (A : Asks S) (s t : S) (old left now held holds : Option (List ℕ)) (count : ℕ) (rest : List ℕ)
    → Progress A s t old left held holds count → Consumes left now rest → IsLine rest → length rest < 202 → count < 10000
    → Unread A s t old now held holds
unread A s t old left now held holds count rest p more is short few = record {
  lines = p.lines;
  rest = rest;
  answers = p.answers;
  read = Consumes-trans old left now (heard p.lines) rest p.read more;
  ran = p.ran;
  wrote = p.wrote;
  few = omega (arith, p.counted, few);
  went_on = p.went_on;
  is = record { is = is; short = short };
}

pub unwritten : {S : Type 0} (A : Asks S) (s mid t : S) (old left now held holds sends : Option (List ℕ)) (count : ℕ) (line : List ℕ)
    → Progress A s mid old left held holds count → Consumes left now (line ++ end_of line) → IsLine line → count < 10000
    → (answer : Option Answer) × Replied A mid (question line) answer t × ((front : List ℕ) × IsFront front (response (said line) answer ++ 10 ∷ []) × Appends holds sends front)
    → Unwritten A s t old now held sends
unwritten A s mid t old left now held holds sends count line p more is few (answer, replied, (front, is_front, wrote)) =
    let matched = Runs-length A s mid (questions p.lines) p.answers p.ran in
    let text = text_of (session p.lines p.answers) in
    record {
      before = p.lines;
      line = line;
      answers = p.answers ++ cons_option answer [];
      front = text ++ front;
      read = read_more old left now p.lines line p.read more;
      ran = Runs-push A s mid t p.lines line p.answers answer p.ran replied;
      is_front = (is_front.0, text-push p.lines line p.answers answer matched ∙ ap (λ l. text ++ l) is_front.1 ∙ sym (append_assoc text front is_front.0));
      wrote = Appends-trans held holds sends text front p.wrote wrote;
      few = omega (arith, p.counted, few);
      went_on = p.went_on;
      is = is;
    }

pub starved : {S : Type 0} (A : Asks S) (s mid t : S) (old left now held holds sends : Option (List ℕ)) (count : ℕ) (line : List ℕ)
    → Progress A s mid old left held holds count → Consumes left now (line ++ end_of line) → IsLine line → count < 10000
    → Appends holds sends [] → (t ≡ mid) ⊎ ((answer : Option Answer) × Replied A mid (question line) answer t)
    → Starved A s t old now held sends
starved A s mid t old left now held holds sends count line p more is few nothing (inl same) = record {
  lines = p.lines;
  more = line ∷ [];
  answers = p.answers;
  read = read_more old left now p.lines line p.read more;
  one = omega arith;
  ran = inl (subst (λ v. Runs A s (questions p.lines) p.answers v) (sym same) p.ran);
  wrote = subst (Appends held sends) (append-nil (text_of (session p.lines p.answers))) (Appends-trans held holds sends _ [] p.wrote nothing);
  few = omega (arith, p.counted, few, length-append p.lines (line ∷ []));
  went_on = p.went_on;
  is = All-cons IsLine line [] is (All-nil IsLine);
}
starved A s mid t old left now held holds sends count line p more is few nothing (inr (answer, replied)) =
    let matched = Runs-length A s mid (questions p.lines) p.answers p.ran in
    record {
      lines = p.lines;
      more = line ∷ [];
      answers = p.answers ++ cons_option answer [];
      read = read_more old left now p.lines line p.read more;
      one = omega arith;
      ran = inr (Runs-push A s mid t p.lines line p.answers answer p.ran replied);
      wrote = subst (λ l. Appends held sends (text_of l)) (sym (session-kept p.lines p.answers answer matched))
          (subst (Appends held sends) (append-nil (text_of (session p.lines p.answers))) (Appends-trans held holds sends _ [] p.wrote nothing));
      few = omega (arith, p.counted, few, length-append p.lines (line ∷ []));
      went_on = p.went_on;
      is = All-cons IsLine line [] is (All-nil IsLine);
    }

-- what the answer to a line ends with, where it fails
abbrev Fails : SessionFault → Result Bool SessionFault
Fails fault = Err fault

-- the answer to the line failed
pub failed : {S : Type 0} (A : Asks S) (s mid t : S) (old left now held holds sends : Option (List ℕ)) (count : ℕ) (line : List ℕ) (fault : SessionFault)
    → Progress A s mid old left held holds count → Consumes left now (line ++ end_of line) × IsLine line → count < 10000
    → (Fails fault ≡ Fails Write → (answer : Option Answer) × Replied A mid (question line) answer t × ((front : List ℕ) × IsFront front (response (said line) answer ++ 10 ∷ []) × Appends holds sends front))
    → (Fails fault ≡ Fails Memory → Appends holds sends [] × ((t ≡ mid) ⊎ ((answer : Option Answer) × Replied A mid (question line) answer t)))
    → (Fails fault ≡ Fails Read → ⊥)
    → Serves A s t old now held sends (Err fault)
failed A s mid t old left now held holds sends count line Read p more few writes starves reads = absurd (reads refl)
failed A s mid t old left now held holds sends count line Write p more few writes starves reads = unwritten A s mid t old left now held holds sends count line p more.0 more.1 few (writes refl)
failed A s mid t old left now held holds sends count line Memory p more few writes starves reads =
    let why = starves refl in
    starved A s mid t old left now held holds sends count line p more.0 more.1 few why.0 why.1

pub starved_early : {S : Type 0} (A : Asks S) (s : S) (old held : Option (List ℕ)) → Starved A s s old old held held
unfolding questions session joined_after
starved_early A s old held = record {
  lines = [];
  more = [];
  answers = [];
  read = Consumes-nil old;
  one = omega arith;
  ran = inl refl;
  wrote = Appends-nil held;
  few = omega arith;
  went_on = All-nil GoesOn;
  is = All-nil IsLine;
}
