-- What the loop over the lines keeps, and what follows from it.
use Rattle.std.proofs.Common.{◌≡◌, ℕ, ◌+◌, ◌*◌, ◌<◌, ◌≤◌, false, List, [], ◌∷◌, ◌++◌, length, take, drop, refl, sym, ap, ◌∙◌, arith, append_assoc, append-nil, subst, None, Option}
use Rattle.std.proofs.lemmas.List.{take-append-drop, length-append, drop-drop}
use Rattle.std.proofs.Math.Seq.{take-add}
use Rattle.std.proofs.KnownBytes.{Appends-trans}
use Rattle.std.specs.Io.KnownBytes.{Appends}
use Rattle.ring_world.specs.State.{State}
use Rattle.line_words.specs.Texts.{text_of, IsFront}
use Rattle.line_words.specs.Words.{lines_of}
use Rattle.line_words.proofs.Texts.{text_of-append}
use Rattle.fault_console.proofs.Runs.{MayPrint-append, MayPrint-one, some_run, prints_a_line}
use Rattle.fault_console.specs.Commands.{is_silent}
use Rattle.fault_console.specs.Progress.{tickets_of}
use Rattle.fault_console.specs.Script.{LinePrints, MayPrint}
use Rattle.script_run.specs.Written.{IsWhole, IsCut, IsUpTo, Wrote}

-- the lines up to the next one, and those after it
cut_more : {A : Type 0} (xs : List A) (n : ℕ) (x : A) (more : List A) → drop n xs ≡ x ∷ more → (take (n + 1) xs ≡ take n xs ++ (x ∷ [])) × (drop (n + 1) xs ≡ more)
cut_more xs n x more e = (take-add n 1 xs ∙ ap (λ l. take n xs ++ take 1 l) e, sym (drop-drop 1 n xs) ∙ ap (drop 1) e)

-- so far: n lines of the script are obeyed, and what they print is written
pub record Progress (script rest : List ℕ) (old now : Option (List ℕ)) (s : Option State) (count : ℕ) : Type 0 where
  pub n : ℕ
  pub out : List (List ℕ)
  pub left : drop n (lines_of script) ≡ lines_of rest
  pub ran : MayPrint None (take n (lines_of script)) out s
  pub written : Appends old now (text_of out)
  pub counted : count ≡ length out
  pub tickets : tickets_of s ≤ n
  pub lines : count ≤ 1000002 * n
  pub few : n + length rest ≤ 1000000
  pub short : length script ≤ 1000000

-- one more line, of which m lines out are printed
pub go_on : (script rest after line : List ℕ) (old now new : Option (List ℕ)) (s t : Option State) (count m : ℕ) (out : List (List ℕ))
    → Progress script rest old now s count → lines_of rest ≡ line ∷ lines_of after → length after < length rest
    → LinePrints s line out t → m ≡ length out → tickets_of t ≤ tickets_of s + 1 → m ≤ tickets_of s + 2 → Appends now new (text_of out)
    → Progress script after old new t (count + m)
go_on script rest after line old now new s t count m out p first shorter prints counted tickets few wrote =
    let cut = cut_more (lines_of script) p.n line (lines_of after) (p.left ∙ first) in
    record {
      n = p.n + 1;
      out = p.out ++ out;
      left = cut.1;
      ran = subst (λ l. MayPrint None l (p.out ++ out) t) (sym cut.0) (MayPrint-append None s t (take p.n (lines_of script)) (line ∷ []) p.out out p.ran (MayPrint-one s t line out prints));
      written = subst (Appends old new) (sym (text_of-append p.out out)) (Appends-trans old now new (text_of p.out) (text_of out) p.written wrote);
      counted = omega (arith, p.counted, length-append p.out out);
      tickets = omega (arith, p.tickets);
      lines = omega (arith, p.lines, p.tickets, p.few);
      few = omega (arith, p.few);
      short = p.short;
    }

-- ---- what was written at the end

pub ends_whole : (script rest : List ℕ) (old now : Option (List ℕ)) (s : Option State) (count : ℕ) → Progress script rest old now s count → rest ≡ [] → Wrote old now (IsWhole script count)
ends_whole script rest old now s count p none =
    let all : take p.n (lines_of script) ≡ lines_of script =
    sym (append-nil (take p.n (lines_of script))) ∙ ap (λ l. take p.n (lines_of script) ++ l) (sym (p.left ∙ ap lines_of none)) ∙ take-append-drop p.n (lines_of script) in (
      text_of p.out,
      p.written,
      record { short = p.short; out = p.out; ring = s; prints = subst (λ l. MayPrint None l p.out s) all p.ran; text = refl; counted = p.counted },
    )

pub ends_up_to : (script rest after line : List ℕ) (old now : Option (List ℕ)) (s : Option State) (count : ℕ)
    → Progress script rest old now s count → lines_of rest ≡ line ∷ lines_of after → is_silent line ≡ false → Wrote old now (IsUpTo script)
ends_up_to script rest after line old now s count p first speaks = (
  text_of p.out,
  p.written,
  record {
    short = p.short;
    n = p.n;
    line = line;
    later = lines_of after;
    left = p.left ∙ first;
    out = p.out;
    ring = s;
    prints = p.ran;
    text = refl;
    greatest = λ more next prints. prints_a_line s line more next speaks prints;
  },
)

pub ends_cut : (script rest after line : List ℕ) (old now new : Option (List ℕ)) (s t : Option State) (count : ℕ) (out : List (List ℕ)) (front text : List ℕ)
    → Progress script rest old now s count → lines_of rest ≡ line ∷ lines_of after
    → LinePrints s line out t → text ≡ text_of out → IsFront front text → Appends now new front → Wrote old new (IsCut script)
ends_cut script rest after line old now new s t count out front text p first prints same is_front wrote =
    let more = some_run t (lines_of after) in
    let split : lines_of script ≡ take p.n (lines_of script) ++ (line ∷ lines_of after) =
    sym (take-append-drop p.n (lines_of script)) ∙ ap (λ l. take p.n (lines_of script) ++ l) (p.left ∙ first) in
    let all = p.out ++ (out ++ more.0) in
    let whole : text_of all ≡ (text_of p.out ++ front) ++ (is_front.0 ++ text_of more.0) =
    text_of-append p.out (out ++ more.0) ∙ ap (λ t. text_of p.out ++ t) (text_of-append out more.0 ∙ ap (λ t. t ++ text_of more.0) (sym same ∙ is_front.1) ∙ append_assoc front is_front.0 (text_of more.0))
    ∙ sym (append_assoc (text_of p.out) front (is_front.0 ++ text_of more.0)) in (
      text_of p.out ++ front,
      Appends-trans old now new (text_of p.out) front p.written wrote,
      record {
        short = p.short;
        out = all;
        ring = more.1;
        prints = subst (λ l. MayPrint None l all more.1) (sym split)
            (MayPrint-append None s more.1 (take p.n (lines_of script)) (line ∷ lines_of after) p.out (out ++ more.0) p.ran (out, t, more.0, prints, refl, more.2));
        front = (is_front.0 ++ text_of more.0, whole);
      },
    )

-- the buffer has the text of one line, as it was empty before
pub fresh_text : (text out cleared t : List ℕ) → text ≡ out → cleared ≡ [] → out ≡ cleared ++ t → text ≡ t
fresh_text text out cleared t same none grown = same ∙ grown ∙ ap (λ l. l ++ t) none

pub nothing_left : (rest : List ℕ) → length rest ≡ 0 → rest ≡ []
nothing_left [] e = refl
nothing_left (x ∷ xs) e = absurd (omega arith)
