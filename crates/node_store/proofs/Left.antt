-- What a stop leaves of a node, by its desk and by its history, and what a desk shows that is opened with it.
use Rattle.std.proofs.Common.{◌≡◌, ◌+◌, ◌≤◌, ℕ, Bool, true, false, List, [], ◌∷◌, ◌++◌, length, take, drop, None, refl, sym, ◌∙◌, ap, subst, arith}
use Rattle.std.proofs.Math.Seq.{take-add}
use Rattle.std.proofs.lemmas.List.{take-append-drop, take-take, drop-drop, length-append}
use Rattle.ring_records.specs.declared.base.Base.{Base}
use Rattle.ring_records.specs.declared.input.Input.{Input}
use Rattle.ring_records.specs.declared.refusal.Refusal.{Refusal}
use Rattle.ring_records.specs.Admission.{area_bytes}
use Rattle.ring_records.specs.Lawful.{IsBaseOf, IsAdmitted, IsLawful, IsNodeState, IsLawfulState}
use Rattle.ring_records.specs.Allowed.{IsAllowed}
use Rattle.ring_records.specs.Known.{after}
use Rattle.ring_records.specs.Lists.{EachAfter}
use Rattle.ring_records.specs.Member.{Member}
use Rattle.ring_records.specs.States.{NodeState, launched_base, durable_in, flown_in, opened, left_by}
use Rattle.ring_records.specs.Summary.{summary}
use Rattle.ring_records.proofs.Growth.{EachAfter-take}
use Rattle.ring_records.proofs.States.{lawful-left, next-few}
use Rattle.gated_journal.specs.Areas.{ReadsAsOneOf}
use Rattle.gated_journal.specs.Reading.{Reading}
use Rattle.group_commit.specs.Desk.{DeskKept, core_of, first_base, new_desk, seen}
use Rattle.group_commit.specs.Opening.{IsUnlawful}
use Rattle.group_commit.specs.Past.{IsPast, moved, shifted}
use Rattle.group_commit.proofs.New.{no_unlawful}
use Rattle.group_commit.proofs.Past.{take-front, durable-shifted, launched-shifted}
use Rattle.group_commit.proofs.Seen.{flown-shifted, past_first}
use Rattle.group_commit.proofs.Settling.{drop-front}
use Rattle.node_store.specs.State.{IsOpenedAs, MayBeLeft, ReadsAsLeft, area_with, durable_held, flown_held, reading_of}

-- ---- where the opening is the summary of a past

module _ (desk : DeskKept) (past : List Input) (counts : IsNodeState desk.view.state) (is : IsPast desk.view.member desk.opening past) (lawful : IsLawfulState desk.view.member (seen past desk).state) where
  abbrev me : ℕ
  me = desk.view.member.node

  abbrev s : NodeState
  s = desk.view.state

  -- what the area of a base holds with the first k inputs since the opening is what the journal holds of the whole history
  held_read : (base : Base) (k : ℕ) → base.inputs ≤ k → reading_of me (opened (moved (length past) base) (past ++ take k s.inputs)) ≡ area_with desk base (take k s.inputs)
  held_read base k few =
      let l : List Input = take k s.inputs in
      let first : take (length past + base.inputs) (past ++ l) ≡ past ++ take base.inputs l =
      take-add (length past) base.inputs (past ++ l) ∙ (λ i. take-front past l i ++ take base.inputs (drop-front past l i)) in
      let rest : drop (length past + base.inputs) (past ++ l) ≡ drop base.inputs l = sym (drop-drop base.inputs (length past) (past ++ l)) ∙ ap (drop base.inputs) (drop-front past l) in
      let again : take base.inputs l ≡ take base.inputs s.inputs = take-take base.inputs k s.inputs few in
      let knows : after me desk.opening (take base.inputs s.inputs) ≡ summary me (past ++ take base.inputs s.inputs) = (past_first past desk base.inputs is lawful).summed in
      let summed : summary me (take (length past + base.inputs) (past ++ l)) ≡ after me desk.opening (take base.inputs l) =
      ap (summary me) first ∙ (ap (λ (g : List Input). summary me (past ++ g)) again ∙ (sym knows ∙ ap (after me desk.opening) (sym again))) in
      λ i. record { layout = base.layout; epoch = base.epoch; base = summed i; inputs = rest i }

  -- with the durable inputs
  durable_read : reading_of me (left_by false (shifted past s)) ≡ durable_held desk
  durable_read = ap (λ l. reading_of me (opened (moved (length past) s.base) l)) (durable-shifted past s) ∙ held_read s.base s.durable counts.based

  -- with what flies too
  flown_read : reading_of me (left_by true (shifted past s)) ≡ flown_held desk
  flown_read =
      (λ i. reading_of me (opened (launched-shifted past s i) (flown-shifted past s i)))
      ∙ held_read (launched_base s) s.flying (next-few s counts)

  left_read : (image : List ℕ) → ReadsAsOneOf desk.view.member (durable_held desk) (flown_held desk) image → ReadsAsLeft desk.view.member (shifted past s) image
  left_read image read = subst (λ (r : Reading). ReadsAsOneOf desk.view.member r (reading_of me (left_by true (shifted past s))) image) (sym durable_read)
      (subst (λ (r : Reading). ReadsAsOneOf desk.view.member (durable_held desk) r image) (sym flown_read) read)

-- so an image that reads as one of both may be left of a node whose history is lawful
pub may_be_left : (desk : DeskKept) (image : List ℕ) → IsNodeState desk.view.state
    → ((past : List Input) → IsPast desk.view.member desk.opening past → IsLawfulState desk.view.member (seen past desk).state)
    → ReadsAsOneOf desk.view.member (durable_held desk) (flown_held desk) image → MayBeLeft desk image
may_be_left desk image counts lawful read = record { read = read; left = λ past is. record { lawful = lawful past is; reads = left_read desk past counts is (lawful past is) image read } }

-- ---- what a desk shows that is opened with what the journal holds in a state

pub allowed_in : (m : Member) (base : Base) (before l : List Input) → EachAfter (IsAdmitted m.node m.n m.capacity base) before l → EachAfter (IsAllowed m.node m.n) before l
unfolding EachAfter
allowed_in m base before [] each = tt
allowed_in m base before (x ∷ l) each = (each.0.allowed, allowed_in m base (before ++ x ∷ []) l each.1)

-- its opening is the summary of its first inputs
past_of : (m : Member) (base : Base) (l : List Input) → IsLawful m.node m.n m.capacity base l → IsPast m (summary m.node (take base.inputs l)) (take base.inputs l)
unfolding IsLawful
past_of m base l lawful = record { summed = refl; allowed = EachAfter-take (IsAllowed m.node m.n) base.inputs l (allowed_in m base [] l lawful) }

-- its area stands for these
moved_first : (me : ℕ) (base : Base) (l : List Input) → IsBaseOf me base l → moved (length (take base.inputs l)) (first_base base.layout base.epoch (summary me (take base.inputs l))) ≡ base
moved_first me base l of =
    let count : length (take base.inputs l) + 0 ≡ length (take base.inputs l) = omega arith in
    (λ i. record { layout = base.layout; epoch = base.epoch; inputs = count i; bytes = area_bytes base.layout (summary me (take base.inputs l)) }) ∙ sym of.is

opened_as_it : (m : Member) (run : ℕ) (base : Base) (l : List Input) → IsBaseOf m.node base l → IsLawful m.node m.n m.capacity base l
    → IsOpenedAs m run (opened base l) (new_desk m run (reading_of m.node (opened base l)))
opened_as_it m run base l of lawful =
    let front = take base.inputs l in
    let rest = drop base.inputs l in
    let whole : front ++ rest ≡ l = take-append-drop base.inputs l in
    let count : length front + length rest ≡ length l = sym (length-append front rest) ∙ ap length whole in
    record {
      kept = refl;
      past = past_of m base l lawful;
      shows = λ i. record {
        member = m;
        run = run;
        state = record { inputs = whole i; durable = count i; flying = count i; base = moved_first m.node base l of i; checkpoint = None };
        tickets = [];
        issued = 0;
        closed = false;
        failed = false;
      };
    }

-- nor is it refused for one of its inputs
free_of_it : (m : Member) (base : Base) (l : List Input) (why : Refusal) → IsBaseOf m.node base l → IsLawful m.node m.n m.capacity base l
    → IsUnlawful (core_of m (reading_of m.node (opened base l))) (drop base.inputs l) why → ⊥
free_of_it m base l why of lawful un =
    let front = take base.inputs l in
    let first = first_base base.layout base.epoch (summary m.node front) in
    let here : IsLawful m.node m.n m.capacity base (front ++ drop base.inputs l) = subst (IsLawful m.node m.n m.capacity base) (sym (take-append-drop base.inputs l)) lawful in
    let behind : IsLawful m.node m.n m.capacity (moved (length front) first) (front ++ drop base.inputs l) =
    subst (λ (b : Base). IsLawful m.node m.n m.capacity b (front ++ drop base.inputs l)) (sym (moved_first m.node base l of)) here in
    no_unlawful m (summary m.node front) first front (drop base.inputs l) why refl (past_of m base l lawful) behind un

pub opened_as : (m : Member) (run : ℕ) (s : NodeState) (keep : Bool) → IsLawfulState m s → IsOpenedAs m run (left_by keep s) (new_desk m run (reading_of m.node (left_by keep s)))
opened_as m run s false lawful = let left = lawful-left m false s lawful in opened_as_it m run s.base (durable_in s) left.next left.all
opened_as m run s true lawful = let left = lawful-left m true s lawful in opened_as_it m run (launched_base s) (flown_in s) left.next left.all

pub free_of : (m : Member) (s : NodeState) (keep : Bool) (why : Refusal) → IsLawfulState m s
    → IsUnlawful (core_of m (reading_of m.node (left_by keep s))) (reading_of m.node (left_by keep s)).inputs why → ⊥
free_of m s false why lawful un = let left = lawful-left m false s lawful in free_of_it m s.base (durable_in s) why left.next left.all un
free_of m s true why lawful un = let left = lawful-left m true s lawful in free_of_it m (launched_base s) (flown_in s) why left.next left.all un
