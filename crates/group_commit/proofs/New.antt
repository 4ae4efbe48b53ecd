-- A desk that was opened with no summarised input, for those who hold one: it has no past.
use Rattle.std.proofs.Common.{◌≡◌, ◌+◌, List, [], ◌∷◌, ◌++◌, append_assoc, length, take, drop, Option, Some, None, refl, sym, ap, ◌∙◌, subst, arith}
use Rattle.std.specs.Option.{option_map}
use Rattle.std.proofs.lemmas.List.{length-append}
use Rattle.std.proofs.lemmas.Option.{slice_get_within, get_or_from_slice_get}
use Rattle.ring_records.specs.declared.base.Base.{Base}
use Rattle.ring_records.specs.declared.input.Input.{Input}
use Rattle.ring_records.specs.declared.refusal.Refusal.{Refusal}
use Rattle.ring_records.specs.declared.summary.Summary.{Summary}
use Rattle.ring_records.specs.Lawful.{IsAdmitted, IsLawful}
use Rattle.ring_records.specs.Lists.{EachAfter}
use Rattle.ring_records.specs.Member.{Member}
use Rattle.ring_records.specs.States.{NodeState}
use Rattle.ring_records.specs.Summary.{empty}
use Rattle.ring_records.proofs.Admission.{admitted-free}
use Rattle.ring_records.proofs.Growth.{EachAfter-at}
use Rattle.ring_records.proofs.Lists.{none≢some}
use Rattle.ring_records.proofs.Iteration.{IsItem, cut-item}
use Rattle.ring_records.proofs.Sound.{summary-none}
use Rattle.group_commit.specs.Desk.{DeskKept, seen}
use Rattle.group_commit.specs.Opening.{opened_core, core_after, IsUnlawful}
use Rattle.group_commit.specs.CoreOf.{IsOf}
use Rattle.group_commit.specs.Past.{IsPast, moved, shifted}
use Rattle.group_commit.proofs.Past.{follows, free_since, refused-is, room-moved}
use Rattle.group_commit.proofs.Since.{lawful_opened, room-since}

-- no inputs are its past
pub no_past : (m : Member) (opening : Summary) → opening ≡ empty → IsPast m opening []
unfolding EachAfter
no_past m opening is = record { summed = is ∙ sym (summary-none m.node); allowed = tt }

-- ---- what it shows is what it shows of its whole history

pub moved_none : (b : Base) → moved 0 b ≡ b
moved_none b = let same : 0 + b.inputs ≡ b.inputs = omega arith in λ i. record b { inputs = same i }

moved_some : (o : Option Base) → option_map (moved 0) o ≡ o
moved_some None = refl
moved_some (Some b) = ap Some (moved_none b)

pub shifted_none : (s : NodeState) → shifted [] s ≡ s
shifted_none s =
    let durable : 0 + s.durable ≡ s.durable = omega arith in
    let flying : 0 + s.flying ≡ s.flying = omega arith in
    λ i. record { inputs = s.inputs; durable = durable i; flying = flying i; base = moved_none s.base i; checkpoint = moved_some s.checkpoint i }

pub seen_none : (desk : DeskKept) → seen [] desk ≡ desk.view
seen_none desk = λ i. record desk.view { state = shifted_none desk.view.state i }

-- ---- what is opened again

-- an opening whose inputs go on lawfully from its past is not refused for one of them
pub no_unlawful : (m : Member) (opening : Summary) (base : Base) (past l : List Input) (why : Refusal) → base.inputs ≡ 0 → IsPast m opening past
    → IsLawful m.node m.n m.capacity (moved (length past) base) (past ++ l)
    → IsUnlawful (opened_core m opening base) l why → ⊥
unfolding IsLawful
no_unlawful m opening base past l why none is lawful un =
    let c = moved (length past) base in
    let front = take un.index l in
    let here : IsItem l un.index un.input = record { within = slice_get_within l un.index un.input un.there; is = sym (get_or_from_slice_get l un.index un.input un.input un.there) } in
    let cut : past ++ l ≡ (past ++ front) ++ un.input ∷ drop (un.index + 1) l =
    ap (λ k. past ++ k) (cut-item l un.index un.input here ∙ append_assoc front (un.input ∷ []) (drop (un.index + 1) l)) ∙ sym (append_assoc past front (un.input ∷ drop (un.index + 1) l)) in
    let admitted = EachAfter-at (IsAdmitted m.node m.n m.capacity c) [] (past ++ front) un.input (drop (un.index + 1) l) (subst (EachAfter (IsAdmitted m.node m.n m.capacity c) []) cut lawful) in
    let f = follows m opening past front is (free_since m opening base front (lawful_opened m opening base front none un.before)) in
    let sum = length-append past front in
    let of : IsOf (core_after (opened_core m opening base) front) c (past ++ front) = record {
      knows = f.knows;
      room = room-since base front none ∙ sym (room-moved base past front);
      within = omega (arith, none, sum);
      allowed = f.allowed;
    } in
    none≢some un.refused_for (sym (admitted-free m.node m.n m.capacity c (past ++ front) un.input admitted)
    ∙ sym (refused-is (core_after (opened_core m opening base) front) c (past ++ front) un.input (Some un.refused_for) of un.because))
