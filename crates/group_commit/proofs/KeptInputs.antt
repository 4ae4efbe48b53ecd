-- What a desk keeps of its inputs since its opening, while it goes on.
use Rattle.std.proofs.Common.{◌≡◌, ℕ, ◌+◌, ◌-◌, ◌≤◌, ◌<◌, List, [], ◌∷◌, ◌++◌, length, take, drop, true, Option, Some, None, refl, sym, ap, ◌∙◌, subst, arith}
use Rattle.std.specs.Prelude.{is_some, unwrap_or}
use Rattle.std.specs.List.{slice_get}
use Rattle.std.proofs.lemmas.List.{length-take-le, take_all, take-append-le, take-append-drop}
use Rattle.std.proofs.lemmas.List.Sums.{fold-append}
use Rattle.std.proofs.lemmas.Option.{same_Some}
use Rattle.ring_records.specs.declared.base.Base.{Base}
use Rattle.ring_records.specs.declared.input.Input.{Input}
use Rattle.ring_records.specs.declared.input.Input.TheVariants.{Stand, Take, Acked, Retire}
use Rattle.ring_records.specs.declared.summary.Summary.{Summary}
use Rattle.ring_records.specs.Known.{after, stepped}
use Rattle.ring_records.specs.Member.{Member}
use Rattle.ring_records.specs.Snapshot.{IsSound}
use Rattle.ring_records.specs.States.{NodeState, launched_base}
use Rattle.ring_records.specs.Lawful.{IsNodeState}
use Rattle.ring_records.proofs.Lists.{none≢some}
use Rattle.node_core.specs.Core.{CoreView, IsNodeOf}
use Rattle.group_commit.specs.Inputs.{IsKept, KeepsMarks}
use Rattle.group_commit.specs.Kept.{state_with}
use Rattle.group_commit.specs.Since.{IsKnownState}
use Rattle.group_commit.specs.CoreOf.{core_in}
use Rattle.group_commit.specs.Vouch.{IsInput}
use Rattle.group_commit.specs.declared.inputs.Inputs.{Inputs}
use Rattle.group_commit.proofs.Landing.{part, part-joins}
use Rattle.ring_records.proofs.Growth.{slice_get-behind}

-- ---- counts

one_more : (me : ℕ) (s : Summary) (x : Input) → (stepped me s x).inputs ≡ s.inputs + 1
one_more me s (Stand key bid) = refl
one_more me s (Take msg_no msg) = refl
one_more me s (Acked upto) = refl
one_more me s (Retire group new) = refl

-- each input since is counted
pub after-inputs : (me : ℕ) (s : Summary) (l : List Input) → (after me s l).inputs ≡ s.inputs + length l
after-inputs me s [] = omega arith
after-inputs me s (x ∷ l) =
    let rest : (after me (stepped me s x) l).inputs ≡ (stepped me s x).inputs + length l = after-inputs me (stepped me s x) l in
    omega (arith, rest, one_more me s x)

-- a core counts those since the opening, and more
pub counted : (m : Member) (opening : Summary) (s : NodeState) (core : CoreView) → core ≡ core_in m opening s → length s.inputs ≤ core.known.inputs
counted m opening s core is =
    let same : core.known.inputs ≡ (after m.node opening s.inputs).inputs = λ i. (is i).known.inputs in
    let all = after-inputs m.node opening s.inputs in
    omega (arith, same, all)

-- ---- the inputs that are kept

-- what is known by the first inputs, and then by those behind them
pub after-part : (me start end : ℕ) (s : Summary) (l : List Input) → start ≤ end → after me (after me s (take start l)) (part start end l) ≡ after me s (take end l)
after-part me start end s l order = sym (fold-append (stepped me) s (take start l) (part start end l)) ∙ ap (after me s) (part-joins start end l order)

-- an input behind the first
pub slice_get-drop : (first k : ℕ) (l : List Input) → first ≤ length l → slice_get (drop first l) k ≡ slice_get l (first + k)
slice_get-drop first k l within =
    let size = length-take-le first l within in
    sym (ap (λ n. slice_get l (n + k)) (sym size) ∙ (ap (λ g. slice_get g (length (take first l) + k)) (sym (take-append-drop first l)) ∙ slice_get-behind (take first l) (drop first l) k))

-- so it has a number among all, and one among those that are kept
pub input_of : (gone k : ℕ) (l : List Input) (x : Input) → gone ≤ length l → IsInput (drop gone l) (k - gone) x → (gone < k) × IsInput l k x
input_of gone k l x within there =
    let number = there.number in (
      omega (arith, number),
      record { before = gone + there.before; number = omega (arith, number); there = sym (slice_get-drop gone there.before l within) ∙ there.there },
    )

pub input_kept : (gone k : ℕ) (l : List Input) (x : Input) → gone ≤ length l → gone < k → IsInput l k x → IsInput (drop gone l) (k - gone) x
input_kept gone k l x within above there =
    let number = there.number in
    let back : gone + (there.before - gone) ≡ there.before = omega (arith, number, above) in
    record { before = there.before - gone; number = omega (arith, number, above); there = slice_get-drop gone (there.before - gone) l within ∙ (ap (slice_get l) back ∙ there.there) }

-- ---- what happens

-- it is opened
pub kept_none : (m : Member) (opening : Summary) (base : Base) (l : List Input) (durable flying : ℕ) (i : Inputs) → base.inputs ≡ 0 → i.gone ≡ 0 → i.known ≡ None → i.mark ≡ None
    → IsKept m opening (state_with base l durable flying None) i
kept_none m opening base l durable flying i none gone known mark = record {
  gone = omega (arith, gone);
  none = λ e. gone;
  known = λ k e. none≢some k (sym known ∙ e);
  unmarked = λ e. (refl, gone ∙ sym none);
  marked = λ k e. none≢some k (sym mark ∙ e);
  mark = λ k e. none≢some k (sym mark ∙ e);
}

-- more inputs are accepted
pub kept_more : (m : Member) (opening : Summary) (s : NodeState) (more : List Input) (i j : Inputs) → IsKnownState m opening s → KeepsMarks i j → IsKept m opening s i
    → IsKept m opening (record s { inputs = s.inputs ++ more }) j
kept_more m opening s more i j known same kept =
    let counts = known.counts in
    let next = known.next.within in
    let front : (n : ℕ) → n ≤ length s.inputs → after m.node opening (take n s.inputs) ≡ after m.node opening (take n (s.inputs ++ more)) = λ n within. ap (after m.node opening) (sym (take-append-le n s.inputs more within)) in
    record {
      gone = (let g = same.gone in let k = kept.gone in omega arith);
      none = λ e. same.gone ∙ kept.none (sym same.known ∙ e);
      known = λ k e. (
        (kept.known k (sym same.known ∙ e)).0
            ∙ (front i.gone (let g = kept.gone in let a = counts.based in let b = counts.durable in let c = counts.flying in omega arith)
            ∙ ap (λ n. after m.node opening (take n (s.inputs ++ more))) (sym same.gone)),
        (kept.known k (sym same.known ∙ e)).1,
      );
      unmarked = λ e. ((kept.unmarked (sym same.mark ∙ e)).0, same.gone ∙ (kept.unmarked (sym same.mark ∙ e)).1);
      marked = λ k e. same.marked ∙ kept.marked k (sym same.mark ∙ e);
      mark = λ k e. (
        (kept.mark k (sym same.mark ∙ e)).0
            ∙ (front i.marked (let n = kept.marked k (sym same.mark ∙ e) in omega (arith, n, next))
            ∙ ap (λ n. after m.node opening (take n (s.inputs ++ more))) (sym same.marked)),
        (kept.mark k (sym same.mark ∙ e)).1,
      );
    }

-- a batch flies
pub kept_launched : (m : Member) (opening : Summary) (base : Base) (l : List Input) (durable flying k : ℕ) (pending : Option ℕ) (i : Inputs) → pending ≡ None
    → IsKept m opening (state_with base l durable flying pending) i → IsKept m opening (state_with base l durable k pending) i
kept_launched m opening base l durable flying k (Some bytes) i none kept = none≢some bytes (sym none)
kept_launched m opening base l durable flying k None i none kept = record {
  gone = kept.gone;
  none = kept.none;
  known = kept.known;
  unmarked = kept.unmarked;
  marked = kept.marked;
  mark = kept.mark;
}

-- all fly, as a checkpoint, with the summary of all
pub kept_all : (m : Member) (opening : Summary) (base : Base) (l : List Input) (durable flying count bytes : ℕ) (pending : Option ℕ) (known : Summary) (i j : Inputs) → count ≡ length l
    → known ≡ after m.node opening l → (IsNodeOf m.n m.node → IsSound m.n known)
    → j.gone ≡ i.gone → j.known ≡ i.known → j.marked ≡ length l → j.mark ≡ Some known
    → IsKept m opening (state_with base l durable flying pending) i → IsKept m opening (state_with base l durable count (Some bytes)) j
kept_all m opening base l durable flying count bytes pending known i j all knows sound gone same marked mark kept = record {
  gone = (let k = kept.gone in omega (arith, k, gone));
  none = λ e. gone ∙ kept.none (sym same ∙ e);
  known = λ k e. (
    (kept.known k (sym same ∙ e)).0 ∙ ap (λ n. after m.node opening (take n l)) (sym gone),
    (kept.known k (sym same ∙ e)).1,
  );
  unmarked = λ e. none≢some known (sym e ∙ mark);
  marked = λ k e. marked ∙ sym all;
  mark = λ k e.
      let is : known ≡ k = same_Some known k (sym mark ∙ e) in (
        sym is ∙ (knows ∙ ap (after m.node opening) (sym (take_all j.marked l (omega (arith, marked))))),
        λ inside. subst (IsSound m.n) is (sound inside),
      );
}

-- what flies is durable
pub kept_landed : (m : Member) (opening : Summary) (s : NodeState) (i : Inputs) → IsNodeState s → IsKept m opening s i
    → IsKept m opening (state_with (launched_base s) s.inputs s.flying s.flying None) i
kept_landed m opening s i counts kept = record {
  gone = more s.checkpoint refl;
  none = kept.none;
  known = kept.known;
  unmarked = λ e. (refl, (kept.unmarked e).1 ∙ ap (λ (o : Option Base). (unwrap_or o s.base).inputs) (sym (kept.unmarked e).0));
  marked = kept.marked;
  mark = kept.mark;
}
  where
    more : (o : Option Base) → s.checkpoint ≡ o → i.gone ≤ (unwrap_or s.checkpoint s.base).inputs
    more None e = subst (λ (o : Option Base). i.gone ≤ (unwrap_or o s.base).inputs) (sym e) kept.gone
    more (Some b) e =
        let all = counts.checkpointed b e in
        let based = counts.based in
        let durable = counts.durable in
        let gone = kept.gone in
        subst (λ (o : Option Base). i.gone ≤ (unwrap_or o s.base).inputs) (sym e) (omega (arith, all, based, durable, gone))

-- what the area in use stands for is gone
pub kept_gone : (m : Member) (opening : Summary) (base : Base) (l : List Input) (durable flying : ℕ) (pending : Option ℕ) (i j : Inputs) → pending ≡ None → IsNodeOf m.n m.node
    → (i.mark ≡ None → (j.gone ≡ i.gone) × (j.known ≡ i.known)) → (is_some i.mark ≡ true → (j.gone ≡ i.marked) × (j.known ≡ i.mark)) → j.mark ≡ None
    → IsKept m opening (state_with base l durable flying pending) i → IsKept m opening (state_with base l durable flying pending) j × (j.gone ≡ base.inputs)
kept_gone m opening base l durable flying (Some bytes) i j none inside stays goes unmarked kept = none≢some bytes (sym none)
kept_gone m opening base l durable flying None i j none inside stays goes unmarked kept = by_mark i.mark refl
  where
    by_mark : (o : Option Summary) → i.mark ≡ o → IsKept m opening (state_with base l durable flying None) j × (j.gone ≡ base.inputs)
    by_mark None e =
        let same = stays e in
        let all : j.gone ≡ base.inputs = same.0 ∙ (kept.unmarked e).1 in (
          record {
            gone = omega (arith, all);
            none = λ n. same.0 ∙ kept.none (sym same.1 ∙ n);
            known = λ k n. (
              (kept.known k (sym same.1 ∙ n)).0 ∙ ap (λ g. after m.node opening (take g l)) (sym same.0),
              (kept.known k (sym same.1 ∙ n)).1,
            );
            unmarked = λ n. (refl, all);
            marked = λ k n. none≢some k (sym unmarked ∙ n);
            mark = λ k n. none≢some k (sym unmarked ∙ n);
          },
          all,
        )
    by_mark (Some k) e =
        let next = goes (ap is_some e) in
        let all : j.gone ≡ base.inputs = next.0 ∙ kept.marked k e in (
          record {
            gone = omega (arith, all);
            none = λ n. none≢some k (sym n ∙ (next.1 ∙ e));
            known = λ t n. (
              (kept.mark t (sym next.1 ∙ n)).0 ∙ ap (λ g. after m.node opening (take g l)) (sym next.0),
              (kept.mark t (sym next.1 ∙ n)).1 inside,
            );
            unmarked = λ n. (refl, all);
            marked = λ t n. none≢some t (sym unmarked ∙ n);
            mark = λ t n. none≢some t (sym unmarked ∙ n);
          },
          all,
        )
