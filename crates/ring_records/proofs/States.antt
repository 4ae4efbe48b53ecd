-- What happens to a durable node keeps its state lawful.
use Rattle.std.proofs.Common.{◌≡◌, ℕ, ◌+◌, ◌≤◌, min, Bool, true, false, ◌&&◌, List, [], ◌∷◌, ◌++◌, length, take, Option, Some, None, refl, sym, ap, ◌∙◌, subst, append-nil, arith}
use Rattle.std.specs.Prelude.{unwrap_or, is_none, nat_eq}
use Rattle.std.proofs.lemmas.List.{length-append, length-take, take_all, take-take, take-append-le}
use Rattle.std.proofs.lemmas.Option.{same_Some}
use Rattle.ring_records.specs.declared.base.Base.{Base}
use Rattle.ring_records.specs.declared.input.Input.{Input}
use Rattle.ring_records.specs.declared.refusal.Refusal.{Refusal}
use Rattle.ring_records.specs.declared.request.Request.{Request}
use Rattle.ring_records.specs.Admission.{base_of, fresh, newest}
use Rattle.ring_records.specs.Lawful.{IsBaseOf, Fits, IsAdmitted, IsLawful, IsNodeState, IsLawfulState}
use Rattle.ring_records.specs.Answering.{refusal, if_input, gained}
use Rattle.ring_records.specs.Answer.{input_of, if_free}
use Rattle.ring_records.specs.Answer as by_rule
use Rattle.ring_records.specs.Lists.{EachAfter}
use Rattle.ring_records.specs.Member.{Member}
use Rattle.ring_records.specs.States.{NodeState, launched_base, is_idle, durable_in, flown_in, opened, launched, landed, left_by}
use Rattle.ring_records.specs.Serving.{gained_by}
use Rattle.ring_records.specs.Launching.{asked, next_base, launched_all}
use Rattle.ring_records.specs.Summary.{summary}
use Rattle.ring_records.proofs.Admission.{refusal-admitted}
use Rattle.ring_records.proofs.Growth.{EachAfter-take}
use Rattle.ring_records.proofs.Lists.{EachAfter-push, none≢some}
use Rattle.ring_records.proofs.Sound.{summary-none}

-- ---- bases

-- that of a new node stands for no input of whatever history
pub base-fresh : (me : ℕ) (h : List Input) → IsBaseOf me fresh h
base-fresh me h = record { within = omega arith; is = ap (base_of newest 1) (sym (summary-none me)) }

-- a base of two histories that begin alike so far
base-same : (me : ℕ) (b : Base) (g h : List Input) → b.inputs ≤ length h → take b.inputs h ≡ take b.inputs g → IsBaseOf me b g → IsBaseOf me b h
base-same me b g h within same of = record {
  within = within;
  is = of.is ∙ ap (λ (l : List Input). base_of b.layout b.epoch (summary me l)) (sym same);
}

pub base-grown : (me : ℕ) (b : Base) (h more : List Input) → IsBaseOf me b h → IsBaseOf me b (h ++ more)
base-grown me b h more of = base-same me b h (h ++ more) (let w = of.within in let l = length-append h more in omega arith) (take-append-le b.inputs h more of.within) of

pub base-first : (me : ℕ) (b : Base) (k : ℕ) (h : List Input) → b.inputs ≤ k → IsBaseOf me b h → IsBaseOf me b (take k h)
base-first me b k h few of = base-same me b h (take k h) (let w = of.within in let l = length-take k h in omega arith) (take-take b.inputs k h few) of

pub base-next : (me : ℕ) (b : Base) (h : List Input) → IsBaseOf me (next_base me b h) h
base-next me b h = record {
  within = omega arith;
  is = ap (λ (l : List Input). next_base me b l) (sym (take_all (length h) h (omega arith)));
}

-- ---- lawful histories

pub lawful-first : (me n capacity : ℕ) (b : Base) (k : ℕ) (h : List Input) → IsLawful me n capacity b h → IsLawful me n capacity b (take k h)
unfolding IsLawful
lawful-first me n capacity b k h lawful = EachAfter-take (IsAdmitted me n capacity b) k h lawful

pub lawful-gained : (me n capacity : ℕ) (b : Base) (h : List Input) (q : Request) → IsLawful me n capacity b h → IsLawful me n capacity b (h ++ gained me n capacity b h q)
unfolding IsLawful by_rule.gained
lawful-gained me n capacity b h q lawful = asks (input_of q)
  where
    free : (x : Input) (o : Option Refusal) → refusal me n capacity b h x ≡ o → EachAfter (IsAdmitted me n capacity b) [] (h ++ if_free o x)
    free x None e = EachAfter-push (IsAdmitted me n capacity b) [] h x lawful (refusal-admitted me n capacity b h x e)
    free x (Some why) e = subst (EachAfter (IsAdmitted me n capacity b) []) (sym (append-nil h)) lawful

    asks : (o : Option Input) → EachAfter (IsAdmitted me n capacity b) [] (h ++ if_input me n capacity b h o)
    asks None = subst (EachAfter (IsAdmitted me n capacity b) []) (sym (append-nil h)) lawful
    asks (Some x) = free x (refusal me n capacity b h x) refl

-- a base asks no room of what it stands for, so where it stands for all of them the inputs are lawful with it
rebased : (me n capacity : ℕ) (b c : Base) (before h : List Input) → length before + length h ≤ c.inputs → EachAfter (IsAdmitted me n capacity b) before h
    → EachAfter (IsAdmitted me n capacity c) before h
unfolding EachAfter Fits
rebased me n capacity b c before [] all each = tt
rebased me n capacity b c before (x ∷ h) all each = (
  record { allowed = each.0.allowed; fits = λ within. absurd (omega arith) },
  rebased me n capacity b c (before ++ x ∷ []) h (let l = length-append before (x ∷ []) in omega arith) each.1,
)

pub lawful-rebased : (me n capacity : ℕ) (b c : Base) (h : List Input) → length h ≤ c.inputs → IsLawful me n capacity b h → IsLawful me n capacity c h
unfolding IsLawful
lawful-rebased me n capacity b c h all lawful = rebased me n capacity b c [] h (omega arith) lawful

-- ---- the state

pub idle-none : (s : NodeState) → is_idle s ≡ true → s.checkpoint ≡ None
idle-none s idle = none s.checkpoint (second (nat_eq s.flying s.durable) (is_none s.checkpoint) idle)
  where
    second : (a b : Bool) → (a && b) ≡ true → b ≡ true
    second true b e = e
    second false b e = absurd cc

    none : (o : Option Base) → is_none o ≡ true → o ≡ None
    none None e = refl
    none (Some b) e = absurd cc

pub idle-base : (s : NodeState) → is_idle s ≡ true → launched_base s ≡ s.base
idle-base s idle = ap (λ o. unwrap_or o s.base) (idle-none s idle)

-- the next area stands for no more than is durable or flies
pub next-few : (s : NodeState) → IsNodeState s → (launched_base s).inputs ≤ s.flying
next-few s counts = go s.checkpoint refl
  where
    go : (o : Option Base) → s.checkpoint ≡ o → (unwrap_or o s.base).inputs ≤ s.flying
    go None e = let d = counts.durable in let b = counts.based in omega arith
    go (Some b) e = let same = counts.checkpointed b e in omega arith

never : {C : Type 0} (o : Option Base) (b : Base) → o ≡ None → o ≡ Some b → C
never o b none some = none≢some b (sym none ∙ some)

-- ---- what happens

pub lawful-opened : (m : Member) (b : Base) (l : List Input) → IsBaseOf m.node b l → IsLawful m.node m.n m.capacity b l → IsLawfulState m (opened b l)
lawful-opened m b l of lawful =
    let whole : take (length l) l ≡ l = take_all (length l) l (omega arith) in
    record {
      counts = record { durable = omega arith; flying = omega arith; based = of.within; checkpointed = λ c e. none≢some c e };
      base = subst (IsBaseOf m.node b) (sym whole) of;
      next = of;
      held = subst (IsLawful m.node m.n m.capacity b) (sym whole) lawful;
      all = lawful;
    }

pub lawful-asked : (m : Member) (s : NodeState) (q : Request) → IsLawfulState m s → IsLawfulState m (asked m s q)
lawful-asked m s q lawful =
    let counts = lawful.counts in
    let more : List Input = gained_by m s q in
    let durable : take s.durable (s.inputs ++ more) ≡ durable_in s = take-append-le s.durable s.inputs more (let d = counts.durable in let f = counts.flying in omega arith) in
    let flown : take s.flying (s.inputs ++ more) ≡ flown_in s = take-append-le s.flying s.inputs more counts.flying in
    record {
      counts = record {
        durable = counts.durable;
        flying = (let f = counts.flying in let l = length-append s.inputs more in omega arith);
        based = counts.based;
        checkpointed = counts.checkpointed;
      };
      base = subst (IsBaseOf m.node s.base) (sym durable) lawful.base;
      next = base-grown m.node (launched_base s) s.inputs more lawful.next;
      held = subst (IsLawful m.node m.n m.capacity s.base) (sym flown) lawful.held;
      all = lawful-gained m.node m.n m.capacity (launched_base s) s.inputs q lawful.all;
    }

-- room was counted from the area in use where nothing flew
all-held : (m : Member) (s : NodeState) → is_idle s ≡ true → IsLawfulState m s → IsLawful m.node m.n m.capacity s.base s.inputs
all-held m s idle lawful = subst (λ (b : Base). IsLawful m.node m.n m.capacity b s.inputs) (idle-base s idle) lawful.all

pub lawful-launched : (m : Member) (s : NodeState) → is_idle s ≡ true → IsLawfulState m s → IsLawfulState m (launched s)
lawful-launched m s idle lawful =
    let counts = lawful.counts in
    record {
      counts = record {
        durable = (let d = counts.durable in let f = counts.flying in omega arith);
        flying = omega arith;
        based = counts.based;
        checkpointed = λ b e. never s.checkpoint b (idle-none s idle) e;
      };
      base = lawful.base;
      next = lawful.next;
      held = lawful-first m.node m.n m.capacity s.base (min (s.durable + 64) (length s.inputs)) s.inputs (all-held m s idle lawful);
      all = lawful.all;
    }

pub lawful-launched_all : (m : Member) (s : NodeState) → is_idle s ≡ true → IsLawfulState m s → IsLawfulState m (launched_all m.node s)
lawful-launched_all m s idle lawful =
    let counts = lawful.counts in
    record {
      counts = record {
        durable = (let d = counts.durable in let f = counts.flying in omega arith);
        flying = omega arith;
        based = counts.based;
        checkpointed = λ b e. sym (ap (λ (c : Base). c.inputs) (same_Some (next_base m.node s.base s.inputs) b e));
      };
      base = lawful.base;
      next = base-next m.node s.base s.inputs;
      held = lawful-first m.node m.n m.capacity s.base (length s.inputs) s.inputs (all-held m s idle lawful);
      all = lawful-rebased m.node m.n m.capacity (launched_base s) (next_base m.node s.base s.inputs) s.inputs (omega arith) lawful.all;
    }

pub lawful-landed : (m : Member) (s : NodeState) → IsLawfulState m s → IsLawfulState m (landed s)
lawful-landed m s lawful =
    let counts = lawful.counts in
    record {
      counts = record { durable = omega arith; flying = counts.flying; based = next-few s counts; checkpointed = λ b e. none≢some b e };
      base = base-first m.node (launched_base s) s.flying s.inputs (next-few s counts) lawful.next;
      next = lawful.next;
      held = lawful-first m.node m.n m.capacity (launched_base s) s.flying s.inputs lawful.all;
      all = lawful.all;
    }

pub lawful-left : (m : Member) (keeps_flying : Bool) (s : NodeState) → IsLawfulState m s → IsLawfulState m (left_by keeps_flying s)
lawful-left m true s lawful =
    lawful-opened m (launched_base s) (flown_in s)
    (base-first m.node (launched_base s) s.flying s.inputs (next-few s lawful.counts) lawful.next)
    (lawful-first m.node m.n m.capacity (launched_base s) s.flying s.inputs lawful.all)
lawful-left m false s lawful =
    lawful-opened m s.base (durable_in s) lawful.base
    (subst (IsLawful m.node m.n m.capacity s.base) (take-take s.durable s.flying s.inputs lawful.counts.durable) (lawful-first m.node m.n m.capacity s.base s.durable (flown_in s) lawful.held))
