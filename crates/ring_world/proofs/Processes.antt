-- What every action keeps of a node, and what it makes durable, by whatever rule of room.
use Rattle.std.proofs.Common.{ℕ, ◌≡◌, ◌⊎◌, ◌+◌, ◌-◌, ◌≤◌, min, true, false, List, [], ◌∷◌, ◌++◌, length, take, drop, Option, Some, None, refl, sym, ap, ◌∙◌, subst, inl, inr, arith}
use Rattle.std.specs.List.{Contains}
use Rattle.std.proofs.Math.Seq.{take-add}
use Rattle.std.proofs.lemmas.List.{append-nil, length-append, take-append-le, take-append-drop, take_all}
use Rattle.std.proofs.lemmas.List.Elements.{Contains-push_cases, Contains-append_cases, Contains-append_left, Contains-append_right}
use Rattle.ring_records.specs.declared.base.Base.{Base}
use Rattle.ring_records.specs.declared.input.Input.{Input}
use Rattle.ring_records.specs.declared.refusal.Refusal.{Refusal}
use Rattle.ring_records.specs.declared.request.Request.{Request}
use Rattle.ring_records.specs.Allowed.{IsAllowed}
use Rattle.ring_records.specs.Objection.{objection}
use Rattle.ring_records.specs.Answer.{Rule, refusal, input_of, if_free, if_input, gained, answer, answered, Answered}
use Rattle.ring_records.specs.Lists.{EachAfter}
use Rattle.ring_records.specs.States.{NodeState, launched_base, flying_in, opened}
use Rattle.ring_records.proofs.Admission.{or_else-none, objection-allowed}
use Rattle.ring_records.proofs.Growth.{EachAfter-take}
use Rattle.ring_records.proofs.Leader.{Contains-nil, Contains-cons_cases}
use Rattle.ring_records.proofs.Lists.{EachAfter-push}
use Rattle.ring_world.specs.Committed.{made_durable}
use Rattle.ring_world.specs.Events.{Thing, Replied, Action, Submit, Launch, LaunchAll, Land, Release, Crash, Process, RoomRule, rule_of, started, act}
use Rattle.ring_world.specs.Schedules.{WasAnswered, Rests, RestsOn, May}

-- ---- what a request adds

abbrev grown : ℕ → ℕ → Rule → List Input → Request → List Input
grown me n rule h q = h ++ gained me n rule h q

-- an accepted input is the one that the request asks for
gained-asked : (me n : ℕ) (rule : Rule) (h : List Input) (q : Request) (x : Input) → Contains (gained me n rule h q) x → input_of q ≡ Some x
unfolding gained
gained-asked me n rule h q x there = asks (input_of q) there
  where
    free : (y : Input) (o : Option Refusal) → Contains (if_free o y) x → ◌≡◌ {A = Option Input} (Some y) (Some x)
    free y None here = elim (Contains-cons_cases y [] x here) [ inl e ↦ ap Some e | inr e ↦ Contains-nil x e ]
    free y (Some why) here = Contains-nil x here

    asks : (o : Option Input) → Contains (if_input me n rule h o) x → o ≡ Some x
    asks None here = Contains-nil x here
    asks (Some y) here = free y (refusal me n rule h y) here

-- it is allowed
refusal-allowed : (me n : ℕ) (rule : Rule) (h : List Input) (x : Input) → refusal me n rule h x ≡ None → IsAllowed me n h x
unfolding refusal
refusal-allowed me n rule h x e = objection-allowed me n h x (or_else-none (objection me n h x) (rule h x) e).0

allowed-gained : (me n : ℕ) (rule : Rule) (h : List Input) (q : Request) → EachAfter (IsAllowed me n) [] h → EachAfter (IsAllowed me n) [] (grown me n rule h q)
unfolding gained
allowed-gained me n rule h q allowed = asks (input_of q)
  where
    free : (x : Input) (o : Option Refusal) → refusal me n rule h x ≡ o → EachAfter (IsAllowed me n) [] (h ++ if_free o x)
    free x None e = EachAfter-push (IsAllowed me n) [] h x allowed (refusal-allowed me n rule h x e)
    free x (Some why) e = subst (EachAfter (IsAllowed me n) []) (sym (append-nil h)) allowed

    asks : (o : Option Input) → EachAfter (IsAllowed me n) [] (h ++ if_input me n rule h o)
    asks None = subst (EachAfter (IsAllowed me n) []) (sym (append-nil h)) allowed
    asks (Some x) = free x (refusal me n rule h x) refl

-- ---- what a reply rests on

-- it rests on the same inputs when there are more
rests-more : (me n : ℕ) (room : RoomRule) (h rest : List Input) (k : ℕ) (t : Thing) → RestsOn me n room h k t → RestsOn me n room (h ++ rest) k t
rests-more me n room h rest k t r =
    let within = r.within in
    record { within = (let l = length-append h rest in omega arith); rests = subst (λ g. Rests me n room g t) (sym (take-append-le k h rest within)) r.rests }

answers-new : (me n : ℕ) (room : RoomRule) (base : Base) (h : List Input) (q : Request) → WasAnswered me n room (grown me n (room.says me base) h q) (answered me n (room.says me base) h q)
answers-new me n room base h q =
    let rule : Rule = room.says me base in
    let first : take (length h) (grown me n rule h q) ≡ h = take-append-le (length h) h (gained me n rule h q) (omega arith) ∙ take_all (length h) h (omega arith) in
    record {
      base = base;
      answers = record {
        before = length h;
        within = (let l = length-append h (gained me n rule h q) in omega arith);
        same = ap (λ g. answer me n rule g q) (sym first);
        front = ap (λ g. grown me n rule g q) first ∙ sym (take_all (length (grown me n rule h q)) (grown me n rule h q) (omega arith));
      };
    }

rests-new : (me n : ℕ) (room : RoomRule) (base : Base) (h : List Input) (q : Request)
    → RestsOn me n room (grown me n (room.says me base) h q) (answer me n (room.says me base) h q).number (Replied (answered me n (room.says me base) h q))
unfolding Rests
rests-new me n room base h q =
    let rule : Rule = room.says me base in
    record {
      within = omega arith;
      rests = subst (λ g. Rests me n room g (Replied (answered me n rule h q)))
          (sym (take_all (length (grown me n rule h q)) (grown me n rule h q) (omega arith))) (refl, answers-new me n room base h q);
    }

-- ---- what every action keeps

pub record Sound (me n : ℕ) (room : RoomRule) (p : Process) : Type 0 where
  pub durable : p.state.durable ≤ p.state.flying
  pub flying : p.state.flying ≤ length p.state.inputs
  pub allowed : EachAfter (IsAllowed me n) [] p.state.inputs
  pub kept : (a : Answered) → Contains p.kept a → RestsOn me n room p.state.inputs a.answer.number (Replied a)

pub sound-opened : (me n : ℕ) (room : RoomRule) (base : Base) (h : List Input) → EachAfter (IsAllowed me n) [] h → Sound me n room (started (opened base h))
sound-opened me n room base h allowed = record { durable = omega arith; flying = omega arith; allowed = allowed; kept = λ a here. Contains-nil a here }

module _ (me n : ℕ) (room : RoomRule) (p : Process) (sound : Sound me n room p) where
  abbrev s : NodeState
  s = p.state

  low : s.durable ≤ s.flying
  low = sound.durable

  high : s.flying ≤ length s.inputs
  high = sound.flying

  abbrev more : Request → List Input
  more q = gained me n (rule_of room me s) s.inputs q

  kept-asked : (q : Request) (a : Answered) → Contains (p.kept ++ answered me n (rule_of room me s) s.inputs q ∷ []) a → RestsOn me n room (s.inputs ++ more q) a.answer.number (Replied a)
  kept-asked q a here = elim (Contains-push_cases p.kept (answered me n (rule_of room me s) s.inputs q) a here) [
    | inl old ↦ rests-more me n room s.inputs (more q) a.answer.number (Replied a) (sound.kept a old)
    | inr new ↦ subst (λ (b : Answered). RestsOn me n room (s.inputs ++ more q) b.answer.number (Replied b)) new (rests-new me n room (launched_base s) s.inputs q)
  ]

  first : (k : ℕ) → EachAfter (IsAllowed me n) [] (take k s.inputs)
  first k = EachAfter-take (IsAllowed me n) k s.inputs sound.allowed

  pub sound-next : (events : List (ℕ × Action)) (a : Action) → May n room events me p a → Sound me n room (act me n room p a)
  unfolding act
  sound-next events (Submit q) may = record {
    durable = low;
    flying = (let h = high in let l = length-append s.inputs (more q) in omega arith);
    allowed = allowed-gained me n (rule_of room me s) s.inputs q sound.allowed;
    kept = kept-asked q;
  }
  sound-next events Launch may = record { durable = (let d = low in let f = high in omega arith); flying = omega arith; allowed = sound.allowed; kept = sound.kept }
  sound-next events (LaunchAll layout) may = record { durable = (let d = low in let f = high in omega arith); flying = omega arith; allowed = sound.allowed; kept = sound.kept }
  sound-next events Land may = record { durable = omega arith; flying = high; allowed = sound.allowed; kept = sound.kept }
  sound-next events (Release t) may = sound
  sound-next events (Crash true) may = sound-opened me n room (launched_base s) (take s.flying s.inputs) (first s.flying)
  sound-next events (Crash false) may = sound-opened me n room s.base (take s.durable s.inputs) (first s.durable)

  -- what flies comes behind what is durable
  flies : take s.durable s.inputs ++ flying_in s ≡ take s.flying s.inputs
  flies = sym (take-add s.durable (s.flying - s.durable) s.inputs) ∙ ap (λ k. take k s.inputs) (omega (arith, low))

  -- the durable inputs grow by those that the action makes durable
  pub durable-next : (a : Action) → take s.durable s.inputs ++ made_durable s a ≡ take (act me n room p a).state.durable (act me n room p a).state.inputs
  unfolding act made_durable
  durable-next (Submit q) = append-nil _ ∙ sym (take-append-le s.durable s.inputs _ (let l = low in let h = high in omega arith))
  durable-next Launch = append-nil _
  durable-next (LaunchAll layout) = append-nil _
  durable-next Land = flies
  durable-next (Release t) = append-nil _
  durable-next (Crash true) = flies ∙ sym (take_all _ (take s.flying s.inputs) (omega arith))
  durable-next (Crash false) = append-nil _ ∙ sym (take_all _ (take s.durable s.inputs) (omega arith))

  contains-taken : (k : ℕ) (x : Input) → Contains (take k s.inputs) x → Contains s.inputs x
  contains-taken k x here = subst (λ h. Contains h x) (take-append-drop k s.inputs) (Contains-append_left (take k s.inputs) (drop k s.inputs) x here)

  -- an input was there before, or the action asks for it
  pub inputs-next : (a : Action) (x : Input) → Contains (act me n room p a).state.inputs x → Contains s.inputs x ⊎ ((q : Request) × (a ≡ Submit q) × (input_of q ≡ Some x))
  unfolding act
  inputs-next (Submit q) x here = elim (Contains-append_cases s.inputs (more q) x here) [
    | inl old ↦ inl old
    | inr new ↦ inr (q, refl, gained-asked me n (rule_of room me s) s.inputs q x new)
  ]
  inputs-next Launch x here = inl here
  inputs-next (LaunchAll layout) x here = inl here
  inputs-next Land x here = inl here
  inputs-next (Release t) x here = inl here
  inputs-next (Crash true) x here = inl (contains-taken _ x here)
  inputs-next (Crash false) x here = inl (contains-taken _ x here)

  contains-flying : (x : Input) → Contains (flying_in s) x → Contains s.inputs x
  contains-flying x here = contains-taken s.flying x (subst (λ h. Contains h x) flies (Contains-append_right (take s.durable s.inputs) (flying_in s) x here))

  -- what becomes durable was accepted
  pub durable-accepted : (a : Action) (x : Input) → Contains (made_durable s a) x → Contains s.inputs x
  unfolding made_durable
  durable-accepted (Submit q) x here = Contains-nil x here
  durable-accepted Launch x here = Contains-nil x here
  durable-accepted (LaunchAll layout) x here = Contains-nil x here
  durable-accepted Land x here = contains-flying x here
  durable-accepted (Release t) x here = Contains-nil x here
  durable-accepted (Crash true) x here = contains-flying x here
  durable-accepted (Crash false) x here = Contains-nil x here
