-- What every action keeps of a node with a capacity: its state is lawful, and the answers that it keeps were given with room
-- counted from what an area stood for.
use Rattle.std.proofs.Common.{ℕ, ◌≡◌, ◌+◌, ◌<◌, ◌≤◌, true, false, List, [], ◌∷◌, ◌++◌, length, take, refl, sym, ap, ◌∙◌, subst, inl, inr, arith}
use Rattle.std.specs.List.{Contains}
use Rattle.std.proofs.lemmas.List.{length-append, take-append-le, take_all}
use Rattle.std.proofs.lemmas.List.Elements.{Contains-push_cases}
use Rattle.ring_records.specs.declared.base.Base.{Base}
use Rattle.ring_records.specs.declared.input.Input.{Input}
use Rattle.ring_records.specs.declared.request.Request.{Request}
use Rattle.ring_records.specs.Admission.{base_of}
use Rattle.ring_records.specs.Lawful.{IsBaseOf, IsLawful, IsLawfulState}
use Rattle.ring_records.specs.Answer.{Answered}
use Rattle.ring_records.specs.Answering.{gained, answer, answered}
use Rattle.ring_records.specs.Lists.{EachAfter}
use Rattle.ring_records.specs.Member.{Member, member}
use Rattle.ring_records.specs.declared.summary.Summary.{Summary}
use Rattle.ring_records.specs.Summary.{summary, empty}
use Rattle.ring_records.specs.States.{NodeState, is_idle, launched_base, durable_in, flown_in, opened}
use Rattle.ring_records.specs.Serving.{gained_by, answered_by}
use Rattle.ring_records.specs.Launching.{asked}
use Rattle.std.proofs.lemmas.Option.{same_Some}
use Rattle.ring_records.proofs.Leader.{Contains-nil}
use Rattle.ring_records.proofs.Sound.{summary-none}
use Rattle.ring_records.proofs.States.{lawful-opened, lawful-asked, lawful-rebased, lawful-launched, lawful-launched_all, lawful-landed, lawful-left}
use Rattle.ring_world.specs.Based.{IsOfSomeVersion, WasAnswered, Rests, RestsOn}
use Rattle.ring_world.specs.Capacity.{all_fresh}
use Rattle.ring_world.specs.Acts.{launched_in, act, May}
use Rattle.ring_world.specs.Events.{Thing, Replied, Action, Submit, Launch, LaunchAll, Land, Release, Crash, Process, started}
use Rattle.ring_world.specs.Events as happening
use Rattle.ring_world.specs.Schedules as scheduled
use Rattle.ring_world.specs.Start.{first_epoch, IsFormatted}

-- ---- what a request adds

abbrev grown : ℕ → ℕ → ℕ → Base → List Input → Request → List Input
grown me n capacity base h q = h ++ gained me n capacity base h q

-- ---- what a reply rests on

-- it rests on the same inputs when there are more
rests-more : (me n capacity : ℕ) (h rest : List Input) (k : ℕ) (t : Thing) → RestsOn me n capacity h k t → RestsOn me n capacity (h ++ rest) k t
rests-more me n capacity h rest k t r =
    let within = r.within in
    record { within = (let l = length-append h rest in omega arith); rests = subst (λ g. Rests me n capacity g t) (sym (take-append-le k h rest within)) r.rests }

answers-new : (me n capacity : ℕ) (base : Base) (h : List Input) (q : Request) → IsOfSomeVersion base → IsBaseOf me base h → WasAnswered me n capacity (grown me n capacity base h q) (answered me n capacity base h q)
answers-new me n capacity base h q version of =
    let first : take (length h) (grown me n capacity base h q) ≡ h = take-append-le (length h) h (gained me n capacity base h q) (omega arith) ∙ take_all (length h) h (omega arith) in
    record {
      base = base;
      answers = record {
        before = length h;
        within = (let l = length-append h (gained me n capacity base h q) in omega arith);
        same = ap (λ g. answer me n capacity base g q) (sym first);
        front = ap (λ g. grown me n capacity base g q) first ∙ sym (take_all (length (grown me n capacity base h q)) (grown me n capacity base h q) (omega arith));
      };
      version = version;
      based = subst (IsBaseOf me base) (sym first) of;
    }

rests-new : (me n capacity : ℕ) (base : Base) (h : List Input) (q : Request) → IsOfSomeVersion base → IsBaseOf me base h
    → RestsOn me n capacity (grown me n capacity base h q) (answer me n capacity base h q).number (Replied (answered me n capacity base h q))
unfolding Rests
rests-new me n capacity base h q version of = record {
  within = omega arith;
  rests = subst (λ g. Rests me n capacity g (Replied (answered me n capacity base h q)))
      (sym (take_all (length (grown me n capacity base h q)) (grown me n capacity base h q) (omega arith))) (refl, answers-new me n capacity base h q version of);
}

-- ---- checkpoints of any layout

pub lawful-launched_in : (m : Member) (s : NodeState) (layout : ℕ) → is_idle s ≡ true → IsLawfulState m s → IsLawfulState m (launched_in layout m.node s)
lawful-launched_in m s layout idle lawful =
    let all = lawful-launched_all m s idle lawful in
    let next : Base = base_of layout (s.base.epoch + 1) (summary m.node s.inputs) in
    record {
      counts = record {
        durable = all.counts.durable;
        flying = all.counts.flying;
        based = all.counts.based;
        checkpointed = λ b e. sym (ap (λ (c : Base). c.inputs) (same_Some next b e));
      };
      base = lawful.base;
      next = record { within = omega arith; is = ap (λ (l : List Input). base_of layout (s.base.epoch + 1) (summary m.node l)) (sym (take_all (length s.inputs) s.inputs (omega arith))) };
      held = all.held;
      all = lawful-rebased m.node m.n m.capacity (launched_base s) next s.inputs (omega arith) lawful.all;
    }

-- ---- which version wrote it

of-formatted : (base : Base) → IsFormatted base → IsOfSomeVersion base
of-formatted base formatted = record { least = formatted.least; most = formatted.most; frames = λ none. formatted.is }

of-written : (layout epoch : ℕ) (known : Summary) → scheduled.IsWritten layout → IsOfSomeVersion (base_of layout epoch known)
of-written layout epoch known written =
    let least : 2 ≤ layout = written.least in
    record { least = omega arith; most = written.most; frames = λ (none : layout < 2). absurd (omega arith) }

-- ---- what every action keeps

pub record Sound (me n capacity : ℕ) (p : Process) : Type 0 where
  pub lawful : IsLawfulState (member me n capacity) p.state
  pub version : IsOfSomeVersion p.state.base
  pub next : IsOfSomeVersion (launched_base p.state)
  pub kept : (a : Answered) → Contains p.kept a → RestsOn me n capacity p.state.inputs a.answer.number (Replied a)

sound-opened : (me n capacity : ℕ) (base : Base) (l : List Input) → IsLawfulState (member me n capacity) (opened base l) → IsOfSomeVersion base → Sound me n capacity (started (opened base l))
sound-opened me n capacity base l lawful version = record { lawful = lawful; version = version; next = version; kept = λ a here. Contains-nil a here }

-- a journal that holds no input stands for the first inputs of whatever history, which are none
pub base-formatted : (me : ℕ) (base : Base) (h : List Input) → IsFormatted base → IsBaseOf me base h
base-formatted me base h formatted =
    let none : base.inputs ≡ 0 = ap (λ (b : Base). b.inputs) formatted.is in
    let epoch : base.epoch ≡ first_epoch base.layout = ap (λ (b : Base). b.epoch) formatted.is in
    let known : summary me (take base.inputs h) ≡ empty = ap (λ k. summary me (take k h)) none ∙ summary-none me in
    record { within = omega (arith, none); is = formatted.is ∙ (λ i. base_of base.layout (sym epoch i) (sym known i)) }

pub lawful-formatted : (m : Member) (base : Base) → IsFormatted base → IsLawfulState m (opened base [])
unfolding IsLawful EachAfter
lawful-formatted m base formatted = lawful-opened m base [] (base-formatted m.node base [] formatted) tt

pub sound-new : (me n capacity : ℕ) (base : Base) → IsFormatted base → Sound me n capacity (started (opened base []))
sound-new me n capacity base formatted = sound-opened me n capacity base [] (lawful-formatted (member me n capacity) base formatted) (of-formatted base formatted)

-- this version's format is one of them
pub fresh-formatted : (i : ℕ) → IsFormatted (all_fresh i)
fresh-formatted i = record { least = omega arith; most = omega arith; is = refl }

module _ (me n capacity : ℕ) (p : Process) (sound : Sound me n capacity p) where
  abbrev s : NodeState
  s = p.state

  abbrev m : Member
  m = member me n capacity

  kept-asked : (q : Request) (a : Answered) → Contains (p.kept ++ answered_by m s q ∷ []) a → RestsOn me n capacity (asked m s q).inputs a.answer.number (Replied a)
  kept-asked q a here = elim (Contains-push_cases p.kept (answered_by m s q) a here) [
    | inl old ↦ rests-more me n capacity s.inputs (gained_by m s q) a.answer.number (Replied a) (sound.kept a old)
    | inr new ↦ subst (λ (b : Answered). RestsOn me n capacity (asked m s q).inputs b.answer.number (Replied b)) new (rests-new me n capacity (launched_base s) s.inputs q sound.next sound.lawful.next)
  ]

  pub sound-next : (events : List (ℕ × Action)) (a : Action) → May n capacity events me p a → Sound me n capacity (act me n capacity p a)
  unfolding happening.act scheduled.May
  sound-next events (Submit q) may = record { lawful = lawful-asked m s q sound.lawful; version = sound.version; next = sound.next; kept = kept-asked q }
  sound-next events Launch idle = record { lawful = lawful-launched m s idle sound.lawful; version = sound.version; next = sound.next; kept = sound.kept }
  sound-next events (LaunchAll layout) may = record {
    lawful = lawful-launched_in m s layout may.0 sound.lawful;
    version = sound.version;
    next = of-written layout (s.base.epoch + 1) (summary me s.inputs) may.1;
    kept = sound.kept;
  }
  sound-next events Land may = record { lawful = lawful-landed m s sound.lawful; version = sound.next; next = sound.next; kept = sound.kept }
  sound-next events (Release t) may = sound
  sound-next events (Crash true) may = sound-opened me n capacity (launched_base s) (flown_in s) (lawful-left m true s sound.lawful) sound.next
  sound-next events (Crash false) may = sound-opened me n capacity s.base (durable_in s) (lawful-left m false s sound.lawful) sound.version
