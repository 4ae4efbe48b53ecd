-- Events that happen to a ring, one or a few at once.
use Rattle.std.proofs.Common.{ℕ, ◌≡◌, ◌≤◌, Bool, true, refl, List, [], ◌∷◌, ◌++◌, map, sym, ap, ◌∙◌, subst, inl, inr, append_assoc, append-nil, arith}
use Rattle.std.specs.List.{Contains}
use Rattle.std.proofs.lemmas.Bool.{cases_eq}
use Rattle.ring_records.proofs.Leader.{Contains-here, Contains-later}
use Rattle.ring_records.proofs.Lists.{EachAfter-push}
use Rattle.ring_records.specs.States.{is_idle, landed, left_by}
use Rattle.ring_node.specs.declared.flight.Flight.{Flight}
use Rattle.ring_node.specs.declared.flight.Flight.TheVariants.{Batch, Checkpoint}
use Rattle.ring_node.specs.Node.{launched_as}
use Rattle.ring_node.specs.Open.{Open}
use Rattle.ring_world.specs.Events.{Thing, Replied, Action, Land, Release, Crash, Process, started}
use Rattle.ring_world.specs.Capacity.{process, all_fresh}
use Rattle.ring_world.specs.Acts.{act, IsReleasable, May, MayHappen}
use Rattle.ring_world.specs.CapacitySchedule.{IsSchedule}
use Rattle.ring_world.specs.Ring.{launch, release_of}
use Rattle.ring_world.specs.Events as happening
use Rattle.ring_world.specs.Schedules as scheduled
use Rattle.ring_world.proofs.Served.{process-same, process-other}

-- the events may happen after those before, and change no node but i
pub record Grows (n capacity : ℕ) (events more : List (ℕ × Action)) (i : ℕ) : Type 0 where
  pub schedule : IsSchedule all_fresh n capacity (events ++ more)
  pub others : (k : ℕ) → (i ≡ k → ⊥) → process all_fresh n capacity (events ++ more) k ≡ process all_fresh n capacity events k

-- the events may happen after those before, and change no node
pub record Stays (n capacity : ℕ) (events more : List (ℕ × Action)) : Type 0 where
  pub schedule : IsSchedule all_fresh n capacity (events ++ more)
  pub same : (k : ℕ) → process all_fresh n capacity (events ++ more) k ≡ process all_fresh n capacity events k

pub grows_one : (n capacity : ℕ) (events : List (ℕ × Action)) (i : ℕ) (a : Action) → IsSchedule all_fresh n capacity events → MayHappen all_fresh n capacity events (i, a) → Grows n capacity events ((i, a) ∷ []) i
grows_one n capacity events i a schedule may = record {
  schedule = record { formatted = schedule.formatted; each = EachAfter-push (MayHappen all_fresh n capacity) [] events (i, a) schedule.each may };
  others = λ k ne. process-other all_fresh n capacity events i a k ne;
}

module _ (n capacity : ℕ) (events : List (ℕ × Action)) (i : ℕ) (a b : Action) where
  joined : (events ++ (i, a) ∷ []) ++ (i, b) ∷ [] ≡ events ++ (i, a) ∷ (i, b) ∷ []
  joined = append_assoc events ((i, a) ∷ []) ((i, b) ∷ [])

  pub process_two : process all_fresh n capacity (events ++ (i, a) ∷ (i, b) ∷ []) i ≡ act i n capacity (act i n capacity (process all_fresh n capacity events i) a) b
  process_two =
      ap (λ es. process all_fresh n capacity es i) (sym joined)
      ∙ (process-same all_fresh n capacity (events ++ (i, a) ∷ []) i b ∙ ap (λ p. act i n capacity p b) (process-same all_fresh n capacity events i a))

  pub process_two-other : (k : ℕ) → (i ≡ k → ⊥) → process all_fresh n capacity (events ++ (i, a) ∷ (i, b) ∷ []) k ≡ process all_fresh n capacity events k
  process_two-other k ne =
      ap (λ es. process all_fresh n capacity es k) (sym joined)
      ∙ (process-other all_fresh n capacity (events ++ (i, a) ∷ []) i b k ne ∙ process-other all_fresh n capacity events i a k ne)

  pub grows_two : IsSchedule all_fresh n capacity events → MayHappen all_fresh n capacity events (i, a) → May n capacity (events ++ (i, a) ∷ []) i (act i n capacity (process all_fresh n capacity events i) a) b
      → Grows n capacity events ((i, a) ∷ (i, b) ∷ []) i
  grows_two schedule may then =
      let one = grows_one n capacity events i a schedule may in
      let here = subst (λ p. May n capacity (events ++ (i, a) ∷ []) i p b) (sym (process-same all_fresh n capacity events i a)) then in
      let two = grows_one n capacity (events ++ (i, a) ∷ []) i b one.schedule (record { first = may.first; last = may.last; may = here }) in
      record {
        schedule = subst (IsSchedule all_fresh n capacity) joined two.schedule;
        others = λ k ne. ap (λ es. process all_fresh n capacity es k) (sym joined) ∙ (two.others k ne ∙ one.others k ne);
      }

-- ---- what is launched

pub act_launch : (flight : Flight) (i n capacity : ℕ) (p : Process) → act i n capacity p (launch flight) ≡ record p { state = launched_as flight i p.state }
unfolding happening.act
act_launch Batch i n capacity p = refl
act_launch Checkpoint i n capacity p = refl

pub may_launch : (flight : Flight) (n capacity : ℕ) (events : List (ℕ × Action)) (i : ℕ) (p : Process) → is_idle p.state ≡ true → May n capacity events i p (launch flight)
unfolding scheduled.May
may_launch Batch n capacity events i p idle = idle
may_launch Checkpoint n capacity events i p idle = (idle, record { least = omega arith; most = omega arith })

module _ (n capacity : ℕ) (events : List (ℕ × Action)) (i : ℕ) (flight : Flight) where
  pub process_landed : process all_fresh n capacity (events ++ (i, launch flight) ∷ (i, Land) ∷ []) i ≡ record (process all_fresh n capacity events i) { state = landed (launched_as flight i (process all_fresh n capacity events i).state) }
  unfolding happening.act
  process_landed = process_two n capacity events i (launch flight) Land ∙ ap (λ p. act i n capacity p Land) (act_launch flight i n capacity (process all_fresh n capacity events i))

  pub process_left : (keeps_flying : Bool)
      → process all_fresh n capacity (events ++ (i, launch flight) ∷ (i, Crash keeps_flying) ∷ []) i ≡ started (left_by keeps_flying (launched_as flight i (process all_fresh n capacity events i).state))
  unfolding happening.act
  process_left keeps_flying = process_two n capacity events i (launch flight) (Crash keeps_flying) ∙ ap (λ p. act i n capacity p (Crash keeps_flying)) (act_launch flight i n capacity (process all_fresh n capacity events i))

-- ---- releases

-- a release changes no node
pub process-release : (n capacity : ℕ) (events : List (ℕ × Action)) (i : ℕ) (t : Thing) (k : ℕ) → process all_fresh n capacity (events ++ (i, Release t) ∷ []) k ≡ process all_fresh n capacity events k
unfolding happening.act
process-release n capacity events i t k = elim (cases_eq i k) [
  | inl e ↦ subst (λ j. process all_fresh n capacity (events ++ (i, Release t) ∷ []) j ≡ process all_fresh n capacity events j) e (process-same all_fresh n capacity events i (Release t))
  | inr ne ↦ process-other all_fresh n capacity events i (Release t) k ne
]

-- nor do many
pub process-releases : (n capacity i : ℕ) (ts : List Open) (events : List (ℕ × Action)) (k : ℕ) → process all_fresh n capacity (events ++ map (release_of i) ts) k ≡ process all_fresh n capacity events k
process-releases n capacity i [] events k = ap (λ es. process all_fresh n capacity es k) (append-nil events)
process-releases n capacity i (t ∷ ts) events k =
    ap (λ es. process all_fresh n capacity es k) (sym (append_assoc events (release_of i t ∷ []) (map (release_of i) ts)))
    ∙ (process-releases n capacity i ts (events ++ release_of i t ∷ []) k ∙ process-release n capacity events i (Replied t.kept) k)

pub release_one : (n capacity : ℕ) (events : List (ℕ × Action)) (i : ℕ) (t : Thing) → IsSchedule all_fresh n capacity events → 1 ≤ i → i ≤ n → IsReleasable i n capacity (process all_fresh n capacity events i) t
    → Stays n capacity events ((i, Release t) ∷ [])
unfolding scheduled.May
release_one n capacity events i t schedule first last may = record {
  schedule = (grows_one n capacity events i (Release t) schedule (record { first = first; last = last; may = may })).schedule;
  same = λ k. process-release n capacity events i t k;
}

pub release_none : (n capacity : ℕ) (events : List (ℕ × Action)) → IsSchedule all_fresh n capacity events → Stays n capacity events []
release_none n capacity events schedule = record {
  schedule = subst (IsSchedule all_fresh n capacity) (sym (append-nil events)) schedule;
  same = λ k. process-releases n capacity 1 [] events k;
}

pub release_all : (n capacity i : ℕ) → 1 ≤ i → i ≤ n → (ts : List Open) (events : List (ℕ × Action)) → IsSchedule all_fresh n capacity events
    → ((t : Open) → Contains ts t → IsReleasable i n capacity (process all_fresh n capacity events i) (Replied t.kept))
    → Stays n capacity events (map (release_of i) ts)
release_all n capacity i first last [] events schedule each = release_none n capacity events schedule
release_all n capacity i first last (t ∷ ts) events schedule each =
    let one = release_one n capacity events i (Replied t.kept) schedule first last (each t (Contains-here t ts)) in
    let rest = release_all n capacity i first last ts (events ++ release_of i t ∷ []) one.schedule
    (λ u there. subst (λ (p : Process). IsReleasable i n capacity p (Replied u.kept)) (sym (one.same i)) (each u (Contains-later t ts u there))) in
    record {
      schedule = subst (IsSchedule all_fresh n capacity) (append_assoc events (release_of i t ∷ []) (map (release_of i) ts)) rest.schedule;
      same = λ k. process-releases n capacity i (t ∷ ts) events k;
    }
