-- What the code makes of a ring is what is said of it.
use Rattle.std.proofs.Common.{ℕ, zero, suc, ◌≡◌, ◌≤◌, ◌<◌, ◌-◌, Bool, true, false, List, [], ◌∷◌, ◌++◌, length, take, map, set, get_or, Option, sym, ap, ◌∙◌, subst, refl, arith, append_assoc}
use Rattle.std.specs.List.{All, insert, remove}
use Rattle.std.proofs.lemmas.List.{take-append-le, length-append, set-set, get_or-set_same}
use Rattle.std.proofs.lemmas.List.Elements.{All-set}
use Rattle.ring_records.specs.declared.request.Request.{Request}
use Rattle.ring_records.specs.States.{NodeState, opened}
use Rattle.ring_node.specs.declared.flight.Flight.{Flight}
use Rattle.ring_node.specs.Node.{NodeView, state_of, durable_in, asked_with, made_durable, left, reopened}
use Rattle.ring_node.specs.Open.{due}
use Rattle.ring_world.specs.Events.{Action, Submit, Crash}
use Rattle.ring_world.specs.Ring.{RingView, node_at, asked, launch, landing, landed, due_at, release_of, settled, crashed, stopped, given, handed, is_released}
use Rattle.ring_world.specs.Shows.{Shows, IsSound, IsSealed, held_of, without_due}
use Rattle.ring_world.specs.State.{State}
use Rattle.ring_world.specs.Worlds.{by_log}
use Rattle.ring_world.specs.declared.log.Log.{Log}
use Rattle.ring_world.proofs.Handed.{handed_delivers}
use Rattle.ring_world.proofs.Tickets.{without-sealed}
use Rattle.ring_world.proofs.Ties as ties
use Rattle.ring_world.proofs.Ties.{Ties}

-- a ring as the code has it, and as it is seen
module _ (log : Log) (nodes : List NodeView) (s : State) (is : by_log log false (map held_of nodes) ≡ s)
    (sound : (log.told ≤ length log.events.items) × IsSound log.size log.capacity log.events.items nodes) where
  abbrev events : List (ℕ × Action)
  events = log.events.items

  abbrev w : RingView
  w = s.ring

  abbrev seen : List (ℕ × Action) → List NodeView → State
  seen es vs = record {
    ring = record { size = log.size; capacity = log.capacity; eager = log.eager; failed = false; events = es; told = take log.told es; held = map held_of vs };
    tickets = log.tickets;
  }

  -- it is sound
  abbrev Stands : List (ℕ × Action) → List NodeView → Type 0
  Stands es vs = (log.told ≤ length es) × IsSound log.size log.capacity es vs

  pub tied : Ties w events nodes
  tied = record {
    logged = ap (λ (t : State). t.ring.events) is;
    shows = subst (λ (t : State). Shows t.ring.size t.ring.capacity t.ring.events nodes) is sound.1.shows;
    held = sym (ap (λ (t : State). t.ring.held) is);
  }

  -- with more events, and with these nodes, of which no ticket is due, it is seen as t, which has them
  module _ (t : RingView) (es more : List (ℕ × Action)) (vs : List NodeView) (grown : es ≡ events ++ more) where
    told_same : take log.told es ≡ take log.told events
    told_same = ap (take log.told) grown ∙ take-append-le log.told events more sound.0

    becomes : w.size ≡ t.size → w.capacity ≡ t.capacity → w.eager ≡ t.eager → w.failed ≡ t.failed → w.told ≡ t.told → Ties t es vs → All IsSealed vs
        → (seen es vs ≡ record s { ring = t }) × Stands es vs
    becomes sizes capacities eagers fails tells tie none =
        let now : seen es vs ≡ record s { ring = t } = (λ k. record {
          ring = record {
            size = (ap (λ (u : State). u.ring.size) is ∙ sizes) k;
            capacity = (ap (λ (u : State). u.ring.capacity) is ∙ capacities) k;
            eager = (ap (λ (u : State). u.ring.eager) is ∙ eagers) k;
            failed = (ap (λ (u : State). u.ring.failed) is ∙ fails) k;
            events = tie.logged k;
            told = (told_same ∙ (ap (λ (u : State). u.ring.told) is ∙ tells)) k;
            held = sym tie.held k;
          };
          tickets = (ap (λ (u : State). u.tickets) is) k;
        }) in
        let l = ap length grown in
        let a = length-append events more in
        let few = sound.0 in (
          now,
          (
            omega (arith, l, a, few),
            record {
              least = sound.1.least;
              most = sound.1.most;
              shows = subst (λ (u : State). Shows u.ring.size u.ring.capacity u.ring.events vs) (sym now) tie.shows;
              sealed = none;
            },
          ),
        )

  -- node i stands at place `number - 1`
  module _ (i number : ℕ) (place : number ≡ i) (first : 1 ≤ number) (last : i ≤ w.size) (v : NodeView) (was : v ≡ get_or nodes (number - 1) v) where
    low : 1 ≤ i
    low = omega arith

    -- with another node at its place no ticket is due, where none of that node is
    put_sealed : (u : NodeView) → IsSealed u → All IsSealed (set nodes (number - 1) u)
    put_sealed u none = All-set IsSealed nodes (number - 1) u none sound.1.sealed

    -- also where what was due is released of a node that stands there in between
    released_sealed : (u x v' : NodeView) → v' ≡ without_due x → All IsSealed (set (set nodes (number - 1) u) (number - 1) v')
    released_sealed u x v' freed = subst (All IsSealed) (sym (set-set nodes (number - 1) u v')) (put_sealed v' (subst IsSealed (sym freed) (without-sealed x)))

    -- Node i is asked: the code pushes what is handed over, asks it, and releases what is due.
    module _ (ticket : Option ℕ) (q : Request) (e : is_released w i q ≡ true) (es1 es2 : List (ℕ × Action)) (v1 x : NodeView)
        (first_log : es1 ≡ events ++ handed log.size i q) (then_log : es2 ≡ es1 ++ (i, Submit q) ∷ []) (made : v1 ≡ asked_with ticket q v) (read : x ≡ get_or (set nodes (number - 1) v1) (number - 1) x) where
      abbrev asked_ring : RingView
      asked_ring = asked ticket i q (given i q w)

      given_log : es1 ≡ events ++ handed w.size i q
      given_log = first_log ∙ ap (λ (u : State). events ++ handed u.ring.size i q) is

      tied_given : Ties (given i q w) es1 nodes
      tied_given = ties.gives w events nodes tied i q es1 low last e given_log

      tied_asked : Ties (asked ticket i q (given i q w)) es2 (set nodes (number - 1) v1)
      unfolding given
      tied_asked = ties.asks (given i q w) es1 nodes tied_given i number place first last v was es2 v1 ticket q (handed_delivers w.size i w.events q) then_log made

      inside : i ≤ asked_ring.size
      unfolding asked given
      inside = last

      pub asked_due : due x.durable x.held ≡ due_at (asked ticket i q (given i q w)) i
      asked_due = ties.due_is asked_ring es2 (set nodes (number - 1) v1) tied_asked i number place first inside x read

      pub asks : (es3 : List (ℕ × Action)) (v2 : NodeView) → es3 ≡ es2 ++ map (release_of i) (due x.durable x.held) → v2 ≡ without_due x
          → (seen es3 (set (set nodes (number - 1) v1) (number - 1) v2) ≡ record s { ring = settled i (asked ticket i q (given i q w)) }) × Stands es3 (set (set nodes (number - 1) v1) (number - 1) v2)
      unfolding settled asked given
      asks es3 v2 last_log freed =
          let freed_events = map (release_of i) (due x.durable x.held) in
          becomes (settled i asked_ring) es3 (handed log.size i q ++ ((i, Submit q) ∷ [] ++ freed_events)) (set (set nodes (number - 1) v1) (number - 1) v2)
          (last_log ∙ (ap (λ es. es ++ freed_events) (then_log ∙ ap (λ es. es ++ (i, Submit q) ∷ []) first_log)
          ∙ (append_assoc (events ++ handed log.size i q) ((i, Submit q) ∷ []) freed_events ∙ append_assoc events (handed log.size i q) ((i, Submit q) ∷ [] ++ freed_events))))
          refl refl refl refl refl (ties.settles asked_ring es2 (set nodes (number - 1) v1) tied_asked i number place first inside x read es3 v2 last_log freed)
          (released_sealed v1 x v2 freed)

    -- A round: the code lands it where it is launched, and releases what is due.
    module _ (flight : Flight) (es1 : List (ℕ × Action)) (v1 x : NodeView) (landed_log : es1 ≡ events ++ landing flight i (state_of v)) (moved : v1 ≡ made_durable flight v) (read : x ≡ get_or (set nodes (number - 1) v1) (number - 1) x) where
      tied_landed : Ties (landed flight i w) es1 (set nodes (number - 1) v1)
      tied_landed = ties.lands w events nodes tied i number place first last v was es1 v1 flight landed_log moved

      inside_landed : i ≤ (landed flight i w).size
      unfolding landed
      inside_landed = last

      pub landed_due : due x.durable x.held ≡ due_at (landed flight i w) i
      landed_due = ties.due_is (landed flight i w) es1 (set nodes (number - 1) v1) tied_landed i number place first inside_landed x read

      -- so many inputs more are durable
      pub landed_count : v1.durable - v.durable ≡ (node_at (landed flight i w) i).durable - (node_at w i).durable
      landed_count =
          let same : x ≡ v1 = read ∙ get_or-set_same nodes (number - 1) v1 x (ties.place_within w events nodes tied i number place first last v was) in
          λ t. (ap (λ (u : NodeView). u.durable) (sym same) ∙ ties.durable (landed flight i w) es1 (set nodes (number - 1) v1) tied_landed i number place first inside_landed x read) t
          - ties.durable w events nodes tied i number place first last v was t

      pub rounds : (es2 : List (ℕ × Action)) (v2 : NodeView) → es2 ≡ es1 ++ map (release_of i) (due x.durable x.held) → v2 ≡ without_due x
          → (seen es2 (set (set nodes (number - 1) v1) (number - 1) v2) ≡ record s { ring = settled i (landed flight i w) }) × Stands es2 (set (set nodes (number - 1) v1) (number - 1) v2)
      unfolding settled landed
      rounds es2 v2 last_log freed =
          let freed_events = map (release_of i) (due x.durable x.held) in
          becomes (settled i (landed flight i w)) es2 (landing flight i (state_of v) ++ freed_events) (set (set nodes (number - 1) v1) (number - 1) v2)
          (last_log ∙ (ap (λ es. es ++ freed_events) landed_log ∙ append_assoc events (landing flight i (state_of v)) freed_events))
          refl refl refl refl refl (ties.settles (landed flight i w) es1 (set nodes (number - 1) v1) tied_landed i number place first inside_landed x read es2 v2 last_log freed)
          (released_sealed v1 x v2 freed)

    -- A crash or a stop: the code makes of the node what is said, and pushes what happened.
    module _ (es : List (ℕ × Action)) (v' : NodeView) where
      reopened_sealed : (t : NodeState) → IsSealed (reopened t v)
      unfolding reopened
      reopened_sealed t = refl

      -- with the node put back at its place
      module _ (vs : List NodeView) (put : vs ≡ set nodes (number - 1) v') where
        pub crashes : es ≡ events ++ (i, Crash false) ∷ [] → v' ≡ reopened (opened v.base (durable_in v)) v → (seen es vs ≡ record s { ring = crashed i w }) × Stands es vs
        unfolding crashed
        crashes logged moved =
            subst (λ ns. (seen es ns ≡ record s { ring = crashed i w }) × Stands es ns) (sym put)
            (becomes (crashed i w) es _ (set nodes (number - 1) v') logged refl refl refl refl refl (ties.crashes w events nodes tied i number place first last v was es v' logged moved)
            (put_sealed v' (subst IsSealed (sym moved) (reopened_sealed (opened v.base (durable_in v))))))

        pub stops : (flight : Flight) (keeps_flying : Bool) → es ≡ events ++ (i, launch flight) ∷ (i, Crash keeps_flying) ∷ [] → v' ≡ reopened (left flight keeps_flying v) v
            → (seen es vs ≡ record s { ring = stopped flight keeps_flying i w }) × Stands es vs
        unfolding stopped
        stops flight keeps_flying logged moved =
            subst (λ ns. (seen es ns ≡ record s { ring = stopped flight keeps_flying i w }) × Stands es ns) (sym put)
            (becomes (stopped flight keeps_flying i w) es _ (set nodes (number - 1) v') logged refl refl refl refl refl
            (ties.stops w events nodes tied i number place first last v was es v' flight keeps_flying logged moved)
            (put_sealed v' (subst IsSealed (sym moved) (reopened_sealed (left flight keeps_flying v)))))

-- ---- what the code changes

-- a node is taken out, and another one is put at its place
pub replaced : {A : Type 0} (xs : List A) (at : ℕ) (x : A) → at < length xs → insert (remove xs at) at x ≡ set xs at x
replaced [] at x within = absurd (omega arith)
replaced (y ∷ xs) zero x within = refl
replaced (y ∷ xs) (suc at) x within = ap (λ l. y ∷ l) (replaced xs at x (omega arith))

pub pushed : {A : Type 0} {old room all : List A} {x y : A} → room ≡ old → x ≡ y → all ≡ room ++ x ∷ [] → all ≡ old ++ y ∷ []
pushed same is e = e ∙ (λ t. same t ++ is t ∷ [])

pub pushed_two : {A : Type 0} {old room one all : List A} {x y a b : A} → room ≡ old → x ≡ a → one ≡ room ++ x ∷ [] → y ≡ b → all ≡ one ++ y ∷ [] → all ≡ old ++ a ∷ b ∷ []
pushed_two {old = old} {a = a} {b = b} same first e second f = pushed (pushed same first e) second f ∙ append_assoc old (a ∷ []) (b ∷ [])
