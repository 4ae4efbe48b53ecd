-- The nodes of a ring are those that its events reach, and stay so with each part of an event.
use Rattle.std.proofs.Common.{ℕ, zero, suc, ◌≡◌, ◌≤◌, ◌<◌, ◌+◌, ◌-◌, Bool, true, false, cond, min, List, [], ◌∷◌, ◌++◌, length, take, map, set, get_or, Option, refl, sym, ap, ◌∙◌, subst, arith, append-nil}
use Rattle.std.specs.List.{All}
use Rattle.std.proofs.lemmas.Bool.{ltb-false, ltb-true}
use Rattle.std.proofs.lemmas.Bool.Decides.{nat_tests}
use Rattle.std.proofs.lemmas.List.{map-set, set-get_or, get_or-set_same}
use Rattle.std.proofs.lemmas.Option.{slice_get_read, get_or_from_slice_get}
use Rattle.ring_records.specs.declared.request.Request.{Request}
use Rattle.ring_records.specs.States.{NodeState, opened}
use Rattle.ring_records.specs.Emission.{sent}
use Rattle.ring_records.specs.History.{credit}
use Rattle.ring_records.specs.Member.{Member, member}
use Rattle.ring_node.specs.declared.flight.Flight.{Flight}
use Rattle.ring_node.specs.declared.flight.Flight.TheVariants.{Batch, Checkpoint}
use Rattle.ring_node.specs.Held.{MayBegin, MayStop}
use Rattle.ring_node.specs.Node.{NodeView, new_node, state_of, durable_in, asked_with, made_durable, left, reopened, is_credited}
use Rattle.ring_node.specs.Refusals.{checkpoint_refusal}
use Rattle.ring_node.specs.Open.{Open, due, sealed}
use Rattle.ring_world.specs.Events.{Action, Submit, Land, Crash}
use Rattle.ring_world.specs.Schedules.{IsDelivered}
use Rattle.ring_world.specs.Ring.{RingView, node_at, held_at, is_launched, launch, landing, landed, asked, due_at, release_of, settled, crashed, stopped, given, handed, is_released}
use Rattle.ring_world.specs.Shows.{ShowsNode, Shows, IsSealed, held_of, without_due}
use Rattle.ring_world.specs.Capacity.{all_fresh}
use Rattle.ring_world.proofs.Credits.{credited}
use Rattle.ring_world.proofs.Handed.{handed_stays}
use Rattle.ring_world.proofs.Nodes.{resting, mine, answered_same, asked_shows, landed_shows, settled_shows, crashed_shows, stopped_shows}
use Rattle.ring_world.proofs.Served.{schedule_holds}
use Rattle.ring_world.proofs.Tickets.{one_due, few_due}

get_or-of : {A B : Type 0} (f : A → B) (l : List A) (k : ℕ) (d : A) → get_or (map f l) k (f d) ≡ f (get_or l k d)
get_or-of f [] k d = refl
get_or-of f (x ∷ l) zero d = refl
get_or-of f (x ∷ l) (suc k) d = get_or-of f l k d

-- these are the ring's events, the nodes are those that they reach, and the ring has their open tickets
pub record Ties (w : RingView) (events : List (ℕ × Action)) (nodes : List NodeView) : Type 0 where
  pub logged : events ≡ w.events
  pub shows : Shows w.size w.capacity w.events nodes
  pub held : w.held ≡ map held_of nodes

module _ (w : RingView) (events : List (ℕ × Action)) (nodes : List NodeView) (ties : Ties w events nodes) where
  -- its neighbour hands to node i what the request brings
  pub gives : (i : ℕ) (q : Request) (es : List (ℕ × Action)) → 1 ≤ i → i ≤ w.size → is_released w i q ≡ true → es ≡ events ++ handed w.size i q → Ties (given i q w) es nodes
  unfolding given
  gives i q es first last e logged = record {
    logged = logged ∙ ap (λ l. l ++ handed w.size i q) ties.logged;
    shows = resting w.size w.capacity w.events nodes ties.shows (handed w.size i q) (handed_stays w ties.shows.schedule i first last q e);
    held = ties.held;
  }

  -- node i stands at place `number - 1`
  module _ (i number : ℕ) (place : number ≡ i) (first : 1 ≤ number) (last : i ≤ w.size) (v : NodeView) (was : v ≡ get_or nodes (number - 1) v) where
    low : 1 ≤ i
    low = omega arith

    pub place_within : number - 1 < length nodes
    place_within =
        let count : length nodes ≡ w.size = ties.shows.count in
        omega arith

    abbrev n : NodeView
    n = get_or nodes (i - 1) (new_node i w.size w.capacity)

    is_node : v ≡ n
    is_node =
        let inside = place_within in
        sym (get_or_from_slice_get nodes (number - 1) v (new_node i w.size w.capacity) (slice_get_read nodes (length nodes) (number - 1) v refl inside was))
        ∙ ap (λ k. get_or nodes (k - 1) (new_node i w.size w.capacity)) place

    pub node_is : ShowsNode w.size w.capacity w.events i v
    node_is = subst (ShowsNode w.size w.capacity w.events i) (sym is_node) (mine w.size w.capacity w.events nodes ties.shows i low last)

    pub may_stop : is_credited v ≡ true
    may_stop =
        let is = node_is in
        let few = credited all_fresh w.size w.capacity w.events ties.shows.schedule i low last in
        let here = subst (λ (a : ℕ × NodeState). credit a.1.inputs ≤ length (sent a.0 (take a.1.durable a.1.inputs))) (λ t. (sym (ap (λ (m : Member). m.node) is.is) t, sym is.state t)) few in
        grind (arith, nat_tests)

    pub durable : v.durable ≡ (node_at w i).durable
    durable = ap (λ (s : NodeState). s.durable) node_is.state

    pub held_is : v.held ≡ held_at w i
    held_is = ap held_of is_node ∙ (sym (get_or-of held_of nodes (i - 1) (new_node i w.size w.capacity)) ∙ sym (ap (λ hs. get_or hs (i - 1) []) ties.held))

    pub due_is : due v.durable v.held ≡ due_at w i
    due_is = λ t. due (durable t) (held_is t)

    -- its durable inputs are among its inputs
    in_order : v.durable ≤ length v.inputs
    in_order =
        let sound = (schedule_holds all_fresh w.size w.capacity w.events ties.shows.schedule).sound i in
        let low = sound.lawful.counts.durable in
        let high = sound.lawful.counts.flying in
        let inputs = ap (λ (s : NodeState). length s.inputs) node_is.state in
        let d = durable in
        omega (arith, low, high, inputs, d)

    -- once it is asked, its new ticket alone may be due
    pub asked_few : All IsSealed nodes → (ticket : Option ℕ) (q : Request) (v1 x : NodeView) → v1 ≡ asked_with ticket q v → x ≡ get_or (set nodes (number - 1) v1) (number - 1) x
        → length (due x.durable x.held) ≤ 1
    asked_few none ticket q v1 x made read =
        let same : x ≡ asked_with ticket q v = read ∙ (get_or-set_same nodes (number - 1) v1 x place_within ∙ made) in
        subst (λ (z : NodeView). length (due z.durable z.held) ≤ 1) (sym same) (one_due ticket q v (subst IsSealed (sym was) (none (number - 1) v place_within)))

    -- once a batch or a checkpoint landed, no more are due than were open
    pub landed_few : (v1 x y : NodeView) → v1.held ≡ v.held → x ≡ get_or (set nodes (number - 1) v1) (number - 1) x → y ≡ get_or nodes (number - 1) y → length (due x.durable x.held) ≤ length y.held
    landed_few v1 x y kept read before =
        let same : y ≡ v = before ∙ get_or_from_slice_get nodes (number - 1) v y (slice_get_read nodes (length nodes) (number - 1) v refl place_within was) in
        let held = ap (λ (z : NodeView). length z.held) (read ∙ get_or-set_same nodes (number - 1) v1 x place_within) ∙ (ap length kept ∙ ap (λ (z : NodeView). length z.held) (sym same)) in
        let few = few_due x.durable x.held in
        omega (arith, held, few)

    -- it may be stopped where it is launched of node i, and nothing is objected to it
    pub may_fly : (flight : Flight) → MayBegin flight (member i w.size w.capacity) (node_at w i) → is_launched flight (node_at w i) ≡ true → MayStop flight v
    may_fly Batch may e = subst (λ (s : NodeState). s.durable < length s.inputs) (sym node_is.state) (ltb-true _ _ e)
    may_fly Checkpoint may e = (λ t. checkpoint_refusal (node_is.is t) (node_is.state t)) ∙ may

    -- where nothing is launched of it, nothing changes
    not_launched : (flight : Flight) → is_launched flight (node_at w i) ≡ false → made_durable flight v ≡ v
    not_launched Batch e =
        let none = ltb-false v.durable (length v.inputs) (ap (is_launched Batch) node_is.state ∙ e) in
        let within = in_order in
        let same : min (v.durable + 64) (length v.inputs) ≡ v.durable = omega arith in
        λ t. record v { durable = same t }
    not_launched Checkpoint e = absurd cc

    -- it becomes v', with these events
    module _ (es : List (ℕ × Action)) (v' : NodeView) where
      abbrev vs : List NodeView
      vs = set nodes (number - 1) v'

      -- at its place stands what f makes of it
      placed : (f : NodeView → NodeView) → v' ≡ f v → set nodes (i - 1) (f n) ≡ vs
      placed f moved = sym (λ t. set nodes (place t - 1) ((moved ∙ ap f is_node) t))

      log : (more : List (ℕ × Action)) → es ≡ events ++ more → es ≡ w.events ++ more
      log more logged = logged ∙ ap (λ l. l ++ more) ties.logged

      held_set : (ts : List Open) → ts ≡ v'.held → set w.held (i - 1) ts ≡ map held_of vs
      held_set ts e = (λ t. set (ties.held t) (sym place t - 1) (e t)) ∙ sym (map-set held_of nodes (number - 1) v')

      held_kept : v.held ≡ v'.held → w.held ≡ map held_of vs
      held_kept e = sym (set-get_or w.held (i - 1) []) ∙ held_set (held_at w i) (sym held_is ∙ e)

      pub asks : (ticket : Option ℕ) (q : Request) → IsDelivered w.size w.events i q → es ≡ events ++ (i, Submit q) ∷ [] → v' ≡ asked_with ticket q v
          → Ties (asked ticket i q w) es (set nodes (number - 1) v')
      unfolding asked asked_with
      asks ticket q delivered logged moved = record {
        logged = log _ logged;
        shows = subst (Shows w.size w.capacity (w.events ++ (i, Submit q) ∷ [])) (placed (asked_with ticket q) moved) (asked_shows w.size w.capacity w.events nodes ties.shows i low last ticket q delivered);
        held = held_set _ (sym (ap held_of (moved ∙ ap (asked_with ticket q) is_node)
            ∙ (λ t. (ap held_of (sym is_node) ∙ held_is) t ++ record { serial = ticket; kept = answered_same w.size w.capacity w.events nodes ties.shows i low last q t } ∷ [])));
      }

      pub lands : (flight : Flight) → es ≡ events ++ landing flight i (state_of v) → v' ≡ made_durable flight v → Ties (landed flight i w) es (set nodes (number - 1) v')
      unfolding landed
      lands flight logged moved = record {
        logged = log _ logged ∙ ap (λ s. w.events ++ landing flight i s) node_is.state;
        shows = subst (Shows w.size w.capacity (w.events ++ landing flight i (node_at w i))) (placed (made_durable flight) moved) (shows_if (is_launched flight (node_at w i)) refl);
        held = held_kept (sym (ap held_of moved));
      }
        where
          shows_if : (b : Bool) → is_launched flight (node_at w i) ≡ b
              → Shows w.size w.capacity (w.events ++ cond b ((i, launch flight) ∷ (i, Land) ∷ []) []) (set nodes (i - 1) (made_durable flight n))
          shows_if true e = landed_shows w.size w.capacity w.events nodes ties.shows i low last flight e
          shows_if false e =
              let idle = not_launched flight e in
              let same : set nodes (i - 1) (made_durable flight n) ≡ nodes = (λ t. set nodes (i - 1) ((ap (made_durable flight) (sym is_node) ∙ (idle ∙ is_node)) t)) ∙ set-get_or nodes (i - 1) (new_node i w.size w.capacity) in
              subst (λ l. Shows w.size w.capacity l (set nodes (i - 1) (made_durable flight n))) (sym (append-nil w.events)) (subst (Shows w.size w.capacity w.events) (sym same) ties.shows)

      pub settles : es ≡ events ++ map (release_of i) (due v.durable v.held) → v' ≡ without_due v → Ties (settled i w) es (set nodes (number - 1) v')
      unfolding settled
      settles logged moved = record {
        logged = log _ logged ∙ ap (λ ts. w.events ++ map (release_of i) ts) due_is;
        shows = subst (λ ts. Shows w.size w.capacity (w.events ++ map (release_of i) ts) vs) (ap (λ (u : NodeView). due u.durable u.held) (sym is_node) ∙ due_is)
            (subst (Shows w.size w.capacity (w.events ++ map (release_of i) (due n.durable n.held))) (placed without_due moved) (settled_shows w.size w.capacity w.events nodes ties.shows i low last));
        held = held_set _ (sym (ap held_of moved ∙ (λ t. sealed (durable t) (held_is t))));
      }

      pub crashes : es ≡ events ++ (i, Crash false) ∷ [] → v' ≡ reopened (opened v.base (durable_in v)) v → Ties (crashed i w) es (set nodes (number - 1) v')
      unfolding crashed reopened
      crashes logged moved = record {
        logged = log _ logged;
        shows = subst (Shows w.size w.capacity (w.events ++ (i, Crash false) ∷ [])) (placed (λ u. reopened (opened u.base (durable_in u)) u) moved) (crashed_shows w.size w.capacity w.events nodes ties.shows i low last);
        held = held_set [] (sym (ap held_of moved));
      }

      pub stops : (flight : Flight) (keeps_flying : Bool) → es ≡ events ++ (i, launch flight) ∷ (i, Crash keeps_flying) ∷ [] → v' ≡ reopened (left flight keeps_flying v) v
          → Ties (stopped flight keeps_flying i w) es (set nodes (number - 1) v')
      unfolding stopped reopened
      stops flight keeps_flying logged moved = record {
        logged = log _ logged;
        shows = subst (Shows w.size w.capacity (w.events ++ (i, launch flight) ∷ (i, Crash keeps_flying) ∷ [])) (placed (λ u. reopened (left flight keeps_flying u) u) moved)
            (stopped_shows w.size w.capacity w.events nodes ties.shows i low last flight keeps_flying);
        held = held_set [] (sym (ap held_of moved));
      }
