-- The nodes of a ring stay those that its events reach.
use Rattle.std.proofs.Common.{ℕ, ◌≡◌, ◌≤◌, ◌<◌, ◌+◌, ◌-◌, Bool, true, false, ◌&&◌, min, List, [], ◌∷◌, ◌++◌, length, map, set, get_or, Option, refl, sym, ap, ◌∙◌, subst, inl, inr, arith}
use Rattle.std.specs.List.{Contains}
use Rattle.std.specs.Prelude.{is_none}
use Rattle.std.proofs.lemmas.Bool.{cases_eq, eq-eqb, ne_eqb, leb-true, ltb-true}
use Rattle.std.proofs.lemmas.List.{length-append, length-set, get_or-set_same, get_or-set_other}
use Rattle.std.proofs.lemmas.List.Elements.{Contains-push, Contains-push_cases, Contains-append_left}
use Rattle.ring_records.specs.declared.request.Request.{Request}
use Rattle.ring_records.specs.Member.{member}
use Rattle.ring_records.specs.States.{NodeState, is_idle, opened, landed, left_by}
use Rattle.ring_records.specs.Serving.{answered_by}
use Rattle.ring_records.specs.Launching.{asked}
use Rattle.ring_records.proofs.Leader.{Contains-nil}
use Rattle.ring_node.specs.declared.flight.Flight.{Flight}
use Rattle.ring_node.specs.declared.flight.Flight.TheVariants.{Batch, Checkpoint}
use Rattle.ring_node.specs.Node.{NodeView, new_node, state_of, durable_in, ticket_of, asked_with, launched_as, flying, made_durable, left, reopened}
use Rattle.ring_node.specs.Open.{Open, due, is_due}
use Rattle.ring_node.proofs.Flights.{durable_state}
use Rattle.ring_world.specs.Events.{Replied, Action, Submit, Land, Crash, Process, started}
use Rattle.ring_world.specs.Capacity.{process, all_fresh}
use Rattle.ring_world.specs.Acts.{act, IsReleasable, May, MayHappen}
use Rattle.ring_world.specs.Schedules.{IsDelivered}
use Rattle.ring_world.specs.Ring.{is_launched, launch, release_of}
use Rattle.ring_world.specs.Shows.{ShowsNode, Shows, without_due}
use Rattle.ring_world.specs.Events as happening
use Rattle.ring_world.specs.Schedules as scheduled
use Rattle.ring_world.proofs.Moves.{Grows, Stays, grows_one, grows_two, act_launch, may_launch, process_landed, process_left, release_all}
use Rattle.ring_world.proofs.Served.{process-same}
use Rattle.ring_world.proofs.Tickets.{from_filter}

with_false : (b : Bool) → (b && false) ≡ false
with_false true = refl
with_false false = refl

-- nothing flies of what a stop leaves
idle_left : (keeps_flying : Bool) (s : NodeState) (v : NodeView) → state_of (reopened (left_by keeps_flying s) v) ≡ left_by keeps_flying s
unfolding reopened
idle_left true s v = refl
idle_left false s v = refl

-- a node that the events do not change
pub still : (n capacity : ℕ) (events more : List (ℕ × Action)) (k : ℕ) (v : NodeView) → process all_fresh n capacity (events ++ more) k ≡ process all_fresh n capacity events k → ShowsNode n capacity events k v
    → ShowsNode n capacity (events ++ more) k v
still n capacity events more k v same shows = record {
  is = shows.is;
  state = shows.state ∙ ap (λ (p : Process). p.state) (sym same);
  kept = λ t here. subst (λ (p : Process). Contains p.kept t.kept) (sym same) (shows.kept t here);
  dropped = shows.dropped ∙ ap (λ (p : Process). p.dropped) (sym same);
  few = (let l = length-append events more in let f = shows.few in omega arith);
}

module _ (n capacity : ℕ) (events : List (ℕ × Action)) (nodes : List NodeView) (shows : Shows n capacity events nodes) where
  -- the events change no node
  pub resting : (more : List (ℕ × Action)) → Stays n capacity events more → Shows n capacity (events ++ more) nodes
  resting more rests = record {
    schedule = rests.schedule;
    count = shows.count;
    node = λ at other lt. still n capacity events more (at + 1) _ (rests.same (at + 1)) (shows.node at other lt);
  }

  module _ (i : ℕ) (first : 1 ≤ i) (last : i ≤ n) where
    abbrev v : NodeView
    v = get_or nodes (i - 1) (new_node i n capacity)

    abbrev p : Process
    p = process all_fresh n capacity events i

    pub mine : ShowsNode n capacity events i (get_or nodes (i - 1) (new_node i n capacity))
    mine = subst (λ k. ShowsNode n capacity events k v) (let e : i - 1 + 1 ≡ i = omega arith in e) (shows.node (i - 1) (new_node i n capacity) (omega arith))

    -- the events change node i alone
    module _ (more : List (ℕ × Action)) (grows : Grows n capacity events more i) (u : NodeView) (here : ShowsNode n capacity (events ++ more) i u) where
      node_after : (at : ℕ) (other : NodeView) → at < n → ShowsNode n capacity (events ++ more) (at + 1) (get_or (set nodes (i - 1) u) at other)
      node_after at other lt = elim (cases_eq at (i - 1)) [
        | inl e ↦ (let place : i ≡ at + 1 = omega arith in
            let got : get_or (set nodes (i - 1) u) at other ≡ u = ap (λ k. get_or (set nodes (i - 1) u) k other) e ∙ get_or-set_same nodes (i - 1) u other (let c = shows.count in omega arith) in
            subst (ShowsNode n capacity (events ++ more) (at + 1)) (sym got) (subst (λ k. ShowsNode n capacity (events ++ more) k u) place here))
        | inr ne ↦ subst (ShowsNode n capacity (events ++ more) (at + 1)) (sym (get_or-set_other nodes (i - 1) at u other ne))
            (still n capacity events more (at + 1) _ (grows.others (at + 1) (λ q. ne (omega arith))) (shows.node at other lt))
      ]

      pub moved : Shows n capacity (events ++ more) (set nodes (i - 1) u)
      moved = record { schedule = grows.schedule; count = length-set nodes (i - 1) u ∙ shows.count; node = node_after }

    -- ---- node i is asked

    abbrev submission : Request → List (ℕ × Action)
    submission q = (i, Submit q) ∷ []

    pub answered_same : (q : Request) → answered_by v.member (state_of v) q ≡ answered_by (member i n capacity) p.state q
    answered_same q t = answered_by (mine.is t) (mine.state t) q

    asked_here : (serial : Option ℕ) (q : Request) → ShowsNode n capacity (events ++ submission q) i (asked_with serial q v)
    unfolding asked_with happening.act
    asked_here serial q =
        let same = process-same all_fresh n capacity events i (Submit q) in
        record {
          is = mine.is;
          state = (λ t. asked (mine.is t) (mine.state t) q) ∙ ap (λ (r : Process). r.state) (sym same);
          kept = λ t here. subst (λ (r : Process). Contains r.kept t.kept) (sym same) (elim (Contains-push_cases v.held (ticket_of serial v q) t here) [
            | inl old ↦ Contains-append_left p.kept (answered_by (member i n capacity) p.state q ∷ []) t.kept (mine.kept t old)
            | inr new ↦ subst (λ (u : Open). Contains (p.kept ++ answered_by (member i n capacity) p.state q ∷ []) u.kept) new
                (subst (Contains (p.kept ++ answered_by (member i n capacity) p.state q ∷ [])) (sym (answered_same q)) (Contains-push p.kept (answered_by (member i n capacity) p.state q)))
          ]);
          dropped = mine.dropped ∙ ap (λ (r : Process). r.dropped) (sym same);
          few = (let l = length-append events (submission q) in let f = mine.few in omega arith);
        }

    pub asked_shows : (serial : Option ℕ) (q : Request) → IsDelivered n events i q → Shows n capacity (events ++ submission q) (set nodes (i - 1) (asked_with serial q v))
    unfolding scheduled.May
    asked_shows serial q delivered =
        moved (submission q) (grows_one n capacity events i (Submit q) shows.schedule (record { first = first; last = last; may = delivered })) (asked_with serial q v) (asked_here serial q)

    -- ---- what is launched of node i lands

    abbrev flight_events : Flight → Action → List (ℕ × Action)
    flight_events flight end = (i, launch flight) ∷ (i, end) ∷ []

    may_begin : (flight : Flight) → MayHappen all_fresh n capacity events (i, launch flight)
    may_begin flight = record { first = first; last = last; may = may_launch flight n capacity events i p (ap is_idle (sym mine.state) ∙ ap (λ b. b && true) (eq-eqb v.durable v.durable refl)) }

    may_land : (flight : Flight) → is_launched flight p.state ≡ true → is_idle (launched_as flight i p.state) ≡ false
    may_land Batch e = ap (λ b. b && is_none p.state.checkpoint) (ne_eqb (min (p.state.durable + 64) (length p.state.inputs)) p.state.durable (λ same. let more = ltb-true p.state.durable (length p.state.inputs) e in absurd (omega arith)))
    may_land Checkpoint e = with_false _

    landed_here : (flight : Flight) → ShowsNode n capacity (events ++ flight_events flight Land) i (made_durable flight v)
    landed_here flight =
        let same = process_landed n capacity events i flight in
        record {
          is = mine.is;
          state = durable_state flight v ∙ ((λ t. landed (launched_as flight (mine.is t).node (mine.state t))) ∙ ap (λ (r : Process). r.state) (sym same));
          kept = λ t here. subst (λ (r : Process). Contains r.kept t.kept) (sym same) (mine.kept t here);
          dropped = mine.dropped ∙ ap (λ (r : Process). r.dropped) (sym same);
          few = (let l = length-append events (flight_events flight Land) in let f = mine.few in omega arith);
        }

    pub landed_shows : (flight : Flight) → is_launched flight p.state ≡ true → Shows n capacity (events ++ flight_events flight Land) (set nodes (i - 1) (made_durable flight v))
    unfolding scheduled.May
    landed_shows flight e =
        moved (flight_events flight Land)
        (grows_two n capacity events i (launch flight) Land shows.schedule (may_begin flight) (ap (λ (q : Process). is_idle q.state) (act_launch flight i n capacity p) ∙ may_land flight e)) (made_durable flight v) (landed_here flight)

    -- ---- replies of node i are released

    abbrev releases : List (ℕ × Action)
    releases = map (release_of i) (due v.durable v.held)

    due_releasable : (t : Open) → Contains (due v.durable v.held) t → IsReleasable i n capacity p (Replied t.kept)
    unfolding scheduled.IsReleasable
    due_releasable t here =
        let from = from_filter (is_due v.durable) v.held t here in
        let low = leb-true t.kept.answer.number v.durable from.1 in
        let durable = ap (λ (s : NodeState). s.durable) mine.state in
        (mine.kept t from.0, omega (arith, low, durable))

    releases_rest : Stays n capacity events releases
    releases_rest = release_all n capacity i first last (due v.durable v.held) events shows.schedule due_releasable

    settled_here : ShowsNode n capacity (events ++ releases) i (without_due v)
    settled_here =
        let now = still n capacity events releases i v (releases_rest.same i) mine in
        record {
          is = now.is;
          state = now.state;
          kept = λ t here. now.kept t (from_filter _ v.held t here).0;
          dropped = now.dropped;
          few = now.few;
        }

    pub settled_shows : Shows n capacity (events ++ releases) (set nodes (i - 1) (without_due v))
    settled_shows = moved releases (record { schedule = releases_rest.schedule; others = λ k ne. releases_rest.same k }) (without_due v) settled_here

    -- ---- node i loses its memory

    opened_again : (more : List (ℕ × Action)) (keeps_flying : Bool) (s : NodeState) → process all_fresh n capacity (events ++ more) i ≡ started (left_by keeps_flying s)
        → ShowsNode n capacity (events ++ more) i (reopened (left_by keeps_flying s) v)
    unfolding reopened
    opened_again more keeps_flying s same = record {
      is = mine.is;
      state = idle_left keeps_flying s v ∙ ap (λ (r : Process). r.state) (sym same);
      kept = λ t here. Contains-nil t here;
      dropped = ap (λ (r : Process). r.dropped) (sym same);
      few = omega arith;
    }

    abbrev crash : List (ℕ × Action)
    crash = (i, Crash false) ∷ []

    pub crashed_shows : Shows n capacity (events ++ crash) (set nodes (i - 1) (reopened (opened v.base (durable_in v)) v))
    unfolding scheduled.May happening.act
    crashed_shows =
        moved crash (grows_one n capacity events i (Crash false) shows.schedule (record { first = first; last = last; may = tt })) (reopened (opened v.base (durable_in v)) v)
        (opened_again crash false (state_of v) (process-same all_fresh n capacity events i (Crash false) ∙ ap (λ (s : NodeState). started (left_by false s)) (sym mine.state)))

    pub stopped_shows : (flight : Flight) (keeps_flying : Bool) → Shows n capacity (events ++ flight_events flight (Crash keeps_flying)) (set nodes (i - 1) (reopened (left flight keeps_flying v) v))
    unfolding scheduled.May
    stopped_shows flight keeps_flying =
        moved (flight_events flight (Crash keeps_flying)) (grows_two n capacity events i (launch flight) (Crash keeps_flying) shows.schedule (may_begin flight) tt) (reopened (left flight keeps_flying v) v)
        (opened_again (flight_events flight (Crash keeps_flying)) keeps_flying (flying flight v)
        (process_left n capacity events i flight keeps_flying ∙ λ t. started (left_by keeps_flying (launched_as flight (sym mine.is t).node (sym mine.state t)))))
