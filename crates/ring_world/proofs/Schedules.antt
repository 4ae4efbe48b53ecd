-- What holds of all nodes after any schedule, by whatever rule of room.
use Rattle.std.proofs.Common.{drop, ℕ, ◌≡◌, ◌≤◌, cond, List, [], ◌∷◌, ◌++◌, take, map, Some, None, refl, sym, ap, ◌∙◌, subst, inl, inr, append_assoc}
use Rattle.std.specs.List.{Contains, cons_option, fold}
use Rattle.std.proofs.lemmas.Bool.{cases_eq, eq-eqb, ne_eqb}
use Rattle.std.proofs.lemmas.List.{append-nil}
use Rattle.std.proofs.lemmas.List.Elements.{Contains-push_cases}
use Rattle.std.proofs.lemmas.List.Sums.{fold-append}
use Rattle.ring_records.specs.declared.base.Base.{Base}
use Rattle.ring_records.specs.declared.input.Input.{Input}
use Rattle.ring_records.specs.declared.input.Input.TheVariants.{Stand, Take, Acked, Retire}
use Rattle.ring_records.specs.declared.packet.Packet.{Packet}
use Rattle.ring_records.specs.declared.packet.Packet.TheVariants.{Carry, Credit}
use Rattle.ring_records.specs.declared.request.Request.{Request}
use Rattle.ring_records.specs.declared.request.Request.TheVariants as ask
use Rattle.ring_records.specs.Allowed.{IsAllowed}
use Rattle.ring_records.specs.Answer.{input_of, PacketRests}
use Rattle.ring_records.specs.Lists.{EachAfter, joined_after}
use Rattle.ring_records.specs.Place.{before, after}
use Rattle.ring_records.specs.Ring.{IsCarried, MayFollow, IsLegal}
use Rattle.ring_records.specs.Part.{item_at, part}
use Rattle.ring_records.specs.States.{opened}
use Rattle.ring_records.proofs.Growth.{take-less, sent-kept, taken-kept, EachAfter-at, EachAfter-take}
use Rattle.ring_records.proofs.Leader.{Contains-nil, Contains-here, Contains-later}
use Rattle.ring_records.proofs.Lists.{along, none≢some, EachAfter-push, joined_after-push}
use Rattle.ring_records.proofs.Resting.{rests-stay}
use Rattle.ring_records.proofs.Ring.{part-push}
use Rattle.ring_world.specs.Committed.{made_durable, committed_by, committed}
use Rattle.ring_world.specs.Events.{Sent, Action, Submit, Release, Process, RoomRule, started, act, process, state_after}
use Rattle.ring_world.specs.Schedules.{Rests, IsDelivered, IsReleasable, May, MayHappen, IsSchedule}
use Rattle.ring_world.proofs.Processes.{Sound, sound-opened, sound-next, durable-next, inputs-next, durable-accepted}
use Rattle.history_laws.proofs.Runs.{part-append}
use Rattle.ring_world.proofs.Runs.{part-same, part-other}

-- ---- one more event

pub process-same : (start : ℕ → Base) (n : ℕ) (room : RoomRule) (events : List (ℕ × Action)) (j : ℕ) (a : Action) → process start n room (events ++ (j, a) ∷ []) j ≡ act j n room (process start n room events j) a
unfolding process item_at
process-same start n room events j a =
    ap (fold (act j n room) (started (opened (start j) []))) (part-push events (j, a) j ∙ ap (λ b. part events j ++ cons_option (cond b (Some a) None) []) (eq-eqb j j refl))
    ∙ fold-append (act j n room) (started (opened (start j) [])) (part events j) (a ∷ [])

pub process-other : (start : ℕ → Base) (n : ℕ) (room : RoomRule) (events : List (ℕ × Action)) (j : ℕ) (a : Action) (i : ℕ) → (j ≡ i → ⊥) → process start n room (events ++ (j, a) ∷ []) i ≡ process start n room events i
unfolding process item_at
process-other start n room events j a i ne =
    ap (fold (act i n room) (started (opened (start i) []))) (part-push events (j, a) i ∙ (ap (λ b. part events i ++ cons_option (cond b (Some a) None) []) (ne_eqb j i ne) ∙ append-nil (part events i)))

-- ---- runs that go on

-- what a neighbour did stays done
carried-kept : (n : ℕ) (run more : List (ℕ × Input)) (i : ℕ) (x : Input) → IsCarried n run i x → IsCarried n (run ++ more) i x
unfolding IsCarried
carried-kept n run more i (Stand key bid) c = tt
carried-kept n run more i (Take msg_no msg) c = rw part-append (sent-kept (before n i) (part run (before n i)) _ msg_no msg c)
carried-kept n run more i (Acked upto) c = rw part-append (taken-kept (part run (after n i)) _ upto c)
carried-kept n run more i (Retire group floor) c = tt

-- allowed inputs of one node, each of them carried, go on with a legal run
legal-more : (n j : ℕ) → 1 ≤ j → j ≤ n → (xs : List Input) (run : List (ℕ × Input)) → IsLegal n run → EachAfter (IsAllowed j n) [] (part run j ++ xs)
    → ((x : Input) → Contains xs x → IsCarried n run j x)
    → IsLegal n (run ++ map (λ x. (j, x)) xs)
unfolding IsLegal
legal-more n j first last [] run legal allowed carried = rw append-nil legal
legal-more n j first last (x ∷ xs) run legal allowed carried =
    let allows = EachAfter-at (IsAllowed j n) [] (part run j) x xs allowed in
    let here = EachAfter-push (MayFollow n) [] run (j, x) legal (record { first = first; last = last; allowed = allows; carried = carried x (Contains-here x xs) }) in
    let mine : part (run ++ (j, x) ∷ []) j ≡ part run j ++ x ∷ [] = part-same run j (x ∷ []) in
    let law = subst (λ h. EachAfter (IsAllowed j n) [] h) (sym (append_assoc (part run j) (x ∷ []) xs) ∙ ap (λ ys. ys ++ xs) (sym mine)) allowed in
    let rest = legal-more n j first last xs (run ++ (j, x) ∷ []) here law (λ y p. carried-kept n run ((j, x) ∷ []) j y (carried y (Contains-later x xs y p))) in
    rw append_assoc at rest

-- ---- what every schedule keeps

pub record Holds (start : ℕ → Base) (n : ℕ) (room : RoomRule) (events : List (ℕ × Action)) : Type 0 where
  pub sound : (i : ℕ) → Sound i n room (process start n room events i)
  pub parts : (i : ℕ) → part (committed start n room events) i ≡ take (state_after start n room events i).durable (state_after start n room events i).inputs
  pub legal : IsLegal n (committed start n room events)
  -- what a node accepted, durable or not, came of what is durable at its neighbours
  pub carried : (i : ℕ) (x : Input) → Contains (state_after start n room events i).inputs x → IsCarried n (committed start n room events) i x
  pub packets : (i : ℕ) (p : Packet) → Contains events (i, Release (Sent p)) → PacketRests i (part (committed start n room events) i) p

-- what a request brings is carried
module _ (n : ℕ) (events : List (ℕ × Action)) (run : List (ℕ × Input)) (packets : (i : ℕ) (p : Packet) → Contains events (i, Release (Sent p)) → PacketRests i (part run i) p) where
  delivered : (i : ℕ) (q : Request) (x : Input) → IsDelivered n events i q → input_of q ≡ Some x → IsCarried n run i x
  unfolding IsDelivered input_of IsCarried
  delivered i (ask.Stand key bid) x d e = subst (IsCarried n run i) (let p : Stand key bid ≡ x = cc in p) tt
  delivered i (ask.Take msg_no msg) x d e = subst (IsCarried n run i) (let p : Take msg_no msg ≡ x = cc in p) (packets (before n i) (Carry msg_no msg) d)
  delivered i (ask.Acked upto) x d e = subst (IsCarried n run i) (let p : Acked upto ≡ x = cc in p) (packets (after n i) (Credit upto) d).1
  delivered i (ask.Retire group floor) x d e = subst (IsCarried n run i) (let p : Retire group floor ≡ x = cc in p) tt
  delivered i (ask.Who key) x d e = none≢some x e
  delivered i (ask.Latest group) x d e = none≢some x e

module _ (start : ℕ → Base) (n : ℕ) (room : RoomRule) (events : List (ℕ × Action)) (j : ℕ) (a : Action) where
  abbrev later : List (ℕ × Action)
  later = events ++ (j, a) ∷ []

  abbrev run : List (ℕ × Input)
  run = committed start n room events

  abbrev new_inputs : List Input
  new_inputs = made_durable (state_after start n room events j) a

  abbrev more : List (ℕ × Input)
  more = map (λ x. (j, x)) new_inputs

  committed-next : committed start n room later ≡ run ++ more
  unfolding committed committed_by
  committed-next = joined_after-push (committed_by start n room) events (j, a)

  -- what holds of the acting node after its action, and held of each node before
  pub by_node : (F : ℕ → Process → Type 0) → F j (act j n room (process start n room events j) a) → ((i : ℕ) → F i (process start n room events i)) → (i : ℕ) → F i (process start n room later i)
  by_node F new old i = elim (cases_eq j i) [
    | inl e ↦ subst (λ k. F k (process start n room later k)) e (subst (F j) (sym (process-same start n room events j a)) new)
    | inr ne ↦ subst (F i) (sym (process-other start n room events j a i ne)) (old i)
  ]

  part-next : (i : ℕ) → part (committed start n room later) i ≡ part run i ++ part more i
  part-next i = ap (λ r. part r i) committed-next ∙ part-append run more i

  module _ (h : MayHappen start n room events (j, a)) (w : Holds start n room events) where
    abbrev p : Process
    p = process start n room events j

    mine : Sound j n room p
    mine = w.sound j

    parts-next : (i : ℕ) → part (committed start n room later) i ≡ take (state_after start n room later i).durable (state_after start n room later i).inputs
    parts-next i = ap (λ r. part r i) committed-next ∙ elim (cases_eq j i) [
      | inl e ↦ subst (λ k. part (run ++ more) k ≡ take (state_after start n room later k).durable (state_after start n room later k).inputs) e same
      | inr ne ↦ other ne
    ]
      where
        same : part (run ++ more) j ≡ take (state_after start n room later j).durable (state_after start n room later j).inputs
        same = part-same run j new_inputs
            ∙ (ap (λ ys. ys ++ new_inputs) (w.parts j)
            ∙ (durable-next j n room p mine a ∙ ap (λ (q : Process). take q.state.durable q.state.inputs) (sym (process-same start n room events j a))))

        other : (j ≡ i → ⊥) → part (run ++ more) i ≡ take (state_after start n room later i).durable (state_after start n room later i).inputs
        other ne = part-other run j i new_inputs ne ∙ (w.parts i ∙ ap (λ (q : Process). take q.state.durable q.state.inputs) (sym (process-other start n room events j a i ne)))

    sound-here : Sound j n room (act j n room p a)
    sound-here = sound-next j n room p mine events a h.may

    allowed-here : EachAfter (IsAllowed j n) [] (part run j ++ new_inputs)
    allowed-here = subst (EachAfter (IsAllowed j n) []) (sym (ap (λ ys. ys ++ new_inputs) (w.parts j) ∙ durable-next j n room p mine a)) (EachAfter-take (IsAllowed j n) _ _ sound-here.allowed)

    legal-next : IsLegal n (committed start n room later)
    legal-next = subst (IsLegal n) (sym committed-next) (legal-more n j h.first h.last new_inputs run w.legal allowed-here (λ x here. w.carried j x (durable-accepted j n room p mine a x here)))

    submitted : (q : Request) (x : Input) → a ≡ Submit q → input_of q ≡ Some x → IsCarried n run j x
    unfolding May
    submitted q x e f = delivered n events run w.packets j q x (subst (λ b. May n room events j p b) e h.may) f

    carried-here : (x : Input) → Contains (act j n room p a).state.inputs x → IsCarried n run j x
    carried-here x here = elim (inputs-next j n room p mine a x here) [
      | inl old ↦ w.carried j x old
      | inr new ↦ submitted new.0 x new.1 new.2
    ]

    carried-next : (i : ℕ) (x : Input) → Contains (state_after start n room later i).inputs x → IsCarried n (committed start n room later) i x
    carried-next i x here = subst (λ r. IsCarried n r i x) (sym committed-next) (carried-kept n run more i x (by_node (λ k q. Contains q.state.inputs x → IsCarried n run k x) (carried-here x) (λ k. w.carried k x) i here))

    front : (k : ℕ) → k ≤ p.state.durable → take k p.state.inputs ++ drop k (take p.state.durable p.state.inputs) ≡ part run j
    front k less = take-less k p.state.durable p.state.inputs less ∙ sym (w.parts j)

    released : (packet : Packet) → a ≡ Release (Sent packet) → PacketRests j (part run j) packet
    unfolding May IsReleasable Rests
    released packet e =
        let r = subst (λ b. May n room events j p b) e h.may in
        subst (λ g. PacketRests j g packet) (front r.number r.durable) (rests-stay j (take r.number p.state.inputs) _ packet r.rests)

    packet-here : (i : ℕ) (packet : Packet) → ◌≡◌ {A = ℕ × Action} (j, a) (i, Release (Sent packet)) → PacketRests i (part run i) packet
    packet-here i packet e =
        let nodes : j ≡ i = ap (λ (s : ℕ × Action). s.0) e in
        let actions : a ≡ Release (Sent packet) = ap (λ (s : ℕ × Action). s.1) e in
        subst (λ k. PacketRests k (part run k) packet) nodes (released packet actions)

    packets-next : (i : ℕ) (packet : Packet) → Contains later (i, Release (Sent packet)) → PacketRests i (part (committed start n room later) i) packet
    packets-next i packet here = rw part-next (rests-stay i (part run i) (part more i) packet (elim (Contains-push_cases events (j, a) (i, Release (Sent packet)) here) [
      | inl old ↦ w.packets i packet old
      | inr new ↦ packet-here i packet new
    ]))

    holds-next : Holds start n room later
    holds-next = record {
      sound = by_node (λ k q. Sound k n room q) sound-here w.sound;
      parts = parts-next;
      legal = legal-next;
      carried = carried-next;
      packets = packets-next;
    }

holds-first : (start : ℕ → Base) (n : ℕ) (room : RoomRule) → Holds start n room []
unfolding process part committed joined_after IsLegal EachAfter
holds-first start n room = record {
  sound = λ i. sound-opened i n room (start i) [] tt;
  parts = λ i. refl;
  legal = tt;
  carried = λ i x here. Contains-nil x here;
  packets = λ i packet here. Contains-nil (i, Release (Sent packet)) here;
}

pub schedule_holds : (start : ℕ → Base) (n : ℕ) (room : RoomRule) (events : List (ℕ × Action)) → IsSchedule start n room events → Holds start n room events
schedule_holds start n room events each =
    along (MayHappen start n room) (Holds start n room) (λ es e h w. holds-next start n room es e.0 e.1 h w) [] events each (holds-first start n room)
