-- What was handed out stays, and names one leader, by whatever rule of room.
use Rattle.std.proofs.Common.{ℕ, ◌≡◌, ◌≢◌, ◌≤◌, true, List, [], ◌∷◌, ◌++◌, length, take, drop, Option, Some, None, sym, ap, ◌∙◌, subst, arith}
use Rattle.std.specs.List.{Contains}
use Rattle.std.proofs.lemmas.List.{length-append, length-take-le, take-append-le, take-append-drop, take-take}
use Rattle.std.proofs.lemmas.Option.{same_Some}
use Rattle.ring_records.specs.declared.base.Base.{Base}
use Rattle.ring_records.specs.declared.candidate.Candidate.{Candidate}
use Rattle.ring_records.specs.declared.input.Input.{Input}
use Rattle.ring_records.specs.declared.input.Input.TheVariants.{Stand}
use Rattle.ring_records.specs.declared.key.Key.{Key}
use Rattle.ring_records.specs.declared.refusal.Refusal.{Refusal}
use Rattle.ring_records.specs.declared.reply.Reply.TheVariants as say
use Rattle.ring_records.specs.declared.request.Request.{Request}
use Rattle.ring_records.specs.declared.request.Request.TheVariants as ask
use Rattle.ring_records.specs.Objection.{retired}
use Rattle.ring_records.specs.Answer.{Rule, Answer, unless, reply}
use Rattle.ring_records.specs.Leader.{first_leader, leader, latest}
use Rattle.ring_records.specs.Lists.{joined_after}
use Rattle.ring_records.specs.Order.{is_less}
use Rattle.ring_records.specs.Ring.{IsLegal}
use Rattle.ring_records.specs.Part.{part}
use Rattle.ring_records.specs.States.{NodeState}
use Rattle.ring_records.proofs.Growth.{first_leader-kept, EachAfter-front, EachAfter-at, take-less}
use Rattle.ring_records.proofs.History.{leader-shown}
use Rattle.ring_records.proofs.Leader.{latest-leads}
use Rattle.ring_records.proofs.Lists.{none≢some, joined_after-append}
use Rattle.ring_world.specs.Committed.{committed_by, committed}
use Rattle.ring_world.specs.Events.{Thing, Replied, Sent, Shown, Action, Release, Process, RoomRule, process, state_after}
use Rattle.ring_world.specs.Released.{IsKept, named_by, named, IsAnnounced}
use Rattle.ring_world.specs.Schedules.{Rests, IsDurable, IsReleasable, May, MayHappen, IsSchedule}
use Rattle.history_laws.proofs.Runs.{split_at, part-append}
use Rattle.ring_world.proofs.Chain.{IsShown, shown_by, agree, stands, greatest}
use Rattle.ring_world.proofs.Processes.{Sound}
use Rattle.ring_world.proofs.Schedules.{Holds, schedule_holds}

-- ---- what is durable stays

-- the first d of xs are a front of the first e of ys: so is each of their fronts
fronts : {A : Type 0} (d e : ℕ) (xs ys more : List A) → d ≤ length xs → e ≤ length ys → take e ys ≡ take d xs ++ more → (k : ℕ) → k ≤ d → record { durable : k ≤ e; same : take k ys ≡ take k xs }
fronts d e xs ys more inside outside same k less =
    let first = length-take-le d xs inside in
    let second = length-take-le e ys outside in
    let both = ap length same in
    let joined = length-append (take d xs) more in
    let grows : d ≤ e = omega arith in
    record {
      durable = omega arith;
      same = sym (take-take k e ys (omega arith)) ∙ (ap (take k) same ∙ (take-append-le k (take d xs) more (omega arith) ∙ take-take k d xs less));
    }

durable_within : (me n : ℕ) (room : RoomRule) (p : Process) → Sound me n room p → p.state.durable ≤ length p.state.inputs
durable_within me n room p sound = let d = sound.durable in let f = sound.flying in omega arith

may_release : (start : ℕ → Base) (n : ℕ) (room : RoomRule) (events : List (ℕ × Action)) (i : ℕ) (t : Thing) → MayHappen start n room events (i, Release t) → IsReleasable i n room (process start n room events i) t
unfolding May
may_release start n room events i t h = h.may

module _ (start : ℕ → Base) (n : ℕ) (room : RoomRule) (early late : List (ℕ × Action)) (before : Holds start n room early) (after : Holds start n room (early ++ late)) (i : ℕ) where
  abbrev at_release : NodeState
  at_release = state_after start n room early i

  abbrev now : NodeState
  now = state_after start n room (early ++ late) i

  grows : (rest : List Input) × (take now.durable now.inputs ≡ take at_release.durable at_release.inputs ++ rest)
  unfolding committed
  grows = (
    part (joined_after (committed_by start n room) early late) i,
    sym (after.parts i)
        ∙ (ap (λ r. part r i) (joined_after-append (committed_by start n room) early late)
        ∙ (part-append (joined_after (committed_by start n room) [] early) (joined_after (committed_by start n room) early late) i
        ∙ ap (λ ys. ys ++ part (joined_after (committed_by start n room) early late) i) (before.parts i))),
  )

  pub stays : (k : ℕ) → k ≤ at_release.durable → record { durable : k ≤ now.durable; same : take k now.inputs ≡ take k at_release.inputs }
  stays = fronts at_release.durable now.durable at_release.inputs now.inputs grows.0
      (durable_within i n room (process start n room early i) (before.sound i)) (durable_within i n room (process start n room (early ++ late) i) (after.sound i)) grows.1

  durable-kept : (t : Thing) → IsDurable i n room at_release t → IsKept i n room t at_release now
  durable-kept t r =
      let within : at_release.durable ≤ length at_release.inputs = durable_within i n room (process start n room early i) (before.sound i) in
      let less = r.durable in
      let kept = stays r.number less in
      record { number = r.number; rested = record { within = omega arith; rests = r.rests }; was_durable = less; is_durable = kept.durable; same = kept.same }

  released-kept : (t : Thing) → IsReleasable i n room (process start n room early i) t → IsKept i n room t at_release now
  unfolding IsReleasable
  released-kept (Replied a) r =
      let kept = stays a.answer.number r.1 in
      record { number = a.answer.number; rested = (before.sound i).kept a r.0; was_durable = r.1; is_durable = kept.durable; same = kept.same }
  released-kept (Sent packet) r = durable-kept (Sent packet) r
  released-kept (Shown key c) r = durable-kept (Shown key c) r

pub prefix_kept : (start : ℕ → Base) (n : ℕ) (room : RoomRule) (early late : List (ℕ × Action)) (i : ℕ) (t : Thing) → IsSchedule start n room (early ++ (i, Release t) ∷ late)
    → IsKept i n room t (state_after start n room early i) (state_after start n room (early ++ (i, Release t) ∷ late) i)
prefix_kept start n room early late i t s =
    released-kept start n room early ((i, Release t) ∷ late)
    (schedule_holds start n room early (EachAfter-front (MayHappen start n room) [] early ((i, Release t) ∷ late) s))
    (schedule_holds start n room (early ++ (i, Release t) ∷ late) s) i t
    (may_release start n room early i t (EachAfter-at (MayHappen start n room) [] early (i, Release t) late s))

-- ---- the run of what is durable

pub committed_legal : (start : ℕ → Base) (n : ℕ) (room : RoomRule) (events : List (ℕ × Action)) → IsSchedule start n room events → IsLegal n (committed start n room events)
committed_legal start n room events s = (schedule_holds start n room events s).legal

pub committed_parts : (start : ℕ → Base) (n : ℕ) (room : RoomRule) (events : List (ℕ × Action)) (i : ℕ) → IsSchedule start n room events
    → part (committed start n room events) i ≡ take (state_after start n room events i).durable (state_after start n room events i).inputs
committed_parts start n room events i s = (schedule_holds start n room events s).parts i

-- ---- answers that name a leader

who-leads : (asked : Key) (o : Option Candidate) (key : Key) (c : Candidate) → named_by (ask.Who asked) (say.Leader o) ≡ Some (key, c) → (asked ≡ key) × (o ≡ Some c)
unfolding named_by
who-leads asked None key c e = none≢some (key, c) e
who-leads asked (Some d) key c e = let both = same_Some (asked, d) (key, c) e in (ap (λ (w : Key × Candidate). w.0) both, ap (λ (w : Key × Candidate). Some w.1) both)

latest-named : (group : List ℕ) (o : Option (ℕ × Candidate)) (key : Key) (c : Candidate) → named_by (ask.Latest group) (say.Latest o) ≡ Some (key, c) → (group ≡ key.group) × (o ≡ Some (key.term, c))
unfolding named_by
latest-named group None key c e = none≢some (key, c) e
latest-named group (Some led) key c e =
    let both = same_Some (record { group = group; term = led.0 }, led.1) (key, c) e in
    (ap (λ (w : Key × Candidate). w.0.group) both, ap (λ (w : Key × Candidate). Some (w.0.term, w.1)) both)

-- nor of a key that is retired
who-asked : (asked : Key) (p : Option Refusal) (o : Option Candidate) (key : Key) (c : Candidate) → named_by (ask.Who asked) (unless p (say.Leader o)) ≡ Some (key, c) → (asked ≡ key) × (o ≡ Some c)
unfolding named_by
who-asked asked None o key c e = who-leads asked o key c e
who-asked asked (Some why) o key c e = none≢some (key, c) e

-- a reply that names a leader was given by a node that knew it
reply-leads : (me n : ℕ) (rule : Rule) (h : List Input) (q : Request) (key : Key) (c : Candidate) → named_by q (reply me n rule h q) ≡ Some (key, c) → leader me h key ≡ Some c
unfolding named_by reply
reply-leads me n rule h (ask.Who asked) key c e = let r = who-asked asked (retired h asked) (leader me h asked) key c e in ap (leader me h) (sym r.0) ∙ r.1
reply-leads me n rule h (ask.Latest group) key c e = let r = latest-named group (latest me h group) key c e in latest-leads me h key.group key.term c (ap (latest me h) (sym r.0) ∙ r.1)
reply-leads me n rule h (ask.Stand asked bid) key c e = none≢some (key, c) e
reply-leads me n rule h (ask.Take msg_no msg) key c e = none≢some (key, c) e
reply-leads me n rule h (ask.Acked upto) key c e = none≢some (key, c) e
reply-leads me n rule h (ask.Retire group floor) key c e = none≢some (key, c) e

-- The inputs that a thing rests on show the leader that it names. A reply was given by the first of them.
rests-shows : (me n : ℕ) (room : RoomRule) (h : List Input) (t : Thing) (key : Key) (c : Candidate) → Rests me n room h t → named t ≡ Some (key, c) → first_leader me h key ≡ Some c
unfolding Rests named
rests-shows me n room h (Replied a) key c r e =
    let answers = r.1.answers in
    let said = reply-leads me n (room.says me r.1.base) (take answers.before h) a.question key c (ap (named_by a.question) (sym (ap (λ (b : Answer). b.reply) answers.same)) ∙ e) in
    let shown = leader-shown me (take answers.before h) key c said in
    subst (λ g. first_leader me g key ≡ Some c) (take-append-drop answers.before h) (first_leader-kept me (take answers.before h) (drop answers.before h) key c shown)
rests-shows me n room h (Sent packet) key c r e = none≢some (key, c) e
rests-shows me n room h (Shown asked d) key c r e =
    let both = same_Some (asked, d) (key, c) e in
    ap (first_leader me h) (sym (ap (λ (w : Key × Candidate). w.0) both)) ∙ (leader-shown me h asked d r ∙ ap (λ (w : Key × Candidate). Some w.1) both)

-- a leader that was announced is shown in the run
announced-shown : (start : ℕ → Base) (n : ℕ) (room : RoomRule) (events : List (ℕ × Action)) (key : Key) (c : Candidate) → IsSchedule start n room events → IsAnnounced events key c → IsShown n (committed start n room events) key c
announced-shown start n room events key c s a =
    let at = split_at events (a.node, Release a.thing) a.released in
    let now = state_after start n room events a.node in
    let kept : IsKept a.node n room a.thing (state_after start n room at.0 a.node) now =
    subst (λ es. IsKept a.node n room a.thing (state_after start n room at.0 a.node) (state_after start n room es a.node)) (sym at.2)
    (prefix_kept start n room at.0 at.1 a.node a.thing (subst (IsSchedule start n room) at.2 s)) in
    shown_by n (committed start n room events) key c (committed_legal start n room events s) a.node (take kept.number now.inputs) (drop kept.number (take now.durable now.inputs))
    (take-less kept.number now.durable now.inputs kept.is_durable ∙ sym (committed_parts start n room events a.node s))
    (rests-shows a.node n room (take kept.number now.inputs) a.thing key c (subst (λ h. Rests a.node n room h a.thing) (sym kept.same) kept.rested.rests) a.names)

pub one_leader : (start : ℕ → Base) (n : ℕ) (room : RoomRule) (events : List (ℕ × Action)) (key : Key) (c d : Candidate) → IsSchedule start n room events → IsAnnounced events key c → IsAnnounced events key d → c ≡ d
one_leader start n room events key c d s a b =
    agree n (committed start n room events) key c (committed_legal start n room events s) d (announced-shown start n room events key c s a) (announced-shown start n room events key d s b)

pub leader_stands : (start : ℕ → Base) (n : ℕ) (room : RoomRule) (events : List (ℕ × Action)) (key : Key) (c : Candidate) → IsSchedule start n room events → IsAnnounced events key c
    → Contains (committed start n room events) (c.node, Stand key c.bid)
leader_stands start n room events key c s a = stands n (committed start n room events) key c (committed_legal start n room events s) (announced-shown start n room events key c s a)

pub leader_greatest : (start : ℕ → Base) (n : ℕ) (room : RoomRule) (events : List (ℕ × Action)) (key : Key) (c d : Candidate) → IsSchedule start n room events → IsAnnounced events key c
    → Contains (committed start n room events) (d.node, Stand key d.bid) → d ≢ c → is_less d c ≡ true
leader_greatest start n room events key c d s a = greatest n (committed start n room events) key c (committed_legal start n room events s) d (announced-shown start n room events key c s a)
