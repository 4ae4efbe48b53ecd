-- How many tickets with a number the parts of an event leave open.
use Rattle.std.proofs.Common.{ℕ, zero, suc, ◌≡◌, ◌+◌, ◌-◌, ◌≤◌, Bool, true, false, not, cond, List, [], ◌∷◌, ◌++◌, length, replicate, set, get_or, Option, Some, None, refl, ap, ◌∙◌, arith}
use Rattle.std.specs.List.{filter, filter_map, cons_option}
use Rattle.std.proofs.lemmas.List.{length-append}
use Rattle.std.proofs.lemmas.List.Elements.{filter_map-append}
use Rattle.ring_records.specs.declared.request.Request.{Request}
use Rattle.ring_node.specs.declared.flight.Flight.{Flight}
use Rattle.ring_node.specs.declared.flight.Flight.TheVariants.{Batch}
use Rattle.ring_node.specs.Open.{Open, is_due, sealed, serial_of}
use Rattle.ring_world.specs.Counts.{numbered, IsBounded}
use Rattle.ring_world.specs.Events.{Action}
use Rattle.ring_world.specs.Ring.{RingView, held_at, node_at, happens, asked, answered_at, landed, waits, settled, due_at, reply_of, with_reply, replies, Part, released, and_then, round, rounds, drained, lost, crashed, stopped, given, brought, swept, swept_with, swept_on, swept_one, next_delivery, new_ring}

-- ---- lists of tickets

with_one : (o : Option ℕ) (l : List ℕ) → length (cons_option o l) ≡ length (cons_option o []) + length l
with_one None l = omega arith
with_one (Some n) l = omega arith

split_if : (t : Open) (ts passed others : List Open) (b : Bool) → numbered passed + numbered others ≡ numbered ts
    → numbered (cond b (t ∷ passed) passed) + numbered (cond (not b) (t ∷ others) others) ≡ numbered (t ∷ ts)
split_if t ts passed others true e =
    let one = with_one t.serial (filter_map serial_of passed) in
    let all = with_one t.serial (filter_map serial_of ts) in
    omega arith
split_if t ts passed others false e =
    let one = with_one t.serial (filter_map serial_of others) in
    let all = with_one t.serial (filter_map serial_of ts) in
    omega arith

-- what passes a test and what does not are all
split : (p : Open → Bool) (ts : List Open) → numbered (filter p ts) + numbered (filter (λ t. not (p t)) ts) ≡ numbered ts
split p [] = refl
split p (t ∷ ts) = split_if t ts (filter p ts) (filter (λ u. not (p u)) ts) (p t) (split p ts)

many_with : (t : Open) (o : Option ℕ) (ts : List Open) → length (filter_map reply_of ts) ≡ length (filter_map serial_of ts)
    → length (cons_option (with_reply o t.kept.answer.reply) (filter_map reply_of ts)) ≡ length (cons_option o (filter_map serial_of ts))
many_with t None ts e = e
many_with t (Some n) ts e = omega arith

-- they have as many replies as numbers
as_many : (ts : List Open) → length (filter_map reply_of ts) ≡ length (filter_map serial_of ts)
as_many [] = refl
as_many (t ∷ ts) = many_with t t.serial ts (as_many ts)

-- ---- nodes

-- what is so of an item and of its new value is so of the items afterwards
each_after_set : {A : Type 0} (l : List A) (k j : ℕ) (v d : A) (P : A → Type 0) → P v → P (get_or l j d) → P (get_or (set l k v) j d)
each_after_set [] k j v d P p q = q
each_after_set (x ∷ l) zero zero v d P p q = p
each_after_set (x ∷ l) zero (suc j) v d P p q = q
each_after_set (x ∷ l) (suc k) zero v d P p q = q
each_after_set (x ∷ l) (suc k) (suc j) v d P p q = each_after_set l k j v d P p q

-- no more tickets than were put there
set_there : (l : List (List Open)) (k : ℕ) (ts : List Open) → numbered (get_or (set l k ts) k []) ≤ numbered ts
set_there [] k ts = omega arith
set_there (x ∷ l) zero ts = omega arith
set_there (x ∷ l) (suc k) ts = set_there l k ts

bounded_happens : (w : RingView) (es : List (ℕ × Action)) (i : ℕ) (ts : List Open) (t : ℕ) → IsBounded w t → numbered ts ≤ t → IsBounded (happens es i ts w) t
unfolding IsBounded
bounded_happens w es i ts t b le = λ j. each_after_set w.held (i - 1) (j - 1) ts [] (λ us. numbered us ≤ t) le (b j)

bounded_more : (w : RingView) (t u : ℕ) → t ≤ u → IsBounded w t → IsBounded w u
unfolding IsBounded
bounded_more w t u le b = λ j. let h = b j in omega arith

at_node : (w : RingView) (t i : ℕ) → IsBounded w t → numbered (held_at w i) ≤ t
unfolding IsBounded
at_node w t i b = b i

-- more events open no ticket
bounded_log : (w : RingView) (es : List (ℕ × Action)) (t : ℕ) → IsBounded w t → IsBounded (record w { events = es }) t
unfolding IsBounded
bounded_log w es t b = λ j. b j

bounded_asked : (serial : Option ℕ) (i : ℕ) (q : Request) (w : RingView) (t u : ℕ) → t + length (cons_option serial []) ≤ u → IsBounded w t → IsBounded (asked serial i q w) u
unfolding asked
bounded_asked serial i q w t u le b =
    let ticket : Open = record { serial = serial; kept = answered_at w i q } in
    let more = ap length (filter_map-append serial_of (held_at w i) (ticket ∷ [])) ∙ length-append (filter_map serial_of (held_at w i)) (filter_map serial_of (ticket ∷ [])) in
    bounded_happens w _ i (held_at w i ++ ticket ∷ []) u (bounded_more w t u (omega arith) b) (let h = at_node w t i b in omega arith)

bounded_given : (i : ℕ) (q : Request) (w : RingView) (t : ℕ) → IsBounded w t → IsBounded (given i q w) t
unfolding given
bounded_given i q w t b = bounded_log w _ t b

pub bounded_crashed : (i : ℕ) (w : RingView) (t : ℕ) → IsBounded w t → IsBounded (crashed i w) t
unfolding crashed
bounded_crashed i w t b = bounded_happens w _ i [] t b (omega arith)

pub bounded_stopped : (flight : Flight) (keeps_flying : Bool) (i : ℕ) (w : RingView) (t : ℕ) → IsBounded w t → IsBounded (stopped flight keeps_flying i w) t
unfolding stopped
bounded_stopped flight keeps_flying i w t b = bounded_happens w _ i [] t b (omega arith)

-- ---- what is released

-- the tickets of node i that the part answers are open before it and not after it, and it opens none
record IsPaid (i : ℕ) (w : RingView) (p : Part) : Type 0 where
  here : length p.0 + numbered (held_at p.1 i) ≤ numbered (held_at w i)
  all : (t : ℕ) → IsBounded w t → IsBounded p.1 t

paid_released : (i : ℕ) (w : RingView) → IsPaid i w (released i w)
unfolding replies settled
paid_released i w =
    let held = held_at w i in
    let answers = as_many (due_at w i) in
    let parts = split (is_due (node_at w i).durable) held in
    let there = set_there w.held (i - 1) (sealed (node_at w i).durable held) in
    record {
      here = omega arith;
      all = λ u b. bounded_happens w _ i (sealed (node_at w i).durable held) u b (let h = at_node w u i b in omega arith);
    }

paid_round : (flight : Flight) (i : ℕ) (w : RingView) → IsPaid i w (round flight i w)
unfolding landed
paid_round flight i w = let paid = paid_released i (landed flight i w) in record { here = paid.here; all = λ t b. paid.all t (bounded_log w _ t b) }

paid_nothing : (i : ℕ) (w : RingView) → IsPaid i w ([], w)
paid_nothing i w = record { here = omega arith; all = λ t b. b }

paid_then : (i : ℕ) (w : RingView) (p : Part) (next : RingView → Part) → IsPaid i w p → IsPaid i p.1 (next p.1) → IsPaid i w (and_then p next)
paid_then i w p next first then =
    let l = length-append p.0 (next p.1).0 in
    let h = first.here in
    let k = then.here in
    record { here = omega (arith, l, h, k); all = λ t b. then.all t (first.all t b) }

paid_if : (i : ℕ) (w : RingView) (b : Bool) (p r : Part) → IsPaid i w p → IsPaid i w r → IsPaid i w (cond b p r)
paid_if i w true p r h k = h
paid_if i w false p r h k = k

paid_rounds : (most i : ℕ) (w : RingView) → IsPaid i w (rounds most i w)
unfolding rounds
paid_rounds zero i w = paid_nothing i w
paid_rounds (suc most) i w =
    paid_if i w (waits w i) (and_then (round Batch i w) (rounds most i)) ([], w) (paid_then i w (round Batch i w) (rounds most i) (paid_round Batch i w) (paid_rounds most i (round Batch i w).1)) (paid_nothing i w)

paid_brought : (serial : Option ℕ) (i : ℕ) (q : Request) (w : RingView) → IsPaid i (asked serial i q (given i q w)) (brought serial i q w)
unfolding brought
paid_brought serial i q w =
    let t = asked serial i q (given i q w) in
    let first = paid_released i t in
    paid_if i t w.eager (and_then (released i t) (drained i)) (released i t)
    (paid_then i t (released i t) (drained i) first (paid_rounds (length (node_at (settled i t) i).inputs) i (settled i t))) first

-- so few are told and left open
pub bounded_brought : (serial : Option ℕ) (i : ℕ) (q : Request) (w : RingView) (t u : ℕ) → t + length (cons_option serial []) ≤ u → IsBounded w t
    → (length (brought serial i q w).0 ≤ u) × IsBounded (brought serial i q w).1 u
bounded_brought serial i q w t u le b =
    let opens = bounded_asked serial i q (given i q w) t u le (bounded_given i q w t b) in
    let paid = paid_brought serial i q w in
    let h = at_node (asked serial i q (given i q w)) u i opens in
    let k = paid.here in
    (omega (arith, h, k), paid.all u opens)

pub bounded_round : (flight : Flight) (i : ℕ) (w : RingView) (t : ℕ) → IsBounded w t → (length (round flight i w).0 ≤ t) × IsBounded (round flight i w).1 t
bounded_round flight i w t b =
    let paid = paid_round flight i w in
    let h = at_node w t i b in
    let k = paid.here in
    (omega (arith, h, k), paid.all t b)

pub few_lost : (i : ℕ) (w : RingView) (t : ℕ) → IsBounded w t → length (lost i w) ≤ t
unfolding lost
few_lost i w t b = at_node w t i b

-- ---- a new ring

none_open : (count k : ℕ) → numbered (get_or (replicate count []) k []) ≤ 0
none_open zero k = omega arith
none_open (suc count) zero = omega arith
none_open (suc count) (suc k) = none_open count k

pub bounded_new : (size : ℕ) (eager : Bool) (capacity : ℕ) → IsBounded (new_ring size eager capacity) 0
unfolding IsBounded
bounded_new size eager capacity = λ i. none_open size (i - 1)

-- what was told changes no node
pub bounded_told : (w : RingView) (t : ℕ) → IsBounded w t → IsBounded (record w { told = w.events }) t
unfolding IsBounded
bounded_told w t b = λ i. b i

-- ---- deliveries

bounded_on : (others : RingView → ℕ × RingView) (one : Bool × RingView) (t : ℕ) → ((w : RingView) → IsBounded w t → IsBounded (others w).1 t) → IsBounded one.1 t → IsBounded (swept_on others one).1 t
bounded_on others (true, w) t more b = more w b
bounded_on others (false, w) t more b = b

bounded_one : (i : ℕ) (q : Request) (w : RingView) (t : ℕ) → IsBounded w t → IsBounded (swept_one i q w).1 t
unfolding swept_one
bounded_one i q w t b = (bounded_brought None i q w t t (omega arith) b).1

bounded_with : (others : RingView → ℕ × RingView) (w : RingView) (delivery : Option (ℕ × Request)) (t : ℕ) → ((w : RingView) → IsBounded w t → IsBounded (others w).1 t) → IsBounded w t
    → IsBounded (swept_with others w delivery).1 t
bounded_with others w None t more b = b
bounded_with others w (Some delivery) t more b = bounded_on others (swept_one delivery.0 delivery.1 w) t more (bounded_one delivery.0 delivery.1 w t b)

pub bounded_swept : (count : ℕ) (w : RingView) (t : ℕ) → IsBounded w t → IsBounded (swept count w).1 t
unfolding swept
bounded_swept zero w t b = b
bounded_swept (suc count) w t b = bounded_with (swept count) w (next_delivery w) t (λ v c. bounded_swept count v t c) b
