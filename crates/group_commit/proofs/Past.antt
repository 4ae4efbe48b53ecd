-- A core that knows what a history says refuses, answers and goes on as the history says.
use Rattle.std.proofs.Common.{◌≡◌, ℕ, ◌+◌, ◌-◌, ◌≤◌, Bool, true, false, cond, Ok, Err, List, [], ◌∷◌, ◌++◌, append_assoc, append-nil, length, take, drop, Option, Some, None, refl, sym, ap, ◌∙◌, subst, arith}
use Rattle.std.specs.List.{cons_option, filter_map, list_any}
use Rattle.std.specs.Option.{option_map}
use Rattle.std.specs.Prelude.{unwrap_or}
use Rattle.std.proofs.lemmas.Bool.{le-leb}
use Rattle.std.proofs.Math.Seq.{take-add}
use Rattle.std.proofs.lemmas.List.{length-append, length-take-le, take-append-le, take_all, drop-drop}
use Rattle.ring_records.specs.declared.base.Base.{Base}
use Rattle.ring_records.specs.declared.candidate.Candidate.{Candidate}
use Rattle.ring_records.specs.declared.input.Input.{Input}
use Rattle.ring_records.specs.declared.input.Input.TheVariants.{Stand, Take, Acked, Retire}
use Rattle.ring_records.specs.declared.key.Key.{Key}
use Rattle.ring_records.specs.declared.refusal.Refusal.{Refusal}
use Rattle.ring_records.specs.declared.refusal.Refusal.TheVariants as refused
use Rattle.ring_records.specs.declared.reply.Reply.{Reply}
use Rattle.ring_records.specs.declared.reply.Reply.TheVariants as say
use Rattle.ring_records.specs.declared.request.Request.{Request}
use Rattle.ring_records.specs.declared.request.Request.TheVariants as ask
use Rattle.ring_records.specs.declared.room.Room.{Room}
use Rattle.ring_records.specs.declared.summary.Summary.{Summary}
use Rattle.ring_records.specs.Admission.{area_bytes, base_of, costs_of, is_retire, no_room, room_of, snapshot_len, used, shortage, newest}
use Rattle.ring_records.specs.Lawful.{IsBaseOf, HasRoom, Fits, IsAdmitted, IsLawful}
use Rattle.ring_records.specs.Answering.{refusal, gained, reply, answered}
use Rattle.ring_records.specs.Allowed.{IsAllowed}
use Rattle.ring_records.specs.Objection.{objection, where_so, retired}
use Rattle.ring_records.specs.Answer.{input_of, if_free, unless}
use Rattle.ring_records.specs.Answer as by_rule
use Rattle.ring_records.specs.Emission.{sent}
use Rattle.ring_records.specs.Release.{carry}
use Rattle.ring_records.specs.History.{floor, is_retired, credit}
use Rattle.ring_records.specs.FloorOf.{floor_of, is_below_floor}
use Rattle.ring_records.specs.Known.{Objects, known_of, leader_of, stepped, after}
use Rattle.ring_records.specs.Leader.{first_leader, leader}
use Rattle.ring_records.specs.Decided.{told}
use Rattle.ring_records.specs.Lists.{or_else, found_after, EachAfter}
use Rattle.ring_records.specs.Member.{Member}
use Rattle.ring_records.specs.States.{NodeState, launched_base, durable_in, flying_in}
use Rattle.ring_records.specs.Serving.{answered_by, gained_by}
use Rattle.ring_records.specs.Summary.{summary}
use Rattle.ring_records.proofs.Admission.{objection-allowed}
use Rattle.ring_records.proofs.Growth.{EachAfter-take}
use Rattle.ring_records.proofs.History.{if_live-none}
use Rattle.ring_records.proofs.Known.{objects-known, credit-next, credit-sent, leader-known, live-known}
use Rattle.ring_records.proofs.RetireStep.{stepped-known}
use Rattle.ring_records.proofs.Lists.{along, EachAfter-push}
use Rattle.node_core.specs.Brought.{brought, who_by}
use Rattle.node_core.specs.Core.{CoreView, Refuses}
use Rattle.node_core.specs.declared.effects.Effects.{Effects}
use Rattle.node_core.proofs.Histories.{carries, leads_last, tells, who_known}
use Rattle.group_commit.specs.CoreOf.{IsOf, core_in}
use Rattle.group_commit.specs.Leads.{leader_by}
use Rattle.group_commit.specs.Replying.{Replies, who_reply}
use Rattle.group_commit.specs.Past.{IsPast, moved, shifted}
use Rattle.group_commit.specs.Since.{IsOpenSince, IsLawfulSince, IsAreaOf, IsKnownState}
use Rattle.group_commit.specs.DeskCalls.{answered_with}
use Rattle.group_commit.specs.Outbox.{AreFree, brought_after}
use Rattle.group_commit.proofs.Opening.{EachAfter-from}
use Rattle.group_commit.proofs.Settling.{after-push, drop-front}

-- ---- what it refuses and answers

-- of an input behind the base, room is asked
room_asked : (me capacity : ℕ) (base : Base) (h : List Input) (x : Input) → base.inputs ≤ length h
    → no_room capacity (room_of base h) x (snapshot_len newest (summary me (h ++ x ∷ []))) ≡ shortage me capacity base h x
unfolding shortage
room_asked me capacity base h x within = sym (ap (λ b. cond b (no_room capacity (room_of base h) x (snapshot_len newest (summary me (h ++ x ∷ [])))) None) (le-leb base.inputs (length h) within))

pub refused-is : (core : CoreView) (base : Base) (h : List Input) (x : Input) (o : Option Refusal) → IsOf core base h → Refuses core x o → o ≡ refusal core.me core.size core.capacity base h x
unfolding by_rule.refusal
refused-is core base h x o of (first, objects, e) =
    let same = objects-known core.me core.size h x first (subst (λ (k : Summary). Objects core.size k x first) of.knows objects) in
    e ∙ (go first same ∙ ap (λ p. or_else p (shortage core.me core.capacity base h x)) same)
  where
    go : (p : Option Refusal) → p ≡ objection core.me core.size h x
        → or_else p (no_room core.capacity core.room x (snapshot_len newest (stepped core.me core.known x))) ≡ or_else p (shortage core.me core.capacity base h x)
    go (Some why) is = refl
    go None is =
        let next = ap (λ (k : Summary). stepped core.me k x) of.knows ∙ stepped-known core.me core.size h x of.allowed (objection-allowed core.me core.size h x (sym is)) in
        (λ i. no_room core.capacity (of.room i) x (snapshot_len newest (next i))) ∙ room_asked core.me core.capacity base h x of.within

-- who leads, or why that is not told
pub who_said : (me : ℕ) (h : List Input) (key : Key) → who_reply (who_by (summary me h) key) ≡ unless (retired h key) (say.Leader (leader me h key))
unfolding retired
who_said me h key = ap who_reply (who_known me h key) ∙ at (is_retired h key)
  where
    at : (b : Bool) → who_reply (cond b (Err (refused.Retired (floor h key.group))) (Ok (leader me h key))) ≡ unless (where_so b (refused.Retired (floor h key.group))) (say.Leader (leader me h key))
    at true = refl
    at false = refl

-- who leads, where that is told; nobody where the key is retired
pub led_ok : (s : Summary) (key : Key) (led : Option Candidate) → who_by s key ≡ Ok led → led ≡ leader_by s key
led_ok s key led e = go (is_below_floor s.floors key) e
  where
    go : (b : Bool) → cond b (Err (refused.Retired (floor_of s.floors key.group))) (Ok (leader_of (known_of s key))) ≡ Ok led → led ≡ cond b None (leader_of (known_of s key))
    go true e = absurd cc
    go false e = sym (let p : leader_of (known_of s key) ≡ led = cc in p)

pub led_err : (s : Summary) (key : Key) (why : Refusal) → who_by s key ≡ Err why → None ≡ leader_by s key
led_err s key why e = go (is_below_floor s.floors key) e
  where
    go : (b : Bool) → cond b (Err (refused.Retired (floor_of s.floors key.group))) (Ok (leader_of (known_of s key))) ≡ Err why → None ≡ cond b None (leader_of (known_of s key))
    go true e = refl
    go false e = absurd cc

pub leader_known : (me : ℕ) (h : List Input) (key : Key) → leader_by (summary me h) key ≡ leader me h key
unfolding leader
leader_known me h key = (λ i. cond (live-known me h key i) None (leader-known me h key i)) ∙ go (is_retired h key) refl
  where
    go : (b : Bool) → is_retired h key ≡ b → cond b None (leader me h key) ≡ leader me h key
    go true gone = sym (if_live-none h key (first_leader me h key) gone)
    go false live = refl

-- the reply, and what the history gains
pub answers : (core : CoreView) (base : Base) (h : List Input) (q : Request) (given : Reply) (more : Option Input) → IsOf core base h → Replies core q given more
    → (given ≡ reply core.me core.size core.capacity base h q) × (cons_option more [] ≡ gained core.me core.size core.capacity base h q)
unfolding by_rule.reply by_rule.gained input_of
answers core base h (ask.Stand key bid) given more of (o, refuses, says, gains) =
    let same = refused-is core base h (Stand key bid) o of refuses in
    (says ∙ ap (λ p. unless p say.Stood) same, gains ∙ ap (λ p. if_free p (Stand key bid)) same)
answers core base h (ask.Take msg_no msg) given more of (o, refuses, says, gains) =
    let same = refused-is core base h (Take msg_no msg) o of refuses in
    (says ∙ ap (λ p. unless p say.Taken) same, gains ∙ ap (λ p. if_free p (Take msg_no msg)) same)
answers core base h (ask.Acked upto) given more of (o, refuses, says, gains) =
    let same = refused-is core base h (Acked upto) o of refuses in
    (says ∙ ap (λ p. unless p say.Acked) same, gains ∙ ap (λ p. if_free p (Acked upto)) same)
answers core base h (ask.Retire group new) given more of (o, refuses, says, gains) =
    let same = refused-is core base h (Retire group new) o of refuses in
    (says ∙ ap (λ p. unless p say.Retired) same, gains ∙ ap (λ p. if_free p (Retire group new)) same)
answers core base h (ask.Who key) given more of (says, none) =
    (says ∙ (ap (λ (k : Summary). who_reply (who_by k key)) of.knows ∙ who_said core.me h key), ap (λ o. cons_option o []) none)
answers core base h (ask.Latest group) given more of (led, is, says, none) = (says ∙ ap say.Latest (leads_last core.me core.known h group led of.knows is), ap (λ o. cons_option o []) none)

-- ---- parts of the whole history

pub take-front : {A : Type 0} (xs ys : List A) → take (length xs) (xs ++ ys) ≡ xs
take-front xs ys = take-append-le (length xs) xs ys (omega arith) ∙ take_all (length xs) xs (omega arith)

pub durable-shifted : (past : List Input) (s : NodeState) → durable_in (shifted past s) ≡ past ++ durable_in s
durable-shifted past s = take-add (length past) s.durable (past ++ s.inputs) ∙ (λ i. take-front past s.inputs i ++ take s.durable (drop-front past s.inputs i))

pub flying-shifted : (past : List Input) (s : NodeState) → flying_in (shifted past s) ≡ flying_in s
flying-shifted past s =
    let count : length past + s.flying - (length past + s.durable) ≡ s.flying - s.durable = omega arith in
    (λ i. take (count i) (drop (length past + s.durable) (past ++ s.inputs)))
    ∙ ap (take (s.flying - s.durable)) (sym (drop-drop s.durable (length past) (past ++ s.inputs)) ∙ ap (drop s.durable) (drop-front past s.inputs))

moved_launched : (k : ℕ) (b : Base) (o : Option Base) → moved k (unwrap_or o b) ≡ unwrap_or (option_map (moved k) o) (moved k b)
moved_launched k b None = refl
moved_launched k b (Some c) = refl

-- the area from which room is counted
pub launched-shifted : (past : List Input) (s : NodeState) → launched_base (shifted past s) ≡ moved (length past) (launched_base s)
launched-shifted past s = sym (moved_launched (length past) s.base s.checkpoint)

-- ---- as inputs are accepted

-- what is known since the opening goes on as the past with these inputs does
pub record Follows (m : Member) (opening : Summary) (past l : List Input) : Type 0 where
  pub knows : after m.node opening l ≡ summary m.node (past ++ l)
  pub allowed : EachAfter (IsAllowed m.node m.n) [] (past ++ l)
  pub credit : credit (past ++ l) ≤ length (sent m.node (past ++ l))

follows-push : (m : Member) (opening : Summary) (past l : List Input) (x : Input) → Objects m.n (after m.node opening l) x None → Follows m opening past l
    → Follows m opening past (l ++ x ∷ [])
follows-push m opening past l x free follows =
    let h = past ++ l in
    let none = objects-known m.node m.n h x None (subst (λ (s : Summary). Objects m.n s x None) follows.knows free) in
    let allowed = objection-allowed m.node m.n h x (sym none) in
    let more = append_assoc past l (x ∷ []) in
    record {
      knows = after-push m.node opening l x ∙ (ap (λ (s : Summary). stepped m.node s x) follows.knows ∙ (stepped-known m.node m.n h x follows.allowed allowed ∙ ap (summary m.node) more));
      allowed = subst (EachAfter (IsAllowed m.node m.n) []) more (EachAfter-push (IsAllowed m.node m.n) [] h x follows.allowed allowed);
      credit = subst (λ (g : List Input). credit g ≤ length (sent m.node g)) more (credit-next m.node m.n h x allowed follows.credit);
    }

follows_none : (m : Member) (opening : Summary) (past : List Input) → IsPast m opening past → Follows m opening past []
follows_none m opening past is =
    let whole = sym (append-nil past) in
    record {
      knows = is.summed ∙ ap (summary m.node) whole;
      allowed = subst (EachAfter (IsAllowed m.node m.n) []) whole is.allowed;
      credit = subst (λ (g : List Input). credit g ≤ length (sent m.node g)) whole (credit-sent m.node m.n past is.allowed);
    }

pub follows : (m : Member) (opening : Summary) (past l : List Input) → IsPast m opening past → AreFree m.node m.n opening l → Follows m opening past l
follows m opening past l is free =
    along (λ before x. Objects m.n (after m.node opening before) x None) (λ g. Follows m opening past g) (λ g x none f. follows-push m opening past g x none f) [] l free (follows_none m opening past is)

-- and so do the first of its inputs, so many of them
pub follows-take : (m : Member) (opening : Summary) (past l : List Input) (k : ℕ) → IsPast m opening past → AreFree m.node m.n opening l → Follows m opening past (take k l)
follows-take m opening past l k is free = follows m opening past (take k l) is (EachAfter-take (λ before x. Objects m.n (after m.node opening before) x None) k l free)

-- ---- with room counted from a base

-- the past counts for nothing
pub used-moved : (base : Base) (past l : List Input) → used (moved (length past) base) (past ++ l) ≡ used base l
unfolding used
used-moved base past l =
    ap (λ (g : List Input). base.bytes + costs_of g) (sym (drop-drop base.inputs (length past) (past ++ l)) ∙ ap (drop base.inputs) (drop-front past l))

pub room-moved : (base : Base) (past l : List Input) → room_of (moved (length past) base) (past ++ l) ≡ room_of base l
room-moved base past l =
    let waits = ap (list_any is_retire) (sym (drop-drop base.inputs (length past) (past ++ l)) ∙ ap (drop base.inputs) (drop-front past l)) in
    λ i. record { layout = base.layout; epoch = base.epoch; taken = used-moved base past l i; waits = waits i }

-- nothing is asked of what is summarised but that it was allowed
allowed_within : (m : Member) (base : Base) (before l : List Input) → length before + length l ≤ base.inputs → EachAfter (IsAllowed m.node m.n) before l
    → EachAfter (IsAdmitted m.node m.n m.capacity base) before l
unfolding EachAfter Fits
allowed_within m base before [] within allowed = tt
allowed_within m base before (x ∷ l) within allowed =
    let grown = length-append before (x ∷ []) in
    (record { allowed = allowed.0; fits = λ behind. absurd (omega (arith, within, behind)) }, allowed_within m base (before ++ x ∷ []) l (omega (arith, within, grown)) allowed.1)

fits-moved : (m : Member) (opening : Summary) (base : Base) (past l : List Input) (x : Input) → Follows m opening past (l ++ x ∷ [])
    → (base.inputs ≤ length l → HasRoom m.capacity (room_of base l) x (snapshot_len newest (after m.node opening (l ++ x ∷ []))))
    → Fits m.node m.capacity (moved (length past) base) (past ++ l) x
unfolding Fits
fits-moved m opening base past l x f fits = λ within.
    let sum = length-append past l in
    subst (λ (p : Room × Summary). HasRoom m.capacity p.0 x (snapshot_len newest p.1))
    (λ i. (sym (room-moved base past l) i, (f.knows ∙ ap (summary m.node) (sym (append_assoc past l (x ∷ [])))) i)) (fits (omega (arith, sum, within)))

-- what it accepted follows its past, and is lawful behind it
IsBehind : Member → Summary → Base → List Input → List Input → Type 0
IsBehind m opening base past l = Follows m opening past l × IsLawful m.node m.n m.capacity (moved (length past) base) (past ++ l)

behind-push : (m : Member) (opening : Summary) (base : Base) (past l : List Input) (x : Input) → IsOpenSince m opening base l x → IsBehind m opening base past l
    → IsBehind m opening base past (l ++ x ∷ [])
unfolding IsLawful IsBehind
behind-push m opening base past l x free (f, lawful) =
    let h = past ++ l in
    let c = moved (length past) base in
    let none = objects-known m.node m.n h x None (subst (λ (s : Summary). Objects m.n s x None) f.knows free.free) in (
      follows-push m opening past l x free.free f,
      subst (EachAfter (IsAdmitted m.node m.n m.capacity c) []) (append_assoc past l (x ∷ []))
          (EachAfter-push (IsAdmitted m.node m.n m.capacity c) [] h x lawful (record { allowed = objection-allowed m.node m.n h x (sym none); fits = fits-moved m opening base past l x (follows-push m opening past l x free.free f) free.fits })),
    )

pub lawful_past : (m : Member) (opening : Summary) (base : Base) (past l : List Input) → IsPast m opening past → IsLawfulSince m opening base l
    → IsLawful m.node m.n m.capacity (moved (length past) base) (past ++ l)
unfolding IsLawful IsBehind
lawful_past m opening base past l is lawful =
    let c = moved (length past) base in
    let size = ap length (append-nil past) in
    let none : EachAfter (IsAllowed m.node m.n) [] (past ++ []) = subst (EachAfter (IsAllowed m.node m.n) []) (sym (append-nil past)) is.allowed in
    (along (IsOpenSince m opening base) (IsBehind m opening base past) (λ g x free b. behind-push m opening base past g x free b) [] l lawful
    (follows_none m opening past is, allowed_within m c [] (past ++ []) (omega (arith, size)) none)).1

-- nothing is against what it accepted
pub free_since : (m : Member) (opening : Summary) (base : Base) (l : List Input) → IsLawfulSince m opening base l → AreFree m.node m.n opening l
free_since m opening base l lawful =
    EachAfter-from (IsOpenSince m opening base) (λ before x. Objects m.n (after m.node opening before) x None) [] (λ before x free. free.free) [] l lawful

-- an area of the inputs since is one of the whole history
pub based_past : (m : Member) (opening : Summary) (base : Base) (past l : List Input) → IsPast m opening past → AreFree m.node m.n opening l → IsAreaOf m.node opening base l
    → IsBaseOf m.node (moved (length past) base) (past ++ l)
based_past m opening base past l is free area =
    let front = take base.inputs l in
    let within = area.within in
    let sum = length-append past l in
    let size = length-append past front in
    let count = length-take-le base.inputs l within in
    let f = follows-take m opening past l base.inputs is free in
    let joined : take (length past + base.inputs) (past ++ l) ≡ past ++ front =
    take-add (length past) base.inputs (past ++ l) ∙ (λ i. take-front past l i ++ take base.inputs (drop-front past l i)) in
    let inputs : length past + base.inputs ≡ length (past ++ front) = omega (arith, size, count) in
    record {
      within = omega (arith, within, sum);
      is = (λ i. record { layout = base.layout; epoch = base.epoch; inputs = inputs i; bytes = (area.bytes ∙ ap (area_bytes base.layout) f.knows) i })
          ∙ ap (λ (g : List Input). base_of base.layout base.epoch (summary m.node g)) (sym joined);
    }

-- ---- its core

-- it knows what the whole history says, with room counted from the area that is in use then
pub core_past : (m : Member) (opening : Summary) (past : List Input) (s : NodeState) → IsPast m opening past → IsKnownState m opening s
    → IsOf (core_in m opening s) (moved (length past) (launched_base s)) (past ++ s.inputs)
core_past m opening past s is known =
    let sum = length-append past s.inputs in
    let within = known.next.within in
    let f = follows m opening past s.inputs is (free_since m opening (launched_base s) s.inputs known.all) in
    record {
      knows = f.knows;
      room = sym (room-moved (launched_base s) past s.inputs);
      within = omega (arith, within, sum);
      allowed = f.allowed;
    }

pub core_knows : (m : Member) (opening : Summary) (past : List Input) (s : NodeState) (core : CoreView) → IsPast m opening past → IsKnownState m opening s → core ≡ core_in m opening s
    → core.known ≡ summary m.node (past ++ s.inputs)
core_knows m opening past s core is known knows = (λ i. (knows i).known) ∙ (core_past m opening past s is known).knows

-- what is known by its durable inputs
pub durable_knows : (m : Member) (opening : Summary) (past : List Input) (s : NodeState) → IsPast m opening past → IsKnownState m opening s
    → after m.node opening (durable_in s) ≡ summary m.node (durable_in (shifted past s))
durable_knows m opening past s is known =
    (follows-take m opening past s.inputs s.durable is (free_since m opening (launched_base s) s.inputs known.all)).knows ∙ ap (summary m.node) (sym (durable-shifted past s))

-- what it answers
pub given_is : (m : Member) (opening : Summary) (past : List Input) (s : NodeState) (core : CoreView) (q : Request) (given : Reply) (more : Option Input) (number : ℕ) → IsPast m opening past
    → IsKnownState m opening s → core ≡ core_in m opening s → Replies core q given more → number ≡ opening.inputs + length (s.inputs ++ cons_option more [])
    → (answered_with q given number ≡ answered_by m (shifted past s) q) × (cons_option more [] ≡ gained_by m (shifted past s) q)
given_is m opening past s core q given more number is known knows replies count =
    let base = moved (length past) (launched_base s) in
    let h = past ++ s.inputs in
    let says = answers (core_in m opening s) base h q given more (core_past m opening past s is known) (subst (λ (c : CoreView). Replies c q given more) knows replies) in
    let front : opening.inputs ≡ length past = λ i. (is.summed i).inputs in
    let sum = length-append past (s.inputs ++ cons_option more []) in
    let counted : number ≡ length (h ++ cons_option more []) = omega (arith, count, front, sum) ∙ ap length (sym (append_assoc past s.inputs (cons_option more []))) in
    let whole = launched-shifted past s in (
      (λ i. answered_with q (says.0 i) ((counted ∙ ap (λ k. length (h ++ k)) says.1) i)) ∙ ap (λ (b : Base). answered m.node m.n m.capacity b h q) (sym whole),
      says.1 ∙ ap (λ (b : Base). gained m.node m.n m.capacity b h q) (sym whole),
    )

-- ---- what its inputs bring

brought-known : (me : ℕ) (h : List Input) (x : Input) → brought me (summary me h) x ≡ record { carry = carry me h x; notice = told me h x }
brought-known me h x = λ i. record { carry = carries me (summary me h) h x refl i; notice = tells me (summary me h) h x refl i }

pub found-known : {B : Type 0} (part : Effects → Option B) (f : List Input → Input → Option B) (me n : ℕ)
    → ((h : List Input) (x : Input) → part (record { carry = carry me h x; notice = told me h x }) ≡ f h x)
    → (s : Summary) (h l : List Input) → s ≡ summary me h → EachAfter (IsAllowed me n) [] h → EachAfter (IsAllowed me n) h l → filter_map part (brought_after me s l) ≡ found_after f h l
unfolding brought_after found_after EachAfter
found-known part f me n is s h [] knows within allowed = refl
found-known part f me n is s h (x ∷ l) knows within allowed =
    let steps = ap (λ (t : Summary). stepped me t x) knows ∙ stepped-known me n h x within allowed.0 in
    (λ i. cons_option ((ap (λ (t : Summary). part (brought me t x)) knows ∙ (ap part (brought-known me h x) ∙ is h x)) i)
    (found-known part f me n is (stepped me s x) (h ++ x ∷ []) l steps (EachAfter-push (IsAllowed me n) [] h x within allowed.0) allowed.1 i))
