-- How long the snapshot of what a core knows is, and how that changes with an input.
use Rattle.std.proofs.Common.{ℕ, ◌≡◌, ◌+◌, ◌-◌, ◌<◌, ◌≤◌, ◌^◌, Bool, true, false, List, [], ◌∷◌, ◌++◌, cond, Option, Some, None, refl, sym, ap, ◌∙◌, append-nil, arith}
use Rattle.std.specs.FinMap as map
use Rattle.std.specs.List.{cons_option, sum_by}
use Rattle.std.specs.Prelude.{is_some, nat_le}
use Rattle.std.proofs.lemmas.Bool.{ltb-false, leb-false}
use Rattle.std.proofs.lemmas.List.Sums.{sum_by-cons, sum_by-append, sum_by-take-drop}
use Rattle.ring_records.specs.declared.input.Input.{Input}
use Rattle.ring_records.specs.declared.input.Input.TheVariants.{Stand, Take, Acked, Retire}
use Rattle.ring_records.specs.declared.key.Key.{Key}
use Rattle.ring_records.specs.declared.key_state.KeyState.{KeyState}
use Rattle.ring_records.specs.declared.limits.TheConstants.{STANDS}
use Rattle.ring_records.specs.declared.msg.Msg.{Msg}
use Rattle.ring_records.specs.declared.summary.Summary.{Summary}
use Rattle.ring_records.specs.declared.refusal.Refusal.TheVariants as refused
use Rattle.ring_records.specs.Admission.{state_len, msg_len, floor_len, snapshot_len, newest}
use Rattle.ring_records.specs.Objection.{where_so, already, stale}
use Rattle.ring_records.specs.Lists.{or_else}
use Rattle.ring_records.specs.Floors.{floor_keys}
use Rattle.ring_records.specs.FloorOf.{is_below_floor}
use Rattle.ring_records.specs.Known.{drops, passed, heard, retired_in, stood_of, leader_of, sends, stepped, known_of, Objects}
use Rattle.ring_records.specs.Message.{key_of}
use Rattle.ring_records.proofs.Admission.{or_else-none, where_so-none}
use Rattle.ring_records.proofs.KeysPut.{part_of, keys-put}
use Rattle.ring_records.proofs.RetireStep.{kept-and-dropped}
use Rattle.ring_records.proofs.Snapshots.{length-parts}
use Rattle.node_core.specs.Measure.{len_of, len_on, more, less}
use Rattle.node_core.proofs.FloorsPut.{floors-put}

part-len : (o : Option KeyState) → part_of state_len o ≡ len_of o
part-len None = refl
part-len (Some s) = refl

plus_none : (n : ℕ) → n ≡ n + 0
plus_none n = omega arith

sent-more : (window : List Msg) (on : Option Msg) → sum_by msg_len (window ++ cons_option on []) ≡ sum_by msg_len window + len_on on
sent-more window None = ap (sum_by msg_len) (append-nil window) ∙ plus_none (sum_by msg_len window)
sent-more window (Some msg) = sum_by-append msg_len window (msg ∷ []) ∙ ap (λ n. sum_by msg_len window + n) (sum_by-cons msg_len msg [] ∙ sym (plus_none (msg_len msg)))

-- one key is put, and this is sent
named_measured : (s u : Summary) (key : Key) (v : KeyState) (on : Option Msg) → u.keys ≡ map.insert s.keys key v → u.window ≡ s.window ++ cons_option on [] → u.floors ≡ s.floors
    → snapshot_len newest u + len_of (known_of s key) ≡ snapshot_len newest s + (state_len v + len_on on)
named_measured s u key v on put window same =
    let a = length-parts newest s (omega arith) in
    let b = length-parts newest u (omega arith) in
    let c = ap (λ m. sum_by state_len (map.values m)) put in
    let d = keys-put state_len s.keys key v in
    let g = part-len (map.get s.keys key) in
    let f = ap (sum_by msg_len) window ∙ sent-more s.window on in
    let h = ap (λ m. sum_by floor_len (floor_keys m)) same in
    omega arith

-- a message is heard, below a floor or not
heard_measured : (below : Bool) (me : ℕ) (s u : Summary) (msg : Msg) → u.keys ≡ cond below s.keys (map.insert s.keys (key_of msg) (heard me s msg))
    → u.window ≡ s.window ++ cons_option (cond below None (passed me (stood_of (known_of s (key_of msg))) (leader_of (known_of s (key_of msg))) msg)) [] → u.floors ≡ s.floors
    → snapshot_len newest u + cond below 0 (len_of (known_of s (key_of msg)))
    ≡ snapshot_len newest s + (cond below 0 (state_len (heard me s msg)) + len_on (cond below None (passed me (stood_of (known_of s (key_of msg))) (leader_of (known_of s (key_of msg))) msg)))
heard_measured false me s u msg put window same = named_measured s u (key_of msg) (heard me s msg) _ put window same
heard_measured true me s u msg put window same =
    let a = length-parts newest s (omega arith) in
    let b = length-parts newest u (omega arith) in
    let c = ap (λ m. sum_by state_len (map.values m)) put in
    let f = ap (sum_by msg_len) (window ∙ append-nil s.window) in
    let h = ap (λ m. sum_by floor_len (floor_keys m)) same in
    omega arith

-- what is known of an Acked that nothing is said against
pub acked_within : (n : ℕ) (s : Summary) (upto : ℕ) → Objects n s (Acked upto) None → (s.credit < upto) × (upto ≤ s.sent)
acked_within n s upto e =
    let a = or_else-none _ _ (sym e) in
    let b = or_else-none _ _ a.1 in
    (leb-false upto s.credit (where_so-none _ _ a.0), ltb-false s.sent upto (where_so-none _ _ b.0))

-- what is known of the key of a Stand that nothing is said against: nothing
pub unnamed : (n : ℕ) (s : Summary) (key : Key) (bid : ℕ) → Objects n s (Stand key bid) None → known_of s key ≡ None
unnamed n s key bid (led, is, e) = none (known_of s key) (where_so-none (is_some (known_of s key)) refused.Late (or_else-none (already (stood_of (known_of s key))) (where_so (is_some (known_of s key)) refused.Late) touched).1)
  where
    touched : or_else (already (stood_of (known_of s key))) (where_so (is_some (known_of s key)) refused.Late) ≡ None
    touched = (or_else-none _ _ (or_else-none (retired_in s key) _ (sym e)).1).0

    none : (o : Option KeyState) → is_some o ≡ false → o ≡ None
    none None e = refl
    none (Some state) e = absurd cc

-- what is taken out and brought in is all that changes
pub measured : (me n : ℕ) (s : Summary) (x : Input) → Objects n s x None → snapshot_len newest (stepped me s x) + less s x ≡ snapshot_len newest s + more me s x
measured me n s (Stand key bid) free =
    let none = unnamed n s key bid free in
    let v : KeyState = record { key = key; stood = Some bid; leader = leader_of (known_of s key) } in
    let law = named_measured s (stepped me s (Stand key bid)) key v (sends me s (Stand key bid)) refl refl refl in
    let before = ap len_of none in
    let after = ap (λ o. state_len (record { key = key; stood = Some bid; leader = leader_of o })) none in
    omega (arith, law, before, after)
measured me n s (Take msg_no msg) free = heard_measured (is_below_floor s.floors (key_of msg)) me s (stepped me s (Take msg_no msg)) msg refl refl refl
measured me n s (Acked upto) free =
    let a = length-parts newest s (omega arith) in
    let b = length-parts newest (stepped me s (Acked upto)) (omega arith) in
    let c = sum_by-take-drop msg_len s.window (upto - s.credit) in
    omega arith
measured me n s (Retire group new) free =
    let a = length-parts newest s (omega arith) in
    let b = length-parts newest (stepped me s (Retire group new)) (omega arith) in
    let c = kept-and-dropped state_len s.keys (drops group new) in
    let d = floors-put s.floors group new in
    omega arith

-- the states that a Retire drops are part of the snapshot
pub dropped_within : (s : Summary) (group : List ℕ) (new : ℕ) → less s (Retire group new) ≤ snapshot_len newest s
dropped_within s group new =
    let a = length-parts newest s (omega arith) in
    let c = kept-and-dropped state_len s.keys (drops group new) in
    omega arith

-- no more is credited than was sent, and one input more is known of
pub within_next : (me n : ℕ) (s : Summary) (x : Input) → Objects n s x None → s.credit ≤ s.sent → (stepped me s x).credit ≤ (stepped me s x).sent
within_next me n s (Stand key bid) o w = omega arith
within_next me n s (Take msg_no msg) o w = omega arith
within_next me n s (Acked upto) o w = (acked_within n s upto o).1
within_next me n s (Retire group new) o w = w

pub few_inputs : (n : ℕ) (s : Summary) (x : Input) → Objects n s x None → s.inputs < 2 ^ 56
few_inputs n s (Stand key bid) (led, is, e) =
    let many = where_so (nat_le (2 ^ 56) s.inputs) refused.Limit in
    let stands = where_so (nat_le STANDS s.stands) refused.Limit in
    let touch = or_else (already (stood_of (known_of s key))) (where_so (is_some (known_of s key)) refused.Late) in
    let live = or_else-none (retired_in s key) _ (sym e) in
    let a = or_else-none touch (or_else (stale key.term led) (or_else stands many)) live.1 in
    let b = or_else-none (stale key.term led) (or_else stands many) a.1 in
    let c = or_else-none stands many b.1 in
    leb-false (2 ^ 56) s.inputs (where_so-none (nat_le (2 ^ 56) s.inputs) refused.Limit c.1)
few_inputs n s (Take msg_no msg) e =
    let a = or_else-none _ _ (sym e) in
    let b = or_else-none _ _ a.1 in
    leb-false (2 ^ 56) s.inputs (where_so-none _ _ b.1)
few_inputs n s (Acked upto) e =
    let a = or_else-none _ _ (sym e) in
    let b = or_else-none _ _ a.1 in
    leb-false (2 ^ 56) s.inputs (where_so-none _ _ b.1)
few_inputs n s (Retire group new) (led, is, e) =
    let a = or_else-none _ _ (sym e) in
    let b = or_else-none _ _ a.1 in
    leb-false (2 ^ 56) s.inputs (where_so-none _ _ b.1)

pub one_more : (me : ℕ) (s : Summary) (x : Input) → (stepped me s x).inputs ≡ s.inputs + 1
one_more me s (Stand key bid) = refl
one_more me s (Take msg_no msg) = refl
one_more me s (Acked upto) = refl
one_more me s (Retire group new) = refl
