-- Snapshots: what is read of one is spelled there, and what is spelled is read again, so bytes spell one summary at most.
use Rattle.std.proofs.Common.{ℕ, suc, ◌≡◌, ◌+◌, ◌-◌, ◌^◌, ◌<◌, ◌≤◌, Bool, true, false, cond, ltb, List, [], ◌∷◌, ◌++◌, map as list_map, length, Some, Ok, Err, refl, sym, ap, subst, ◌∙◌, append_assoc, append-nil, arith, zero, inl, inr, ◌⊎◌}
use Rattle.std.specs.FinMap as fin
use Rattle.std.specs.Int.{w16, w32, w64, to_be_bytes}
use Rattle.std.specs.List.{count_by, flat_map, AllByRecursion, Contains}
use Rattle.std.specs.List.Sorted.{IsStrictlySortedBy}
use Rattle.std.specs.Prelude.{Result}
use Rattle.std.proofs.lemmas.Bool.{cases_lt, ltb-true, ltb-false, le-ltb}
use Rattle.std.proofs.lemmas.Nat.{be_bytes_2, from_be_bytes-to_be_bytes_2}
use Rattle.ring_records.specs.declared.key.Key.{Key}
use Rattle.ring_records.specs.declared.key_state.KeyState.{KeyState}
use Rattle.ring_records.specs.declared.msg.Msg.{Msg}
use Rattle.ring_records.specs.declared.record.RecordFault.{RecordFault}
use Rattle.ring_records.specs.declared.record.RecordFault.TheVariants.{Number}
use Rattle.ring_records.specs.declared.refusal.Refusal.{Refusal}
use Rattle.ring_records.specs.declared.refusal.Refusal.TheVariants as refused
use Rattle.ring_records.specs.declared.snapshot_read.Counts.{Counts}
use Rattle.ring_records.specs.declared.summary.Summary.{Summary}
use Rattle.ring_records.specs.Floors.{floor_keys}
use Rattle.ring_records.specs.FloorOf.{IsLive}
use Rattle.ring_records.specs.FloorLists.{floored}
use Rattle.ring_records.specs.KeyOrder.{key_cmp, group_cmp}
use Rattle.ring_records.specs.KeyStates.{under_key, keyed}
use Rattle.ring_records.specs.Record.{key_bytes, IsKeyInRange}
use Rattle.ring_records.specs.RecordLists.{AreBytes}
use Rattle.ring_records.specs.RecordReading.{number_at, key_at}
use Rattle.ring_records.specs.Snapshot.{state_bytes, msg_bytes, counts_bytes, floors_bytes, snapshot_of, has_stood, IsStateOf, IsMessageOf, IsSound, Spells}
use Rattle.ring_records.specs.Summary.{empty}
use Rattle.ring_records.specs.SnapshotRead.{state_at, msg_at, items_at, counts_at, window_size, at_end, some_floors_at, floors_at, parts_at, AreFitting, IsBroken}
use Rattle.ring_records.proofs.Compare.{get-key, keys_total, keys_exact}
use Rattle.ring_records.proofs.Entries.{each-entry}
use Rattle.ring_records.proofs.Fields.{bind_ok, must_not_ok, same_ok, Takes, Takes-then, IsWide, wide_32, wide_64, number-found, number-again, key-found, key-again}
use Rattle.ring_records.proofs.FloorsInOrder.{keys-floored, len-floors, floors-sorted, floored-keys, each-floor, floor-found}
use Rattle.ring_records.proofs.Snapshots.{snapshot-plain, snapshot-parts, end_of, floors-end}
use Rattle.ring_records.proofs.Sound.{sound-empty}
use Rattle.ring_records.proofs.SnapshotItems.{IsOwnState, state-found, state-again, msg-found, msg-again, items-found, items-again}
use Rattle.ring_records.proofs.StatesInOrder.{values-keyed, len-values, IsOwn, sorted-own, entries-own, each-found, each-value}

-- ---- the counts

wide_16 : IsWide w16 (2 ^ 16)
wide_16 = record {
  len = λ n. refl;
  back = λ bytes len are. be_bytes_2 bytes _ len are refl;
  again = λ n lt. from_be_bytes-to_be_bytes_2 n lt;
  below = λ bytes are. omega (arith, are 0, are 1);
}

-- the bytes of the counts that were read
abbrev pub numbers : Counts → List ℕ
numbers k = to_be_bytes w64 k.inputs ++ to_be_bytes w64 k.taken ++ to_be_bytes w64 k.credit ++ to_be_bytes w64 k.sent ++ to_be_bytes w16 k.stands ++ to_be_bytes w32 k.keys

-- what a snapshot begins with
abbrev pub counts_of : Summary → Counts
counts_of s = record { inputs = s.inputs; taken = s.taken; credit = s.credit; sent = s.sent; stands = s.stands; keys = fin.len s.keys }

abbrev pub IsCounted : List ℕ → Counts × List ℕ → Type 0
IsCounted bytes x =
    Takes bytes (numbers x.0) x.1 × (x.0.stands < 2 ^ 16) × (x.0.keys < 2 ^ 32) × ((x.0.inputs < 2 ^ 64) × (x.0.taken < 2 ^ 64) × (x.0.credit < 2 ^ 64) × (x.0.sent < 2 ^ 64))

made : ℕ → ℕ → ℕ → ℕ → ℕ → ℕ → Counts
made inputs taken credit sent stands keys = record { inputs = inputs; taken = taken; credit = credit; sent = sent; stands = stands; keys = keys }

pub counts-found : (bytes : List ℕ) (x : Counts × List ℕ) → AreBytes bytes → counts_at bytes ≡ Ok x → IsCounted bytes x
unfolding counts_at made
counts-found bytes x are e =
    let a = bind_ok (number_at w64 bytes) _ x e in
    let b = bind_ok (number_at w64 a.0.1) _ x a.2 in
    let c = bind_ok (number_at w64 b.0.1) _ x b.2 in
    let d = bind_ok (number_at w64 c.0.1) _ x c.2 in
    let f = bind_ok (number_at w16 d.0.1) _ x d.2 in
    let g = bind_ok (number_at w32 f.0.1) _ x f.2 in
    let inputs = number-found w64 (2 ^ 64) wide_64 bytes a.0 are a.1 in
    let taken = number-found w64 (2 ^ 64) wide_64 a.0.1 b.0 inputs.0.left b.1 in
    let credit = number-found w64 (2 ^ 64) wide_64 b.0.1 c.0 taken.0.left c.1 in
    let sent = number-found w64 (2 ^ 64) wide_64 c.0.1 d.0 credit.0.left d.1 in
    let stands = number-found w16 (2 ^ 16) wide_16 d.0.1 f.0 sent.0.left f.1 in
    let keys = number-found w32 (2 ^ 32) wide_32 f.0.1 g.0 stands.0.left g.1 in
    let two = Takes-then bytes _ a.0.1 _ b.0.1 inputs.0 taken.0 in
    let three = Takes-then bytes _ b.0.1 _ c.0.1 two credit.0 in
    let four = Takes-then bytes _ c.0.1 _ d.0.1 three sent.0 in
    let five = Takes-then bytes _ d.0.1 _ f.0.1 four stands.0 in
    let six = Takes-then bytes _ f.0.1 _ g.0.1 five keys.0 in
    subst (IsCounted bytes) (same_ok (made a.0.0 b.0.0 c.0.0 d.0.0 f.0.0 g.0.0, g.0.1) x g.2) (six, stands.1, keys.1, (inputs.1, taken.1, credit.1, sent.1))

pub counts-again : (k : Counts) (rest : List ℕ) → k.inputs < 2 ^ 64 → k.taken < 2 ^ 64 → k.credit < 2 ^ 64 → k.sent < 2 ^ 64 → k.stands < 2 ^ 16 → k.keys < 2 ^ 32
    → counts_at (numbers k ++ rest) ≡ Ok (k, rest)
unfolding counts_at
counts-again k rest inputs taken credit sent stands keys =
    let r6 : List ℕ = to_be_bytes w32 k.keys ++ rest in
    let r5 : List ℕ = to_be_bytes w16 k.stands ++ r6 in
    let r4 : List ℕ = to_be_bytes w64 k.sent ++ r5 in
    let r3 : List ℕ = to_be_bytes w64 k.credit ++ r4 in
    let r2 : List ℕ = to_be_bytes w64 k.taken ++ r3 in
    let joined : numbers k ++ rest ≡ to_be_bytes w64 k.inputs ++ r2 = simp append_assoc in
    ap counts_at joined ∙ rw (number-again w64 (2 ^ 64) wide_64 k.inputs r2 inputs, number-again w64 (2 ^ 64) wide_64 k.taken r3 taken, number-again w64 (2 ^ 64) wide_64 k.credit r4 credit, number-again w64 (2 ^ 64) wide_64 k.sent r5 sent, number-again w16 (2 ^ 16) wide_16 k.stands r6 stands, number-again w32 (2 ^ 32) wide_32 k.keys rest keys) refl

-- ---- what is read is spelled

abbrev pub Parts : Type 0
Parts = Counts × List KeyState × List Msg × List Key

-- the bytes are these parts, one behind the other
pub record AreParts (layout n : ℕ) (bytes : List ℕ) (p : Parts) : Type 0 where
  pub is : bytes ≡ (numbers p.0 ++ (flat_map state_bytes p.1 ++ flat_map msg_bytes p.2)) ++ end_of layout p.3
  pub few : p.0.stands < 2 ^ 16
  pub few_keys : p.0.keys < 2 ^ 32
  pub credit : p.0.credit ≤ p.0.sent
  pub keys : length p.1 ≡ p.0.keys
  pub window : length p.2 ≡ p.0.sent - p.0.credit
  pub states : AllByRecursion (IsOwnState n) p.1
  pub messages : AllByRecursion (IsMessageOf n) p.2
  pub floors : AllByRecursion IsKeyInRange p.3
  pub few_floors : length p.3 < 2 ^ 32
  pub none : layout ≤ 2 → p.3 ≡ []

end-found : (x y : Parts) (rest : List ℕ) → at_end x rest ≡ Ok y → (x ≡ y) × (rest ≡ [])
end-found x y [] e = (same_ok x y e, refl)
end-found x y (b ∷ rest) e = absurd cc

joined : (bytes a b c d r1 r2 r3 r4 : List ℕ) → bytes ≡ a ++ r1 → r1 ≡ b ++ r2 → r2 ≡ c ++ r3 → r3 ≡ d ++ r4 → r4 ≡ [] → bytes ≡ (a ++ (b ++ c)) ++ d
joined bytes a b c d r1 r2 r3 r4 p q r s t =
    p ∙ ap (λ (l : List ℕ). a ++ l) (q ∙ ap (λ (l : List ℕ). b ++ l) (r ∙ ap (λ (l : List ℕ). c ++ l) (s ∙ (ap (λ (l : List ℕ). d ++ l) t ∙ append-nil d))))
    ∙ sym (append_assoc a (b ++ c) d ∙ ap (λ (l : List ℕ). a ++ l) (append_assoc b c d))

-- these floors stand at the front of the bytes
record AreFloors (layout : ℕ) (bytes : List ℕ) (x : List Key × List ℕ) : Type 0 where
  taken : Takes bytes (end_of layout x.0) x.1
  each : AllByRecursion IsKeyInRange x.0
  few : length x.0 < 2 ^ 32
  none : layout ≤ 2 → x.0 ≡ []

abbrev IsTold : List ℕ → List Key × List ℕ → Type 0
IsTold bytes x = Takes bytes (to_be_bytes w32 (length x.0) ++ flat_map key_bytes x.0) x.1 × AllByRecursion IsKeyInRange x.0 × (length x.0 < 2 ^ 32)

some_floors-found : (bytes : List ℕ) (x : List Key × List ℕ) → AreBytes bytes → some_floors_at bytes ≡ Ok x → IsTold bytes x
unfolding some_floors_at
some_floors-found bytes x are e =
    let a = bind_ok (number_at w32 bytes) _ x e in
    let count = number-found w32 (2 ^ 32) wide_32 bytes a.0 are a.1 in
    let keys = items-found key_at key_bytes IsKeyInRange key-found a.0.0 a.0.1 x count.0.left a.2 in
    let first : Takes bytes (to_be_bytes w32 (length x.0)) a.0.1 = subst (λ (n : ℕ). Takes bytes (to_be_bytes w32 n) a.0.1) (sym keys.len) count.0 in
    (Takes-then bytes (to_be_bytes w32 (length x.0)) a.0.1 (flat_map key_bytes x.0) x.1 first keys.taken, keys.each, omega (arith, keys.len, count.1))

some_floors-again : (floors : List Key) → AllByRecursion IsKeyInRange floors → length floors < 2 ^ 32 → some_floors_at (to_be_bytes w32 (length floors) ++ flat_map key_bytes floors) ≡ Ok (floors, [])
unfolding some_floors_at
some_floors-again floors each few =
    rw (number-again w32 (2 ^ 32) wide_32 (length floors) (flat_map key_bytes floors) few)
    (ap (items_at key_at (length floors)) (sym (append-nil (flat_map key_bytes floors))) ∙ items-again key_at key_bytes IsKeyInRange key-again floors [] each)

floors-found : (layout : ℕ) (bytes : List ℕ) (x : List Key × List ℕ) → AreBytes bytes → floors_at layout bytes ≡ Ok x → AreFloors layout bytes x
unfolding floors_at
floors-found layout bytes x are e = go (ltb 2 layout) refl e
  where
    go : (b : Bool) → ltb 2 layout ≡ b → cond b (some_floors_at bytes) (Ok ([], bytes)) ≡ Ok x → AreFloors layout bytes x
    go true is f =
        let found = some_floors-found bytes x are f in
        record {
          taken = subst (λ (b : Bool). Takes bytes (cond b (to_be_bytes w32 (length x.0) ++ flat_map key_bytes x.0) []) x.1) (sym is) found.0;
          each = found.1;
          few = found.2;
          none = λ old. absurd (omega (arith, old, ltb-true 2 layout is));
        }
    go false is f = subst (AreFloors layout bytes) {x = ([], bytes)} (same_ok ([], bytes) x f) (record {
      taken = subst (λ (b : Bool). Takes bytes (cond b (to_be_bytes w32 0 ++ []) []) bytes) (sym is) (record { parts = refl; left = are });
      each = tt;
      few = omega arith;
      none = λ old. refl;
    })

floors-again : (layout : ℕ) (floors : List Key) → AllByRecursion IsKeyInRange floors → length floors < 2 ^ 32 → (layout ≤ 2 → floors ≡ []) → floors_at layout (end_of layout floors) ≡ Ok (floors, [])
unfolding floors_at
floors-again layout floors each few none = go (ltb 2 layout) refl
  where
    go : (b : Bool) → ltb 2 layout ≡ b
        → ◌≡◌ {A = Result (List Key × List ℕ) RecordFault} (cond b (some_floors_at (cond b (to_be_bytes w32 (length floors) ++ flat_map key_bytes floors) [])) (Ok ([], cond b (to_be_bytes w32 (length floors) ++ flat_map key_bytes floors) []))) (Ok (floors, []))
    go true is = some_floors-again floors each few
    go false is = λ i. Ok (sym (none (ltb-false 2 layout is)) i, [])

parts-found : (layout n : ℕ) (bytes : List ℕ) (p : Parts) → AreBytes bytes → parts_at layout n bytes ≡ Ok p → AreParts layout n bytes p
unfolding parts_at
parts-found layout n bytes p are e =
    let a = bind_ok (counts_at bytes) _ p e in
    let k : Counts = a.0.0 in
    let b = bind_ok (window_size k) _ p a.2 in
    let c = bind_ok (items_at (state_at n) k.keys a.0.1) _ p b.2 in
    let d = bind_ok (items_at (msg_at n) b.0 c.0.1) _ p c.2 in
    let size = must_not_ok (ltb k.sent k.credit) Number (Ok (k.sent - k.credit)) b.0 b.1 in
    let counts = counts-found bytes a.0 are a.1 in
    let states = items-found (state_at n) state_bytes (IsOwnState n) (state-found n) k.keys a.0.1 c.0 counts.0.left c.1 in
    let msgs = items-found (msg_at n) msg_bytes (IsMessageOf n) (msg-found n) b.0 c.0.1 d.0 states.taken.left d.1 in
    let f = bind_ok (floors_at layout d.0.1) _ p d.2 in
    let last = end-found (k, c.0.0, d.0.0, f.0.0) p f.0.1 f.2 in
    let floors = floors-found layout d.0.1 f.0 msgs.taken.left f.1 in
    subst (AreParts layout n bytes) {x = (k, c.0.0, d.0.0, f.0.0)} last.0 (record {
      is = joined bytes (numbers k) (flat_map state_bytes c.0.0) (flat_map msg_bytes d.0.0) (end_of layout f.0.0) a.0.1 c.0.1 d.0.1 f.0.1 counts.0.parts states.taken.parts msgs.taken.parts floors.taken.parts last.1;
      few = counts.1;
      few_keys = counts.2;
      credit = ltb-false k.sent k.credit size.0;
      keys = states.len;
      window = msgs.len ∙ sym (same_ok (k.sent - k.credit) b.0 size.1);
      states = states.each;
      messages = msgs.each;
      floors = floors.each;
      few_floors = floors.few;
      none = floors.none;
    })

-- the summary of the parts
abbrev pub made_of : Counts → List KeyState → List Msg → List Key → Summary
made_of k states msgs floors = record { inputs = k.inputs; taken = k.taken; credit = k.credit; sent = k.sent; stands = k.stands; keys = keyed states; window = msgs; floors = floored floors }

Contains-each : {A : Type 0} (P : A → Type 0) (xs : List A) → AllByRecursion P xs → (x : A) → Contains xs x → P x
Contains-each P [] each x there = let below = there.1 in absurd (omega arith)
Contains-each P (y ∷ xs) each x (zero, below, e) = subst P e each.0
Contains-each P (y ∷ xs) each x (suc k, below, e) = Contains-each P xs each.1 x (k, omega arith, e)

pub parts-spelled : (layout n : ℕ) (bytes : List ℕ) (k : Counts) (states : List KeyState) (msgs : List Msg) (floors : List Key) → 2 ≤ layout → AreParts layout n bytes (k, states, msgs, floors)
    → AreFitting k states floors
    → Spells layout n bytes (made_of k states msgs floors)
unfolding counts_bytes
parts-spelled layout n bytes k states msgs floors newer parts fits =
    let values : fin.values (keyed states) ≡ states = values-keyed states fits.rising in
    let count : fin.len (keyed states) ≡ k.keys = sym (len-values (keyed states)) ∙ (ap length values ∙ parts.keys) in
    let keys : floor_keys (floored floors) ≡ floors = keys-floored floors fits.floors_rise in
    let few : fin.len (floored floors) ≡ length floors = sym (len-floors (floored floors)) ∙ ap length keys in
    let front : List ℕ = to_be_bytes w64 k.inputs ++ to_be_bytes w64 k.taken ++ to_be_bytes w64 k.credit ++ to_be_bytes w64 k.sent ++ to_be_bytes w16 k.stands in
    let end : end_of layout floors ≡ floors_bytes layout (made_of k states msgs floors) = sym (floors-end layout (made_of k states msgs floors) ∙ ap (end_of layout) keys) in
    record {
      is = parts.is
          ∙ (ap (λ (l : List ℕ). l ++ end_of layout floors) (sym (append_assoc (numbers k) (flat_map state_bytes states) (flat_map msg_bytes msgs)))
          ∙ ((λ i. ((front ++ to_be_bytes w32 (sym count i)) ++ flat_map state_bytes (sym values i) ++ flat_map msg_bytes msgs) ++ end i)
          ∙ sym (snapshot-parts layout (made_of k states msgs floors) newer)));
      sound = record {
        inputs = fits.inputs;
        acts = fits.acts;
        sent = fits.sent;
        credit = parts.credit;
        window = parts.window;
        few = parts.few;
        stands = fits.stands ∙ ap (count_by has_stood) (sym values);
        states = λ key state e. each-found (IsStateOf n) states parts.states key state (sym (get-key (list_map under_key states) key) ∙ e);
        messages = Contains-each (IsMessageOf n) msgs parts.messages;
        floors = floor-found IsKeyInRange floors parts.floors;
        live = λ key state e. each-found (λ k s. IsLive (floored floors) k) states fits.live key state (sym (get-key (list_map under_key states) key) ∙ e);
      };
      few_keys = subst (λ (c : ℕ). c < 2 ^ 32) (sym count) parts.few_keys;
      few_floors = subst (λ (c : ℕ). c < 2 ^ 32) (sym few) parts.few_floors;
      none = λ old. ap floored (parts.none old);
      plain = λ old. absurd (omega (arith, old, newer));
    }

pub read-spelled : (layout n : ℕ) (bytes : List ℕ) (k : Counts) (states : List KeyState) (msgs : List Msg) (floors : List Key) → 2 ≤ layout → AreBytes bytes
    → parts_at layout n bytes ≡ Ok (k, states, msgs, floors) → AreFitting k states floors
    → Spells layout n bytes (made_of k states msgs floors)
read-spelled layout n bytes k states msgs floors newer are e fits = parts-spelled layout n bytes k states msgs floors newer (parts-found layout n bytes (k, states, msgs, floors) are e) fits

-- ---- what is spelled is read

pub each-Contained : {A : Type 0} (P : A → Type 0) (xs : List A) → ((x : A) → Contains xs x → P x) → AllByRecursion P xs
each-Contained P [] holds = tt
each-Contained P (x ∷ xs) holds = (holds x (0, omega arith, refl), each-Contained P xs (λ y there. holds y (suc there.0, (let below = there.1 in omega arith), there.2)))

pub keys-empty : floor_keys fin.empty ≡ []
unfolding IsStrictlySortedBy
keys-empty = keys-floored [] tt

module _ (n : ℕ) (s : Summary) (sound : IsSound n s) where
  entries-of : AllByRecursion (λ (e : Key × KeyState). IsStateOf n e.0 e.1) (fin.entries s.keys)
  entries-of = each-entry key_cmp keys_total keys_exact (IsStateOf n) (fin.entries s.keys) (fin.entries_sorted s.keys) (λ k t found. sound.states k t (fin.get-entries s.keys k ∙ found))

  owns : (es : List (Key × KeyState)) → AllByRecursion (λ (e : Key × KeyState). IsStateOf n e.0 e.1) es
      → AllByRecursion IsOwn es × AllByRecursion (λ (e : Key × KeyState). IsOwnState n e.1) es
  owns [] each = (tt, tt)
  owns (e ∷ es) each =
      let rest = owns es each.1 in
      ((each.0.own, rest.0), (subst (λ (k : Key). IsStateOf n k e.1) (sym each.0.own) each.0, rest.1))

  own-entries : AllByRecursion IsOwn (fin.entries s.keys)
  own-entries = (owns (fin.entries s.keys) entries-of).0

  pub states-each : AllByRecursion (IsOwnState n) (fin.values s.keys)
  states-each = each-value (IsOwnState n) (fin.entries s.keys) (owns (fin.entries s.keys) entries-of).1

  live-entry : (key : Key) (state : KeyState) → fin.get s.keys key ≡ Some state → IsLive (floored (floor_keys s.floors)) state.key
  live-entry key state e =
      subst (λ (m : fin.FinMap group_cmp ℕ). IsLive m state.key) (sym (floored-keys s.floors)) (subst (λ (k : Key). IsLive s.floors k) (sym (sound.states key state e).own) (sound.live key state e))

  pub floors-each : AllByRecursion IsKeyInRange (floor_keys s.floors)
  floors-each = each-floor IsKeyInRange s.floors sound.floors

  pub sound-fits : AreFitting (counts_of s) (fin.values s.keys) (floor_keys s.floors)
  sound-fits = record {
    inputs = sound.inputs;
    acts = sound.acts;
    sent = sound.sent;
    stands = sound.stands;
    rising = sorted-own (fin.entries s.keys) own-entries (fin.entries_sorted s.keys);
    floors_rise = floors-sorted s.floors;
    live = each-value (λ state. IsLive (floored (floor_keys s.floors)) state.key) (fin.entries s.keys)
        (each-entry key_cmp keys_total keys_exact (λ key state. IsLive (floored (floor_keys s.floors)) state.key) (fin.entries s.keys) (fin.entries_sorted s.keys)
        (λ k t found. live-entry k t (fin.get-entries s.keys k ∙ found)));
  }

  pub parts-again : (layout : ℕ) → 2 ≤ layout → fin.len s.keys < 2 ^ 32 → fin.len s.floors < 2 ^ 32 → (layout ≤ 2 → s.floors ≡ fin.empty)
      → parts_at layout n (snapshot_of layout s) ≡ Ok (counts_of s, fin.values s.keys, s.window, floor_keys s.floors)
  unfolding parts_at counts_bytes
  parts-again layout newer few few_floors none =
      let k : Counts = counts_of s in
      let states : List ℕ = flat_map state_bytes (fin.values s.keys) in
      let msgs : List ℕ = flat_map msg_bytes s.window in
      let inputs : s.inputs ≤ 2 ^ 56 = sound.inputs in
      let acts : s.taken + s.stands ≤ s.inputs = sound.acts in
      let sent : s.sent ≤ s.inputs = sound.sent in
      let credit : s.credit ≤ s.sent = sound.credit in
      let end : List ℕ = end_of layout (floor_keys s.floors) in
      let regrouped : (numbers k ++ states ++ msgs) ++ end ≡ numbers k ++ (states ++ (msgs ++ end)) =
      append_assoc (numbers k ++ states) msgs end ∙ append_assoc (numbers k) states (msgs ++ end) in
      let counts = counts-again k (states ++ (msgs ++ end)) (omega arith) (omega arith) (omega arith) (omega arith) sound.few few in
      let size : window_size k ≡ Ok (s.sent - s.credit) = rw (le-ltb s.sent s.credit credit) refl in
      let keys : items_at (state_at n) (fin.len s.keys) (states ++ (msgs ++ end)) ≡ Ok (fin.values s.keys, msgs ++ end) =
      ap (λ c. items_at (state_at n) c (states ++ (msgs ++ end))) (sym (len-values s.keys)) ∙ items-again (state_at n) state_bytes (IsOwnState n) (state-again n) (fin.values s.keys) (msgs ++ end) states-each in
      let window : items_at (msg_at n) (s.sent - s.credit) (msgs ++ end) ≡ Ok (s.window, end) =
      ap (λ c. items_at (msg_at n) c (msgs ++ end)) (sym sound.window) ∙ items-again (msg_at n) msg_bytes (IsMessageOf n) (msg-again n) s.window end (each-Contained (IsMessageOf n) s.window sound.messages) in
      let floors : floors_at layout end ≡ Ok (floor_keys s.floors, []) =
      floors-again layout (floor_keys s.floors) floors-each (omega (arith, len-floors s.floors, few_floors)) (λ old. ap floor_keys (none old) ∙ keys-empty) in
      ap (parts_at layout n) (snapshot-parts layout s newer ∙ (ap (λ (l : List ℕ). (numbers k ++ states ++ msgs) ++ l) (floors-end layout s) ∙ regrouped)) ∙ rw (counts, size, keys, window, floors) refl

pub spelled-read : (layout n : ℕ) (bytes : List ℕ) (s : Summary) → 2 ≤ layout → Spells layout n bytes s → parts_at layout n bytes ≡ Ok (counts_of s, fin.values s.keys, s.window, floor_keys s.floors)
spelled-read layout n bytes s newer spells = ap (parts_at layout n) spells.is ∙ parts-again n s spells.sound layout newer spells.few_keys spells.few_floors spells.none

pub none-spelled : (layout n : ℕ) (bytes : List ℕ) (fault : RecordFault) → 2 ≤ layout → parts_at layout n bytes ≡ Err fault → (s : Summary) → Spells layout n bytes s → ⊥
none-spelled layout n bytes fault newer e s spells = apart _ _ (sym (spelled-read layout n bytes s newer spells) ∙ e)
  where
    apart : (x : Parts) (d : RecordFault) → ◌≡◌ {A = Result Parts RecordFault} (Ok x) (Err d) → ⊥
    apart x d f = cc f

pub unfit-spelled : (layout n : ℕ) (bytes : List ℕ) (k : Counts) (states : List KeyState) (msgs : List Msg) (floors : List Key) → 2 ≤ layout
    → parts_at layout n bytes ≡ Ok (k, states, msgs, floors) → (AreFitting k states floors → ⊥)
    → (s : Summary) → Spells layout n bytes s → ⊥
unfit-spelled layout n bytes k states msgs floors newer e unfit s spells =
    let same : ◌≡◌ {A = Parts} (counts_of s, fin.values s.keys, s.window, floor_keys s.floors) (k, states, msgs, floors) = same_ok _ _ (sym (spelled-read layout n bytes s newer spells) ∙ e) in
    unfit (subst (λ (p : Parts). AreFitting p.0 p.1 p.3) same (sound-fits n s spells.sound))

one-read : (layout n : ℕ) (bytes : List ℕ) (s t : Summary) → 2 ≤ layout → Spells layout n bytes s → Spells layout n bytes t → s ≡ t
one-read layout n bytes s t newer a b = λ i. record {
  inputs = (same i).0.inputs;
  taken = (same i).0.taken;
  credit = (same i).0.credit;
  sent = (same i).0.sent;
  stands = (same i).0.stands;
  keys = keys i;
  window = (same i).2;
  floors = floors i;
}
  where
    same : ◌≡◌ {A = Parts} (counts_of s, fin.values s.keys, s.window, floor_keys s.floors) (counts_of t, fin.values t.keys, t.window, floor_keys t.floors)
    same = same_ok _ _ (sym (spelled-read layout n bytes s newer a) ∙ spelled-read layout n bytes t newer b)

    keys : s.keys ≡ t.keys
    keys = fin.same_entries_map s.keys t.keys
        (sym (entries-own (fin.entries s.keys) (own-entries n s a.sound)) ∙ (ap (λ (p : Parts). list_map under_key p.1) same ∙ entries-own (fin.entries t.keys) (own-entries n t b.sound)))

    floors : s.floors ≡ t.floors
    floors = sym (floored-keys s.floors) ∙ (ap (λ (p : Parts). floored p.3) same ∙ floored-keys t.floors)

-- bytes spell one summary at most
pub one-spelled : (layout n : ℕ) (bytes : List ℕ) (s t : Summary) → Spells layout n bytes s → Spells layout n bytes t → s ≡ t
one-spelled layout n bytes s t a b = elim (cases_lt layout 2) [ inl old ↦ a.plain (omega (arith, old)) ∙ sym (b.plain (omega (arith, old))) | inr newer ↦ one-read layout n bytes s t newer a b ]

pub broken-spelled : (layout n : ℕ) (bytes : List ℕ) (e : Refusal) (found : Result Parts RecordFault) → 2 ≤ layout → found ≡ parts_at layout n bytes → IsBroken e found
    → (e ≡ refused.OutOfMemory) ⊎ ((e ≡ refused.Damaged 0) × ((s : Summary) → Spells layout n bytes s → ⊥))
broken-spelled layout n bytes e (Ok x) newer is broken = inl broken
broken-spelled layout n bytes e (Err fault) newer is broken = elim broken [ inl damaged ↦ inr (damaged, none-spelled layout n bytes fault newer (sym is)) | inr memory ↦ inl memory ]

-- in layout 1 no bytes spell the summary of no inputs
pub plain-spelled : (layout n : ℕ) (bytes : List ℕ) → layout ≤ 1 → length bytes ≡ 0 → Spells layout n bytes empty
plain-spelled layout n (b ∷ bytes) old none = absurd cc
plain-spelled layout n [] old none = record { is = sym (snapshot-plain layout empty old); sound = sound-empty n; few_keys = few; few_floors = few_floors; none = λ e. refl; plain = λ e. refl }
  where
    few : fin.len empty.keys < 2 ^ 32
    few = omega (arith, fin.len-empty key_cmp KeyState)

    few_floors : fin.len empty.floors < 2 ^ 32
    few_floors = omega (arith, fin.len-empty group_cmp ℕ)

pub not-plain : (layout n : ℕ) (bytes : List ℕ) (s : Summary) → layout ≤ 1 → Spells layout n bytes s → 1 ≤ length bytes → ⊥
not-plain layout n bytes s old spells some = omega (arith, ap (λ (l : List ℕ). length l) (spells.is ∙ snapshot-plain layout s old), some)
