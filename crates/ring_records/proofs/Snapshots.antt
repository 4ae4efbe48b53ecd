-- How long a snapshot is.
use Rattle.std.proofs.Common.{ℕ, ◌≡◌, ◌+◌, ◌<◌, ◌≤◌, Bool, true, false, ltb, cond, ⊎_elim, ◌++◌, List, [], ◌∷◌, length, Option, Some, None, refl, sym, ap, ◌∙◌, arith}
use Rattle.std.specs.FinMap as fin
use Rattle.std.specs.List.{flat_map, sum_by}
use Rattle.std.specs.List.Sorted.{IsStrictlySortedBy}
use Rattle.std.specs.Prelude.{is_some}
use Rattle.std.specs.Int.{w32, to_be_bytes}
use Rattle.std.proofs.lemmas.Bool.{cases_lt, le-leb, lt-leb, le-ltb, lt-ltb}
use Rattle.std.proofs.lemmas.List.{length-append}
use Rattle.std.proofs.lemmas.List.Sums.{sum_by-cons}
use Rattle.ring_records.specs.declared.candidate.Candidate.{Candidate}
use Rattle.ring_records.specs.declared.key.Key.{Key}
use Rattle.ring_records.specs.declared.key_state.KeyState.{KeyState}
use Rattle.ring_records.specs.declared.msg.Msg.{Msg}
use Rattle.ring_records.specs.declared.summary.Summary.{Summary}
use Rattle.ring_records.specs.Message.{key_of, candidate_of}
use Rattle.ring_records.specs.Record.{key_bytes, candidate_bytes}
use Rattle.ring_records.specs.Admission.{snapshot_len, floors_len, state_len, msg_len, floor_len, has_floors}
use Rattle.ring_records.specs.Snapshot.{bid_bytes, leader_bytes, state_bytes, msg_bytes, counts_bytes, keys_bytes, window_bytes, floors_bytes, snapshot_of}
use Rattle.ring_records.specs.Floors.{floor_keys}
use Rattle.ring_records.specs.Summary.{empty}
use Rattle.ring_records.proofs.FloorsInOrder.{keys-floored, len-floors}
use Rattle.ring_records.proofs.StatesInOrder.{values-keyed}
use Rattle.ring_records.proofs.Records.{length-key_bytes, length-candidate_bytes}

length-bid : (o : Option ℕ) → length (bid_bytes o) ≡ cond (is_some o) 4 0
length-bid None = refl
length-bid (Some bid) = refl

length-leader : (o : Option Candidate) → length (leader_bytes o) ≡ cond (is_some o) 5 0
length-leader None = refl
length-leader (Some c) = length-candidate_bytes c

pub length-state : (s : KeyState) → length (state_bytes s) ≡ state_len s
unfolding state_bytes
length-state s =
    omega (arith, length-append {A = ℕ}, length-key_bytes s.key, length-bid s.stood, length-leader s.leader)

pub length-msg : (msg : Msg) → length (msg_bytes msg) ≡ msg_len msg
unfolding msg_bytes
length-msg msg = omega (arith, length-append (key_bytes (key_of msg)) (candidate_bytes (candidate_of msg)), length-key_bytes (key_of msg), length-candidate_bytes (candidate_of msg))

length-flat : {A : Type 0} (f : A → List ℕ) (g : A → ℕ) → ((x : A) → length (f x) ≡ g x) → (xs : List A) → length (flat_map f xs) ≡ sum_by g xs
length-flat f g same [] = refl
length-flat f g same (x ∷ xs) = length-append (f x) (flat_map f xs) ∙ ((λ i. same x i + length-flat f g same xs i) ∙ sym (sum_by-cons g x xs))

length-counts : (s : Summary) (keys : ℕ) → length (counts_bytes s keys) ≡ 38
unfolding counts_bytes
length-counts s keys = omega (arith, length-append {A = ℕ})

-- ---- by layout

-- the parts that stand in every snapshot
abbrev pub parts_of : Summary → List ℕ
parts_of s = counts_bytes s (fin.len s.keys) ++ keys_bytes s ++ window_bytes s

pub snapshot-plain : (layout : ℕ) (s : Summary) → layout ≤ 1 → snapshot_of layout s ≡ []
unfolding snapshot_of
snapshot-plain layout s plain = ap (λ (b : Bool). cond b [] (parts_of s ++ floors_bytes layout s)) (le-leb layout 1 plain)

pub snapshot-parts : (layout : ℕ) (s : Summary) → 2 ≤ layout → snapshot_of layout s ≡ parts_of s ++ floors_bytes layout s
unfolding snapshot_of
snapshot-parts layout s newer = ap (λ (b : Bool). cond b [] (parts_of s ++ floors_bytes layout s)) (lt-leb layout 1 newer)

pub length-plain : (layout : ℕ) (s : Summary) → layout ≤ 1 → snapshot_len layout s ≡ 0
unfolding snapshot_len
length-plain layout s plain = ap (λ (b : Bool). cond b 0 (38 + (sum_by state_len (fin.values s.keys) + sum_by msg_len s.window) + floors_len layout s)) (le-leb layout 1 plain)

pub length-parts : (layout : ℕ) (s : Summary) → 2 ≤ layout → snapshot_len layout s ≡ 38 + (sum_by state_len (fin.values s.keys) + sum_by msg_len s.window) + floors_len layout s
unfolding snapshot_len
length-parts layout s newer = ap (λ (b : Bool). cond b 0 (38 + (sum_by state_len (fin.values s.keys) + sum_by msg_len s.window) + floors_len layout s)) (lt-leb layout 1 newer)

-- what stands behind the window, where these are the floors: nothing up to layout 2
abbrev pub end_of : ℕ → List Key → List ℕ
end_of layout floors = cond (has_floors layout) (to_be_bytes w32 (length floors) ++ flat_map key_bytes floors) []

pub floors-end : (layout : ℕ) (s : Summary) → floors_bytes layout s ≡ end_of layout (floor_keys s.floors)
floors-end layout s = ap (λ (n : ℕ). cond (has_floors layout) (to_be_bytes w32 n ++ flat_map key_bytes (floor_keys s.floors)) []) (sym (len-floors s.floors))

pub end-none : (layout : ℕ) (floors : List Key) → layout ≤ 2 → end_of layout floors ≡ []
end-none layout floors old = ap (λ (b : Bool). cond b (to_be_bytes w32 (length floors) ++ flat_map key_bytes floors) []) (le-ltb 2 layout old)

pub end-some : (layout : ℕ) (floors : List Key) → 2 < layout → end_of layout floors ≡ to_be_bytes w32 (length floors) ++ flat_map key_bytes floors
end-some layout floors new = ap (λ (b : Bool). cond b (to_be_bytes w32 (length floors) ++ flat_map key_bytes floors) []) (lt-ltb 2 layout new)

pub length-floors : (layout : ℕ) (s : Summary) → length (floors_bytes layout s) ≡ floors_len layout s
length-floors layout s = go (ltb 2 layout)
  where
    go : (b : Bool) → length (cond b (to_be_bytes w32 (fin.len s.floors) ++ flat_map key_bytes (floor_keys s.floors)) []) ≡ cond b (4 + sum_by floor_len (floor_keys s.floors)) 0
    go true = length-append (to_be_bytes w32 (fin.len s.floors)) (flat_map key_bytes (floor_keys s.floors)) ∙ ap (λ (n : ℕ). 4 + n) (length-flat key_bytes floor_len length-key_bytes (floor_keys s.floors))
    go false = refl

pub length-snapshot : (layout : ℕ) (s : Summary) → length (snapshot_of layout s) ≡ snapshot_len layout s
length-snapshot layout s = ⊎_elim
    (λ (old : layout < 2). ap (λ (l : List ℕ). length l) (snapshot-plain layout s (omega (arith, old))) ∙ sym (length-plain layout s (omega (arith, old))))
    (λ (newer : 2 ≤ layout). (let counts = length-counts s (fin.len s.keys) in
    let states = length-flat state_bytes state_len length-state (fin.values s.keys) in
    let msgs = length-flat msg_bytes msg_len length-msg s.window in
    let floors = length-floors layout s in
    let sum = length-parts layout s newer in
    ap (λ (l : List ℕ). length l) (snapshot-parts layout s newer) ∙ omega (arith, length-append {A = ℕ}, counts, states, msgs, floors, sum)))
    (cases_lt layout 2)

floors-empty : (layout : ℕ) → floors_len layout empty ≡ cond (has_floors layout) 4 0
unfolding IsStrictlySortedBy
floors-empty layout = ap (λ (fs : List Key). cond (has_floors layout) (4 + sum_by floor_len fs) 0) (keys-floored [] tt)

pub length-empty : (layout : ℕ) → 2 ≤ layout → snapshot_len layout empty ≡ 38 + cond (has_floors layout) 4 0
unfolding IsStrictlySortedBy
length-empty layout newer = length-parts layout empty newer ∙ (λ i. 38 + (sum_by state_len (values-keyed [] tt i) + 0) + floors-empty layout i)
