-- A snapshot that is taken part after part: what may follow the parts that were taken.
use Rattle.std.proofs.Common.{ℕ, ◌≡◌, ◌+◌, ◌-◌, ◌^◌, ◌<◌, ◌≤◌, ◌⊎◌, inl, inr, ⊎_elim, Option, Some, None, is_some, if◌then◌else◌, List, [], ◌∷◌, ◌++◌, length, Ok, refl, sym, ap, subst, ◌∙◌, append_assoc, append-nil, arith, length-append}
use Rattle.std.proofs.lemmas.Bool.{cases_lt}
use Rattle.std.specs.FinMap as fin
use Rattle.std.specs.Int.{w32, to_be_bytes}
use Rattle.std.specs.List.{flat_map, AllByRecursion}
use Rattle.std.specs.Prelude.{Result}
use Rattle.ring_records.specs.declared.key.Key.{Key}
use Rattle.ring_records.specs.declared.key_state.KeyState.{KeyState}
use Rattle.ring_records.specs.declared.msg.Msg.{Msg}
use Rattle.ring_records.specs.declared.record.RecordFault.{RecordFault}
use Rattle.ring_records.specs.declared.snapshot_read.Counts.{Counts}
use Rattle.ring_records.specs.declared.summary.Summary.{Summary}
use Rattle.ring_records.specs.Message.{key_of}
use Rattle.ring_records.specs.Floors.{floor_keys}
use Rattle.ring_records.specs.Snapshot.{counts_bytes, state_bytes, msg_bytes, IsMessageOf, Spells}
use Rattle.ring_records.specs.SnapshotPart.{number_bytes, parts_bytes, floors_taken, Parts, AreCounts, IsOwnStateOf, AreRead, NoCounts, NoState, NoMessage, NoEnd, NoFloor}
use Rattle.ring_records.specs.Record.{key_bytes, IsKeyInRange}
use Rattle.ring_records.specs.RecordReading.{number_at, key_at}
use Rattle.ring_records.specs.SnapshotRead.{state_at, msg_at, counts_at, AreFitting}
use Rattle.ring_records.proofs.Fields.{same_ok, wide_32, number-again, key-again}
use Rattle.ring_records.proofs.FloorsInOrder.{len-floors}
use Rattle.ring_records.proofs.Records.{name-short, length-key_bytes}
use Rattle.ring_records.proofs.SnapshotItems.{state-again, msg-again}
use Rattle.ring_records.proofs.Snapshots.{length-state, length-msg, snapshot-parts, end_of, floors-end, end-none, end-some}
use Rattle.ring_records.proofs.SnapshotWhole.{numbers, counts_of, not-plain, counts-again, each-Contained, sound-fits, states-each, floors-each}
use Rattle.ring_records.proofs.StatesInOrder.{len-values}

pub length-numbers : (k : Counts) → length (number_bytes k) ≡ 38
unfolding number_bytes
length-numbers k = omega (arith, length-append {A = ℕ})

-- ---- lists that begin alike

prefix : (a b c d : List ℕ) → length c ≤ length a → a ++ b ≡ c ++ d → (rest : List ℕ) × (a ≡ c ++ rest)
prefix a b [] d le e = (a, refl)
prefix [] b (y ∷ c) d le e = absurd (omega (arith, le))
prefix (x ∷ a) b (y ∷ c) d le e =
    let tails : a ++ b ≡ c ++ d = cc in
    let heads : x ≡ y = cc in
    let behind = prefix a b c d (omega (arith, le)) tails in
    (behind.0, λ i. heads i ∷ behind.1 i)

-- what begins the bytes with all that may follow begins them alone, where they are long enough
goes_on : (bytes more text end : List ℕ) → length text ≤ 38 → (38 ≤ length bytes) ⊎ (more ≡ []) → bytes ++ more ≡ text ++ end → (rest : List ℕ) × (bytes ≡ text ++ rest)
goes_on bytes more text end short (inl long) e = prefix bytes more text end (omega (arith, short, long)) e
goes_on bytes more text end short (inr none) e = (end, sym (append-nil bytes) ∙ ap (λ (l : List ℕ). bytes ++ l) (sym none) ∙ e)

pub flat-push : {A : Type 0} (g : A → List ℕ) (xs : List A) (x : A) → flat_map g (xs ++ x ∷ []) ≡ flat_map g xs ++ g x
flat-push g [] x = append-nil (g x)
flat-push g (y ∷ xs) x = ap (λ (l : List ℕ). g y ++ l) (flat-push g xs x) ∙ sym (append_assoc (g y) (flat_map g xs) (g x))

pub all-push : {A : Type 0} (P : A → Type 0) (xs : List A) (x : A) → AllByRecursion P xs → P x → AllByRecursion P (xs ++ x ∷ [])
all-push P [] x each is = (is, tt)
all-push P (y ∷ xs) x each is = (each.0, all-push P xs x each.1 is)

-- ---- items that were taken are the first of those that a snapshot has

module _ {A : Type 0} (f : List ℕ → Result (A × List ℕ) RecordFault) (g : A → List ℕ) (P : A → Type 0) (again : (x : A) (rest : List ℕ) → P x → f (g x ++ rest) ≡ Ok (x, rest)) where
  record Left (xs ys : List A) (rest end : List ℕ) : Type 0 where
    more : List A
    all : ys ≡ xs ++ more
    many : length ys ≡ length xs + length more
    each : AllByRecursion P more
    rest_is : rest ≡ flat_map g more ++ end

  left : (xs ys : List A) (rest end : List ℕ) → AllByRecursion P xs → AllByRecursion P ys → length xs ≤ length ys → flat_map g xs ++ rest ≡ flat_map g ys ++ end → Left xs ys rest end
  left [] ys rest end had have le e = record { more = ys; all = refl; many = omega arith; each = have; rest_is = e }
  left (x ∷ xs) [] rest end had have le e = absurd (omega (arith, le))
  left (x ∷ xs) (y ∷ ys) rest end had have le e =
      let r : List ℕ = flat_map g xs ++ rest in
      let s : List ℕ = flat_map g ys ++ end in
      let parts : g x ++ r ≡ g y ++ s = sym (append_assoc (g x) (flat_map g xs) rest) ∙ (e ∙ append_assoc (g y) (flat_map g ys) end) in
      let same : ◌≡◌ {A = A × List ℕ} (x, r) (y, s) = same_ok (x, r) (y, s) (sym (again x r had.0) ∙ (ap f parts ∙ again y s have.0)) in
      let behind = left xs ys rest end had.1 have.1 (omega (arith, le)) (ap (λ (p : A × List ℕ). p.1) same) in
      record {
        more = behind.more;
        all = λ i. sym (ap (λ (p : A × List ℕ). p.0) same) i ∷ behind.all i;
        many = omega (arith, behind.many);
        each = behind.each;
        rest_is = behind.rest_is;
      }

  -- where more are to come and none stands at the front of the bytes
  stuck : (xs ys : List A) (bytes more end : List ℕ) → Left xs ys (bytes ++ more) end → length xs < length ys → ((x : A) → P x → length (g x) ≤ 38)
      → (38 ≤ length bytes) ⊎ (more ≡ [])
      → ((x : A) (rest : List ℕ) → P x → bytes ≡ g x ++ rest → ⊥) → ⊥
  stuck xs ys bytes more end l fewer short long none = go l.more l.many l.each l.rest_is
    where
      go : (left : List A) → length ys ≡ length xs + length left → AllByRecursion P left → bytes ++ more ≡ flat_map g left ++ end → ⊥
      go [] many each e = omega (arith, many, fewer)
      go (y ∷ left) many each e =
          let found = goes_on bytes more (g y) (flat_map g left ++ end) (short y each.0) long (e ∙ append_assoc (g y) (flat_map g left) end) in
          none y found.0 each.0 found.1

  -- where all were taken nothing is left but the end
  ended_at : (xs ys : List A) (rest end : List ℕ) → Left xs ys rest end → length xs ≡ length ys → (ys ≡ xs) × (rest ≡ end)
  ended_at xs ys rest end l same = go l.more l.many l.all l.rest_is
    where
      go : (left : List A) → length ys ≡ length xs + length left → ys ≡ xs ++ left → rest ≡ flat_map g left ++ end → (ys ≡ xs) × (rest ≡ end)
      go [] many all e = (all ∙ append-nil xs, e)
      go (y ∷ left) many all e = absurd (omega (arith, many, same))

at_most : {A : Type 0} (o : Option A) (k : ℕ) → (if is_some o then k else 0) ≤ k
at_most None k = omega arith
at_most (Some x) k = omega arith

state-low : (n : ℕ) (s : KeyState) → IsOwnStateOf n s → length (state_bytes s) ≤ 38
state-low n s own = omega (arith, length-state s, name-short s.key own.named, at_most s.stood 4, at_most s.leader 5)

msg-low : (n : ℕ) (msg : Msg) → IsMessageOf n msg → length (msg_bytes msg) ≤ 38
msg-low n msg of = omega (arith, length-msg msg, name-short (key_of msg) of.named)

key-low : (key : Key) → IsKeyInRange key → length (key_bytes key) ≤ 38
key-low key range = omega (arith, length-key_bytes key, name-short key range)

-- ---- a snapshot that begins with these counts

-- what it has behind the messages
abbrev tail_of : ℕ → Summary → List ℕ
tail_of layout s = end_of layout (floor_keys s.floors)

spelled_parts : (layout n : ℕ) (bytes : List ℕ) (s : Summary) → 2 ≤ layout → Spells layout n bytes s
    → bytes ≡ numbers (counts_of s) ++ (flat_map state_bytes (fin.values s.keys) ++ (flat_map msg_bytes s.window ++ tail_of layout s))
unfolding counts_bytes
spelled_parts layout n bytes s newer spells =
    let states : List ℕ = flat_map state_bytes (fin.values s.keys) in
    let msgs : List ℕ = flat_map msg_bytes s.window in
    let end : List ℕ = tail_of layout s in
    spells.is ∙ (snapshot-parts layout s newer ∙ (ap (λ (l : List ℕ). ((numbers (counts_of s) ++ states) ++ msgs) ++ l) (floors-end layout s)
    ∙ (append_assoc (numbers (counts_of s) ++ states) msgs end ∙ append_assoc (numbers (counts_of s)) states (msgs ++ end))))

record Splits (layout : ℕ) (k : Counts) (rest : List ℕ) (s : Summary) : Type 0 where
  same : k ≡ counts_of s
  rest_is : rest ≡ flat_map state_bytes (fin.values s.keys) ++ (flat_map msg_bytes s.window ++ tail_of layout s)

split : (layout n : ℕ) (k : Counts) (rest : List ℕ) (s : Summary) → 2 ≤ layout → AreCounts k → Spells layout n (number_bytes k ++ rest) s → Splits layout k rest s
unfolding number_bytes
split layout n k rest s newer are spells =
    let sound = spells.sound in
    let states : List ℕ = flat_map state_bytes (fin.values s.keys) in
    let msgs : List ℕ = flat_map msg_bytes s.window in
    let inputs : s.inputs ≤ 2 ^ 56 = sound.inputs in
    let acts : s.taken + s.stands ≤ s.inputs = sound.acts in
    let sent : s.sent ≤ s.inputs = sound.sent in
    let credit : s.credit ≤ s.sent = sound.credit in
    let end : List ℕ = tail_of layout s in
    let whole : number_bytes k ++ rest ≡ numbers (counts_of s) ++ (states ++ (msgs ++ end)) = spelled_parts layout n (number_bytes k ++ rest) s newer spells in
    let both : ◌≡◌ {A = Counts × List ℕ} (k, rest) (counts_of s, states ++ (msgs ++ end)) =
    same_ok (k, rest) (counts_of s, states ++ (msgs ++ end))
    (sym (counts-again k rest are.inputs are.taken are.credit_range are.sent are.stands are.keys)
    ∙ (ap counts_at whole ∙ counts-again (counts_of s) (states ++ (msgs ++ end)) (omega arith) (omega arith) (omega arith) (omega arith) sound.few spells.few_keys)) in
    record { same = ap (λ (p : Counts × List ℕ). p.0) both; rest_is = ap (λ (p : Counts × List ℕ). p.1) both }

-- ---- what stands behind the parts that were taken

-- these parts
abbrev pub as_parts : List KeyState → List Msg → Option ℕ → List Key → Parts
as_parts states msgs count floors = record { states = states; messages = msgs; count = count; floors = floors }

module _ (layout n : ℕ) (k : Counts) (states : List KeyState) (msgs : List Msg) (count : Option ℕ) (floors : List Key) (read : AreRead layout n k (as_parts states msgs count floors)) where
  -- the states of a snapshot that begins with the parts, and what is behind those that were taken
  states_left : (rest : List ℕ) (s : Summary) → Spells layout n (parts_bytes k states msgs ++ rest) s
      → (k ≡ counts_of s) × Left (state_at n) state_bytes (IsOwnStateOf n) (state-again n) states (fin.values s.keys) (flat_map msg_bytes msgs ++ rest) (flat_map msg_bytes s.window ++ tail_of layout s)
  states_left rest s spells =
      let a : List ℕ = flat_map state_bytes states in
      let b : List ℕ = flat_map msg_bytes msgs in
      let regrouped : (number_bytes k ++ (a ++ b)) ++ rest ≡ number_bytes k ++ (a ++ (b ++ rest)) =
      append_assoc (number_bytes k) (a ++ b) rest ∙ ap (λ (l : List ℕ). number_bytes k ++ l) (append_assoc a b rest) in
      let parts = split layout n k (a ++ (b ++ rest)) s read.newer read.counts (subst (λ (l : List ℕ). Spells layout n l s) regrouped spells) in
      let many : length (fin.values s.keys) ≡ k.keys = len-values s.keys ∙ sym (ap (λ (c : Counts). c.keys) parts.same) in (
        parts.same,
        left (state_at n) state_bytes (IsOwnStateOf n) (state-again n) states (fin.values s.keys) (b ++ rest) (flat_map msg_bytes s.window ++ tail_of layout s) read.states_of (states-each n s spells.sound) (omega (arith, many, read.keys))
            parts.rest_is,
      )

  -- where all states were taken, the same of the messages
  messages_left : (rest : List ℕ) (s : Summary) → Spells layout n (parts_bytes k states msgs ++ rest) s → length states ≡ k.keys
      → (k ≡ counts_of s) × (fin.values s.keys ≡ states) × Left (msg_at n) msg_bytes (IsMessageOf n) (msg-again n) msgs s.window rest (tail_of layout s)
  messages_left rest s spells whole =
      let before = states_left rest s spells in
      let many : length (fin.values s.keys) ≡ k.keys = len-values s.keys ∙ sym (ap (λ (c : Counts). c.keys) before.0) in
      let end = ended_at (state_at n) state_bytes (IsOwnStateOf n) (state-again n) states (fin.values s.keys) (flat_map msg_bytes msgs ++ rest) (flat_map msg_bytes s.window ++ tail_of layout s) before.1 (omega (arith, many, whole)) in
      let window : length s.window ≡ k.sent - k.credit = spells.sound.window ∙ ap (λ (c : Counts). c.sent - c.credit) (sym before.0) in (
        before.0,
        end.0,
        left (msg_at n) msg_bytes (IsMessageOf n) (msg-again n) msgs s.window rest (tail_of layout s) read.messages_of (each-Contained (IsMessageOf n) s.window spells.sound.messages) (omega (arith, window, read.window)) end.1,
      )

  -- where all messages were taken too nothing is left but the end
  end_left : (rest : List ℕ) (s : Summary) → Spells layout n (parts_bytes k states msgs ++ rest) s → length states ≡ k.keys → length msgs ≡ k.sent - k.credit
      → (k ≡ counts_of s) × (fin.values s.keys ≡ states) × (rest ≡ tail_of layout s)
  end_left rest s spells whole all =
      let behind = messages_left rest s spells whole in
      let window : length s.window ≡ k.sent - k.credit = spells.sound.window ∙ ap (λ (c : Counts). c.sent - c.credit) (sym behind.0) in
      (behind.0, behind.1, (ended_at (msg_at n) msg_bytes (IsMessageOf n) (msg-again n) msgs s.window rest (tail_of layout s) behind.2 (omega (arith, window, all))).1)

  pub no_state : (bytes more : List ℕ) (s : Summary) → length states < k.keys → NoState n bytes → (38 ≤ length bytes) ⊎ (more ≡ [])
      → Spells layout n (parts_bytes k states msgs ++ (bytes ++ more)) s → ⊥
  no_state bytes more s fewer none long spells =
      let before = states_left (bytes ++ more) s spells in
      let many : length (fin.values s.keys) ≡ k.keys = len-values s.keys ∙ sym (ap (λ (c : Counts). c.keys) before.0) in
      let there = subst (λ (m : List Msg). Left (state_at n) state_bytes (IsOwnStateOf n) (state-again n) states (fin.values s.keys) (flat_map msg_bytes m ++ (bytes ++ more)) (flat_map msg_bytes s.window ++ tail_of layout s)) (read.first fewer) before.1 in
      stuck (state_at n) state_bytes (IsOwnStateOf n) (state-again n) states (fin.values s.keys) bytes more (flat_map msg_bytes s.window ++ tail_of layout s) there (omega (arith, many, fewer)) (state-low n) long none

  pub no_message : (bytes more : List ℕ) (s : Summary) → length states ≡ k.keys → length msgs < k.sent - k.credit → NoMessage n bytes → (38 ≤ length bytes) ⊎ (more ≡ [])
      → Spells layout n (parts_bytes k states msgs ++ (bytes ++ more)) s → ⊥
  no_message bytes more s whole fewer none long spells =
      let behind = messages_left (bytes ++ more) s spells whole in
      let window : length s.window ≡ k.sent - k.credit = spells.sound.window ∙ ap (λ (c : Counts). c.sent - c.credit) (sym behind.0) in
      stuck (msg_at n) msg_bytes (IsMessageOf n) (msg-again n) msgs s.window bytes more (tail_of layout s) behind.2 (omega (arith, window, fewer)) (msg-low n) long none

  -- up to layout 2 nothing stands behind the messages
  pub nothing_left : (bytes more : List ℕ) (s : Summary) → length states ≡ k.keys → length msgs ≡ k.sent - k.credit → layout ≤ 2 → 1 ≤ length bytes
      → Spells layout n (parts_bytes k states msgs ++ (bytes ++ more)) s → ⊥
  nothing_left bytes more s whole all old some spells =
      let end = end_left (bytes ++ more) s spells whole all in
      omega (arith, ap length (end.2 ∙ end-none layout (floor_keys s.floors) old), length-append bytes more, some)

  -- and from layout 3 on the number of floors
  pub no_end : (bytes more : List ℕ) (s : Summary) → length states ≡ k.keys → length msgs ≡ k.sent - k.credit → 2 < layout → NoEnd bytes → (38 ≤ length bytes) ⊎ (more ≡ [])
      → Spells layout n (parts_bytes k states msgs ++ (bytes ++ more)) s → ⊥
  no_end bytes more s whole all new none long spells =
      let keys : List Key = floor_keys s.floors in
      let end = end_left (bytes ++ more) s spells whole all in
      let found = goes_on bytes more (to_be_bytes w32 (length keys)) (flat_map key_bytes keys) (omega arith) long (end.2 ∙ end-some layout keys new) in
      none (length keys) found.0 (omega (arith, len-floors s.floors, spells.few_floors)) found.1

  -- which is the one that was taken, and the floors that were taken are the first
  floors_left : (number : ℕ) (rest : List ℕ) (s : Summary) → length states ≡ k.keys → length msgs ≡ k.sent - k.credit → 2 < layout → number < 2 ^ 32 → length floors ≤ number
      → Spells layout n ((parts_bytes k states msgs ++ floors_taken (Some number) floors) ++ rest) s
      → (number ≡ length (floor_keys s.floors)) × Left key_at key_bytes IsKeyInRange key-again floors (floor_keys s.floors) rest []
  floors_left number rest s whole all new below few spells =
      let keys : List Key = floor_keys s.floors in
      let had : List ℕ = flat_map key_bytes floors in
      let regrouped = append_assoc (parts_bytes k states msgs) (to_be_bytes w32 number ++ had) rest in
      let end = end_left ((to_be_bytes w32 number ++ had) ++ rest) s (subst (λ (l : List ℕ). Spells layout n l s) regrouped spells) whole all in
      let told : to_be_bytes w32 number ++ (had ++ rest) ≡ to_be_bytes w32 (length keys) ++ flat_map key_bytes keys =
      sym (append_assoc (to_be_bytes w32 number) had rest) ∙ (end.2 ∙ end-some layout keys new) in
      let same : ◌≡◌ {A = ℕ × List ℕ} (number, had ++ rest) (length keys, flat_map key_bytes keys) =
      same_ok (number, had ++ rest) (length keys, flat_map key_bytes keys)
      (sym (number-again w32 (2 ^ 32) wide_32 number (had ++ rest) below)
      ∙ (ap (number_at w32) told ∙ number-again w32 (2 ^ 32) wide_32 (length keys) (flat_map key_bytes keys) (omega (arith, len-floors s.floors, spells.few_floors)))) in
      let many : number ≡ length keys = ap (λ (p : ℕ × List ℕ). p.0) same in (
        many,
        left key_at key_bytes IsKeyInRange key-again floors keys rest [] read.floors_of (floors-each n s spells.sound) (omega (arith, many, few))
            (ap (λ (p : ℕ × List ℕ). p.1) same ∙ sym (append-nil (flat_map key_bytes keys))),
      )

  pub no_floor : (number : ℕ) (bytes more : List ℕ) (s : Summary) → length states ≡ k.keys → length msgs ≡ k.sent - k.credit → 2 < layout → number < 2 ^ 32 → length floors < number
      → NoFloor bytes → (38 ≤ length bytes) ⊎ (more ≡ [])
      → Spells layout n ((parts_bytes k states msgs ++ floors_taken (Some number) floors) ++ (bytes ++ more)) s
      → ⊥
  no_floor number bytes more s whole all new below fewer none long spells =
      let behind = floors_left number (bytes ++ more) s whole all new below (omega (arith, fewer)) spells in
      stuck key_at key_bytes IsKeyInRange key-again floors (floor_keys s.floors) bytes more [] behind.1 (omega (arith, behind.0, fewer)) key-low long none

  -- where all floors were taken too they are those of the snapshot, and nothing is left
  pub floors_whole : (number : ℕ) (rest : List ℕ) (s : Summary) → length states ≡ k.keys → length msgs ≡ k.sent - k.credit → 2 < layout → number < 2 ^ 32 → length floors ≡ number
      → Spells layout n ((parts_bytes k states msgs ++ floors_taken (Some number) floors) ++ rest) s
      → (floor_keys s.floors ≡ floors) × (rest ≡ [])
  floors_whole number rest s whole all new below many spells =
      let behind = floors_left number rest s whole all new below (omega (arith, many)) spells in
      ended_at key_at key_bytes IsKeyInRange key-again floors (floor_keys s.floors) rest [] behind.1 (omega (arith, behind.0, many))

  pub whole_states : (length states < k.keys → ⊥) → length states ≡ k.keys
  whole_states all = ⊎_elim (λ (less : length states < k.keys). absurd (all less)) (λ (more : k.keys ≤ length states). omega (arith, more, read.keys)) (cases_lt (length states) k.keys)

  pub whole_window : (length msgs < k.sent - k.credit → ⊥) → length msgs ≡ k.sent - k.credit
  whole_window all = ⊎_elim (λ (less : length msgs < k.sent - k.credit). absurd (all less)) (λ (more : k.sent - k.credit ≤ length msgs). omega (arith, more, read.window)) (cases_lt (length msgs) (k.sent - k.credit))

  -- ---- when it is whole

  alone : (s : Summary) → Spells layout n (parts_bytes k states msgs) s → Spells layout n (parts_bytes k states msgs ++ ([] ++ [])) s
  alone s spells = subst (λ (l : List ℕ). Spells layout n l s) (sym (append-nil (parts_bytes k states msgs))) spells

  pub states_missing : length states < k.keys → (s : Summary) → Spells layout n (parts_bytes k states msgs) s → ⊥
  states_missing fewer s spells = no_state [] [] s fewer (λ state rest own e. omega (arith, ap length e, length-append (state_bytes state) rest, length-state state)) (inr refl) (alone s spells)

  pub messages_missing : length states ≡ k.keys → length msgs < k.sent - k.credit → (s : Summary) → Spells layout n (parts_bytes k states msgs) s → ⊥
  messages_missing whole fewer s spells = no_message [] [] s whole fewer (λ msg rest own e. omega (arith, ap length e, length-append (msg_bytes msg) rest, length-msg msg)) (inr refl) (alone s spells)

  pub end_missing : length states ≡ k.keys → length msgs ≡ k.sent - k.credit → 2 < layout → (s : Summary) → Spells layout n (parts_bytes k states msgs) s → ⊥
  end_missing whole all new s spells = no_end [] [] s whole all new (λ number rest below e. omega (arith, ap length e, length-append (to_be_bytes w32 number) rest)) (inr refl) (alone s spells)

  pub floor_missing : (number : ℕ) → length states ≡ k.keys → length msgs ≡ k.sent - k.credit → 2 < layout → number < 2 ^ 32 → length floors < number → (s : Summary)
      → Spells layout n (parts_bytes k states msgs ++ floors_taken (Some number) floors) s → ⊥
  floor_missing number whole all new below fewer s spells =
      no_floor number [] [] s whole all new below fewer (λ floor rest range e. omega (arith, ap length e, length-append (key_bytes floor) rest, length-key_bytes floor)) (inr refl)
      (subst (λ (l : List ℕ). Spells layout n l s) (sym (append-nil (parts_bytes k states msgs ++ floors_taken (Some number) floors))) spells)

  pub unfit : (rest : List ℕ) → length states ≡ k.keys → (AreFitting k states floors → ⊥) → (s : Summary) → floor_keys s.floors ≡ floors
      → Spells layout n (parts_bytes k states msgs ++ rest) s → ⊥
  unfit rest whole unfitting s same spells =
      let behind = messages_left rest s spells whole in
      unfitting (subst (λ (c : Counts). AreFitting c states floors) (sym behind.0)
      (subst (λ (l : List KeyState). AreFitting (counts_of s) l floors) behind.1 (subst (AreFitting (counts_of s) (fin.values s.keys)) same (sound-fits n s spells.sound))))

pub no_counts_newer : (layout n : ℕ) (bytes more : List ℕ) (s : Summary) → 2 ≤ layout → NoCounts layout bytes → (38 ≤ length bytes) ⊎ (more ≡ [])
    → Spells layout n (bytes ++ more) s → ⊥
unfolding number_bytes
no_counts_newer layout n bytes more s newer none long spells =
    let sound = spells.sound in
    let states : List ℕ = flat_map state_bytes (fin.values s.keys) in
    let msgs : List ℕ = flat_map msg_bytes s.window in
    let inputs : s.inputs ≤ 2 ^ 56 = sound.inputs in
    let acts : s.taken + s.stands ≤ s.inputs = sound.acts in
    let sent : s.sent ≤ s.inputs = sound.sent in
    let credit : s.credit ≤ s.sent = sound.credit in
    let end : List ℕ = tail_of layout s in
    let whole : bytes ++ more ≡ numbers (counts_of s) ++ (states ++ (msgs ++ end)) = spelled_parts layout n (bytes ++ more) s newer spells in
    let found = goes_on bytes more (numbers (counts_of s)) (states ++ (msgs ++ end)) (omega (arith, length-numbers (counts_of s))) long whole in
    none (counts_of s) found.0 newer (record { inputs = omega arith; taken = omega arith; credit_range = omega arith; sent = omega arith; stands = sound.few; keys = spells.few_keys; credit = sound.credit }) found.1

-- a snapshot does not begin with bytes that no counts stand at the front of
pub no_counts : (layout n : ℕ) (bytes more : List ℕ) (s : Summary) → NoCounts layout bytes → (38 ≤ length bytes) ⊎ (more ≡ []) → 1 ≤ length bytes
    → Spells layout n (bytes ++ more) s → ⊥
no_counts layout n bytes more s none long some spells =
    elim (cases_lt layout 2) [
      | inl old ↦ not-plain layout n (bytes ++ more) s (omega (arith, old)) spells (omega (arith, length-append bytes more, some))
      | inr newer ↦ no_counts_newer layout n bytes more s newer none long spells
    ]
