-- A snapshot that is taken part after part: how each is taken, and when it is whole.
use Rattle.std.proofs.Common.{ℕ, ◌≡◌, ◌+◌, ◌-◌, ◌^◌, ◌<◌, ◌≤◌, inr, Option, Some, None, Bool, true, false, List, [], ◌∷◌, ◌++◌, length, take, Ok, Err, refl, sym, ap, subst, ◌∙◌, append_assoc, append-nil, arith, length-append}
use Rattle.std.proofs.lemmas.Bool.{ltb-true, ltb-false}
use Rattle.std.proofs.lemmas.List.{take_at}
use Rattle.std.specs.Int.{w32, to_be_bytes}
use Rattle.std.specs.List.{flat_map, AllByRecursion}
use Rattle.std.specs.Prelude.{MatchOption, Decides}
use Rattle.ring_records.specs.declared.key.Key.{Key}
use Rattle.ring_records.specs.declared.key_state.KeyState.{KeyState}
use Rattle.ring_records.specs.declared.msg.Msg.{Msg}
use Rattle.ring_records.specs.declared.record.RecordFault.{RecordFault}
use Rattle.ring_records.specs.declared.snapshot_read.Counts.{Counts}
use Rattle.ring_records.specs.declared.summary.Summary.{Summary}
use Rattle.ring_records.specs.Floors.{floor_keys}
use Rattle.ring_records.specs.Snapshot.{state_bytes, msg_bytes, IsMessageOf, Spells}
use Rattle.ring_records.specs.Summary.{empty}
use Rattle.ring_records.specs.Record.{key_bytes, IsKeyInRange}
use Rattle.ring_records.specs.RecordLists.{AreBytes}
use Rattle.ring_records.specs.RecordReading.{number_at, key_at}
use Rattle.ring_records.specs.SnapshotPart.{SnapshotPart, number_bytes, parts_bytes, floors_taken, taken_of, is_floor_left, AreCounts, IsOwnStateOf, Parts, IsWindowRead, HasFloors, AreRead, IsReading, TakesCounts, NoCounts, TakesState, NoState, TakesMessage, NoMessage, TakesEnd, NoEnd, TakesFloor, NoFloor, TakesPart, NoPart, IsSoundPart}
use Rattle.ring_records.specs.SnapshotRead.{state_at, msg_at, counts_at, AreFitting}
use Rattle.ring_records.proofs.Fields.{same_ok, wide_32, number-found, number-again, key-found, key-again}
use Rattle.ring_records.proofs.Records.{length-key_bytes}
use Rattle.ring_records.proofs.SnapshotItems.{state-found, state-again, msg-found, msg-again}
use Rattle.ring_records.proofs.Snapshots.{length-state, length-msg, end_of, end-none, end-some}
use Rattle.ring_records.proofs.SnapshotWhole.{plain-spelled, counts-again, counts-found, made_of, parts-spelled, keys-empty}
use Rattle.ring_records.proofs.SnapshotLeft.{all-push, as_parts, end_missing, flat-push, floor_missing, floors_whole, length-numbers, messages_missing, no_counts_newer, no_end, no_floor, no_message, no_state, nothing_left, states_missing, unfit, whole_states, whole_window}

-- ---- one part more

pub state_more : (k : Counts) (states : List KeyState) (state : KeyState) → parts_bytes k (states ++ state ∷ []) [] ≡ parts_bytes k states [] ++ state_bytes state
state_more k states state =
    let a : List ℕ = flat_map state_bytes states in
    ap (λ (l : List ℕ). number_bytes k ++ (l ++ [])) (flat-push state_bytes states state) ∙ (ap (λ (l : List ℕ). number_bytes k ++ l) (append-nil (a ++ state_bytes state))
    ∙ (sym (append_assoc (number_bytes k) a (state_bytes state)) ∙ ap (λ (l : List ℕ). (number_bytes k ++ l) ++ state_bytes state) (sym (append-nil a))))

pub message_more : (k : Counts) (states : List KeyState) (msgs : List Msg) (msg : Msg) → parts_bytes k states (msgs ++ msg ∷ []) ≡ parts_bytes k states msgs ++ msg_bytes msg
message_more k states msgs msg =
    let a : List ℕ = flat_map state_bytes states in
    let b : List ℕ = flat_map msg_bytes msgs in
    ap (λ (l : List ℕ). number_bytes k ++ (a ++ l)) (flat-push msg_bytes msgs msg) ∙ (ap (λ (l : List ℕ). number_bytes k ++ l) (sym (append_assoc a b (msg_bytes msg)))
    ∙ sym (append_assoc (number_bytes k) (a ++ b) (msg_bytes msg)))

-- ---- what stands at the front of the bytes

front_is : (bytes text rest : List ℕ) → bytes ≡ text ++ rest → take (length bytes - length rest) bytes ≡ text
front_is bytes text rest is =
    let size : length bytes - length rest ≡ length text = omega (arith, ap length is, length-append text rest) in
    ap (λ (l : List ℕ). take (length bytes - length rest) l) is ∙ take_at text rest (length bytes - length rest) (sym size)

pub takes_state : (n : ℕ) (old new : List KeyState) (bytes rest : List ℕ) (state : KeyState) → AreBytes bytes → state_at n bytes ≡ Ok (state, rest) → new ≡ old ++ state ∷ []
    → TakesState n old new bytes (length bytes - length rest) × (length rest + 6 ≤ length bytes)
takes_state n old new bytes rest state are e added =
    let found = state-found n bytes (state, rest) are e in
    let long : length rest + 6 ≤ length bytes = omega (arith, ap length found.0.parts, length-append (state_bytes state) rest, length-state state) in (
      record { state = state; added = added; own = found.1; long = omega arith; some = omega (arith, long); spelled = front_is bytes (state_bytes state) rest found.0.parts },
      long,
    )

pub no_state_at : (n : ℕ) (bytes : List ℕ) (fault : RecordFault) → state_at n bytes ≡ Err fault → NoState n bytes
no_state_at n bytes fault e s rest own is = let found = sym e ∙ (ap (state_at n) is ∙ state-again n s rest own) in cc

pub takes_message : (n : ℕ) (old new : List Msg) (bytes rest : List ℕ) (msg : Msg) → AreBytes bytes → msg_at n bytes ≡ Ok (msg, rest) → new ≡ old ++ msg ∷ []
    → TakesMessage n old new bytes (length bytes - length rest) × (length rest + 11 ≤ length bytes)
takes_message n old new bytes rest msg are e added =
    let found = msg-found n bytes (msg, rest) are e in
    let long : length rest + 11 ≤ length bytes = omega (arith, ap length found.0.parts, length-append (msg_bytes msg) rest, length-msg msg) in (
      record { msg = msg; added = added; own = found.1; long = omega arith; some = omega (arith, long); spelled = front_is bytes (msg_bytes msg) rest found.0.parts },
      long,
    )

pub no_message_at : (n : ℕ) (bytes : List ℕ) (fault : RecordFault) → msg_at n bytes ≡ Err fault → NoMessage n bytes
no_message_at n bytes fault e msg rest own is = let found = sym e ∙ (ap (msg_at n) is ∙ msg-again n msg rest own) in cc

counts_read : (k : Counts) (rest : List ℕ) → AreCounts k → counts_at (number_bytes k ++ rest) ≡ Ok (k, rest)
unfolding number_bytes
counts_read k rest are = counts-again k rest are.inputs are.taken are.credit_range are.sent are.stands are.keys

pub takes_counts : (layout : ℕ) (bytes rest : List ℕ) (k : Counts) → 2 ≤ layout → AreBytes bytes → counts_at bytes ≡ Ok (k, rest) → k.credit ≤ k.sent → TakesCounts layout bytes k
unfolding number_bytes
takes_counts layout bytes rest k newer are e credit =
    let found = counts-found bytes (k, rest) are e in
    let parts : bytes ≡ number_bytes k ++ rest = found.0.parts in
    record {
      newer = newer;
      are = record { inputs = found.3.0; taken = found.3.1; credit_range = found.3.2; sent = found.3.3; stands = found.1; keys = found.2; credit = credit };
      long = omega (arith, ap length parts, length-append (number_bytes k) rest, length-numbers k);
      spelled = ap (take 38) parts ∙ take_at (number_bytes k) rest 38 (sym (length-numbers k));
    }

pub unfit_counts : (layout : ℕ) (bytes rest : List ℕ) (k : Counts) → counts_at bytes ≡ Ok (k, rest) → k.sent < k.credit → NoCounts layout bytes
unfit_counts layout bytes rest k e less other more newer are is =
    let same : ◌≡◌ {A = Counts × List ℕ} (k, rest) (other, more) = same_ok (k, rest) (other, more) (sym e ∙ (ap counts_at is ∙ counts_read other more are)) in
    omega (arith, less, are.credit, ap (λ (p : Counts × List ℕ). p.0.sent) same, ap (λ (p : Counts × List ℕ). p.0.credit) same)

pub no_counts_at : (layout : ℕ) (bytes : List ℕ) (fault : RecordFault) → counts_at bytes ≡ Err fault → NoCounts layout bytes
no_counts_at layout bytes fault e k rest newer are is = let found = sym e ∙ (ap counts_at is ∙ counts_read k rest are) in cc

pub takes_end : (bytes rest : List ℕ) (count : ℕ) → AreBytes bytes → number_at w32 bytes ≡ Ok (count, rest) → TakesEnd (Some count) bytes 4
takes_end bytes rest count are e =
    let found = number-found w32 (2 ^ 32) wide_32 bytes (count, rest) are e in
    let parts : bytes ≡ to_be_bytes w32 count ++ rest = found.0.parts in
    record { count = count; known = refl; below = found.1; is = refl; long = omega (arith, ap length parts, length-append (to_be_bytes w32 count) rest); spelled = ap (take 4) parts }

pub no_end_at : (bytes : List ℕ) (fault : RecordFault) → number_at w32 bytes ≡ Err fault → NoEnd bytes
no_end_at bytes fault e count rest below is = let found = sym e ∙ (ap (number_at w32) is ∙ number-again w32 (2 ^ 32) wide_32 count rest below) in cc

pub takes_floor : (old new : List Key) (bytes rest : List ℕ) (floor : Key) → AreBytes bytes → key_at bytes ≡ Ok (floor, rest) → new ≡ old ++ floor ∷ []
    → TakesFloor old new bytes (length bytes - length rest) × (length rest + 5 ≤ length bytes)
takes_floor old new bytes rest floor are e added =
    let found = key-found bytes (floor, rest) are e in
    let long : length rest + 5 ≤ length bytes = omega (arith, ap length found.0.parts, length-append (key_bytes floor) rest, length-key_bytes floor) in (
      record { floor = floor; added = added; own = found.1; long = omega arith; some = omega (arith, long); spelled = front_is bytes (key_bytes floor) rest found.0.parts },
      long,
    )

pub no_floor_at : (bytes : List ℕ) (fault : RecordFault) → key_at bytes ≡ Err fault → NoFloor bytes
no_floor_at bytes fault e floor rest range is = let found = sym e ∙ (ap key_at is ∙ key-again floor rest range) in cc

-- ---- a part more

-- nothing behind the messages
bare : (a b c : List ℕ) → a ≡ b ++ c → a ++ [] ≡ (b ++ []) ++ c
bare a b c e = append-nil a ∙ (e ∙ ap (λ (l : List ℕ). l ++ c) (sym (append-nil b)))

module _ (layout n : ℕ) where
  stripped : (a rest : List ℕ) (s : Summary) → Spells layout n ((a ++ []) ++ rest) s → Spells layout n (a ++ rest) s
  stripped a rest s spells = subst (λ (l : List ℕ). Spells layout n (l ++ rest) s) (append-nil a) spells

  pub state_part : (k : Counts) (states now : List KeyState) (msgs : List Msg) (count : Option ℕ) (floors : List Key) (bytes : List ℕ) (o : Option ℕ)
      → AreRead layout n k (as_parts states msgs count floors) → length states < k.keys
      → MatchOption o (NoState n bytes) (λ size. TakesState n states now bytes size)
      → MatchOption o (NoPart layout n k (as_parts states msgs count floors) bytes) (λ size. TakesPart layout n k (as_parts states msgs count floors) (as_parts now msgs count floors) bytes size)
  state_part k states now msgs (Some number) floors bytes o read fewer found = absurd (omega (arith, fewer, read.end.3.0))
  state_part k states now msgs None floors bytes None read fewer none = λ more s long some spells.
      no_state layout n k states msgs None floors read bytes more s fewer none long (stripped (parts_bytes k states msgs) (bytes ++ more) s spells)
  state_part k states now msgs None floors bytes (Some size) read fewer t =
      let many : length now ≡ length states + 1 = ap length t.added ∙ length-append states (t.state ∷ []) in
      record {
        read = record {
          newer = read.newer;
          counts = read.counts;
          states_of = subst (λ (l : List KeyState). AllByRecursion (IsOwnStateOf n) l) (sym t.added) (all-push (IsOwnStateOf n) states t.state read.states_of t.own);
          messages_of = read.messages_of;
          floors_of = read.floors_of;
          keys = omega (arith, many, fewer);
          first = λ less. read.first fewer;
          window = read.window;
          end = read.end;
        };
        taken = bare (parts_bytes k now msgs) (parts_bytes k states msgs) (take size bytes) (subst (λ (m : List Msg). parts_bytes k now m ≡ parts_bytes k states m ++ take size bytes) (sym (read.first fewer))
            (ap (λ (l : List KeyState). parts_bytes k l []) t.added ∙ (state_more k states t.state ∙ ap (λ (l : List ℕ). parts_bytes k states [] ++ l) (sym t.spelled))));
        some = omega (arith, t.some);
        long = t.long;
      }

  pub message_part : (k : Counts) (states : List KeyState) (msgs now : List Msg) (count : Option ℕ) (floors : List Key) (bytes : List ℕ) (o : Option ℕ)
      → AreRead layout n k (as_parts states msgs count floors) → (length states < k.keys → ⊥)
      → length msgs < k.sent - k.credit → MatchOption o (NoMessage n bytes) (λ size. TakesMessage n msgs now bytes size)
      → MatchOption o (NoPart layout n k (as_parts states msgs count floors) bytes) (λ size. TakesPart layout n k (as_parts states msgs count floors) (as_parts states now count floors) bytes size)
  message_part k states msgs now (Some number) floors bytes o read all fewer found = absurd (omega (arith, fewer, read.end.3.1))
  message_part k states msgs now None floors bytes None read all fewer none = λ more s long some spells.
      no_message layout n k states msgs None floors read bytes more s (whole_states layout n k states msgs None floors read all) fewer none long (stripped (parts_bytes k states msgs) (bytes ++ more) s spells)
  message_part k states msgs now None floors bytes (Some size) read all fewer t =
      let many : length now ≡ length msgs + 1 = ap length t.added ∙ length-append msgs (t.msg ∷ []) in
      record {
        read = record {
          newer = read.newer;
          counts = read.counts;
          states_of = read.states_of;
          messages_of = subst (λ (l : List Msg). AllByRecursion (IsMessageOf n) l) (sym t.added) (all-push (IsMessageOf n) msgs t.msg read.messages_of t.own);
          floors_of = read.floors_of;
          keys = read.keys;
          first = λ less. absurd (all less);
          window = omega (arith, many, fewer);
          end = read.end;
        };
        taken = bare (parts_bytes k states now) (parts_bytes k states msgs) (take size bytes)
            (ap (λ (l : List Msg). parts_bytes k states l) t.added ∙ (message_more k states msgs t.msg ∙ ap (λ (l : List ℕ). parts_bytes k states msgs ++ l) (sym t.spelled)));
        some = omega (arith, t.some);
        long = t.long;
      }

  -- the number of floors, behind all messages
  pub end_part : (k : Counts) (states : List KeyState) (msgs : List Msg) (now : Option ℕ) (floors : List Key) (bytes : List ℕ) (o : Option ℕ)
      → AreRead layout n k (as_parts states msgs None floors) → IsWindowRead k (as_parts states msgs None floors) → 2 < layout
      → MatchOption o (NoEnd bytes) (λ size. TakesEnd now bytes size)
      → MatchOption o (NoPart layout n k (as_parts states msgs None floors) bytes) (λ size. TakesPart layout n k (as_parts states msgs None floors) (as_parts states msgs now floors) bytes size)
  end_part k states msgs now floors bytes None read whole new none = λ more s long some spells.
      no_end layout n k states msgs None floors read bytes more s whole.0 whole.1 new none long (stripped (parts_bytes k states msgs) (bytes ++ more) s spells)
  end_part k states msgs now floors bytes (Some size) read whole new t =
      let front : List ℕ = parts_bytes k states msgs in
      record {
        read = record {
          newer = read.newer;
          counts = read.counts;
          states_of = read.states_of;
          messages_of = read.messages_of;
          floors_of = read.floors_of;
          keys = read.keys;
          first = read.first;
          window = read.window;
          end = subst (λ (o : Option ℕ). HasFloors layout k (as_parts states msgs o floors) o) (sym t.known) (new, t.below, omega (arith, ap length read.end), whole);
        };
        taken = ap (λ (o : Option ℕ). front ++ floors_taken o floors) t.known
            ∙ (ap (λ (fs : List Key). front ++ (to_be_bytes w32 t.count ++ flat_map key_bytes fs)) read.end
            ∙ (ap (λ (l : List ℕ). front ++ l) (append-nil (to_be_bytes w32 t.count))
            ∙ (λ i. sym (append-nil front) i ++ (sym t.spelled ∙ ap (λ (m : ℕ). take m bytes) (sym t.is)) i)));
        some = omega (arith, t.is);
        long = omega (arith, t.is, t.long);
      }

  -- a floor behind the number and those before it
  pub floor_part : (k : Counts) (states : List KeyState) (msgs : List Msg) (number : ℕ) (floors now : List Key) (bytes : List ℕ) (o : Option ℕ)
      → AreRead layout n k (as_parts states msgs (Some number) floors) → length floors < number
      → MatchOption o (NoFloor bytes) (λ size. TakesFloor floors now bytes size)
      → MatchOption o (NoPart layout n k (as_parts states msgs (Some number) floors) bytes)
      (λ size. TakesPart layout n k (as_parts states msgs (Some number) floors) (as_parts states msgs (Some number) now) bytes size)
  floor_part k states msgs number floors now bytes None read fewer none = λ more s long some spells.
      no_floor layout n k states msgs (Some number) floors read number bytes more s read.end.3.0 read.end.3.1 read.end.0 read.end.1 fewer none long spells
  floor_part k states msgs number floors now bytes (Some size) read fewer t =
      let front : List ℕ = parts_bytes k states msgs in
      let told : List ℕ = to_be_bytes w32 number in
      let had : List ℕ = flat_map key_bytes floors in
      let many : length now ≡ length floors + 1 = ap length t.added ∙ length-append floors (t.floor ∷ []) in
      record {
        read = record {
          newer = read.newer;
          counts = read.counts;
          states_of = read.states_of;
          messages_of = read.messages_of;
          floors_of = subst (λ (l : List Key). AllByRecursion IsKeyInRange l) (sym t.added) (all-push IsKeyInRange floors t.floor read.floors_of t.own);
          keys = read.keys;
          first = read.first;
          window = read.window;
          end = (read.end.0, read.end.1, omega (arith, many, fewer), read.end.3);
        };
        taken = ap (λ (l : List Key). front ++ (told ++ flat_map key_bytes l)) t.added
            ∙ (ap (λ (l : List ℕ). front ++ (told ++ l)) (flat-push key_bytes floors t.floor ∙ ap (λ (l : List ℕ). had ++ l) (sym t.spelled))
            ∙ (ap (λ (l : List ℕ). front ++ l) (sym (append_assoc told had (take size bytes))) ∙ sym (append_assoc front (told ++ had) (take size bytes))));
        some = omega (arith, t.some);
        long = t.long;
      }

  -- all floors are there, as many as the snapshot has
  same_floors : (k : Counts) (states : List KeyState) (msgs : List Msg) (count : Option ℕ) (floors : List Key) (rest : List ℕ) (s : Summary)
      → AreRead layout n k (as_parts states msgs count floors) → IsWindowRead k (as_parts states msgs count floors) → is_floor_left layout count floors ≡ false
      → Spells layout n (taken_of (Some k) (as_parts states msgs count floors) ++ rest) s
      → (floor_keys s.floors ≡ floors) × (1 ≤ length rest → ⊥)
  same_floors k states msgs None floors rest s read whole none spells =
      let old : layout ≤ 2 = ltb-false 2 layout none in (
        ap floor_keys (spells.none old) ∙ (keys-empty ∙ sym read.end),
        λ some. nothing_left layout n k states msgs None floors read rest [] s whole.0 whole.1 old some
            (subst (λ (l : List ℕ). Spells layout n (parts_bytes k states msgs ++ l) s) (sym (append-nil rest)) (stripped (parts_bytes k states msgs) rest s spells)),
      )
  same_floors k states msgs (Some number) floors rest s read whole none spells =
      let many : length floors ≡ number = (let not_fewer = ltb-false (length floors) number none in let few = read.end.2 in omega arith) in
      let behind = floors_whole layout n k states msgs (Some number) floors read number rest s whole.0 whole.1 read.end.0 read.end.1 many spells in
      (behind.0, λ some. omega (arith, some, ap length behind.1))

  pub last_part : (k : Counts) (states : List KeyState) (msgs : List Msg) (count : Option ℕ) (floors : List Key) (bytes : List ℕ) → AreRead layout n k (as_parts states msgs count floors)
      → IsWindowRead k (as_parts states msgs count floors) → is_floor_left layout count floors ≡ false → NoPart layout n k (as_parts states msgs count floors) bytes
  last_part k states msgs count floors bytes read whole none more s long some spells =
      (same_floors k states msgs count floors (bytes ++ more) s read whole none spells).1 (omega (arith, some, length-append bytes more))

  -- the same of parts that were read
  pub end_behind : (k : Counts) (p : Parts) (now : Option ℕ) (bytes : List ℕ) (o : Option ℕ) → p.count ≡ None → AreRead layout n k p → IsWindowRead k p → 2 < layout
      → MatchOption o (NoEnd bytes) (λ size. TakesEnd now bytes size)
      → MatchOption o (NoPart layout n k p bytes) (λ size. TakesPart layout n k p (as_parts p.states p.messages now p.floors) bytes size)
  end_behind k p now bytes o none read whole new t =
      subst (λ (c : Option ℕ). MatchOption o (NoPart layout n k (as_parts p.states p.messages c p.floors) bytes) (λ size. TakesPart layout n k (as_parts p.states p.messages c p.floors) (as_parts p.states p.messages now p.floors) bytes size)) (sym none)
      (end_part k p.states p.messages now p.floors bytes o (subst (λ (c : Option ℕ). AreRead layout n k (as_parts p.states p.messages c p.floors)) none read) whole new t)

  pub floor_behind : (k : Counts) (p : Parts) (number : ℕ) (now : List Key) (bytes : List ℕ) (o : Option ℕ) → p.count ≡ Some number → AreRead layout n k p → length p.floors < number
      → MatchOption o (NoFloor bytes) (λ size. TakesFloor p.floors now bytes size)
      → MatchOption o (NoPart layout n k p bytes) (λ size. TakesPart layout n k p (as_parts p.states p.messages p.count now) bytes size)
  floor_behind k p number now bytes o some read fewer t =
      subst (λ (c : Option ℕ). MatchOption o (NoPart layout n k (as_parts p.states p.messages c p.floors) bytes) (λ size. TakesPart layout n k (as_parts p.states p.messages c p.floors) (as_parts p.states p.messages c now) bytes size)) (sym some)
      (floor_part k p.states p.messages number p.floors now bytes o (subst (λ (c : Option ℕ). AreRead layout n k (as_parts p.states p.messages c p.floors)) some read) fewer t)

  pub last_behind : (k : Counts) (p : Parts) (count : Option ℕ) (bytes : List ℕ) → p.count ≡ count → AreRead layout n k p → IsWindowRead k p → is_floor_left layout count p.floors ≡ false
      → NoPart layout n k p bytes
  last_behind k p count bytes is read whole none =
      last_part k p.states p.messages p.count p.floors bytes read whole (ap (λ (o : Option ℕ). is_floor_left layout o p.floors) is ∙ none)

  -- ---- the whole

  -- the bytes end as those of a snapshot do
  end_is : (k : Counts) (states : List KeyState) (msgs : List Msg) (count : Option ℕ) (floors : List Key) → AreRead layout n k (as_parts states msgs count floors)
      → is_floor_left layout count floors ≡ false
      → (floors_taken count floors ≡ end_of layout floors) × (length floors < 2 ^ 32) × (layout ≤ 2 → floors ≡ [])
  end_is k states msgs None floors read none = (sym (end-none layout floors (ltb-false 2 layout none)), omega (arith, ap length read.end), λ old. read.end)
  end_is k states msgs (Some number) floors read none =
      let not_fewer : number ≤ length floors = ltb-false (length floors) number none in
      let few : length floors ≤ number = read.end.2 in
      let many : number ≡ length floors = omega arith in (
        ap (λ (m : ℕ). to_be_bytes w32 m ++ flat_map key_bytes floors) many ∙ sym (end-some layout floors read.end.0),
        omega (arith, many, read.end.1),
        λ old. absurd (omega (arith, old, read.end.0)),
      )

  whole_parts : (k : Counts) (states : List KeyState) (msgs : List Msg) (count : Option ℕ) (floors : List Key) → AreRead layout n k (as_parts states msgs count floors)
      → IsWindowRead k (as_parts states msgs count floors) → is_floor_left layout count floors ≡ false → AreFitting k states floors
      → Spells layout n (taken_of (Some k) (as_parts states msgs count floors)) (made_of k states msgs floors)
  unfolding number_bytes
  whole_parts k states msgs count floors read whole none fits =
      let end = end_is k states msgs count floors read none in
      parts-spelled layout n (taken_of (Some k) (as_parts states msgs count floors)) k states msgs floors read.newer
      (record {
        is = ap (λ (l : List ℕ). parts_bytes k states msgs ++ l) end.0;
        few = read.counts.stands;
        few_keys = read.counts.keys;
        credit = read.counts.credit;
        keys = whole.0;
        window = whole.1;
        states = read.states_of;
        messages = read.messages_of;
        floors = read.floors_of;
        few_floors = end.1;
        none = end.2;
      })
      fits

  alone : (a : List ℕ) (s : Summary) → Spells layout n a s → Spells layout n (a ++ []) s
  alone a s spells = subst (λ (l : List ℕ). Spells layout n l s) (sym (append-nil a)) spells

  pub sound_part : (b : Bool) (k : Counts) (states : List KeyState) (msgs : List Msg) (count : Option ℕ) (floors : List Key) → AreRead layout n k (as_parts states msgs count floors)
      → IsWindowRead k (as_parts states msgs count floors) → is_floor_left layout count floors ≡ false → Decides b (AreFitting k states floors)
      → IsSoundPart b layout n k (as_parts states msgs count floors)
  sound_part true k states msgs count floors read whole none d = (whole, none, d.0 refl)
  sound_part false k states msgs count floors read whole none d = λ s spells.
      let same = same_floors k states msgs count floors [] s read whole none (alone (taken_of (Some k) (as_parts states msgs count floors)) s spells) in
      unfit layout n k states msgs count floors read (floors_taken count floors) whole.0 (λ fits. let is = d.1 fits in absurd cc) s same.0 spells

  -- parts that are missing
  pub few_states : (k : Counts) (states : List KeyState) (msgs : List Msg) (count : Option ℕ) (floors : List Key) → AreRead layout n k (as_parts states msgs count floors) → length states < k.keys
      → (s : Summary) → Spells layout n (taken_of (Some k) (as_parts states msgs count floors)) s → ⊥
  few_states k states msgs (Some number) floors read fewer s spells = omega (arith, fewer, read.end.3.0)
  few_states k states msgs None floors read fewer s spells =
      states_missing layout n k states msgs None floors read fewer s (subst (λ (l : List ℕ). Spells layout n l s) (append-nil (parts_bytes k states msgs)) spells)

  pub few_messages : (k : Counts) (states : List KeyState) (msgs : List Msg) (count : Option ℕ) (floors : List Key) → AreRead layout n k (as_parts states msgs count floors)
      → (length states < k.keys → ⊥) → length msgs < k.sent - k.credit
      → (s : Summary) → Spells layout n (taken_of (Some k) (as_parts states msgs count floors)) s → ⊥
  few_messages k states msgs (Some number) floors read all fewer s spells = omega (arith, fewer, read.end.3.1)
  few_messages k states msgs None floors read all fewer s spells =
      messages_missing layout n k states msgs None floors read (whole_states layout n k states msgs None floors read all) fewer s (subst (λ (l : List ℕ). Spells layout n l s) (append-nil (parts_bytes k states msgs)) spells)

  pub few_floors : (k : Counts) (states : List KeyState) (msgs : List Msg) (count : Option ℕ) (floors : List Key) → AreRead layout n k (as_parts states msgs count floors)
      → IsWindowRead k (as_parts states msgs count floors) → is_floor_left layout count floors ≡ true
      → (s : Summary) → Spells layout n (taken_of (Some k) (as_parts states msgs count floors)) s → ⊥
  few_floors k states msgs (Some number) floors read whole left s spells =
      floor_missing layout n k states msgs (Some number) floors read number whole.0 whole.1 read.end.0 read.end.1 (ltb-true (length floors) number left) s spells
  few_floors k states msgs None floors read whole left s spells =
      end_missing layout n k states msgs None floors read whole.0 whole.1 (ltb-true 2 layout left) s (subst (λ (l : List ℕ). Spells layout n l s) (append-nil (parts_bytes k states msgs)) spells)

  pub whole_window_of : (k : Counts) (p : Parts) → AreRead layout n k p → (length p.states < k.keys → ⊥) → (length p.messages < k.sent - k.credit → ⊥) → IsWindowRead k p
  whole_window_of k p read states msgs = (whole_states layout n k p.states p.messages p.count p.floors read states, whole_window layout n k p.states p.messages p.count p.floors read msgs)

  pub nothing_read : (counts : Option Counts) (p : Parts) → 2 ≤ layout → counts ≡ None → (s : Summary) → Spells layout n (taken_of counts p) s → ⊥
  nothing_read counts p newer is s spells =
      no_counts_newer layout n [] [] s newer (λ k rest old are e. omega (arith, ap length e, length-append (number_bytes k) rest, length-numbers k)) (inr refl)
      (subst (λ (o : Option Counts). Spells layout n (taken_of o p) s) is spells)

  -- in layout 1 nothing is read, and that is a snapshot
  pub plain_read : (counts : Option Counts) (p : Parts) → layout ≤ 1 → counts ≡ None → Spells layout n (taken_of counts p) empty
  plain_read counts p old is = subst (λ (o : Option Counts). Spells layout n (taken_of o p) empty) (sym is) (plain-spelled layout n [] old refl)

  pub reading_none : (counts : Option Counts) (p : Parts) → counts ≡ None → IsReading layout n counts p → p ≡ as_parts [] [] None []
  reading_none counts p is reading = subst (λ (o : Option Counts). IsReading layout n o p) is reading

  pub reading_some : (counts : Option Counts) (k : Counts) (p : Parts) → counts ≡ Some k → IsReading layout n counts p → AreRead layout n k p
  reading_some counts k p is reading = subst (λ (o : Option Counts). IsReading layout n o p) is reading

  pub sound_yes : (b : Bool) (k : Counts) (p : Parts) → AreRead layout n k p → IsSoundPart b layout n k p → b ≡ true
      → AreFitting k p.states p.floors × Spells layout n (taken_of (Some k) p) (made_of k p.states p.messages p.floors)
  sound_yes true k p read sound e = (sound.2, whole_parts k p.states p.messages p.count p.floors read sound.0 sound.1 sound.2)
  sound_yes false k p read sound e = absurd cc

  pub sound_no : (b : Bool) (k : Counts) (p : Parts) → IsSoundPart b layout n k p → b ≡ false → (s : Summary) → Spells layout n (taken_of (Some k) p) s → ⊥
  sound_no true k p sound e = absurd cc
  sound_no false k p sound e = sound

pub none_taken : (p : SnapshotPart) (n layout : ℕ) (counts : Option Counts) (parts : Parts) (room : ℕ) → record { n = n; layout = layout; taken = taken_of counts parts; room = room } ≡ p
    → counts ≡ None
    → p.taken ≡ []
none_taken p n layout counts parts room is none = sym (ap (λ (q : SnapshotPart). q.taken) is) ∙ ap (λ (o : Option Counts). taken_of o parts) none
