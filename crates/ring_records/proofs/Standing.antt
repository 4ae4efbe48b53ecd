-- The Stands that a summary counts stay as many as its keys with a bid.
use Rattle.std.proofs.Common.{ℕ, ◌≡◌, Bool, true, false, cond, Option, Some, None, refl, sym, ap, arith}
use Rattle.std.specs.FinMap as fin
use Rattle.std.specs.List.{count_by}
use Rattle.std.specs.Prelude.{is_some}
use Rattle.ring_records.specs.declared.input.Input.TheVariants.{Stand, Take}
use Rattle.ring_records.specs.declared.key.Key.{Key}
use Rattle.ring_records.specs.declared.key_state.KeyState.{KeyState}
use Rattle.ring_records.specs.declared.msg.Msg.{Msg}
use Rattle.ring_records.specs.declared.summary.Summary.{Summary}
use Rattle.ring_records.specs.FloorOf.{is_below_floor}
use Rattle.ring_records.specs.Known.{stood_of, leader_of, known_of, heard, stepped}
use Rattle.ring_records.specs.Message.{key_of}
use Rattle.ring_records.specs.Snapshot.{has_stood}
use Rattle.ring_records.proofs.KeysPut.{part_of, keys-put}

-- ---- one more input

abbrev pub IsCounted : Summary → Type 0
IsCounted s = s.stands ≡ count_by has_stood (fin.values s.keys)

-- what counts as one Stand
abbrev stood_once : KeyState → ℕ
stood_once s = cond (has_stood s) 1 0

same_stood : (o : Option KeyState) (s : KeyState) → s.stood ≡ stood_of o → part_of stood_once o ≡ stood_once s
same_stood None s e = sym (ap (λ (b : Option ℕ). cond (is_some b) 1 0) e)
same_stood (Some t) s e = sym (ap (λ (b : Option ℕ). cond (is_some b) 1 0) e)

-- a Stand for a key that is not known
pub stand-counted : (me : ℕ) (s : Summary) (key : Key) (bid : ℕ) → known_of s key ≡ None → IsCounted s → IsCounted (stepped me s (Stand key bid))
stand-counted me s key bid new counted =
    let put = keys-put stood_once s.keys key (record { key = key; stood = Some bid; leader = leader_of (known_of s key) }) in
    let none = ap (part_of stood_once) new in
    omega arith

-- a message leaves what its key stood with
pub take-counted : (me : ℕ) (s : Summary) (msg_no : ℕ) (msg : Msg) → IsCounted s → IsCounted (stepped me s (Take msg_no msg))
take-counted me s msg_no msg counted = go (is_below_floor s.floors (key_of msg))
  where
    go : (b : Bool) → s.stands ≡ count_by has_stood (fin.values (cond b s.keys (fin.insert s.keys (key_of msg) (heard me s msg))))
    go true = counted
    go false =
        let put = keys-put stood_once s.keys (key_of msg) (heard me s msg) in
        let same = same_stood (known_of s (key_of msg)) (heard me s msg) refl in
        omega arith
