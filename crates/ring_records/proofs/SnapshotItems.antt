-- The items of a snapshot: what is read of one is spelled there, and what is spelled is read again.
use Rattle.std.proofs.Common.{ℕ, zero, suc, ◌≡◌, ◌≤◌, Bool, true, false, cond, eqb, ltb, List, [], ◌∷◌, ◌++◌, length, Option, Some, None, Ok, Err, refl, sym, ap, subst, ◌∙◌, append_assoc}
use Rattle.std.specs.List.{flat_map, AllByRecursion}
use Rattle.std.specs.Prelude.{Result}
use Rattle.std.proofs.lemmas.Bool.{eqb-true, ltb-false, le-ltb}
use Rattle.std.proofs.lemmas.Option.{same_Some}
use Rattle.ring_records.specs.declared.candidate.Candidate.{Candidate}
use Rattle.ring_records.specs.declared.key.Key.{Key}
use Rattle.ring_records.specs.declared.key_state.KeyState.{KeyState}
use Rattle.ring_records.specs.declared.msg.Msg.{Msg}
use Rattle.ring_records.specs.declared.msg.Msg.TheVariants.{Token, Elected}
use Rattle.ring_records.specs.declared.record.RecordFault.{RecordFault}
use Rattle.ring_records.specs.declared.record.RecordFault.TheVariants.{Kind, Number}
use Rattle.ring_records.specs.Record.{key_bytes, candidate_bytes, IsKeyInRange}
use Rattle.ring_records.specs.RecordLists.{AreBytes}
use Rattle.ring_records.specs.RecordReading.{◌>>=◌, byte_at, key_at, bid_at, candidate_at}
use Rattle.ring_records.specs.Snapshot.{flags, bid_bytes, leader_bytes, state_bytes, msg_bytes, IsCandidateOf, IsStateOf, IsMessageOf}
use Rattle.ring_records.specs.SnapshotRead.{candidate_in, state_behind, state_at, named_at, token_of, elected_of, msg_behind, msg_at, items_at}
use Rattle.ring_records.proofs.Fields.{bind_ok, must_not_ok, same_ok, Takes, Takes-then, byte-found, bid-found, bid-again, key-found, key-again, candidate-found, candidate-again}
use Rattle.ring_records.proofs.Lists.{none≢some}

takes-none : (bytes : List ℕ) → AreBytes bytes → Takes bytes [] bytes
takes-none bytes are = record { parts = refl; left = are }

-- ---- candidates

candidate_in-found : (n : ℕ) (bytes : List ℕ) (x : Candidate × List ℕ) → AreBytes bytes → candidate_in n bytes ≡ Ok x → Takes bytes (candidate_bytes x.0) x.1 × IsCandidateOf n x.0
unfolding candidate_in
candidate_in-found n bytes x are e =
    let a = bind_ok (candidate_at bytes) (λ c. cond (ltb n c.0.node) (Err Number) (Ok c)) x e in
    let g = must_not_ok (ltb n a.0.0.node) Number (Ok a.0) x a.2 in
    let found = candidate-found bytes a.0 are a.1 in
    subst (λ (y : Candidate × List ℕ). Takes bytes (candidate_bytes y.0) y.1 × IsCandidateOf n y.0) (same_ok a.0 x g.1) (found.0, record { in_range = found.1; in_ring = ltb-false n a.0.0.node g.0 })

candidate_in-again : (n : ℕ) (c : Candidate) (rest : List ℕ) → IsCandidateOf n c → candidate_in n (candidate_bytes c ++ rest) ≡ Ok (c, rest)
unfolding candidate_in
candidate_in-again n c rest of = rw (candidate-again c rest of.in_range, le-ltb n c.node of.in_ring) refl

-- ---- the states of keys

-- what stands behind the flags
record IsBehind (n : ℕ) (key : Key) (flag : ℕ) (bytes : List ℕ) (x : KeyState × List ℕ) : Type 0 where
  mid : List ℕ
  bid : Takes bytes (bid_bytes x.0.stood) mid
  led : Takes mid (leader_bytes x.0.leader) x.1
  flag_is : flag ≡ flags x.0
  of : IsStateOf n key x.0

no_bid : (bid : ℕ) → ◌≡◌ {A = Option ℕ} None (Some bid) → bid ≤ 999999999
no_bid bid e = none≢some bid e

no_leader : (n : ℕ) (c : Candidate) → ◌≡◌ {A = Option Candidate} None (Some c) → IsCandidateOf n c
no_leader n c e = none≢some c e

a_bid : (a bid : ℕ) → a ≤ 999999999 → ◌≡◌ {A = Option ℕ} (Some a) (Some bid) → bid ≤ 999999999
a_bid a bid low e = subst (λ (b : ℕ). b ≤ 999999999) (same_Some a bid e) low

a_leader : (n : ℕ) (a c : Candidate) → IsCandidateOf n a → ◌≡◌ {A = Option Candidate} (Some a) (Some c) → IsCandidateOf n c
a_leader n a c of e = subst (IsCandidateOf n) (same_Some a c e) of

module _ (n : ℕ) (key : Key) (named : IsKeyInRange key) (bytes : List ℕ) (x : KeyState × List ℕ) (are : AreBytes bytes) where
  abbrev Behind : ℕ → KeyState × List ℕ → Type 0
  Behind flag y = IsBehind n key flag bytes y

  touched-found : ◌≡◌ {A = Result (KeyState × List ℕ) RecordFault} (Ok (record { key = key; stood = None; leader = None }, bytes)) (Ok x) → Behind 0 x
  touched-found e = subst (Behind 0) (same_ok (record { key = key; stood = None; leader = None }, bytes) x e) (record {
    mid = bytes;
    bid = takes-none bytes are;
    led = takes-none bytes are;
    flag_is = refl;
    of = record { own = refl; named = named; bid = no_bid; led = no_leader n };
  })

  stood-found : (bid_at bytes >>= λ bid. Ok (record { key = key; stood = Some bid.0; leader = None }, bid.1)) ≡ Ok x → Behind 1 x
  stood-found e =
      let a = bind_ok (bid_at bytes) (λ bid. Ok (record { key = key; stood = Some bid.0; leader = None }, bid.1)) x e in
      let b = bid-found bytes a.0 are a.1 in
      subst (Behind 1) (same_ok (record { key = key; stood = Some a.0.0; leader = None }, a.0.1) x a.2) (record {
        mid = a.0.1;
        bid = b.0;
        led = takes-none a.0.1 b.0.left;
        flag_is = refl;
        of = record { own = refl; named = named; bid = λ bid f. a_bid a.0.0 bid b.1 f; led = no_leader n };
      })

  led-found : (candidate_in n bytes >>= λ c. Ok (record { key = key; stood = None; leader = Some c.0 }, c.1)) ≡ Ok x → Behind 2 x
  led-found e =
      let a = bind_ok (candidate_in n bytes) (λ c. Ok (record { key = key; stood = None; leader = Some c.0 }, c.1)) x e in
      let b = candidate_in-found n bytes a.0 are a.1 in
      subst (Behind 2) (same_ok (record { key = key; stood = None; leader = Some a.0.0 }, a.0.1) x a.2) (record {
        mid = bytes;
        bid = takes-none bytes are;
        led = b.0;
        flag_is = refl;
        of = record { own = refl; named = named; bid = no_bid; led = λ c f. a_leader n a.0.0 c b.1 f };
      })

  both-found : (bid_at bytes >>= λ bid. candidate_in n bid.1 >>= λ c. Ok (record { key = key; stood = Some bid.0; leader = Some c.0 }, c.1)) ≡ Ok x → Behind 3 x
  both-found e =
      let a = bind_ok (bid_at bytes) (λ bid. candidate_in n bid.1 >>= λ c. Ok (record { key = key; stood = Some bid.0; leader = Some c.0 }, c.1)) x e in
      let b = bind_ok (candidate_in n a.0.1) (λ c. Ok (record { key = key; stood = Some a.0.0; leader = Some c.0 }, c.1)) x a.2 in
      let bid = bid-found bytes a.0 are a.1 in
      let led = candidate_in-found n a.0.1 b.0 bid.0.left b.1 in
      subst (Behind 3) (same_ok (record { key = key; stood = Some a.0.0; leader = Some b.0.0 }, b.0.1) x b.2) (record {
        mid = a.0.1;
        bid = bid.0;
        led = led.0;
        flag_is = refl;
        of = record { own = refl; named = named; bid = λ b f. a_bid a.0.0 b bid.1 f; led = λ c f. a_leader n b.0.0 c led.1 f };
      })

  behind-found : (flag : ℕ) → state_behind n key flag bytes ≡ Ok x → Behind flag x
  unfolding state_behind
  behind-found flag e = go (eqb flag 0) refl (eqb flag 1) refl (eqb flag 2) refl (eqb flag 3) refl e
    where
      go : (a : Bool) → eqb flag 0 ≡ a → (b : Bool) → eqb flag 1 ≡ b → (c : Bool) → eqb flag 2 ≡ c → (d : Bool) → eqb flag 3 ≡ d
          → cond a (Ok (record { key = key; stood = None; leader = None }, bytes))
          (cond b (bid_at bytes >>= λ bid. Ok (record { key = key; stood = Some bid.0; leader = None }, bid.1))
          (cond c (candidate_in n bytes >>= λ c. Ok (record { key = key; stood = None; leader = Some c.0 }, c.1))
          (cond d (bid_at bytes >>= λ bid. candidate_in n bid.1 >>= λ c. Ok (record { key = key; stood = Some bid.0; leader = Some c.0 }, c.1)) (Err Number)))) ≡ Ok x
          → Behind flag x
      go true p b q c r d s e = subst (λ (f : ℕ). Behind f x) (sym (eqb-true flag 0 p)) (touched-found e)
      go false p true q c r d s e = subst (λ (f : ℕ). Behind f x) (sym (eqb-true flag 1 q)) (stood-found e)
      go false p false q true r d s e = subst (λ (f : ℕ). Behind f x) (sym (eqb-true flag 2 r)) (led-found e)
      go false p false q false r true s e = subst (λ (f : ℕ). Behind f x) (sym (eqb-true flag 3 s)) (both-found e)
      go false p false q false r false s e = absurd cc

abbrev pub IsOwnState : ℕ → KeyState → Type 0
IsOwnState n s = IsStateOf n s.key s

pub state-found : (n : ℕ) (bytes : List ℕ) (x : KeyState × List ℕ) → AreBytes bytes → state_at n bytes ≡ Ok x → Takes bytes (state_bytes x.0) x.1 × IsOwnState n x.0
unfolding state_at state_bytes
state-found n bytes x are e =
    let a = bind_ok (key_at bytes) (λ key. byte_at key.1 >>= λ flag. state_behind n key.0 flag.0 flag.1) x e in
    let b = bind_ok (byte_at a.0.1) (λ flag. state_behind n a.0.0 flag.0 flag.1) x a.2 in
    let key = key-found bytes a.0 are a.1 in
    let flag = byte-found a.0.1 b.0 key.0.left b.1 in
    let r = behind-found n a.0.0 key.1 b.0.1 x flag.left b.0.0 b.2 in
    let first : Takes bytes (key_bytes x.0.key) a.0.1 = subst (λ (k : Key). Takes bytes (key_bytes k) a.0.1) (sym r.of.own) key.0 in
    let second : Takes a.0.1 (flags x.0 ∷ []) b.0.1 = subst (λ (f : ℕ). Takes a.0.1 (f ∷ []) b.0.1) r.flag_is flag in
    let two = Takes-then bytes (key_bytes x.0.key) a.0.1 (flags x.0 ∷ []) b.0.1 first second in
    let three = Takes-then bytes (key_bytes x.0.key ++ flags x.0 ∷ []) b.0.1 (bid_bytes x.0.stood) r.mid two r.bid in
    (Takes-then bytes ((key_bytes x.0.key ++ flags x.0 ∷ []) ++ bid_bytes x.0.stood) r.mid (leader_bytes x.0.leader) x.1 three r.led, subst (λ (k : Key). IsStateOf n k x.0) (sym r.of.own) r.of)

behind-again : (n : ℕ) (key : Key) (stood : Option ℕ) (leader : Option Candidate) (rest : List ℕ) → ((bid : ℕ) → stood ≡ Some bid → bid ≤ 999999999)
    → ((c : Candidate) → leader ≡ Some c → IsCandidateOf n c)
    → state_behind n key (flags (record { key = key; stood = stood; leader = leader })) (bid_bytes stood ++ (leader_bytes leader ++ rest)) ≡ Ok (record { key = key; stood = stood; leader = leader }, rest)
unfolding state_behind
behind-again n key None None rest b l = refl
behind-again n key (Some bid) None rest b l = rw (bid-again bid rest (b bid refl)) refl
behind-again n key None (Some c) rest b l = rw (candidate_in-again n c rest (l c refl)) refl
behind-again n key (Some bid) (Some c) rest b l = rw (bid-again bid (candidate_bytes c ++ rest) (b bid refl), candidate_in-again n c rest (l c refl)) refl

pub state-again : (n : ℕ) (s : KeyState) (rest : List ℕ) → IsOwnState n s → state_at n (state_bytes s ++ rest) ≡ Ok (s, rest)
unfolding state_at state_bytes
state-again n s rest of =
    let behind : List ℕ = bid_bytes s.stood ++ (leader_bytes s.leader ++ rest) in
    let joined : (key_bytes s.key ++ (flags s ∷ []) ++ bid_bytes s.stood ++ leader_bytes s.leader) ++ rest ≡ key_bytes s.key ++ (flags s ∷ behind) = simp append_assoc in
    ap (state_at n) joined ∙ rw (key-again s.key (flags s ∷ behind) of.named) (behind-again n s.key s.stood s.leader rest of.bid of.led)

-- ---- messages

record IsNamed (n : ℕ) (bytes : List ℕ) (key : Key) (c : Candidate) (rest : List ℕ) : Type 0 where
  mid : List ℕ
  first : Takes bytes (key_bytes key) mid
  second : Takes mid (candidate_bytes c) rest
  named : IsKeyInRange key
  candidate : IsCandidateOf n c

named-found : (n : ℕ) (bytes : List ℕ) (x : (Key × Candidate) × List ℕ) → AreBytes bytes → named_at n bytes ≡ Ok x → IsNamed n bytes x.0.0 x.0.1 x.1
unfolding named_at
named-found n bytes x are e =
    let a = bind_ok (key_at bytes) (λ key. candidate_in n key.1 >>= λ c. Ok ((key.0, c.0), c.1)) x e in
    let b = bind_ok (candidate_in n a.0.1) (λ c. Ok ((a.0.0, c.0), c.1)) x a.2 in
    let key = key-found bytes a.0 are a.1 in
    let c = candidate_in-found n a.0.1 b.0 key.0.left b.1 in
    subst (λ (y : (Key × Candidate) × List ℕ). IsNamed n bytes y.0.0 y.0.1 y.1) (same_ok ((a.0.0, b.0.0), b.0.1) x b.2) (record { mid = a.0.1; first = key.0; second = c.0; named = key.1; candidate = c.1 })

-- behind a kind byte
msg-taken : (n kind : ℕ) (bytes after : List ℕ) (key : Key) (c : Candidate) (rest : List ℕ) → Takes bytes (kind ∷ []) after → IsNamed n after key c rest
    → Takes bytes ((kind ∷ []) ++ key_bytes key ++ candidate_bytes c) rest
msg-taken n kind bytes after key c rest first x =
    Takes-then bytes ((kind ∷ []) ++ key_bytes key) x.mid (candidate_bytes c) rest (Takes-then bytes (kind ∷ []) after (key_bytes key) x.mid first x.first) x.second

abbrev IsMsgFound : ℕ → List ℕ → Msg × List ℕ → Type 0
IsMsgFound n bytes x = Takes bytes (msg_bytes x.0) x.1 × IsMessageOf n x.0

module _ (n : ℕ) (bytes after : List ℕ) (x : Msg × List ℕ) where
  token-found : Takes bytes (2 ∷ []) after → token_of n after ≡ Ok x → IsMsgFound n bytes x
  unfolding token_of msg_bytes
  token-found kind e =
      let a = bind_ok (named_at n after) (λ x. Ok (Token x.0.0 x.0.1, x.1)) x e in
      let b = named-found n after a.0 kind.left a.1 in
      subst (IsMsgFound n bytes) (same_ok (Token a.0.0.0 a.0.0.1, a.0.1) x a.2) (msg-taken n 2 bytes after a.0.0.0 a.0.0.1 a.0.1 kind b, record { named = b.named; candidate = b.candidate })

  elected-found : Takes bytes (3 ∷ []) after → elected_of n after ≡ Ok x → IsMsgFound n bytes x
  unfolding elected_of msg_bytes
  elected-found kind e =
      let a = bind_ok (named_at n after) (λ x. Ok (Elected x.0.0 x.0.1, x.1)) x e in
      let b = named-found n after a.0 kind.left a.1 in
      subst (IsMsgFound n bytes) (same_ok (Elected a.0.0.0 a.0.0.1, a.0.1) x a.2) (msg-taken n 3 bytes after a.0.0.0 a.0.0.1 a.0.1 kind b, record { named = b.named; candidate = b.candidate })

  kind-found : (kind : ℕ) → Takes bytes (kind ∷ []) after → msg_behind n kind after ≡ Ok x → IsMsgFound n bytes x
  unfolding msg_behind
  kind-found kind first e = go (eqb kind 2) refl (eqb kind 3) refl e
    where
      go : (a : Bool) → eqb kind 2 ≡ a → (b : Bool) → eqb kind 3 ≡ b → cond a (token_of n after) (cond b (elected_of n after) (Err Kind)) ≡ Ok x → IsMsgFound n bytes x
      go true p b q e = token-found (subst (λ (k : ℕ). Takes bytes (k ∷ []) after) (eqb-true kind 2 p) first) e
      go false p true q e = elected-found (subst (λ (k : ℕ). Takes bytes (k ∷ []) after) (eqb-true kind 3 q) first) e
      go false p false q e = absurd cc

pub msg-found : (n : ℕ) (bytes : List ℕ) (x : Msg × List ℕ) → AreBytes bytes → msg_at n bytes ≡ Ok x → Takes bytes (msg_bytes x.0) x.1 × IsMessageOf n x.0
unfolding msg_at
msg-found n bytes x are e =
    let a = bind_ok (byte_at bytes) (λ kind. msg_behind n kind.0 kind.1) x e in
    kind-found n bytes a.0.1 x a.0.0 (byte-found bytes a.0 are a.1) a.2

pub msg-again : (n : ℕ) (msg : Msg) (rest : List ℕ) → IsMessageOf n msg → msg_at n (msg_bytes msg ++ rest) ≡ Ok (msg, rest)
unfolding msg_at msg_behind token_of elected_of named_at msg_bytes
msg-again n (Token key c) rest of = rw (append_assoc (key_bytes key) (candidate_bytes c) rest, key-again key (candidate_bytes c ++ rest) of.named, candidate_in-again n c rest of.candidate) refl
msg-again n (Elected key c) rest of = rw (append_assoc (key_bytes key) (candidate_bytes c) rest, key-again key (candidate_bytes c ++ rest) of.named, candidate_in-again n c rest of.candidate) refl

-- ---- a list of them

module _ {A : Type 0} (f : List ℕ → Result (A × List ℕ) RecordFault) (g : A → List ℕ) (P : A → Type 0) where
  pub record AreFound (bytes : List ℕ) (count : ℕ) (xs : List A × List ℕ) : Type 0 where
    pub taken : Takes bytes (flat_map g xs.0) xs.1
    pub each : AllByRecursion P xs.0
    pub len : length xs.0 ≡ count

  pub items-found : ((bytes : List ℕ) (x : A × List ℕ) → AreBytes bytes → f bytes ≡ Ok x → Takes bytes (g x.0) x.1 × P x.0) → (count : ℕ) (bytes : List ℕ) (xs : List A × List ℕ)
      → AreBytes bytes → items_at f count bytes ≡ Ok xs → AreFound bytes count xs
  unfolding items_at
  items-found found zero bytes xs are e = subst (AreFound bytes zero) (same_ok ([], bytes) xs e) (record { taken = takes-none bytes are; each = tt; len = refl })
  items-found found (suc count) bytes xs are e =
      let a = bind_ok (f bytes) (λ x. items_at f count x.1 >>= λ ys. Ok (x.0 ∷ ys.0, ys.1)) xs e in
      let b = bind_ok (items_at f count a.0.1) (λ ys. Ok (a.0.0 ∷ ys.0, ys.1)) xs a.2 in
      let first = found bytes a.0 are a.1 in
      let rest = items-found found count a.0.1 b.0 first.0.left b.1 in
      subst (AreFound bytes (suc count)) (same_ok (a.0.0 ∷ b.0.0, b.0.1) xs b.2) (record {
        taken = Takes-then bytes (g a.0.0) a.0.1 (flat_map g b.0.0) b.0.1 first.0 rest.taken;
        each = (first.1, rest.each);
        len = ap suc rest.len;
      })

  pub items-again : ((x : A) (rest : List ℕ) → P x → f (g x ++ rest) ≡ Ok (x, rest)) → (xs : List A) (rest : List ℕ) → AllByRecursion P xs
      → items_at f (length xs) (flat_map g xs ++ rest) ≡ Ok (xs, rest)
  unfolding items_at
  items-again again [] rest each = refl
  items-again again (x ∷ xs) rest each =
      rw (append_assoc (g x) (flat_map g xs) rest, again x (flat_map g xs ++ rest) each.0, items-again again xs rest each.1) refl
