-- What a Retire leaves of what is known.
use Rattle.std.proofs.Common.{ℕ, ◌≡◌, ◌+◌, ◌-◌, ◌<◌, Bool, true, false, not, cond, ltb, ◌&&◌, ◌||◌, List, [], ◌∷◌, ◌++◌, map as list_map, length, drop, Option, Some, None, Equal, refl, sym, ap, subst, inl, inr, ◌∙◌, append-nil, append_assoc, arith}
use Rattle.std.specs.FinMap as fin
use Rattle.std.specs.FinMap.Entries.{where_key, is_sorted-where_key, find-where_key}
use Rattle.std.specs.List.{count_by, sum_by}
use Rattle.std.specs.Prelude.{unwrap_or}
use Rattle.std.specs.Str.{bytes_eq}
use Rattle.std.proofs.lemmas.Bool.{cases_lt, lt-ltb, le-ltb}
use Rattle.std.proofs.lemmas.List.{length-append}
use Rattle.std.proofs.lemmas.List.Sums.{sum_by-cons}
use Rattle.std.proofs.lemmas.Map.Text.{is_eq-slice_cmp}
use Rattle.std.proofs.lemmas.Slice.Eq.{bytes_eq-Decides}
use Rattle.ring_records.specs.declared.input.Input.{Input}
use Rattle.ring_records.specs.declared.input.Input.TheVariants.{Stand, Take, Acked, Retire}
use Rattle.ring_records.specs.declared.key.Key.{Key}
use Rattle.ring_records.specs.declared.key_state.KeyState.{KeyState}
use Rattle.ring_records.specs.Admission.{is_retire}
use Rattle.ring_records.specs.Allowed.{IsInTurn, IsAllowed}
use Rattle.ring_records.specs.Emission.{emit, sent}
use Rattle.ring_records.specs.History.{floor_for, floor, is_retired, names, is_named, bid_for, first_stand, stood, message_of, taken, upto_of, credit, stands}
use Rattle.ring_records.specs.KeyOrder.{key_cmp}
use Rattle.ring_records.specs.Known.{drops, stepped, after}
use Rattle.ring_records.specs.Leader.{makes_leader, first_leader, leader}
use Rattle.ring_records.specs.Lists.{or_else, EachAfter}
use Rattle.ring_records.specs.Snapshot.{has_stood}
use Rattle.ring_records.specs.Summary.{state_of, key_states, summary}
use Rattle.ring_records.proofs.Compare.{keys_total, keys_exact}
use Rattle.ring_records.proofs.CountedStands.{stands-counted}
use Rattle.ring_records.proofs.History.{floor-push, taken-push, sent-push, credit-push, first_stand-push, first_leader-push, is_named-apart, or-false}
use Rattle.ring_records.proofs.Known.{goes_on, plain-known, credit-sent}
use Rattle.ring_records.proofs.Lists.{EachAfter-push}
use Rattle.ring_records.proofs.Summaries.{is_known, and-true, get-states, same-group, floors-put}

pub alike : (p : Key → Bool) (q x : Key) → key_cmp q x ≡ Equal → p x ≡ p q
alike p q x e = ap p (sym (keys_exact q x e))

-- the entries of the keys that pass the test
pub entries-kept : (m : fin.FinMap key_cmp KeyState) (p : Key → Bool) → fin.entries (fin.retain_keys m p) ≡ where_key key_cmp p (fin.entries m)
entries-kept m p =
    let es : List (Key × KeyState) = where_key key_cmp p (fin.entries m) in
    let sorted = is_sorted-where_key key_cmp p (fin.entries m) (fin.entries_sorted m) in
    ap fin.entries (fin.same_map keys_total keys_exact (fin.retain_keys m p) (fin.from_sorted es) (λ q.
    fin.get-retain_keys m p q (alike p q)
    ∙ (ap (λ o. cond (p q) o None) (fin.get-entries m q)
    ∙ (sym (find-where_key key_cmp p q (alike p q) (fin.entries m)) ∙ sym (fin.get-from_sorted key_cmp es q sorted)))))
    ∙ fin.entries-from_sorted key_cmp es sorted

-- what f says of the states that pass a test, and of the others
module _ (f : KeyState → ℕ) where
  abbrev total : List (Key × KeyState) → ℕ
  total es = sum_by f (list_map (λ e. e.1) es)

  cons : (e : Key × KeyState) (xs : List (Key × KeyState)) → total (e ∷ xs) ≡ f e.1 + total xs
  cons e xs = sum_by-cons f e.1 (list_map (λ e. e.1) xs)

  parted : (p : Key → Bool) (es : List (Key × KeyState)) → total (where_key key_cmp p es) + total (where_key key_cmp (λ k. not (p k)) es) ≡ total es
  parted p [] = refl
  parted p (e ∷ es) = go (p e.0) (where_key key_cmp p es) (where_key key_cmp (λ k. not (p k)) es) (parted p es)
    where
      go : (b : Bool) (w n : List (Key × KeyState)) → total w + total n ≡ total es → total (cond b (e ∷ w) w) + total (cond (not b) (e ∷ n) n) ≡ total (e ∷ es)
      go true w n ih = let a = cons e w in let c = cons e es in omega arith
      go false w n ih = let a = cons e n in let c = cons e es in omega arith

  pub kept-and-dropped : (m : fin.FinMap key_cmp KeyState) (p : Key → Bool)
      → sum_by f (fin.values (fin.retain_keys m p)) + sum_by f (fin.values (fin.retain_keys m (λ k. not (p k)))) ≡ sum_by f (fin.values m)
  kept-and-dropped m p = (λ i. total (entries-kept m p i) + total (entries-kept m (λ k. not (p k)) i)) ∙ parted p (fin.entries m)

-- ---- the keys behind a floor that rises

module _ (h : List Input) (group : List ℕ) (new : ℕ) (above : floor h group < new) where
  abbrev pub behind : List Input
  behind = h ++ Retire group new ∷ []

  -- retired are those that were, and those that it drops
  pub retired-behind : (key : Key) → is_retired behind key ≡ (is_retired h key || drops group new key)
  unfolding is_retired floor_for
  retired-behind key = ap (ltb key.term) (floor-push h (Retire group new) key.group) ∙ go (bytes_eq group key.group) refl
    where
      turned : bytes_eq key.group group ≡ bytes_eq group key.group
      turned = same-group key.group group ∙ is_eq-slice_cmp group key.group

      less : (t : ℕ) → floor h key.group < new → ltb t new ≡ (ltb t (floor h key.group) || ltb t new)
      less t rises = elim (cases_lt t (floor h key.group)) [
        | inl low ↦ lt-ltb t new (omega arith) ∙ sym (ap (λ b. b || ltb t new) (lt-ltb t (floor h key.group) low))
        | inr high ↦ sym (ap (λ b. b || ltb t new) (le-ltb t (floor h key.group) high))
      ]

      go : (b : Bool) → bytes_eq group key.group ≡ b
          → ltb key.term (unwrap_or (cond b (Some new) None) (floor h key.group)) ≡ (ltb key.term (floor h key.group) || (bytes_eq key.group group && ltb key.term new))
      go true e =
          let same : group ≡ key.group = (bytes_eq-Decides group key.group).0 e in
          less key.term (subst (λ (g : List ℕ). floor h g < new) same above)
          ∙ sym (ap (λ b. ltb key.term (floor h key.group) || (b && ltb key.term new)) (turned ∙ e))
      go false e = sym (ap (λ b. ltb key.term (floor h key.group) || (b && ltb key.term new)) (turned ∙ e) ∙ or-false (ltb key.term (floor h key.group)))

  pub known-behind : (key : Key) → is_known behind key ≡ (is_known h key && not (drops group new key))
  unfolding names
  known-behind key =
      (λ i. is_named-apart h (Retire group new) key refl i && not (retired-behind key i))
      ∙ go (is_named h key) (is_retired h key) (drops group new key)
    where
      go : (a b c : Bool) → (a && not (b || c)) ≡ ((a && not b) && not c)
      go true true c = refl
      go true false c = refl
      go false b c = refl

  -- of those that it does not drop all is as before
  stays-retired : (key : Key) → drops group new key ≡ false → is_retired behind key ≡ is_retired h key
  stays-retired key kept = retired-behind key ∙ (ap (λ b. is_retired h key || b) kept ∙ or-false (is_retired h key))

  nothing : {A : Type 0} (o : Option A) → or_else o None ≡ o
  nothing None = refl
  nothing (Some y) = refl

  pub stood-behind : (key : Key) → drops group new key ≡ false → stood behind key ≡ stood h key
  unfolding stood bid_for
  stood-behind key kept = λ i. cond (stays-retired key kept i) None ((first_stand-push h (Retire group new) key ∙ nothing (first_stand h key)) i)

  pub leader-behind : (me : ℕ) (key : Key) → drops group new key ≡ false → leader me behind key ≡ leader me h key
  unfolding leader makes_leader
  leader-behind me key kept = λ i. cond (stays-retired key kept i) None ((first_leader-push me h (Retire group new) key ∙ nothing (first_leader me h key)) i)

  pub states-behind : (me : ℕ) → fin.retain_keys (key_states me h) (λ key. not (drops group new key)) ≡ key_states me behind
  states-behind me = fin.same_map keys_total keys_exact _ _ (λ key.
      fin.get-retain_keys (key_states me h) (λ k. not (drops group new k)) key (alike (λ k. not (drops group new k)) key)
      ∙ (ap (λ o. cond (not (drops group new key)) o None) (get-states me h key)
      ∙ (both (drops group new key) (is_known h key) (is_known behind key) (state_of me h key) (state_of me behind key) (known-behind key) (λ kept i. record { key = key; stood = sym (stood-behind key kept) i; leader = sym (leader-behind me key kept) i })
      ∙ sym (get-states me behind key))))
    where
      and_none : (b : Bool) → (b && false) ≡ false
      and_none true = refl
      and_none false = refl

      both : (d k l : Bool) (s t : KeyState) → l ≡ (k && not d) → (d ≡ false → s ≡ t) → cond (not d) (cond k (Some s) None) None ≡ cond l (Some t) None
      both true k l s t is same = sym (ap (λ b. cond b (Some t) None) (is ∙ and_none k))
      both false k l s t is same = ap (λ (u : KeyState). cond k (Some u) None) (same refl) ∙ sym (ap (λ b. cond b (Some t) None) (is ∙ and-true k))

  -- the Stands that still count
  stands-behind : (me : ℕ) → stands h ≡ count_by has_stood (fin.values (key_states me h)) → stands behind ≡ count_by has_stood (fin.values (key_states me behind))
      → stands h - count_by has_stood (fin.values (fin.retain_keys (key_states me h) (drops group new))) ≡ stands behind
  stands-behind me before now =
      let parts = kept-and-dropped (λ s. cond (has_stood s) 1 0) (key_states me h) (drops group new) in
      let kept = ap (λ (m : fin.FinMap key_cmp KeyState). count_by has_stood (fin.values m)) (states-behind me) in
      omega arith

-- ---- the whole summary

inputs-more : (h : List Input) (x : Input) → length h + 1 ≡ length (h ++ x ∷ [])
inputs-more h x = sym (length-append h (x ∷ []))

retire-goes_on : (me n : ℕ) (h : List Input) (group : List ℕ) (new : ℕ) → EachAfter (IsAllowed me n) [] h → IsAllowed me n h (Retire group new) → goes_on me h (Retire group new)
unfolding message_of upto_of emit IsInTurn
retire-goes_on me n h group new each a =
    let same : sent me h ≡ sent me (h ++ Retire group new ∷ []) = sym (sent-push me h (Retire group new) ∙ append-nil (sent me h)) in
    let credited : credit h ≡ credit (h ++ Retire group new ∷ []) = sym (credit-push h (Retire group new)) in
    λ i. record {
      inputs = inputs-more h (Retire group new) i;
      taken = sym (ap length (taken-push h (Retire group new) ∙ append-nil (taken h))) i;
      credit = credited i;
      sent = length (same i);
      stands = stands-behind h group new a.in_turn.above me (stands-counted me n h each) (stands-counted me n (h ++ Retire group new ∷ []) (EachAfter-push (IsAllowed me n) [] h (Retire group new) each a)) i;
      keys = states-behind h group new a.in_turn.above me i;
      window = drop (credited i) (same i);
      floors = sym (floors-put h group new) i;
    }

pub stepped-known : (me n : ℕ) (h : List Input) (x : Input) → EachAfter (IsAllowed me n) [] h → IsAllowed me n h x → stepped me (summary me h) x ≡ summary me (h ++ x ∷ [])
unfolding is_retire
stepped-known me n h (Stand key bid) each a = plain-known me n h (Stand key bid) refl a (credit-sent me n h each)
stepped-known me n h (Take msg_no msg) each a = plain-known me n h (Take msg_no msg) refl a (credit-sent me n h each)
stepped-known me n h (Acked upto) each a = plain-known me n h (Acked upto) refl a (credit-sent me n h each)
stepped-known me n h (Retire group new) each a = retire-goes_on me n h group new each a

-- after more inputs
pub after-known : (me n : ℕ) (g l : List Input) → EachAfter (IsAllowed me n) [] g → EachAfter (IsAllowed me n) g l → after me (summary me g) l ≡ summary me (g ++ l)
unfolding EachAfter
after-known me n g [] before each = ap (summary me) (sym (append-nil g))
after-known me n g (x ∷ l) before each =
    ap (λ s. after me s l) (stepped-known me n g x before each.0)
    ∙ (after-known me n (g ++ x ∷ []) l (EachAfter-push (IsAllowed me n) [] g x before each.0) each.1
    ∙ ap (summary me) (append_assoc g (x ∷ []) l))
