-- Histories of which the same is known admit, refuse, send, decide and answer alike, and go on doing so.
use Rattle.std.proofs.Common.{ℕ, ◌≡◌, Bool, true, false, cond, not, ◌||◌, ◌&&◌, eqb, ltb, List, [], ◌∷◌, ◌++◌, Option, Some, None, refl, sym, ap, ◌∙◌, subst, append_assoc, append-nil}
use Rattle.std.specs.FinMap as fin
use Rattle.std.specs.List.{cons_option}
use Rattle.std.specs.Option.{option_map}
use Rattle.std.specs.Prelude.{nat_lt, nat_le, ◌^◌}
use Rattle.ring_records.specs.declared.input.Input.{Input}
use Rattle.ring_records.specs.declared.input.Input.TheVariants.{Stand, Take, Acked, Retire}
use Rattle.ring_records.specs.declared.key.Key.{Key}
use Rattle.ring_records.specs.declared.limits.TheConstants.{STANDS}
use Rattle.ring_records.specs.declared.msg.Msg.{Msg}
use Rattle.ring_records.specs.declared.msg.Msg.TheVariants.{Token, Elected}
use Rattle.ring_records.specs.declared.packet.Packet.TheVariants.{Carry}
use Rattle.ring_records.specs.declared.refusal.Refusal.TheVariants as refused
use Rattle.ring_records.specs.declared.summary.Summary.{Summary}
use Rattle.ring_records.specs.Allowed.{IsAllowed}
use Rattle.ring_records.specs.Objection.{where_so, retired, already, is_touched, stale, out_of_turn, too_many, objection}
use Rattle.ring_records.specs.Emission.{passed_on, emit}
use Rattle.ring_records.specs.Release.{carry, credit_where, packets, carries, credits, numbered, window}
use Rattle.ring_records.specs.Decisions.{decisions}
use Rattle.ring_records.specs.FloorOf.{floor_of}
use Rattle.ring_records.specs.History.{floor_for, floor, is_retired, if_live, is_named, touched, first_stand, stood, taken}
use Rattle.ring_records.specs.KeyOrder.{group_cmp}
use Rattle.ring_records.specs.Known.{stepped}
use Rattle.ring_records.specs.Leader.{is_bid, makes_leader, first_leader, leader, latest, term_of}
use Rattle.ring_records.specs.Decided.{newly, decided}
use Rattle.ring_records.specs.Lists.{or_else, found_after, EachAfter}
use Rattle.ring_records.specs.Message.{key_of, candidate_of}
use Rattle.ring_records.specs.Order.{is_key}
use Rattle.ring_records.proofs.Admission.{allowed-free, objection-allowed}
use Rattle.ring_records.proofs.History.{leader-push, if_live-same, if_live-none}
use Rattle.ring_records.proofs.Latest.{latest-same}
use Rattle.ring_records.proofs.Lists.{EachAfter-push}
use Rattle.ring_records.proofs.RetireStep.{stepped-known}
use Rattle.ring_records.proofs.Summaries.{AreAlike, alike, summed, floor-known}

module _ (me : ℕ) (g h : List Input) (a : AreAlike me g h) where
  floor-alike : (group : List ℕ) → floor g group ≡ floor h group
  floor-alike group = sym (floor-known g group) ∙ (ap (λ (m : fin.FinMap group_cmp ℕ). floor_of m group) a.floors_same ∙ floor-known h group)

  retired-alike : (key : Key) → is_retired g key ≡ is_retired h key
  unfolding is_retired
  retired-alike key = ap (ltb key.term) (floor-alike key.group)

  -- what is touched is retired, or has a state
  touched-alike : (key : Key) → touched g key ≡ touched h key
  unfolding touched
  touched-alike key = by (is_retired g key) (is_named g key) ∙ ((λ i. retired-alike key i || a.known_same key i) ∙ sym (by (is_retired h key) (is_named h key)))
    where
      by : (r n : Bool) → (r || n) ≡ (r || (n && not r))
      by true n = refl
      by false true = refl
      by false false = refl

  pub latest-alike : (group : List ℕ) → latest me g group ≡ latest me h group
  latest-alike group = latest-same me h g group (λ term. a.leader_same (record { group = group; term = term }))

  passed-alike : (msg : Msg) → passed_on me g msg ≡ passed_on me h msg
  unfolding passed_on
  passed-alike (Token key c) = rw (a.stood_same key, a.leader_same key) refl
  passed-alike (Elected key c) = rw (a.leader_same key) refl

  pub emit-alike : (x : Input) → emit me g x ≡ emit me h x
  unfolding emit
  emit-alike (Stand key bid) = refl
  emit-alike (Take msg_no msg) = λ i. cond (retired-alike (key_of msg) i) None (passed-alike msg i)
  emit-alike (Acked upto) = refl
  emit-alike (Retire group new) = refl

  pub carry-alike : (x : Input) → carry me g x ≡ carry me h x
  unfolding carry
  carry-alike x = λ i. option_map (Carry (a.sent_same i)) (emit-alike x i)

  -- ---- of a key that is not retired

  module _ (key : Key) (live : is_retired g key ≡ false) where
    live-too : is_retired h key ≡ false
    live-too = sym (retired-alike key) ∙ live

    first-stands : first_stand g key ≡ first_stand h key
    unfolding stood
    first-stands = sym (if_live-same g key (first_stand g key) live) ∙ (a.stood_same key ∙ if_live-same h key (first_stand h key) live-too)

    first-leads : first_leader me g key ≡ first_leader me h key
    unfolding leader
    first-leads = sym (if_live-same g key (first_leader me g key) live) ∙ (a.leader_same key ∙ if_live-same h key (first_leader me h key) live-too)

    shown-alike : (x : Input) → makes_leader me key g x ≡ makes_leader me key h x
    unfolding makes_leader
    shown-alike (Stand k bid) = refl
    shown-alike (Take msg_no (Token k c)) = ap (λ (o : Option ℕ). cond (is_key k key && (eqb c.node me) && is_bid o c.bid) (Some c) None) first-stands
    shown-alike (Take msg_no (Elected k c)) = refl
    shown-alike (Acked upto) = refl
    shown-alike (Retire group new) = refl

  -- the leader behind an input that gives no floor
  leader-next : (x : Input) (key : Key) → ((group : List ℕ) → floor_for group x ≡ None) → leader me (g ++ x ∷ []) key ≡ leader me (h ++ x ∷ []) key
  leader-next x key keeps = leader-push me g x key (keeps key.group) ∙ (go (is_retired g key) refl ∙ sym (leader-push me h x key (keeps key.group)))
    where
      go : (b : Bool) → is_retired g key ≡ b → if_live g key (or_else (first_leader me g key) (makes_leader me key g x)) ≡ if_live h key (or_else (first_leader me h key) (makes_leader me key h x))
      go true gone = if_live-none g key (or_else (first_leader me g key) (makes_leader me key g x)) gone ∙ sym (if_live-none h key (or_else (first_leader me h key) (makes_leader me key h x)) (sym (retired-alike key) ∙ gone))
      go false live =
          if_live-same g key (or_else (first_leader me g key) (makes_leader me key g x)) live
          ∙ ((λ i. or_else (first-leads key live i) (shown-alike key live x i))
          ∙ sym (if_live-same h key (or_else (first_leader me h key) (makes_leader me key h x)) (live-too key live)))

  pub decided-alike : (x : Input) → decided me g x ≡ decided me h x
  unfolding decided floor_for
  decided-alike (Stand key bid) = λ i. newly key (a.leader_same key i) (leader-next (Stand key bid) key (λ group. refl) i)
  decided-alike (Take msg_no msg) = λ i. newly (key_of msg) (a.leader_same (key_of msg) i) (leader-next (Take msg_no msg) (key_of msg) (λ group. refl) i)
  decided-alike (Acked upto) = refl
  decided-alike (Retire group new) = refl

  pub objection-alike : (n : ℕ) (x : Input) → objection me n g x ≡ objection me n h x
  unfolding objection retired is_touched too_many
  objection-alike n (Stand key bid) = λ i.
      or_else (where_so (retired-alike key i) (refused.Retired (floor-alike key.group i)))
      (or_else (or_else (already (a.stood_same key i)) (where_so (touched-alike key i) refused.Late))
      (or_else (stale key.term (latest-alike key.group i))
      (or_else (where_so (nat_le STANDS (a.stands_same i)) refused.Limit) (where_so (nat_le (2 ^ 56) (a.inputs_same i)) refused.Limit))))
  objection-alike n (Take msg_no msg) = λ i.
      or_else (where_so (nat_lt n (candidate_of msg).node) refused.BadNumber)
      (or_else (out_of_turn (a.taken_same i) msg_no) (where_so (nat_le (2 ^ 56) (a.inputs_same i)) refused.Limit))
  objection-alike n (Acked upto) = λ i.
      or_else (where_so (nat_le upto (a.credit_same i)) (refused.Old (a.credit_same i)))
      (or_else (where_so (nat_lt (a.sent_same i) upto) (refused.AckAhead (a.sent_same i))) (where_so (nat_le (2 ^ 56) (a.inputs_same i)) refused.Limit))
  objection-alike n (Retire group new) = λ i.
      or_else (where_so (nat_le new (floor-alike group i)) (refused.Retired (floor-alike group i)))
      (or_else (where_so (nat_lt (term_of (latest-alike group i)) new) refused.Undecided) (where_so (nat_le (2 ^ 56) (a.inputs_same i)) refused.Limit))

  pub allowed-alike : (n : ℕ) (x : Input) → IsAllowed me n g x → IsAllowed me n h x
  allowed-alike n x p = objection-allowed me n h x (sym (objection-alike n x) ∙ allowed-free me n g x p)

-- ---- one more input, and more, of histories in which each input was allowed

abbrev Each : ℕ → ℕ → List Input → Type 0
Each me n h = EachAfter (IsAllowed me n) [] h

alike-next : (me n : ℕ) (g h : List Input) → AreAlike me g h → Each me n g → Each me n h → (x : Input) → IsAllowed me n g x → AreAlike me (g ++ x ∷ []) (h ++ x ∷ [])
alike-next me n g h a of_g of_h x p =
    alike me (g ++ x ∷ []) (h ++ x ∷ [])
    (sym (stepped-known me n g x of_g p) ∙ (ap (λ (s : Summary). stepped me s x) (summed me g h a) ∙ stepped-known me n h x of_h (allowed-alike me g h a n x p)))

-- after more inputs
pub alike-later : (me n : ℕ) (g h l : List Input) → AreAlike me g h → Each me n g → Each me n h → EachAfter (IsAllowed me n) g l → AreAlike me (g ++ l) (h ++ l) × EachAfter (IsAllowed me n) h l
unfolding EachAfter
alike-later me n g h [] a of_g of_h each = (rw (append-nil g, append-nil h) a, tt)
alike-later me n g h (x ∷ l) a of_g of_h each =
    let also = allowed-alike me g h a n x each.0 in
    let rest = alike-later me n (g ++ x ∷ []) (h ++ x ∷ []) l (alike-next me n g h a of_g of_h x each.0) (EachAfter-push (IsAllowed me n) [] g x of_g each.0) (EachAfter-push (IsAllowed me n) [] h x of_h also) each.1 in
    (subst (λ (p : List Input × List Input). AreAlike me p.0 p.1) (λ i. (append_assoc g (x ∷ []) l i, append_assoc h (x ∷ []) l i)) rest.0, (also, rest.1))

-- ---- what is found for each of more inputs

found-alike : {B : Type 0} (me n : ℕ) (f : List Input → Input → Option B) → ((g h : List Input) → AreAlike me g h → (x : Input) → f g x ≡ f h x)
    → (g h l : List Input) → AreAlike me g h → Each me n g → Each me n h → EachAfter (IsAllowed me n) g l → found_after f g l ≡ found_after f h l
unfolding EachAfter found_after
found-alike me n f same g h [] a of_g of_h each = refl
found-alike me n f same g h (x ∷ l) a of_g of_h each =
    let more = EachAfter-push (IsAllowed me n) [] g x of_g each.0 in
    let also = EachAfter-push (IsAllowed me n) [] h x of_h (allowed-alike me g h a n x each.0) in
    λ i. cons_option (same g h a x i) (found-alike me n f same (g ++ x ∷ []) (h ++ x ∷ []) l (alike-next me n g h a of_g of_h x each.0) more also each.1 i)

pub decisions-alike : (me n : ℕ) (g h l : List Input) → AreAlike me g h → Each me n g → Each me n h → EachAfter (IsAllowed me n) g l → decisions me g l ≡ decisions me h l
unfolding decisions
decisions-alike me n g h l a of_g of_h each = found-alike me n (decided me) (decided-alike me) g h l a of_g of_h each

pub packets-alike : (me n : ℕ) (g h l : List Input) → AreAlike me g h → Each me n g → Each me n h → EachAfter (IsAllowed me n) g l → packets me g l ≡ packets me h l
unfolding packets carries credits
packets-alike me n g h l a of_g of_h each = λ i. found-alike me n (carry me) (carry-alike me) g h l a of_g of_h each i ++ credit_where (taken l) ((alike-later me n g h l a of_g of_h each).0.taken_same i)

pub window-alike : (me : ℕ) (g h : List Input) → AreAlike me g h → window me g ≡ window me h
unfolding window
window-alike me g h a = λ i. numbered (a.credit_same i) (a.window_same i)
