-- Why there is one leader.
--
-- Follow a token from the node that stood with it. Behind place k it has met at every place from its origin to k either
-- a lesser candidate or a node that may never stand there any more: that node has taken a message for the key, so the
-- key is touched there, and a Stand finds its key untouched. A leader is a candidate whose token came home, so it beats
-- the candidate of every other node, and two leaders of different nodes would beat each other.
--
-- All of it is told of the whole histories, where each node still has the bid for the key, or none, that the token met.
use Rattle.std.proofs.Common.{ℕ, zero, suc, ◌-◌, [], ◌≡◌, ◌≢◌, ◌≤◌, ◌<◌, true, List, Option, Some, refl, sym, ap, ◌∙◌, subst, inl, inr, arith}
use Rattle.std.specs.List.{Contains}
use Rattle.std.proofs.lemmas.Bool.{cases_eq}
use Rattle.std.proofs.lemmas.Bool.Decides.{nat_tests}
use Rattle.ring_records.specs.declared.candidate.Candidate.{Candidate}
use Rattle.ring_records.specs.declared.input.Input.{Input}
use Rattle.ring_records.specs.declared.input.Input.TheVariants.{Stand, Take, Acked, Retire}
use Rattle.ring_records.specs.declared.key.Key.{Key}
use Rattle.ring_records.specs.declared.msg.Msg.{Msg}
use Rattle.ring_records.specs.declared.msg.Msg.TheVariants.{Token, Elected}
use Rattle.ring_records.specs.Emission.{is_below, sent}
use Rattle.ring_records.specs.History.{message_of, taken, first_stand}
use Rattle.ring_records.specs.Leader.{first_leader}
use Rattle.ring_records.specs.Message.{candidate_of}
use Rattle.ring_records.specs.Order.{is_less}
use Rattle.ring_records.specs.Place.{before}
use Rattle.ring_records.specs.Allowed.{IsInTurn, IsAllowed}
use Rattle.ring_records.specs.Lists.{EachAfter}
use Rattle.ring_records.proofs.Growth.{first_leader-kept}
use Rattle.ring_records.proofs.History.{leader-shown, taken-push}
use Rattle.ring_records.proofs.Lists.{along, none≢some, Contains-option_cases}
use Rattle.ring_records.proofs.Keys.{is_less-one_way}
use Rattle.ring_records.proofs.OneKey.{KeyFacts, allowed_facts, IsKnownBy, IsPassedBy, none_in}
use Rattle.ring_records.proofs.Parts.{IsNode}
use Rattle.ring_records.proofs.Places.{ahead, before-ahead, ahead-start, ahead-home, ahead-away, around}
use Rattle.history_laws.specs.Linked.{AreLinked, IsLeaderIn}

-- ---- what a history that is allowed says of the messages that it took

inside : (me n : ℕ) (h : List Input) (x : Input) (m : Msg) → IsAllowed me n h x → message_of x ≡ Some m → (candidate_of m).node ≤ n
unfolding IsInTurn message_of
inside me n h (Stand key b) m a e = none≢some m e
inside me n h (Take msg_no t) m a e = subst (λ (u : Msg). (candidate_of u).node ≤ n) (let p : t ≡ m = cc in p) a.in_turn.in_ring
inside me n h (Acked upto) m a e = none≢some m e
inside me n h (Retire group new) m a e = none≢some m e

within_start : (n : ℕ) (m : Msg) → Contains (taken []) m → (candidate_of m).node ≤ n
unfolding taken
within_start n m p = none_in m p

within : (me n : ℕ) (h : List Input) → EachAfter (IsAllowed me n) [] h → (m : Msg) → Contains (taken h) m → (candidate_of m).node ≤ n
within me n h each = along (IsAllowed me n) (λ g. (m : Msg) → Contains (taken g) m → (candidate_of m).node ≤ n)
    (λ g x a f m p. elim (Contains-option_cases (taken g) (message_of x) m (rw taken-push at p)) [
      | inl q ↦ f m q
      | inr e ↦ inside me n g x m a e
    ]) [] h each (within_start n)

ahead-low : (n o d : ℕ) → 1 ≤ o → o ≤ n → d ≤ n → 1 ≤ ahead n o d
ahead-low n o d lo hi h = grind (arith, nat_tests)

ahead-high : (n o d : ℕ) → 1 ≤ o → o ≤ n → d ≤ n → ahead n o d ≤ n
ahead-high n o d lo hi h = grind (arith, nat_tests)

on : (n o d : ℕ) → IsNode n o → d ≤ n → IsNode n (ahead n o d)
on n o d node h = record { low = ahead-low n o d node.low node.high h; high = ahead-high n o d node.low node.high h }

-- ---- who wins

-- the candidate of node k, if it has one for the key, is less than c
abbrev IsBeaten : (ℕ → List Input) → Key → Candidate → ℕ → Type 0
IsBeaten history key c k = is_below (first_stand (history k) key) k c ≡ true

-- what is so of a candidate whose token came home
pub record HasWon (n : ℕ) (history : ℕ → List Input) (key : Key) (c : Candidate) : Type 0 where
  pub node : IsNode n c.node
  pub stands : first_stand (history c.node) key ≡ Some c.bid
  pub beaten : (k : ℕ) → IsNode n k → (k ≡ c.node → ⊥) → IsBeaten history key c k

-- c is the first leader that the history of some node shows for the key
pub record IsShown (n : ℕ) (history : ℕ → List Input) (key : Key) (c : Candidate) : Type 0 where
  pub node : ℕ
  pub is : IsNode n node
  pub shows : first_leader node (history node) key ≡ Some c

-- a leader that is known is shown
pub known_shown : (n : ℕ) (history : ℕ → List Input) (key : Key) (c : Candidate) → IsLeaderIn n history key c → IsShown n history key c
known_shown n history key c k = record {
  node = k.node;
  is = record { low = k.low; high = k.high };
  shows = subst (λ (h : List Input). first_leader k.node h key ≡ Some c) k.front (first_leader-kept k.node k.inputs k.rest key c (leader-shown k.node k.inputs key c k.leads));
}

-- ---- one token, and the message that tells of it

module _ (n : ℕ) (history : ℕ → List Input) (fits : AreLinked n history) (key : Key) (c : Candidate) (origin : IsNode n c.node) where
  facts : (i : ℕ) → IsNode n i → KeyFacts i key (history i)
  facts i node = allowed_facts i n key (history i) (fits.lawful i node.low node.high)

  came_from : (i : ℕ) (m : Msg) → IsNode n i → Contains (taken (history i)) m → Contains (sent (before n i) (history (before n i))) m
  came_from i m node p = fits.linked i m node.low node.high p

  here : (d : ℕ) → d ≤ n → IsNode n (ahead n c.node d)
  here d h = on n c.node d origin h

  -- the token that a node took was sent by the node before it
  came : (d : ℕ) → d < n → Contains (taken (history (ahead n c.node (suc d)))) (Token key c) → IsPassedBy (ahead n c.node d) key (history (ahead n c.node d)) c
  came d h t =
      (facts (ahead n c.node d) (here d (omega arith))).tokens c (subst (λ k. Contains (sent k (history k)) (Token key c)) (before-ahead n c.node d origin.low origin.high h) (came_from (ahead n c.node (suc d)) (Token key c) (here (suc d) (omega arith)) t))

  -- a token that was taken d + 1 places behind its node met no candidate as great at the places between
  met : (d : ℕ) → d < n → Contains (taken (history (ahead n c.node (suc d)))) (Token key c)
      → record { stood : first_stand (history c.node) key ≡ Some c.bid; beaten : (e : ℕ) → 1 ≤ e → e ≤ d → IsBeaten history key c (ahead n c.node e) }
  met zero h t = elim (came zero h t) [
    | inl p ↦ record { stood = subst (λ k. first_stand (history k) key ≡ Some c.bid) (ahead-start n c.node origin.high) p.1; beaten = λ e l u. absurd (omega arith) }
    | inr p ↦ absurd (p.0 (sym (ahead-start n c.node origin.high)))
  ]
  met (suc d) h t = elim (came (suc d) h t) [
    | inl p ↦ absurd (ahead-away n c.node (suc d) origin.low origin.high (omega arith) h (sym p.0))
    | inr p ↦ (let nearer = met d (omega arith) p.1 in record {
      stood = nearer.stood;
      beaten = λ e l u. elim (cases_eq (suc d) e) [
        | inl q ↦ subst (λ k. IsBeaten history key c (ahead n c.node k)) q p.2
        | inr ne ↦ nearer.beaten e l (omega arith)
      ];
    })
  ]

  -- a token that came home met every other node
  home : Contains (taken (history c.node)) (Token key c) → HasWon n history key c
  home t =
      let low = origin.low in
      let high = origin.high in
      let all = met (n - 1) (omega arith) (subst (λ k. Contains (taken (history k)) (Token key c)) (sym (ahead-home n c.node low high)) t) in
      record {
        node = origin;
        stands = all.stood;
        beaten = λ k node ne.
            let way = around n c.node k low high node.low node.high in
            elim (cases_eq way.0 0) [
              | inl z ↦ absurd (ne (sym way.2 ∙ (ap (ahead n c.node) z ∙ ahead-start n c.node high)))
              | inr nz ↦ subst (IsBeaten history key c) way.2 (all.beaten way.0 (let w = way.1 in omega arith) (let w = way.1 in omega arith))
            ];
      }

  -- the message that tells of c began where c's token came home
  heard : (d : ℕ) → d < n → Contains (taken (history (ahead n c.node (suc d)))) (Elected key c) → Contains (taken (history c.node)) (Token key c)
  heard d h t = go d h (told d h t)
    where
      told : (d : ℕ) → d < n → Contains (taken (history (ahead n c.node (suc d)))) (Elected key c) → IsKnownBy (ahead n c.node d) key (history (ahead n c.node d)) c
      told d h t = (facts (ahead n c.node d) (here d (omega arith))).elects c (subst (λ k. Contains (sent k (history k)) (Elected key c)) (before-ahead n c.node d origin.low origin.high h) (came_from (ahead n c.node (suc d)) (Elected key c) (here (suc d) (omega arith)) t))

      go : (d : ℕ) → d < n → IsKnownBy (ahead n c.node d) key (history (ahead n c.node d)) c → Contains (taken (history c.node)) (Token key c)
      go d h (inl p) = subst (λ k. Contains (taken (history k)) (Token key c)) (sym p.0) p.1
      go zero h (inr p) = absurd (p.0 (sym (ahead-start n c.node origin.high)))
      go (suc d) h (inr p) = let less : d < n = omega arith in go d less (told d less p.1)

  -- wherever c is known to lead, its token came home
  known : (i : ℕ) → IsNode n i → IsKnownBy i key (history i) c → Contains (taken (history c.node)) (Token key c)
  known i node (inl p) = subst (λ k. Contains (taken (history k)) (Token key c)) (sym p.0) p.1
  known i node (inr p) = let way = around n c.node i origin.low origin.high node.low node.high in go way.0 way.1 way.2
    where
      go : (d : ℕ) → d < n → ahead n c.node d ≡ i → Contains (taken (history c.node)) (Token key c)
      go zero h e = absurd (p.0 (sym (ahead-start n c.node origin.high) ∙ e))
      go (suc d) h e = heard d (omega arith) (subst (λ k. Contains (taken (history k)) (Elected key c)) (sym e) p.1)

-- ---- the leaders of linked histories

-- a node that knows a leader took a message that names it
pub took : (i : ℕ) (key : Key) (h : List Input) (c : Candidate) → IsKnownBy i key h c → (m : Msg) × Contains (taken h) m × (candidate_of m ≡ c)
took i key h c (inl p) = (Token key c, p.1, refl)
took i key h c (inr p) = (Elected key c, p.1, refl)

module _ (n : ℕ) (history : ℕ → List Input) (fits : AreLinked n history) (key : Key) where
  pub won : (c : Candidate) → IsShown n history key c → HasWon n history key c
  won c k =
      let cause = (allowed_facts k.node n key (history k.node) (fits.lawful k.node k.is.low k.is.high)).leads c k.shows in
      let t = took k.node key (history k.node) c cause in
      let origin : IsNode n c.node = subst (λ (d : Candidate). IsNode n d.node) t.2 (record { low = fits.named k.node t.0 k.is.low k.is.high t.1; high = within k.node n (history k.node) (fits.lawful k.node k.is.low k.is.high) t.0 t.1 }) in
      home n history fits key c origin (known n history fits key c origin k.node k.is cause)

  -- another candidate that stands is less
  pub lesser : (c d : Candidate) → HasWon n history key c → first_stand (history d.node) key ≡ Some d.bid → IsNode n d.node → (d.node ≡ c.node → ⊥) → is_less d c ≡ true
  unfolding is_below
  lesser c d w s node ne = subst (λ o. is_below o d.node c ≡ true) s (w.beaten d.node node ne)

  -- a node stands with one bid
  pub one_bid : (c d : Candidate) → first_stand (history c.node) key ≡ Some c.bid → first_stand (history d.node) key ≡ Some d.bid → c.node ≡ d.node → c ≡ d
  one_bid c d s t e =
      let both : ◌≡◌ {A = Option ℕ} (Some c.bid) (Some d.bid) = sym s ∙ (ap (λ k. first_stand (history k) key) e ∙ t) in
      let bids : c.bid ≡ d.bid = cc in
      λ i. record { bid = bids i; node = e i }

  one_winner : (c d : Candidate) → HasWon n history key c → HasWon n history key d → c ≡ d
  one_winner c d v w = elim (cases_eq c.node d.node) [
    | inl p ↦ one_bid c d v.stands w.stands p
    | inr ne ↦ absurd (is_less-one_way c d (lesser d c w v.stands v.node ne) (lesser c d v w.stands w.node (λ q. ne (sym q))))
  ]

pub agree : (n : ℕ) (history : ℕ → List Input) (key : Key) (c d : Candidate) → AreLinked n history → IsShown n history key c → IsShown n history key d → c ≡ d
agree n history key c d fits j k = one_winner n history fits key c d (won n history fits key c j) (won n history fits key d k)

pub stands : (n : ℕ) (history : ℕ → List Input) (key : Key) (c : Candidate) → AreLinked n history → IsShown n history key c → Contains (history c.node) (Stand key c.bid)
stands n history key c fits k =
    let w = won n history fits key c k in
    (allowed_facts c.node n key (history c.node) (fits.lawful c.node w.node.low w.node.high)).stood_in c.bid w.stands

pub greatest : (n : ℕ) (history : ℕ → List Input) (key : Key) (c d : Candidate) → AreLinked n history → IsShown n history key c → IsNode n d.node → Contains (history d.node) (Stand key d.bid) → d ≢ c → is_less d c ≡ true
greatest n history key c d fits k node mine ne =
    let w = won n history fits key c k in
    let bid = (allowed_facts d.node n key (history d.node) (fits.lawful d.node node.low node.high)).stands d.bid mine in
    lesser n history fits key c d w bid node (λ q. ne (one_bid n history fits key d c bid w.stands q))
