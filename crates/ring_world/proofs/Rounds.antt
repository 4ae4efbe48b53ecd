-- Where every message was taken, the greatest token went round, and so did the message that tells.
use Rattle.std.proofs.Common.{ℕ, zero, suc, ◌-◌, ◌≡◌, ◌≢◌, ◌⊎◌, ◌≤◌, ◌<◌, true, false, List, [], ◌∷◌, Option, Some, None, refl, sym, ap, ◌∙◌, subst, inl, inr, arith}
use Rattle.std.specs.Prelude.{is_some}
use Rattle.std.specs.List.{Contains}
use Rattle.std.proofs.lemmas.Bool.{cases_eq, le-ltb}
use Rattle.std.proofs.lemmas.Bool.Decides.{nat_tests}
use Rattle.ring_records.specs.declared.candidate.Candidate.{Candidate}
use Rattle.ring_records.specs.declared.key.Key.{Key}
use Rattle.ring_records.specs.declared.msg.Msg.{Msg}
use Rattle.ring_records.specs.declared.msg.Msg.TheVariants.{Token, Elected}
use Rattle.ring_records.specs.declared.input.Input.{Input}
use Rattle.ring_records.specs.declared.input.Input.TheVariants.{Stand}
use Rattle.ring_records.specs.Emission.{is_below, sent}
use Rattle.ring_records.specs.History.{floor, is_retired, taken, first_stand}
use Rattle.ring_records.specs.Leader.{first_leader, leader}
use Rattle.ring_records.specs.Order.{is_less}
use Rattle.ring_records.specs.Place.{after}
use Rattle.ring_records.specs.Ring.{IsLegal}
use Rattle.ring_records.specs.Part.{part}
use Rattle.ring_records.proofs.Keys.{is_less-or, is_less-chain, is_less-one_way}
use Rattle.ring_records.proofs.Lists.{none≢some}
use Rattle.ring_world.specs.Agreement.{IsDrained, IsRetiredNowhere}
use Rattle.ring_records.proofs.History.{if_live-same}
use Rattle.ring_records.proofs.Leader.{Contains-here}
use Rattle.ring_records.proofs.Parts.{legal_parts}
use Rattle.ring_records.proofs.Places.{ahead, ahead-start, ahead-home, ahead-away, around}
use Rattle.ring_world.proofs.Replies.{Replies, allowed_replies}
use Rattle.history_laws.proofs.Chain.{won, lesser, one_bid}
use Rattle.history_laws.proofs.Runs.{runs}
use Rattle.ring_world.proofs.Chain.{shown, agree}

after-ahead : (n o d : ℕ) → 1 ≤ o → o ≤ n → d < n → after n (ahead n o d) ≡ ahead n o (suc d)
unfolding after
after-ahead n o d lo hi h = grind (arith, nat_tests)

ahead-low : (n o d : ℕ) → 1 ≤ o → o ≤ n → d < n → 1 ≤ ahead n o d
ahead-low n o d lo hi h = grind (arith, nat_tests)

ahead-high : (n o d : ℕ) → 1 ≤ o → o ≤ n → d < n → ahead n o d ≤ n
ahead-high n o d lo hi h = grind (arith, nat_tests)

some_is : {A : Type 0} (o : Option A) → is_some o ≡ true → (x : A) × (o ≡ Some x)
some_is None e = absurd cc
some_is (Some x) e = (x, refl)

-- of the nodes up to m, c is the greatest that stood
record Greatest (bids : ℕ → Option ℕ) (m : ℕ) (c : Candidate) : Type 0 where
  stood : bids c.node ≡ Some c.bid
  low : 1 ≤ c.node
  high : c.node ≤ m
  above : (k : ℕ) → 1 ≤ k → k ≤ m → (k ≡ c.node → ⊥) → is_below (bids k) k c ≡ true

greatest_of : (bids : ℕ → Option ℕ) (m : ℕ) → ((k : ℕ) → 1 ≤ k → k ≤ m → bids k ≡ None) ⊎ ((c : Candidate) × Greatest bids m c)
unfolding is_below
greatest_of bids zero = inl (λ k l u. absurd (omega arith))
greatest_of bids (suc m) = go (bids (suc m)) refl (greatest_of bids m)
  where
    go : (o : Option ℕ) → bids (suc m) ≡ o → ((k : ℕ) → 1 ≤ k → k ≤ m → bids k ≡ None) ⊎ ((c : Candidate) × Greatest bids m c)
        → ((k : ℕ) → 1 ≤ k → k ≤ suc m → bids k ≡ None) ⊎ ((c : Candidate) × Greatest bids (suc m) c)
    go None e (inl none) = inl (λ k l u. elim (cases_eq (suc m) k) [ inl q ↦ ap bids (sym q) ∙ e | inr ne ↦ none k l (omega arith) ])
    go None e (inr g) = inr (
      g.0,
      record {
        stood = g.1.stood;
        low = g.1.low;
        high = (let h = g.1.high in omega arith);
        above = λ k l u ne. elim (cases_eq (suc m) k) [
          | inl q ↦ ap (λ o. is_below o k g.0) (ap bids (sym q) ∙ e)
          | inr nq ↦ g.1.above k l (omega arith) ne
        ];
      },
    )
    go (Some b) e (inl none) = inr (
      record { bid = b; node = suc m },
      record {
        stood = e;
        low = omega arith;
        high = omega arith;
        above = λ k l u ne. ap (λ o. is_below o k (record { bid = b; node = suc m })) (none k l (omega arith));
      },
    )
    go (Some b) e (inr g) = elim (is_less-or g.0 (record { bid = b; node = suc m }) (λ q. let h = g.1.high in absurd (omega arith))) [
      | inl less ↦ inr (
        record { bid = b; node = suc m },
        record {
          stood = e;
          low = omega arith;
          high = omega arith;
          above = λ k l u ne. elim (cases_eq k g.0.node) [
            | inl q ↦ ap (λ j. is_below (bids j) j (record { bid = b; node = suc m })) q ∙ (ap (λ o. is_below o g.0.node (record { bid = b; node = suc m })) g.1.stood ∙ less)
            | inr nq ↦ climb (bids k) k (g.1.above k l (omega arith) nq) less
          ];
        },
      )
      | inr less ↦ inr (
        g.0,
        record {
          stood = g.1.stood;
          low = g.1.low;
          high = (let h = g.1.high in omega arith);
          above = λ k l u ne. elim (cases_eq (suc m) k) [
            | inl q ↦ ap (λ j. is_below (bids j) j g.0) (sym q) ∙ (ap (λ o. is_below o (suc m) g.0) e ∙ less)
            | inr nq ↦ g.1.above k l (omega arith) ne
          ];
        },
      )
    ]
      where
        climb : (o : Option ℕ) (k : ℕ) → is_below o k g.0 ≡ true → is_less g.0 (record { bid = b; node = suc m }) ≡ true → is_below o k (record { bid = b; node = suc m }) ≡ true
        climb None k p q = refl
        climb (Some a) k p q = is_less-chain (record { bid = a; node = k }) g.0 (record { bid = b; node = suc m }) p q

none_retired : (key : Key) → is_retired [] key ≡ false
unfolding is_retired floor
none_retired key = le-ltb key.term 0 (omega arith)

module _ (n : ℕ) (run : List (ℕ × Input)) (legal : IsLegal n run) (drained : IsDrained n run) (key : Key) (live : IsRetiredNowhere n run key) where
  -- nor did one that is not in the ring
  live_at : (i : ℕ) → is_retired (part run i) key ≡ false
  unfolding IsRetiredNowhere
  live_at i = go (part run i) refl
    where
      go : (h : List Input) → part run i ≡ h → is_retired h key ≡ false
      go [] e = none_retired key
      go (x ∷ h) e =
          let ring = (legal_parts n run legal).in_ring i x (subst (λ (g : List Input). Contains g x) (sym e) (Contains-here x h)) in
          subst (λ (g : List Input). is_retired g key ≡ false) e (live i ring.low ring.high)

  replies : (i : ℕ) → Replies i key (part run i)
  replies i = allowed_replies i n key (part run i) ((legal_parts n run legal).allowed i) (live_at i)

  delivered : (o d : ℕ) (m : Msg) → 1 ≤ o → o ≤ n → d < n → Contains (sent (ahead n o d) (part run (ahead n o d))) m → Contains (taken (part run (ahead n o (suc d)))) m
  unfolding IsDrained
  delivered o d m lo hi h p = subst (λ k. Contains (taken (part run k)) m) (after-ahead n o d lo hi h) (drained (ahead n o d) m (ahead-low n o d lo hi h) (ahead-high n o d lo hi h) p)

  -- the greatest token comes home
  comes : (c : Candidate) → Greatest (λ k. first_stand (part run k) key) n c → (d : ℕ) → d < n → Contains (taken (part run (ahead n c.node (suc d)))) (Token key c)
  comes c g zero h = delivered c.node 0 (Token key c) g.low g.high h (subst (λ k. Contains (sent k (part run k)) (Token key c)) (sym (ahead-start n c.node g.high)) ((replies c.node).own c.bid g.stood))
  comes c g (suc d) h =
      let ne : ahead n c.node (suc d) ≢ c.node = ahead-away n c.node (suc d) g.low g.high (omega arith) h in
      delivered c.node (suc d) (Token key c) g.low g.high h ((replies (ahead n c.node (suc d))).passes c (comes c g d (omega arith)) (λ q. ne (sym q)) (g.above (ahead n c.node (suc d)) (ahead-low n c.node (suc d) g.low g.high h) (ahead-high n c.node (suc d) g.low g.high h) ne))

  -- from a node with a leader on, each node has it, as far as the leader itself
  tells : (c : Candidate) → first_leader c.node (part run c.node) key ≡ Some c → 1 ≤ c.node → c.node ≤ n → (d : ℕ) → d < n
      → first_leader (ahead n c.node d) (part run (ahead n c.node d)) key ≡ Some c
  tells c e lo hi zero h = subst (λ k. first_leader k (part run k) key ≡ Some c) (sym (ahead-start n c.node hi)) e
  tells c e lo hi (suc d) h =
      let less : d < n = omega arith in
      let heard = delivered c.node d (Elected key c) lo hi less ((replies (ahead n c.node d)).announces c (tells c e lo hi d less)) in
      let ne : ahead n c.node (suc d) ≢ c.node = ahead-away n c.node (suc d) lo hi (omega arith) h in
      let found = some_is (first_leader (ahead n c.node (suc d)) (part run (ahead n c.node (suc d))) key) ((replies (ahead n c.node (suc d))).hears c heard (λ q. ne (sym q))) in
      found.1 ∙ ap Some (agree n run key found.0 legal c (shown n run key found.0 legal (ahead n c.node (suc d)) found.1) (shown n run key c legal c.node e))

  all_know : (c : Candidate) → first_leader c.node (part run c.node) key ≡ Some c → 1 ≤ c.node → c.node ≤ n → (k : ℕ) → 1 ≤ k → k ≤ n
      → is_some (first_leader k (part run k) key) ≡ true
  all_know c e lo hi k l u =
      let way = around n c.node k lo hi l u in
      ap is_some (subst (λ j. first_leader j (part run j) key ≡ Some c) way.2 (tells c e lo hi way.0 way.1))

  -- a leader of whom one knows, knows itself
  knows_itself : (c : Candidate) → Greatest (λ k. first_stand (part run k) key) n c → first_leader c.node (part run c.node) key ≡ Some c
  unfolding is_below
  knows_itself c g =
      let fits = runs n run legal in
      let home = subst (λ k. Contains (taken (part run k)) (Token key c)) (ahead-home n c.node g.low g.high) (comes c g (n - 1) (let h = g.high in let l = g.low in omega arith)) in
      let found = some_is (first_leader c.node (part run c.node) key) ((replies c.node).homes c home refl g.stood) in
      let best = won n (part run) fits key found.0 (shown n run key found.0 legal c.node found.1) in
      found.1 ∙ ap Some (elim (cases_eq found.0.node c.node) [
        | inl q ↦ one_bid n (part run) fits key found.0 c best.stands g.stood q
        | inr ne ↦ absurd (is_less-one_way found.0 c (ap (λ o. is_below o found.0.node c) (sym best.stands) ∙ g.above found.0.node best.node.low best.node.high ne) (lesser n (part run) fits key found.0 c best g.stood (record { low = g.low; high = g.high }) (λ q. ne (sym q))))
      ])

pub shows : (n : ℕ) (run : List (ℕ × Input)) (key : Key) (i b k : ℕ) → IsLegal n run → IsDrained n run → Contains run (i, Stand key b) → IsRetiredNowhere n run key → 1 ≤ k → k ≤ n
    → is_some (first_leader k (part run k) key) ≡ true
shows n run key i b k legal drained s live l u = elim (greatest_of (λ j. first_stand (part run j) key) n) [
  | inl none ↦ (let parts = legal_parts n run legal in
      let mine = parts.in_part i (Stand key b) s in
      let ring = parts.in_ring i (Stand key b) mine in
      none≢some b (sym (none i ring.low ring.high) ∙ (replies n run legal drained key live i).facts.stands b mine))
  | inr g ↦ all_know n run legal drained key live g.0 (knows_itself n run legal drained key live g.0 g.1) g.1.low g.1.high k l u
]

pub settles : (n : ℕ) (run : List (ℕ × Input)) (key : Key) (i b k : ℕ) → IsLegal n run → IsDrained n run → Contains run (i, Stand key b) → IsRetiredNowhere n run key → 1 ≤ k → k ≤ n
    → is_some (leader k (part run k) key) ≡ true
unfolding leader IsRetiredNowhere
settles n run key i b k legal drained s live l u =
    ap is_some (if_live-same (part run k) key (first_leader k (part run k) key) (live k l u)) ∙ shows n run key i b k legal drained s live l u
