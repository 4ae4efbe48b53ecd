-- What the decisions of one node and the leaders of another tell of the two.
use Rattle.std.proofs.Common.{ℕ, zero, suc, ◌≡◌, ◌<◌, ◌≤◌, ◌+◌, ◌-◌, ◌⊎◌, List, Some, inl, inr, refl, sym, ◌∙◌, ap, subst, arith}
use Rattle.ring_records.specs.declared.input.Input.{Input}
use Rattle.ring_records.specs.declared.notice.Notice.{Notice}
use Rattle.ring_records.specs.Fitting.{LeadersFit}
use Rattle.ring_records.specs.Leader.{leader}
use Rattle.group_commit.specs.Content.{IsContent}
use Rattle.ring_start.proofs.Contents.{leads-told, told-leads}
use Rattle.ring_start.specs.Fits.{Agrees, Differs, IsApart}

-- The list has what node j knows by its history. Node, history and list go by other names.
pub IsContent-along : (me j : ℕ) (own other : List Input) (list told : List Notice) → me ≡ j → own ≡ other → list ≡ told → IsContent me own list → IsContent j other told
IsContent-along me j own other list told e f g known = subst (λ (k : ℕ). IsContent k other told) e (subst (λ (h : List Input). IsContent me h told) f (subst (IsContent me own) g known))

-- what is said of a node's leaders, where node and history go by other names
pub Agrees-along : (i j : ℕ) (own other : List Input) (list : List Notice) → i ≡ j → own ≡ other → Agrees i own list → Agrees j other list
Agrees-along i j own other list e f agrees = subst (λ (k : ℕ). Agrees k other list) e (subst (λ (h : List Input). Agrees i h list) f agrees)

pub Differs-along : (i j : ℕ) (own other : List Input) (list : List Notice) → i ≡ j → own ≡ other → Differs i own list → Differs j other list
Differs-along i j own other list e f differs = subst (λ (k : ℕ). Differs k other list) e (subst (λ (h : List Input). Differs i h list) f differs)

module _ (i j : ℕ) (h : ℕ → List Input) (told : List Notice) (known : IsContent j (h j) told) where
  pub fit : Agrees i (h i) told → LeadersFit i j (h i) (h j)
  fit agrees key c d here there = agrees (record { key = key; leader = d }) c (leads-told j (h j) told (record { key = key; leader = d }) known there) here

  pub apart : (n m : ℕ) (known_no : ℕ → ℕ → Type 0) → j ≡ m → (1 ≤ i) × (i ≤ n) → (1 ≤ j) × (j ≤ n) → Differs i (h i) told → IsApart n known_no h i m
  apart n m known_no number one other found =
      subst (IsApart n known_no h i) number (record {
        one = one;
        other = other;
        why = inr (record {
          key = found.told.key;
          one = found.other;
          two = found.told.leader;
          here = found.known;
          there = told-leads j (h j) told found.told known found.among;
          differ = found.differ;
        });
      })

-- ---- all pairs of nodes

some_same : {X : Type 0} (x y : X) → Some x ≡ Some y → x ≡ y
some_same x y e = cc

one_more : (a b : ℕ) → (a < b) ⊎ ((a ≡ b) ⊎ (b < a)) → (suc a < suc b) ⊎ ((suc a ≡ suc b) ⊎ (suc b < suc a))
one_more a b (inl low) = inl (omega (arith, low))
one_more a b (inr (inl same)) = inr (inl (ap suc same))
one_more a b (inr (inr high)) = inr (inr (omega (arith, high)))

compared : (a b : ℕ) → (a < b) ⊎ ((a ≡ b) ⊎ (b < a))
compared zero zero = inr (inl refl)
compared zero (suc b) = inl (omega arith)
compared (suc a) zero = inr (inr (omega arith))
compared (suc a) (suc b) = one_more a b (compared a b)

module _ (n : ℕ) (h : ℕ → List Input) (before : (m : ℕ) → m < n → (k : ℕ) → k < m → LeadersFit (k + 1) (m + 1) (h (k + 1)) (h (m + 1))) where
  pairs : (a b : ℕ) → a < n → b < n → (a < b) ⊎ ((a ≡ b) ⊎ (b < a)) → LeadersFit (a + 1) (b + 1) (h (a + 1)) (h (b + 1))
  pairs a b one other (inl low) = before b other a low
  pairs a b one other (inr (inl same)) = λ key c d here there. some_same c d (sym here ∙ (ap (λ k. leader (k + 1) (h (k + 1)) key) same ∙ there))
  pairs a b one other (inr (inr high)) = λ key c d here there. sym (before a one b high key d c there here)

  -- where each node agrees with those before it, any two do
  pub all_pairs : (i j : ℕ) → 1 ≤ i → i ≤ n → 1 ≤ j → j ≤ n → LeadersFit i j (h i) (h j)
  all_pairs i j low high low' high' =
      let one : i - 1 + 1 ≡ i = omega (arith, low) in
      let other : j - 1 + 1 ≡ j = omega (arith, low') in
      let inside : i - 1 < n = omega (arith, low, high) in
      let inside' : j - 1 < n = omega (arith, low', high') in
      subst (λ (k : ℕ). LeadersFit k j (h k) (h j)) one
      (subst (λ (m : ℕ). LeadersFit (i - 1 + 1) m (h (i - 1 + 1)) (h m)) other
      (pairs (i - 1) (j - 1) inside inside' (compared (i - 1) (j - 1))))
