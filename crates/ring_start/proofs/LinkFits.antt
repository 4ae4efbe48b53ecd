-- What two nodes tell of the link between them.
use Rattle.std.proofs.Common.{ℕ, ◌≡◌, ◌≤◌, List, inl, subst, sym}
use Rattle.ring_records.specs.declared.input.Input.{Input}
use Rattle.ring_records.specs.declared.summary.Summary.{Summary}
use Rattle.ring_records.specs.Fitting.{LinkFits}
use Rattle.ring_records.specs.Place.{after}
use Rattle.ring_start.specs.Fits.{IsApart, IsKnownTo}

-- a node as it is looked at: its number, what it was opened with, and its history
pub record End : Type 0 where
  pub node : ℕ
  pub opening : Summary
  pub history : List Input

abbrev pub Fit : End → End → Type 0
Fit own next = LinkFits (IsKnownTo own.opening next.opening) own.node own.history next.history

module _ (n : ℕ) (opening : ℕ → Summary) (h : ℕ → List Input) where
  abbrev pub node_at : ℕ → End
  node_at i = record { node = i; opening = opening i; history = h i }

  -- the numbers of messages from node i that are known
  abbrev known : ℕ → ℕ → Type 0
  known i = IsKnownTo (opening i) (opening (after n i))

  module _ (own next : End) (i j : ℕ) (here : own ≡ node_at i) (there : next ≡ node_at j) (behind : j ≡ after n i) where
    pub fit : Fit own next → LinkFits (known i) i (h i) (h (after n i))
    fit link = subst (λ (k : ℕ). Fit (node_at i) (node_at k)) behind (subst (λ (e : End). Fit e (node_at j)) here (subst (Fit own) there link))

    back : LinkFits (known i) i (h i) (h j) → Fit own next
    back link =
        subst (Fit own) (sym there) (subst (λ (e : End). Fit e (node_at j)) (sym here)
        (subst (λ (k : ℕ). LinkFits (IsKnownTo (opening i) (opening k)) i (h i) (h j)) (sym behind) link))

    pub apart : (k m : ℕ) → k ≡ i → m ≡ j → (1 ≤ i) × (i ≤ n) → (1 ≤ j) × (j ≤ n) → (Fit own next → ⊥) → IsApart n known h k m
    apart k m e f one other unfit =
        subst (λ (a : ℕ). IsApart n known h a m) (sym e) (subst (IsApart n known h i) (sym f) (record {
          one = one;
          other = other;
          why = inl (record { behind = behind; unfit = λ link. unfit (back link) });
        }))
