-- Open tickets by their numbers.
use Rattle.std.proofs.Common.{◌≡◌, ◌≢◌, ℕ, ◌+◌, ◌<◌, ◌^◌, Bool, true, false, ◌||◌, nat_eq, cond, List, [], ◌∷◌, ◌++◌, Some, None, refl, sym, ◌∙◌, ap, arith}
use Rattle.std.proofs.lemmas.Bool.{eq-eqb, eqb-true, ne_eqb, leb-false}
use Rattle.std.specs.Prelude.{nat_le}
use Rattle.std.specs.BTreeMap.{insert_entry}
use Rattle.std.specs.Cmp.{ranks}
use Rattle.std.specs.Map.{lookup, remove_entry}
use Rattle.std.specs.Ordering.{nat_cmp, is_eq, match_ordering, MatchOrdering}
use Rattle.std.specs.declared.cmp.Ordering.{Ordering}
use Rattle.std.specs.declared.cmp.Ordering.TheVariants.{Less, Equal, Greater}
use Rattle.ring_records.specs.declared.refusal.Refusal.TheVariants.{Failed, BadNumber, Limit}
use Rattle.ring_records.specs.declared.request.Request.{Request}
use Rattle.ring_records.specs.Answer.{Answered}
use Rattle.ring_records.specs.Outside.{is_outside}
use Rattle.ring_records.proofs.Lists.{none≢some}
use Rattle.group_commit.specs.Desk.{DeskView, objection}
use Rattle.group_commit.specs.Kept.{AreBelow}

by_rank : (a b : ℕ) (o : Ordering) → MatchOrdering o (a < b) (a ≡ b) (b < a) → is_eq o ≡ nat_eq a b
by_rank a b Less lt = sym (ne_eqb a b (λ e. omega (arith, e, lt)))
by_rank a b Equal e = sym (eq-eqb a b e)
by_rank a b Greater lt = sym (ne_eqb a b (λ e. omega (arith, e, lt)))

-- the test by which a map finds a number
pub is_number : (own : ℕ) → (λ (k : ℕ). is_eq (nat_cmp own k)) ≡ nat_eq own
is_number own = λ i k. by_rank own k (nat_cmp own k) (ranks own k) i

above : (a b : ℕ) (o : Ordering) → MatchOrdering o (a < b) (a ≡ b) (b < a) → b < a → o ≡ Greater
above a b Less lt gt = absurd (omega (arith, lt, gt))
above a b Equal e gt = absurd (omega (arith, e, gt))
above a b Greater lt gt = refl

-- a number above all others goes to the end
pub inserted_last : (own : ℕ) (kept : Answered) (tickets : List (ℕ × Answered)) → AreBelow own tickets → insert_entry nat_cmp tickets own kept ≡ tickets ++ (own, kept) ∷ []
unfolding AreBelow
inserted_last own kept [] below = refl
inserted_last own kept (t ∷ tickets) below =
    ap (λ o. match_ordering o ((own, kept) ∷ t ∷ tickets) ((t.0, kept) ∷ tickets) (t ∷ insert_entry nat_cmp tickets own kept)) (above own t.0 (nat_cmp own t.0) (ranks own t.0) below.0)
    ∙ ap (λ (ts : List (ℕ × Answered)). t ∷ ts) (inserted_last own kept tickets below.1)

-- so it is found, and is taken back to what there was
pub found_last : (own : ℕ) (kept : Answered) (tickets : List (ℕ × Answered)) → AreBelow own tickets → lookup (nat_eq own) (tickets ++ (own, kept) ∷ []) ≡ Some kept
unfolding AreBelow
found_last own kept [] below = rw (eq-eqb own own refl) refl
found_last own kept (t ∷ tickets) below = rw (ne_eqb own t.0 (λ e. omega (arith, e, below.0))) (found_last own kept tickets below.1)

pub undone : (own : ℕ) (kept : Answered) (tickets : List (ℕ × Answered)) → AreBelow own tickets → remove_entry (nat_eq own) (tickets ++ (own, kept) ∷ []) ≡ tickets
unfolding AreBelow
undone own kept [] below = rw (eq-eqb own own refl) refl
undone own kept (t ∷ tickets) below = rw (ne_eqb own t.0 (λ e. omega (arith, e, below.0))) (ap (λ (ts : List (ℕ × Answered)). t ∷ ts) (undone own kept tickets below.1))

-- the number of a ticket that is given is below the next
pub below_next : (own : ℕ) (kept : Answered) (tickets : List (ℕ × Answered)) → AreBelow own tickets → AreBelow (own + 1) (tickets ++ (own, kept) ∷ [])
unfolding AreBelow
below_next own kept [] below = (omega arith, tt)
below_next own kept (t ∷ tickets) below = (omega (arith, below.0), below_next own kept tickets below.1)

pub below_without : (own number : ℕ) (tickets : List (ℕ × Answered)) → AreBelow number tickets → AreBelow number (remove_entry (nat_eq own) tickets)
unfolding AreBelow
below_without own number [] below = tt
below_without own number (t ∷ tickets) below = by_test (nat_eq own t.0) (below_without own number tickets below.1)
  where
    by_test : (b : Bool) → AreBelow number (remove_entry (nat_eq own) tickets) → AreBelow number (cond b tickets (t ∷ remove_entry (nat_eq own) tickets))
    by_test true others = below.1
    by_test false others = (below.0, others)

pub below_none : (number : ℕ) → AreBelow number []
unfolding AreBelow
below_none number = tt

-- ---- for those who hold several tickets

-- another ticket ends
pub kept_without : (own other : ℕ) (tickets : List (ℕ × Answered)) → own ≢ other → lookup (nat_eq own) (remove_entry (nat_eq other) tickets) ≡ lookup (nat_eq own) tickets
kept_without own other [] apart = refl
kept_without own other (t ∷ tickets) apart = by_test (nat_eq other t.0) refl (kept_without own other tickets apart)
  where
    by_test : (b : Bool) → nat_eq other t.0 ≡ b → lookup (nat_eq own) (remove_entry (nat_eq other) tickets) ≡ lookup (nat_eq own) tickets
        → lookup (nat_eq own) (cond b tickets (t ∷ remove_entry (nat_eq other) tickets)) ≡ lookup (nat_eq own) (t ∷ tickets)
    by_test true e others = sym (rw (ne_eqb own t.0 (λ same. apart (same ∙ sym (eqb-true other t.0 e)))) refl)
    by_test false e others = ap (λ found. cond (nat_eq own t.0) (Some t.1) found) others

-- another ticket is given
pub kept_before : (own other : ℕ) (kept : Answered) (tickets : List (ℕ × Answered)) → own ≢ other → lookup (nat_eq own) (tickets ++ (other, kept) ∷ []) ≡ lookup (nat_eq own) tickets
kept_before own other kept [] apart = rw (ne_eqb own other apart) refl
kept_before own other kept (t ∷ tickets) apart = ap (λ found. cond (nat_eq own t.0) (Some t.1) found) (kept_before own other kept tickets apart)

-- ---- where a ticket is given

pub few_issued : (desk : DeskView) (q : Request) → objection desk q ≡ None → desk.issued < 2 ^ 60
few_issued desk q none = go (desk.closed || desk.failed) (is_outside desk.member.n q) none
  where
    limit : (b : Bool) → cond b (Some Limit) None ≡ None → b ≡ false
    limit true e = none≢some Limit (sym e)
    limit false e = refl

    go : (shut outside : Bool) → cond shut (Some Failed) (cond outside (Some BadNumber) (cond (nat_le (2 ^ 60) desk.issued) (Some Limit) None)) ≡ None → desk.issued < 2 ^ 60
    go true outside e = none≢some Failed (sym e)
    go false true e = none≢some BadNumber (sym e)
    go false false e = leb-false (2 ^ 60) desk.issued (limit _ e)
