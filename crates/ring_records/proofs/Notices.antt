-- How the content of a list of notices changes as the list goes on.
use Rattle.std.proofs.Common.{ℕ, ◌≡◌, ◌⊎◌, ◌≤◌, ◌<◌, max, Bool, true, false, cond, ltb, leb, not, ◌&&◌, List, [], ◌∷◌, ◌++◌, Option, Some, None, is_some, refl, sym, ap, ◌∙◌, subst, inl, inr, arith, append-nil, append_assoc}
use Rattle.std.specs.Prelude.{unwrap_or}
use Rattle.std.specs.List.{filter_map, fold, cons_option}
use Rattle.std.specs.Str.{bytes_eq}
use Rattle.std.proofs.lemmas.Bool.{cases_lt, and_parts, leb-true, ltb-true, ltb-false, le-ltb}
use Rattle.std.proofs.lemmas.List.Sums.{fold-append}
use Rattle.std.proofs.lemmas.Option.{same_Some}
use Rattle.std.proofs.lemmas.Slice.Eq.{bytes_eq-Decides}
use mathlib.Core.List.{IsPrefix}
use Rattle.ring_records.specs.declared.candidate.Candidate.{Candidate}
use Rattle.ring_records.specs.declared.decision.Decision.{Decision}
use Rattle.ring_records.specs.declared.key.Key.{Key}
use Rattle.ring_records.specs.declared.notice.Notice.{Notice}
use Rattle.ring_records.specs.declared.notice.Notice.TheVariants.{Decided, Retired}
use Rattle.ring_records.specs.Leader.{term_of}
use Rattle.ring_records.specs.Latest.{IsLatest}
use Rattle.ring_records.specs.Lists.{first, found_after, or_else}
use Rattle.ring_records.specs.Notices.{named_by, first_named, term_for, top_term, floor_by, floor_in, leader_in, leads_in, IsNotBelow}
use Rattle.ring_records.specs.Order.{is_key}
use Rattle.ring_records.proofs.Keys.{is_key-true, is_key-same}
use Rattle.ring_records.proofs.Lists.{none≢some, first-append, filter_map-push, found_after-push}

-- ---- one more notice

-- what holds of the empty list, and of one more item, holds
from_end : {A : Type 0} (F : List A → Type 0) → F [] → ((xs : List A) (x : A) → F xs → F (xs ++ x ∷ [])) → (xs : List A) → F xs
from_end {A} F start step xs = go [] xs start
  where
    go : (before xs : List A) → F before → F (before ++ xs)
    go before [] f = rw append-nil f
    go before (x ∷ xs) f = rw append_assoc at (go (before ++ x ∷ []) xs (step before x f))

greatest-push : (xs : List ℕ) (o : Option ℕ) → fold (λ a b. max a b) 0 (xs ++ cons_option o []) ≡ max (fold (λ a b. max a b) 0 xs) (unwrap_or o 0)
greatest-push xs None = ap (fold (λ a b. max a b) 0) (append-nil xs) ∙ zero (fold (λ a b. max a b) 0 xs)
  where
    zero : (n : ℕ) → n ≡ max n 0
    zero n = omega arith
greatest-push xs (Some t) = fold-append (λ a b. max a b) 0 xs (t ∷ [])

pub first_named-push : (ns : List Notice) (x : Notice) (key : Key) → first_named (ns ++ x ∷ []) key ≡ or_else (first_named ns key) (named_by key x)
unfolding first_named
first_named-push ns x key = ap first (filter_map-push (named_by key) ns x) ∙ first-append (filter_map (named_by key) ns) (named_by key x)

pub top-push : (ns : List Notice) (x : Notice) (group : List ℕ) → top_term (ns ++ x ∷ []) group ≡ max (top_term ns group) (unwrap_or (term_for group x) 0)
unfolding top_term
top-push ns x group = ap (fold (λ a b. max a b) 0) (filter_map-push (term_for group) ns x) ∙ greatest-push (filter_map (term_for group) ns) (term_for group x)

pub floor_in-push : (ns : List Notice) (x : Notice) (group : List ℕ) → floor_in (ns ++ x ∷ []) group ≡ max (floor_in ns group) (unwrap_or (floor_by group ns x) 0)
unfolding floor_in
floor_in-push ns x group = ap (fold (λ a b. max a b) 0) (found_after-push (floor_by group) [] ns x) ∙ greatest-push (found_after (floor_by group) [] ns) (floor_by group ns x)

or_none : (o : Option Candidate) → or_else o None ≡ o
or_none None = refl
or_none (Some c) = refl

or_else-kept : {A : Type 0} (o p : Option A) (x : A) → o ≡ Some x → or_else o p ≡ Some x
or_else-kept None p x e = none≢some x e
or_else-kept (Some y) p x e = e

-- ---- floors stay below what is decided

-- a floor that is given is at most what is decided
given-under : (ns : List Notice) (x : Notice) (group : List ℕ) → unwrap_or (floor_by group ns x) 0 ≤ top_term ns group
unfolding floor_by
given-under ns (Decided d) group = omega arith
given-under ns (Retired g f) group = go (bytes_eq g group && leb f (top_term ns group)) refl
  where
    go : (b : Bool) → (bytes_eq g group && leb f (top_term ns group)) ≡ b → unwrap_or (cond b (Some f) None) 0 ≤ top_term ns group
    go true e = leb-true f (top_term ns group) (and_parts (bytes_eq g group) (leb f (top_term ns group)) e).1
    go false e = omega arith

pub floor-under : (group : List ℕ) (ns : List Notice) → floor_in ns group ≤ top_term ns group
unfolding floor_in top_term found_after
floor-under group = from_end (λ ns. floor_in ns group ≤ top_term ns group) (omega arith)
    (λ ns x so_far. let f = floor_in-push ns x group in let t = top-push ns x group in let g = given-under ns x group in omega (arith, f, t, g, so_far))

-- a term that is named is at most the greatest that is decided
named-term : (x : Notice) (key : Key) (c : Candidate) → named_by key x ≡ Some c → term_for key.group x ≡ Some key.term
unfolding named_by term_for
named-term (Retired g f) key c e = none≢some c e
named-term (Decided d) key c e = go (is_key d.key key) refl e
  where
    go : (b : Bool) → is_key d.key key ≡ b → cond b (Some d.leader) None ≡ Some c → cond (bytes_eq d.key.group key.group) (Some d.key.term) None ≡ Some key.term
    go true same f =
        let is = is_key-true d.key key same in
        ap (λ b. cond b (Some d.key.term) None) ((bytes_eq-Decides d.key.group key.group).1 (ap (λ (k : Key). k.group) is)) ∙ ap (λ (k : Key). Some k.term) is
    go false same f = none≢some c f

pub named-under : (key : Key) (c : Candidate) (ns : List Notice) → first_named ns key ≡ Some c → key.term ≤ top_term ns key.group
unfolding first_named first
named-under key c = from_end (λ ns. first_named ns key ≡ Some c → key.term ≤ top_term ns key.group) (λ e. none≢some c e)
    (λ ns x so_far e. go ns x so_far (first_named ns key) refl (sym (first_named-push ns x key) ∙ e))
  where
    go : (ns : List Notice) (x : Notice) → (first_named ns key ≡ Some c → key.term ≤ top_term ns key.group) → (o : Option Candidate) → first_named ns key ≡ o
        → or_else o (named_by key x) ≡ Some c → key.term ≤ top_term (ns ++ x ∷ []) key.group
    go ns x so_far (Some d) was e = let t = top-push ns x key.group in let s = so_far (was ∙ e) in omega (arith, t, s)
    go ns x so_far None was e = let t = top-push ns x key.group ∙ ap (λ o. max (top_term ns key.group) (unwrap_or o 0)) (named-term x key c e) in omega (arith, t)

-- the greatest term that is decided is named
abbrev IsNamed : List Notice → List ℕ → ℕ → Type 0
IsNamed ns group term = (c : Candidate) × (first_named ns (record { group = group; term = term }) ≡ Some c)

abbrev IsTop : List Notice → List ℕ → Type 0
IsTop ns group = (top_term ns group ≡ 0) ⊎ IsNamed ns group (top_term ns group)

still-named : (ns : List Notice) (x : Notice) (group : List ℕ) (term : ℕ) → IsNamed ns group term → IsNamed (ns ++ x ∷ []) group term
still-named ns x group term n = (n.0, first_named-push ns x (record { group = group; term = term }) ∙ or_else-kept (first_named ns (record { group = group; term = term })) (named_by (record { group = group; term = term }) x) n.0 n.1)

same-top : (ns : List Notice) (x : Notice) (group : List ℕ) → top_term (ns ++ x ∷ []) group ≡ top_term ns group → IsTop ns group → IsTop (ns ++ x ∷ []) group
same-top ns x group same (inl zero) = inl (same ∙ zero)
same-top ns x group same (inr n) = inr (subst (IsNamed (ns ++ x ∷ []) group) (sym same) (still-named ns x group (top_term ns group) n))

either : {A : Type 0} (o : Option A) (x : A) → (y : A) × (or_else o (Some x) ≡ Some y)
either None x = (x, refl)
either (Some y) x = (y, refl)

decided-named : (ns : List Notice) (d : Decision) (group : List ℕ) → d.key.group ≡ group → IsNamed (ns ++ Decided d ∷ []) group d.key.term
unfolding named_by
decided-named ns d group e =
    let key : Key = record { group = group; term = d.key.term } in
    let same : d.key ≡ key = λ i. record { group = e i; term = d.key.term } in
    let found = either (first_named ns key) d.leader in
    (found.0, first_named-push ns (Decided d) key ∙ (ap (λ b. or_else (first_named ns key) (cond b (Some d.leader) None)) (ap (λ (k : Key). is_key k key) same ∙ is_key-same key) ∙ found.1))

top-step : (group : List ℕ) (ns : List Notice) (x : Notice) → IsTop ns group → IsTop (ns ++ x ∷ []) group
unfolding term_for
top-step group ns (Retired g f) top = same-top ns (Retired g f) group (let t = top-push ns (Retired g f) group in omega (arith, t)) top
top-step group ns (Decided d) top = go (bytes_eq d.key.group group) refl
  where
    go : (b : Bool) → bytes_eq d.key.group group ≡ b → IsTop (ns ++ Decided d ∷ []) group
    go false e = same-top ns (Decided d) group (let t = top-push ns (Decided d) group ∙ ap (λ b. max (top_term ns group) (unwrap_or (cond b (Some d.key.term) None) 0)) e in omega (arith, t)) top
    go true e =
        let t : top_term (ns ++ Decided d ∷ []) group ≡ max (top_term ns group) d.key.term = top-push ns (Decided d) group ∙ ap (λ b. max (top_term ns group) (unwrap_or (cond b (Some d.key.term) None) 0)) e in
        elim (cases_lt (top_term ns group) d.key.term) [
          | inl less ↦ inr (subst (IsNamed (ns ++ Decided d ∷ []) group) (let s : d.key.term ≡ top_term (ns ++ Decided d ∷ []) group = omega (arith, t, less) in s) (decided-named ns d group ((bytes_eq-Decides d.key.group group).0 e)))
          | inr ge ↦ same-top ns (Decided d) group (omega (arith, t, ge)) top
        ]

top-named : (group : List ℕ) (ns : List Notice) → IsTop ns group
unfolding top_term
top-named group = from_end (λ ns. IsTop ns group) (inl refl) (top-step group)

-- ---- leaders

kept_leader : (ns : List Notice) (key : Key) → cond (ltb key.term (floor_in ns key.group)) None (first_named ns key) ≡ leader_in ns key
unfolding leader_in
kept_leader ns key = refl

pub live-leader : (ns : List Notice) (key : Key) → floor_in ns key.group ≤ key.term → leader_in ns key ≡ first_named ns key
unfolding leader_in
live-leader ns key le = ap (λ b. cond b None (first_named ns key)) (le-ltb key.term (floor_in ns key.group) le)

pub leader-tells : (ns : List Notice) (key : Key) (c : Candidate) → leader_in ns key ≡ Some c → (floor_in ns key.group ≤ key.term) × (first_named ns key ≡ Some c)
unfolding leader_in
leader-tells ns key c e = go (ltb key.term (floor_in ns key.group)) refl e
  where
    go : (b : Bool) → ltb key.term (floor_in ns key.group) ≡ b → cond b None (first_named ns key) ≡ Some c → (floor_in ns key.group ≤ key.term) × (first_named ns key ≡ Some c)
    go true t f = none≢some c f
    go false t f = (ltb-false key.term (floor_in ns key.group) t, f)

-- the greatest term that is decided leads, where there is one
top-leads : (ns : List Notice) (group : List ℕ) → IsNamed ns group (top_term ns group) → (c : Candidate) × (leads_in ns group (top_term ns group) ≡ Some c)
top-leads ns group n = (n.0, live-leader ns (record { group = group; term = top_term ns group }) (floor-under group ns) ∙ n.1)

-- so the latest leader is that of the greatest term decided
pub latest-top : (ns : List Notice) (group : List ℕ) (o : Option (ℕ × Candidate)) → IsLatest (leads_in ns group) o → term_of o ≡ top_term ns group
latest-top ns group None l = elim (top-named group ns) [
  | inl zero ↦ sym zero
  | inr n ↦ (let t = top-leads ns group n in none≢some t.0 (sym (l (top_term ns group)) ∙ t.1))
]
latest-top ns group (Some p) l =
    let named = leader-tells ns (record { group = group; term = p.0 }) p.1 l.0 in
    let under : p.0 ≤ top_term ns group = named-under (record { group = group; term = p.0 }) p.1 ns named.1 in
    elim (cases_lt p.0 (top_term ns group)) [
      | inr ge ↦ omega (arith, under, ge)
      | inl less ↦ elim (top-named group ns) [
        | inl zero ↦ absurd (omega (arith, zero, less))
        | inr n ↦ (let t = top-leads ns group n in none≢some t.0 (sym (l.1 (top_term ns group) less) ∙ t.1))
      ]
    ]

-- A floor that is told counts where it is above the group's floor and at most the term of its latest leader.
pub retired-told : (ns : List Notice) (group : List ℕ) (f : ℕ) (o : Option (ℕ × Candidate)) → IsLatest (leads_in ns group) o
    → floor_in (ns ++ Retired group f ∷ []) group ≡ cond (ltb (floor_in ns group) f && leb f (term_of o)) f (floor_in ns group)
unfolding floor_by
retired-told ns group f o l =
    floor_in-push ns (Retired group f) group
    ∙ (ap (λ b. max (floor_in ns group) (unwrap_or (cond (b && leb f (top_term ns group)) (Some f) None) 0)) ((bytes_eq-Decides group group).1 refl)
    ∙ (ap (λ t. max (floor_in ns group) (unwrap_or (cond (leb f t) (Some f) None) 0)) (sym (latest-top ns group o l))
    ∙ go (ltb (floor_in ns group) f) (leb f (term_of o)) refl))
  where
    go : (a b : Bool) → ltb (floor_in ns group) f ≡ a → max (floor_in ns group) (unwrap_or (cond b (Some f) None) 0) ≡ cond (a && b) f (floor_in ns group)
    go true true e = let less = ltb-true (floor_in ns group) f e in omega (arith, less)
    go false true e = let ge = ltb-false (floor_in ns group) f e in omega (arith, ge)
    go true false e = omega arith
    go false false e = omega arith

-- a floor names no leader
pub retired-leads : (ns : List Notice) (g : List ℕ) (f : ℕ) (key : Key)
    → leader_in (ns ++ Retired g f ∷ []) key ≡ cond (ltb key.term (floor_in (ns ++ Retired g f ∷ []) key.group)) None (first_named ns key)
unfolding leader_in named_by
retired-leads ns g f key = ap (cond (ltb key.term (floor_in (ns ++ Retired g f ∷ []) key.group)) None) (first_named-push ns (Retired g f) key ∙ or_none (first_named ns key))

-- a decision gives no floor
pub decided-floor : (ns : List Notice) (d : Decision) (group : List ℕ) → floor_in (ns ++ Decided d ∷ []) group ≡ floor_in ns group
unfolding floor_by
decided-floor ns d group = floor_in-push ns (Decided d) group ∙ zero (floor_in ns group)
  where
    zero : (n : ℕ) → max n 0 ≡ n
    zero n = omega arith

-- it names the leader of its key where that is not retired and has none
pub decided-leads : (ns : List Notice) (d : Decision) (key : Key)
    → leader_in (ns ++ Decided d ∷ []) key ≡ cond (ltb key.term (floor_in ns key.group)) None (or_else (leader_in ns key) (named_by key (Decided d)))
unfolding leader_in
decided-leads ns d key =
    ap (λ n. cond (ltb key.term n) None (first_named (ns ++ Decided d ∷ []) key)) (decided-floor ns d key.group)
    ∙ (ap (cond (ltb key.term (floor_in ns key.group)) None) (first_named-push ns (Decided d) key) ∙ at (ltb key.term (floor_in ns key.group)))
  where
    at : (b : Bool) → cond b None (or_else (first_named ns key) (named_by key (Decided d))) ≡ cond b None (or_else (cond b None (first_named ns key)) (named_by key (Decided d)))
    at true = refl
    at false = refl

-- a leader in the list is above the floor
masked : (ns : List Notice) (key : Key) → cond (ltb key.term (floor_in ns key.group)) None (leader_in ns key) ≡ leader_in ns key
unfolding leader_in
masked ns key = at (ltb key.term (floor_in ns key.group))
  where
    at : (b : Bool) → cond b None (cond b None (first_named ns key)) ≡ cond b None (first_named ns key)
    at true = refl
    at false = refl

-- a decision below the floor changes nothing
pub decided-below : (ns : List Notice) (d : Decision) → ltb d.key.term (floor_in ns d.key.group) ≡ true → (key : Key) → leader_in (ns ++ Decided d ∷ []) key ≡ leader_in ns key
unfolding named_by
decided-below ns d low key = decided-leads ns d key ∙ (at (is_key d.key key) refl ∙ masked ns key)
  where
    at : (b : Bool) → is_key d.key key ≡ b → cond (ltb key.term (floor_in ns key.group)) None (or_else (leader_in ns key) (cond b (Some d.leader) None))
        ≡ cond (ltb key.term (floor_in ns key.group)) None (leader_in ns key)
    at true e =
        let below : ltb key.term (floor_in ns key.group) ≡ true = subst (λ (k : Key). ltb k.term (floor_in ns k.group) ≡ true) (is_key-true d.key key e) low in
        ap (λ b. cond b None (or_else (leader_in ns key) (Some d.leader))) below ∙ sym (ap (λ b. cond b None (leader_in ns key)) below)
    at false e = ap (cond (ltb key.term (floor_in ns key.group)) None) (or_none (leader_in ns key))

-- nor does one for a key with a leader
pub decided-known : (ns : List Notice) (d : Decision) → is_some (leader_in ns d.key) ≡ true → (key : Key) → leader_in (ns ++ Decided d ∷ []) key ≡ leader_in ns key
unfolding named_by
decided-known ns d has key = decided-leads ns d key ∙ (ap (cond (ltb key.term (floor_in ns key.group)) None) (at (is_key d.key key) refl) ∙ masked ns key)
  where
    some : (o : Option Candidate) (p : Option Candidate) → is_some o ≡ true → or_else o p ≡ o
    some None p e = absurd (cc e)
    some (Some c) p e = refl

    at : (b : Bool) → is_key d.key key ≡ b → or_else (leader_in ns key) (cond b (Some d.leader) None) ≡ leader_in ns key
    at true e = some (leader_in ns key) (Some d.leader) (subst (λ (k : Key). is_some (leader_in ns k) ≡ true) (is_key-true d.key key e) has)
    at false e = or_none (leader_in ns key)

-- where the key is not below the floor and has none, the decision gives it one
pub decided-new : (ns : List Notice) (d : Decision) → leader_in ns d.key ≡ None → ltb d.key.term (floor_in ns d.key.group) ≡ false
    → (key : Key) → leader_in (ns ++ Decided d ∷ []) key ≡ cond (is_key d.key key) (Some d.leader) (leader_in ns key)
unfolding named_by
decided-new ns d none live key = decided-leads ns d key ∙ at (is_key d.key key) refl
  where
    at : (b : Bool) → is_key d.key key ≡ b
        → cond (ltb key.term (floor_in ns key.group)) None (or_else (leader_in ns key) (cond b (Some d.leader) None)) ≡ cond b (Some d.leader) (leader_in ns key)
    at true e =
        let above : ltb key.term (floor_in ns key.group) ≡ false = subst (λ (k : Key). ltb k.term (floor_in ns k.group) ≡ false) (is_key-true d.key key e) live in
        ap (λ b. cond b None (or_else (leader_in ns key) (Some d.leader))) above
        ∙ ap (λ o. or_else o (Some d.leader)) (subst (λ (k : Key). leader_in ns k ≡ None) (is_key-true d.key key e) none)
    at false e = ap (cond (ltb key.term (floor_in ns key.group)) None) (or_none (leader_in ns key)) ∙ masked ns key

-- whether a floor counts, by the greatest term decided
unfoldable pub counts : List Notice → List ℕ → ℕ → Bool
counts ns g f = ltb (floor_in ns g) f && leb f (top_term ns g)

-- what a floor makes of the floor of each group
pub floor_in-retired : (ns : List Notice) (g group : List ℕ) (f : ℕ) → floor_in (ns ++ Retired g f ∷ []) group ≡ cond (bytes_eq g group && counts ns g f) f (floor_in ns group)
unfolding floor_by counts
floor_in-retired ns g group f = floor_in-push ns (Retired g f) group ∙ at (bytes_eq g group) refl
  where
    zero : (n : ℕ) → max n 0 ≡ n
    zero n = omega arith

    go : (n : ℕ) (a b : Bool) → ltb n f ≡ a → max n (unwrap_or (cond b (Some f) None) 0) ≡ cond (a && b) f n
    go n true true e = let less = ltb-true n f e in omega (arith, less)
    go n false true e = let ge = ltb-false n f e in omega (arith, ge)
    go n true false e = omega arith
    go n false false e = omega arith

    at : (t : Bool) → bytes_eq g group ≡ t → max (floor_in ns group) (unwrap_or (cond (t && leb f (top_term ns group)) (Some f) None) 0)
        ≡ cond (t && (ltb (floor_in ns g) f && leb f (top_term ns g))) f (floor_in ns group)
    at false e = zero (floor_in ns group)
    at true e = subst (λ (x : List ℕ). max (floor_in ns group) (unwrap_or (cond (leb f (top_term ns group)) (Some f) None) 0) ≡ cond (ltb (floor_in ns x) f && leb f (top_term ns x)) f (floor_in ns group))
        (sym ((bytes_eq-Decides g group).0 e)) (go (floor_in ns group) (ltb (floor_in ns group) f) (leb f (top_term ns group)) refl)

-- a floor that does not count changes nothing
pub retired-idle : (ns : List Notice) (g : List ℕ) (f : ℕ) → counts ns g f ≡ false
    → ((group : List ℕ) → floor_in (ns ++ Retired g f ∷ []) group ≡ floor_in ns group) × ((key : Key) → leader_in (ns ++ Retired g f ∷ []) key ≡ leader_in ns key)
unfolding leader_in
retired-idle ns g f idle = (same, λ key. retired-leads ns g f key ∙ ap (λ n. cond (ltb key.term n) None (first_named ns key)) (same key.group))
  where
    never : (t : Bool) (n : ℕ) → cond (t && false) f n ≡ n
    never true n = refl
    never false n = refl

    same : (group : List ℕ) → floor_in (ns ++ Retired g f ∷ []) group ≡ floor_in ns group
    same group = floor_in-retired ns g group f ∙ (ap (λ b. cond (bytes_eq g group && b) f (floor_in ns group)) idle ∙ never (bytes_eq g group) (floor_in ns group))

-- one that counts takes the leaders below it away
pub retired-live : (ns : List Notice) (g : List ℕ) (f : ℕ) → counts ns g f ≡ true → (key : Key)
    → leader_in (ns ++ Retired g f ∷ []) key ≡ cond (not (bytes_eq g key.group && ltb key.term f)) (leader_in ns key) None
unfolding counts
retired-live ns g f yes_counts key =
    retired-leads ns g f key
    ∙ (ap (λ n. cond (ltb key.term n) None (first_named ns key)) (floor_in-retired ns g key.group f ∙ ap (λ b. cond (bytes_eq g key.group && b) f (floor_in ns key.group)) yes_counts)
    ∙ at (bytes_eq g key.group) refl)
  where
    above : floor_in ns g < f
    above = ltb-true (floor_in ns g) f (and_parts (ltb (floor_in ns g) f) (leb f (top_term ns g)) yes_counts).0

    under : (b : Bool) → ltb key.term f ≡ b → g ≡ key.group → cond b None (first_named ns key) ≡ cond (not b) (leader_in ns key) None
    under true e same = refl
    under false e same =
        let ge = ltb-false key.term f e in
        let here : floor_in ns key.group < f = subst (λ (x : List ℕ). floor_in ns x < f) same above in
        sym (live-leader ns key (omega (arith, ge, here)))

    at : (t : Bool) → bytes_eq g key.group ≡ t → cond (ltb key.term (cond (t && true) f (floor_in ns key.group))) None (first_named ns key)
        ≡ cond (not (t && ltb key.term f)) (leader_in ns key) None
    at true e = under (ltb key.term f) refl ((bytes_eq-Decides g key.group).0 e)
    at false e = kept_leader ns key

-- the greatest term decided has a leader in the list, and no greater one has
pub top-led : (ns : List Notice) (group : List ℕ) → 0 < top_term ns group → (c : Candidate) × (leads_in ns group (top_term ns group) ≡ Some c)
top-led ns group some = elim (top-named group ns) [
  | inl zero ↦ absurd (omega (arith, zero, some))
  | inr n ↦ top-leads ns group n
]

pub led-under : (ns : List Notice) (key : Key) (c : Candidate) → leader_in ns key ≡ Some c → key.term ≤ top_term ns key.group
led-under ns key c e = named-under key c ns (leader-tells ns key c e).1

-- no notice says nothing
pub none-floor : (group : List ℕ) → floor_in [] group ≡ 0
unfolding floor_in found_after
none-floor group = refl

pub none-leads : (key : Key) → leader_in [] key ≡ None
unfolding leader_in first_named first
none-leads key = at (ltb key.term (floor_in [] key.group))
  where
    at : (b : Bool) → ◌≡◌ {A = Option Candidate} (cond b None None) None
    at true = refl
    at false = refl

-- ---- as the list goes on

-- what one more notice keeps, more notices keep
kept : (F : List Notice → List Notice → Type 0) → ((xs : List Notice) → F xs xs) → ((xs ys : List Notice) (y : Notice) → F xs ys → F xs (ys ++ y ∷ [])) → (xs more : List Notice)
    → F xs (xs ++ more)
kept F same step xs = from_end (λ more. F xs (xs ++ more)) (rw append-nil (same xs)) (λ more x so_far. subst (F xs) (append_assoc xs more (x ∷ [])) (step xs (xs ++ more) x so_far))

pub named-stays : (key : Key) (c : Candidate) (xs more : List Notice) → first_named xs key ≡ Some c → first_named (xs ++ more) key ≡ Some c
named-stays key c = kept (λ xs ys. first_named xs key ≡ Some c → first_named ys key ≡ Some c) (λ xs e. e)
    (λ xs ys y so_far e. first_named-push ys y key ∙ or_else-kept (first_named ys key) (named_by key y) c (so_far e))

pub top-rises : (group : List ℕ) (xs more : List Notice) → top_term xs group ≤ top_term (xs ++ more) group
top-rises group = kept (λ xs ys. top_term xs group ≤ top_term ys group) (λ xs. omega arith) (λ xs ys y so_far. let t = top-push ys y group in omega (arith, t, so_far))

-- a leader stays, or its key is retired
pub leader_in-stays : (ns more : List Notice) (key : Key) (c : Candidate) → leader_in ns key ≡ Some c → (leader_in (ns ++ more) key ≡ Some c) ⊎ (key.term < floor_in (ns ++ more) key.group)
leader_in-stays ns more key c e = elim (cases_lt key.term (floor_in (ns ++ more) key.group)) [
  | inl less ↦ inr less
  | inr le ↦ inl (live-leader (ns ++ more) key le ∙ named-stays key c ns more (leader-tells ns key c e).1)
]

-- the latest leader never goes down
pub latest_in-never_down : (ns more : List Notice) (group : List ℕ) (a b : Option (ℕ × Candidate)) → IsLatest (leads_in ns group) a → IsLatest (leads_in (ns ++ more) group) b
    → IsNotBelow a b
latest_in-never_down ns more group None b l m = tt
latest_in-never_down ns more group (Some p) b l m = go b m
  where
    first_is : first_named (ns ++ more) (record { group = group; term = p.0 }) ≡ Some p.1
    first_is = named-stays (record { group = group; term = p.0 }) p.1 ns more (leader-tells ns (record { group = group; term = p.0 }) p.1 l.0).1

    top : p.0 ≡ top_term ns group
    top = latest-top ns group (Some p) l

    go : (b : Option (ℕ × Candidate)) → IsLatest (leads_in (ns ++ more) group) b → IsNotBelow (Some p) b
    go None m =
        let zero : 0 ≡ top_term (ns ++ more) group = latest-top (ns ++ more) group None m in
        let rises = top-rises group ns more in
        let under = floor-under group (ns ++ more) in
        let low : floor_in (ns ++ more) group ≤ p.0 = omega (arith, zero, under) in
        none≢some p.1 (sym (m p.0) ∙ (live-leader (ns ++ more) (record { group = group; term = p.0 }) low ∙ first_is))
    go (Some q) m =
        let now : q.0 ≡ top_term (ns ++ more) group = latest-top (ns ++ more) group (Some q) m in
        let rises = top-rises group ns more in
        let was = top in
        elim (cases_lt p.0 q.0) [
          | inl less ↦ inl less
          | inr ge ↦ inr (
              let terms : p.0 ≡ q.0 = omega (arith, now, rises, was, ge) in
              let leads = (leader-tells (ns ++ more) (record { group = group; term = q.0 }) q.1 m.0).1 in
              let leaders : p.1 ≡ q.1 = same_Some p.1 q.1 (sym first_is ∙ (ap (λ t. first_named (ns ++ more) (record { group = group; term = t })) terms ∙ leads)) in
              λ i. (terms i, leaders i))
        ]

pub leader_in-kept : (xs ys : List Notice) → IsPrefix xs ys → (key : Key) (c : Candidate) → leader_in xs key ≡ Some c → (leader_in ys key ≡ Some c) ⊎ (key.term < floor_in ys key.group)
leader_in-kept xs ys p key c e = subst (λ (l : List Notice). (leader_in l key ≡ Some c) ⊎ (key.term < floor_in l key.group)) p.1 (leader_in-stays xs p.0 key c e)

pub latest_in-kept : (xs ys : List Notice) → IsPrefix xs ys → (group : List ℕ) (a b : Option (ℕ × Candidate)) → IsLatest (leads_in xs group) a → IsLatest (leads_in ys group) b
    → IsNotBelow a b
latest_in-kept xs ys p group a b m n = latest_in-never_down xs p.0 group a b m (subst (λ (l : List Notice). IsLatest (leads_in l group) b) (sym p.1) n)
