-- The open tickets of a node, and those whose replies are released.
use Rattle.std.proofs.Common.{ℕ, ◌≡◌, ◌≤◌, Bool, true, false, not, cond, List, [], ◌∷◌, ◌++◌, length, Option, refl, ap, ◌∙◌, arith}
use Rattle.std.specs.List.{Contains, filter}
use Rattle.std.proofs.lemmas.List.Elements.{All-contains, All-contains_itself, All-filter, filter-append, filter_passes}
use Rattle.std.proofs.lemmas.List.Filters.{length-filter_both}
use Rattle.ring_records.specs.declared.request.Request.{Request}
use Rattle.ring_node.specs.Node.{NodeView, ticket_of, asked_with}
use Rattle.ring_node.specs.Open.{Open, due, is_due}
use Rattle.ring_world.specs.Shows.{without_due, IsSealed}

-- what passes no test is kept whole
pub filter-none : {X : Type 0} (test : X → Bool) (xs : List X) → filter test xs ≡ [] → filter (λ x. not (test x)) xs ≡ xs
filter-none test [] e = refl
filter-none test (x ∷ xs) e = asks (test x) e (λ f. filter-none test xs f)
  where
    asks : (b : Bool) → cond b (x ∷ filter test xs) (filter test xs) ≡ [] → (filter test xs ≡ [] → filter (λ y. not (test y)) xs ≡ xs)
        → cond (not b) (x ∷ filter (λ y. not (test y)) xs) (filter (λ y. not (test y)) xs) ≡ x ∷ xs
    asks true f rest = absurd cc
    asks false f rest = ap (λ ys. x ∷ ys) (rest f)

-- with none due, none is left out
pub without-none : (v : NodeView) → due v.durable v.held ≡ [] → without_due v ≡ v
without-none v e = λ i. record v { held = filter-none _ v.held e i }

-- what passes a test is not among the others
filter-others : {X : Type 0} (test : X → Bool) (xs : List X) → filter test (filter (λ x. not (test x)) xs) ≡ []
filter-others test [] = refl
filter-others test (x ∷ xs) = asks (test x) refl (filter-others test xs)
  where
    asks : (b : Bool) → test x ≡ b → filter test (filter (λ y. not (test y)) xs) ≡ [] → filter test (cond (not b) (x ∷ filter (λ y. not (test y)) xs) (filter (λ y. not (test y)) xs)) ≡ []
    asks true e rest = rest
    asks false e rest = ap (λ b. cond b (x ∷ filter test (filter (λ y. not (test y)) xs)) (filter test (filter (λ y. not (test y)) xs))) e ∙ rest

-- with those that were due released, none is
pub without-sealed : (v : NodeView) → IsSealed (without_due v)
without-sealed v = filter-others (is_due v.durable) v.held

-- no more are due than are open
pub few_due : (durable : ℕ) (held : List Open) → length (due durable held) ≤ length held
few_due durable held = let both = length-filter_both (is_due durable) (λ t. not (is_due durable t)) (λ t. refl) held in omega (arith, both)

-- where none was due, none but the last that it gave is
pub one_due : (serial : Option ℕ) (q : Request) (v : NodeView) → IsSealed v → length (due (asked_with serial q v).durable (asked_with serial q v).held) ≤ 1
unfolding asked_with
one_due serial q v none =
    let last = ticket_of serial v q ∷ [] in
    let all = ap length (filter-append (is_due v.durable) v.held last ∙ ap (λ ts. ts ++ due v.durable last) none) in
    let few = few_due v.durable last in
    omega (arith, all, few)

-- what a filter leaves was there, and passed
pub from_filter : {X : Type 0} (test : X → Bool) (xs : List X) (x : X) → Contains (filter test xs) x → Contains xs x × (test x ≡ true)
from_filter test xs x here = (
  All-contains (Contains xs) (filter test xs) x (All-filter test (Contains xs) xs (All-contains_itself xs)) here,
  All-contains (λ y. test y ≡ true) (filter test xs) x (filter_passes test xs) here,
)
