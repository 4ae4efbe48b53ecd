-- A ring in which nothing has happened.
use Rattle.std.proofs.Common.{ℕ, zero, suc, ◌≡◌, ◌≤◌, ◌<◌, ◌+◌, true, List, [], ◌∷◌, ◌++◌, length, map, replicate, get_or, refl, sym, ap, ◌∙◌, subst, inl, inr, add-one, arith}
use Rattle.std.specs.List.{All}
use Rattle.std.proofs.lemmas.Bool.{cases_lt}
use Rattle.std.proofs.lemmas.Bool.Decides.{nat_tests}
use Rattle.std.proofs.lemmas.List.{get_or_append_left, length-append, map_push, replicate_more}
use Rattle.std.proofs.lemmas.List.Elements.{All-nil, All-push}
use Rattle.std.proofs.Math.Seq.{get_or-append_seam}
use Rattle.ring_records.specs.Lists.{EachAfter}
use Rattle.ring_records.specs.Member.{member}
use Rattle.ring_records.specs.Place.{after}
use Rattle.ring_records.specs.Part.{part}
use Rattle.ring_records.proofs.Leader.{Contains-nil}
use Rattle.gated_journal.specs.Reading.{is_header}
use Rattle.ring_node.specs.Node.{NodeView, new_node}
use Rattle.ring_world.specs.Capacity.{process}
use Rattle.ring_world.specs.Shows.{ShowsNode, Shows, IsSound, IsSealed, held_of, new_nodes}
use Rattle.ring_world.specs.Worlds.{is_ring}
use Rattle.ring_world.specs.Events as happening
use Rattle.ring_world.proofs.Lawful.{fresh-formatted}

pub header_fits : (k size capacity : ℕ) → is_ring size capacity ≡ true → k ≤ size → is_header (member k size capacity) ≡ true
header_fits k size capacity ring inside = grind (arith, nat_tests)

pub ring_least : (size capacity : ℕ) → is_ring size capacity ≡ true → 2 ≤ size
ring_least size capacity ring = grind (arith, nat_tests)

pub ring_most : (size capacity : ℕ) → is_ring size capacity ≡ true → size ≤ 16
ring_most size capacity ring = grind (arith, nat_tests)

-- the node behind one that is not the last
pub after_next : (size i j next : ℕ) → i ≡ j → j < size → next ≡ after size i → next ≡ j + 1
unfolding after
after_next size i j next e lt n = grind (arith, nat_tests)

pub new_nodes_more : (size capacity k : ℕ) → new_nodes size capacity (k + 1) ≡ new_nodes size capacity k ++ new_node (k + 1) size capacity ∷ []
unfolding new_nodes
new_nodes_more size capacity k = ap (new_nodes size capacity) (add-one k)

pub new_nodes_count : (size capacity k : ℕ) → length (new_nodes size capacity k) ≡ k
unfolding new_nodes
new_nodes_count size capacity zero = refl
new_nodes_count size capacity (suc k) =
    let before = new_nodes_count size capacity k in
    let more = length-append (new_nodes size capacity k) (new_node (k + 1) size capacity ∷ []) in
    omega (arith, before, more)

new_node_at : (size capacity k at : ℕ) (other : NodeView) → at < k → get_or (new_nodes size capacity k) at other ≡ new_node (at + 1) size capacity
unfolding new_nodes
new_node_at size capacity zero at other lt = absurd (omega arith)
new_node_at size capacity (suc k) at other lt =
    let count = new_nodes_count size capacity k in
    let rest : at < k → get_or (new_nodes size capacity k) at other ≡ new_node (at + 1) size capacity = λ less. new_node_at size capacity k at other less in
    elim (cases_lt at k) [
      | inl less ↦ get_or_append_left (new_nodes size capacity k) (new_node (k + 1) size capacity ∷ []) other at (omega arith) ∙ rest less
      | inr ge ↦ (let same : at ≡ k = omega arith in
          ap (λ j. get_or (new_nodes size capacity k ++ new_node (k + 1) size capacity ∷ []) j other) (same ∙ sym count)
          ∙ (get_or-append_seam (new_nodes size capacity k) (new_node (k + 1) size capacity) [] other ∙ ap (λ j. new_node (j + 1) size capacity) (sym same)))
    ]

fresh_node : (size capacity at : ℕ) → ShowsNode size capacity [] (at + 1) (new_node (at + 1) size capacity)
unfolding happening.process part
fresh_node size capacity at = record {
  is = refl;
  state = refl;
  kept = λ t here. Contains-nil t here;
  dropped = refl;
  few = omega arith;
}

pub fresh_shows : (size capacity : ℕ) → Shows size capacity [] (new_nodes size capacity size)
unfolding EachAfter
fresh_shows size capacity = record {
  schedule = record { formatted = fresh-formatted; each = tt };
  count = new_nodes_count size capacity size;
  node = λ at other lt. subst (ShowsNode size capacity [] (at + 1)) (sym (new_node_at size capacity size at other lt)) (fresh_node size capacity at);
}

-- no ticket is due
fresh_sealed : (size capacity k : ℕ) → All IsSealed (new_nodes size capacity k)
unfolding new_nodes
fresh_sealed size capacity zero = All-nil IsSealed
fresh_sealed size capacity (suc k) = All-push IsSealed (new_nodes size capacity k) (new_node (k + 1) size capacity) (fresh_sealed size capacity k) refl

-- no ticket is open
pub none_held : (size capacity k : ℕ) → map held_of (new_nodes size capacity k) ≡ replicate k []
unfolding new_nodes
none_held size capacity zero = refl
none_held size capacity (suc k) =
    map_push held_of (new_nodes size capacity k) (new_node (k + 1) size capacity)
    ∙ (ap (λ hs. hs ++ [] ∷ []) (none_held size capacity k) ∙ (replicate_more k [] ∙ ap (λ m. replicate m []) (add-one k)))

pub fresh_sound : (size capacity : ℕ) (nodes : List NodeView) → is_ring size capacity ≡ true → nodes ≡ new_nodes size capacity size → IsSound size capacity [] nodes
fresh_sound size capacity nodes ring new = record {
  least = ring_least size capacity ring;
  most = ring_most size capacity ring;
  shows = subst (Shows size capacity []) (sym new) (fresh_shows size capacity);
  sealed = subst (All IsSealed) (sym new) (fresh_sealed size capacity size);
}
