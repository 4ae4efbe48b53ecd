use Rattle.std.proofs.Common.{ℕ, ◌≡◌, ◌+◌, Bool, true, false, cond, [], ◌∷◌, ◌++◌, length, Ok, Err, sym, ◌∙◌, ap, subst}
use Rattle.std.proofs.lemmas.List.{length-append}
use Rattle.ring_records.specs.declared.refusal.Refusal.{Refusal}
use Rattle.ring_start.specs.Fits.{found_as, IsInOrder}
use Rattle.ring_start.proofs.Order.{AreNumbered-push}
use Rattle.ring_start.proofs.opening.find_nodes.Goals as goal

-- a number that is taken is the one that was given
ok_same : (is_in : Bool) (given number : ℕ) (why : Refusal) → Ok number ≡ cond is_in (Ok given) (Err why) → number ≡ given
ok_same true given number why e = cc
ok_same false given number why e = absurd cc

pub loop-place-preserved : goal.loop-place-preserved
loop-place-preserved g c =
    let nodes = c.loop-place.nodes.items in
    let found = c.in-Ok-find.found in
    let items : c.push.new.self.items ≡ nodes ++ found ∷ [] = c.in_ok-push-in-Ok-find.ensures.items in
    let node : c.in-Ok.node ≡ c.loop-place.place + 1 = ok_same _ _ _ _ c.in-Ok.ensures in
    let number : (found_as found).view.member.node ≡ length nodes + 1 = c.in-Ok-find.ensures ∙ (node ∙ ap (λ n. n + 1) (sym c.loop-place.invariant.count)) in
    let size : length (nodes ++ found ∷ []) ≡ length nodes + 1 = length-append nodes (found ∷ []) in
    record {
      order = subst (IsInOrder found_as) (sym items) (AreNumbered-push (λ node. (found_as node).view.member.node) nodes found c.loop-place.invariant.order number);
      count = ap length items ∙ (size ∙ ap (λ n. n + 1) c.loop-place.invariant.count);
    }
