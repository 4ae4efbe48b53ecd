-- A core as it is seen: new, restored, and once it has accepted an input.
use Rattle.std.proofs.Common.{ℕ, ◌≡◌, ◌+◌, [], length, sym, ap, subst, ◌∙◌, arith}
use Rattle.std.specs.FinMap as map
use Rattle.std.specs.Option.{option_map}
use Rattle.ring_records.specs.declared.summary.Summary.{Summary}
use Rattle.ring_records.specs.KeyOrder.{key_cmp}
use Rattle.ring_records.specs.Snapshot.{IsSound}
use Rattle.ring_records.specs.Summary.{empty}
use Rattle.ring_records.proofs.Compare.{keys_total, keys_exact}
use Rattle.neighbour_link.specs.Outlink.{LinkView}
use Rattle.groups_terms.specs.Table.{TableView, state_at, states_in}
use Rattle.groups_terms.proofs.States.{get-states_in}
use Rattle.node_core.specs.Kept.{known_with, IsCounted}

no_states : (t : TableView) → t.ballots ≡ map.empty → states_in t ≡ map.empty
no_states t none = map.same_map keys_total keys_exact _ _ (λ key.
    get-states_in t key ∙ (ap (option_map (λ c. state_at (key, c))) (ap (λ m. map.get m key) none ∙ map.get-empty key_cmp key) ∙ sym (map.get-empty key_cmp key)))

-- one that has accepted nothing
pub new_known : (me : ℕ) (t : TableView) (link : LinkView) (expected : ℕ) → t ≡ record { me = me; ballots = map.empty; stands = 0; floors = map.empty } → link.credited ≡ 0 → link.window ≡ []
    → expected ≡ 0 → known_with 0 t link expected ≡ empty
new_known me t link expected is credited window next = λ i. record {
  inputs = 0;
  taken = next i;
  credit = credited i;
  sent = credited i + length (window i);
  stands = (is i).stands;
  keys = no_states t (λ j. (is j).ballots) i;
  window = window i;
  floors = (is i).floors;
}

-- what is told is sound
pub restored_counted : (me n : ℕ) (s u : Summary) → u ≡ s → IsSound n s → IsCounted me n u
restored_counted me n s u same sound =
    let credit = sound.credit in
    let sent = sound.sent in
    let acts = sound.acts in
    subst (IsCounted me n) (sym same) (record { sent_few = sent; taken_few = omega arith; stands_few = sound.few; sound = λ here. sound })
