-- No number that is told has a fraction.
use Rattle.std.proofs.Common.{ℕ, ◌≡◌, Bool, false, ◌||◌, List, [], ◌∷◌, map, Option, Some, None, option_map, refl, ap, ap₂}
use Rattle.serde_json.specs.Data.{Data}
use Rattle.serde_json.specs.View.{items_of}
use Rattle.serde_json.specs.Written.{has_float, items_have_float}
use Rattle.ring_records.specs.declared.decision.Decision.{Decision}
use Rattle.ring_status.specs.Data.{identity_data, latest_data, lead_data, natural, node_data, refusal_data, status_data, leaders_data}
use Rattle.ring_status.specs.declared.holder.Holder.{Holder}
use Rattle.ring_status.specs.declared.values.NodeStatus.{NodeStatus}
use Rattle.ring_status.specs.declared.values.RingStatus.{RingStatus}

each_has_none : {A : Type 0} (data_of : A → Data) → ((x : A) → has_float (data_of x) ≡ false) → (xs : List A) → items_have_float (items_of (map data_of xs)) ≡ false
each_has_none data_of none [] = refl
each_has_none data_of none (x ∷ xs) = ap₂ (λ (a b : Bool). a || b) (none x) (each_has_none data_of none xs)

node_has_none : (node : NodeStatus) → has_float (node_data node) ≡ false
node_has_none node = ap (λ (b : Bool). (b || false) || false) (each_has_none refusal_data (λ told. refl) (node.refusals).items)

identity_has_none : (ring : Option (List ℕ)) → has_float (identity_data ring) ≡ false
identity_has_none None = refl
identity_has_none (Some text) = refl

pub ring_has_none : (ring : RingStatus) → has_float (status_data ring) ≡ false
unfolding status_data
ring_has_none ring =
    ap₂ (λ (a b : Bool). a || b) (each_has_none natural (λ node. refl) (ring.doorless).now)
    (ap₂ (λ (a b : Bool). a || (b || false)) (each_has_none node_data node_has_none (ring.nodes).now)
    (identity_has_none (option_map (λ text. text.now) ring.ring)))

pub page_has_none : (node : ℕ) (leads : List Decision) (more : Bool) → has_float (leaders_data node leads more) ≡ false
unfolding leaders_data
page_has_none node leads more = ap (λ (b : Bool). b || false) (each_has_none lead_data (λ lead. refl) leads)

pub one_has_none : (node : ℕ) (lead : Decision) (holder : Holder) → has_float (latest_data node lead holder) ≡ false
unfolding latest_data
one_has_none node lead holder = refl
