-- What a core has against an input: first by what it knows, and then by its room.
use Rattle.std.proofs.Common.{ℕ, ◌≡◌, cond, arith, true, false, ltb, Ok, Err, Option, Some, None, refl, sym, ap, subst, ◌∙◌}
use Rattle.std.specs.FinMap as map
use Rattle.std.specs.Prelude.{unwrap_or}
use Rattle.std.proofs.lemmas.Bool.{le-ltb}
use Rattle.ring_records.specs.declared.candidate.Candidate.{Candidate}
use Rattle.ring_records.specs.declared.input.Input.{Input}
use Rattle.ring_records.specs.declared.key.Key.{Key}
use Rattle.ring_records.specs.declared.refusal.Refusal.{Refusal}
use Rattle.ring_records.specs.declared.refusal.Refusal.TheVariants as refused
use Rattle.ring_records.specs.declared.room.Room.{Room}
use Rattle.ring_records.specs.declared.summary.Summary.{Summary}
use Rattle.ring_records.specs.Admission.{newest, no_room, snapshot_len}
use Rattle.ring_records.specs.Known.{Objects, known_of, leader_of, stepped}
use Rattle.ring_records.specs.Lists.{or_else}
use Rattle.ring_records.proofs.Admission.{or_else-none}
use Rattle.node_core.specs.Brought.{who_by}
use Rattle.node_core.specs.Core.{CoreView, Refuses}
use Rattle.node_core.specs.FreeCore.{FreeView, taking}

pub refuses_first : (core : CoreView) (x : Input) (first : Option Refusal) (r : Refusal) → Objects core.size core.known x first → first ≡ Some r → Refuses core x (Some r)
refuses_first core x first r objects e = (first, objects, sym (ap (λ o. or_else o (no_room core.capacity core.room x (snapshot_len newest (stepped core.me core.known x)))) e))

pub refuses_last : (core : CoreView) (x : Input) (first last : Option Refusal) → Objects core.size core.known x first → first ≡ None
    → last ≡ no_room core.capacity core.room x (snapshot_len newest (stepped core.me core.known x)) → Refuses core x last
refuses_last core x first last objects e is = (
  first,
  objects,
  is ∙ (λ i. or_else (sym e i) (no_room core.capacity core.room x (snapshot_len newest (stepped core.me core.known x)))),
)

-- where nothing is said, nothing is known against the input
pub objects_none : (core : CoreView) (x : Input) → Refuses core x None → Objects core.size core.known x None
objects_none core x (first, objects, e) = subst (Objects core.size core.known x) (or_else-none _ _ (sym e)).0 objects

-- ---- as it is seen once it has accepted an input

pub stepped_core : (now : CoreView) (free new : FreeView) (capacity : ℕ) (room next : Room) (x : Input)
    → record { me = free.me; size = free.size; capacity = capacity; known = free.known; room = room } ≡ now
    → new ≡ record free { known = stepped free.me free.known x } → next ≡ taking x room
    → record { me = new.me; size = new.size; capacity = capacity; known = new.known; room = next } ≡ record now { known = stepped now.me now.known x; room = taking x now.room }
stepped_core now free new capacity room next x view e r =
    (λ i. record { me = (e i).me; size = (e i).size; capacity = capacity; known = (e i).known; room = r i })
    ∙ ap (λ (v : CoreView). record v { known = stepped v.me v.known x; room = taking x v.room }) view

-- ---- who leads

pub who_below : (s : Summary) (key : Key) (o : Option ℕ) (floor : ℕ) → o ≡ map.get s.floors key.group → o ≡ Some floor → ltb key.term floor ≡ true → Err (refused.Retired floor) ≡ who_by s key
who_below s key o floor told some below = sym (
    ap (λ (p : Option ℕ). cond (ltb key.term (unwrap_or p 0)) (Err (refused.Retired (unwrap_or p 0))) (Ok (leader_of (known_of s key)))) (sym told ∙ some)
    ∙ ap (λ b. cond b (Err (refused.Retired floor)) (Ok (leader_of (known_of s key)))) below)

pub who_live : (s : Summary) (key : Key) (o : Option ℕ) (led : Option Candidate) → o ≡ map.get s.floors key.group → ((floor : ℕ) → o ≡ Some floor → ltb key.term floor ≡ false)
    → led ≡ leader_of (known_of s key) → Ok led ≡ who_by s key
who_live s key o led told live is =
    ap Ok is ∙ sym (ap (λ (p : Option ℕ). cond (ltb key.term (unwrap_or p 0)) (Err (refused.Retired (unwrap_or p 0))) (Ok (leader_of (known_of s key)))) (sym told) ∙ at o live)
  where
    at : (o : Option ℕ) → ((floor : ℕ) → o ≡ Some floor → ltb key.term floor ≡ false)
        → cond (ltb key.term (unwrap_or o 0)) (Err (refused.Retired (unwrap_or o 0))) (Ok (leader_of (known_of s key))) ≡ Ok (leader_of (known_of s key))
    at None live = ap (λ b. cond b (Err (refused.Retired 0)) (Ok (leader_of (known_of s key)))) (le-ltb key.term 0 (omega arith))
    at (Some floor) live = ap (λ b. cond b (Err (refused.Retired floor)) (Ok (leader_of (known_of s key)))) (live floor refl)
