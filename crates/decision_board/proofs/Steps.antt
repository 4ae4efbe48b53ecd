-- A step that only goes on with the list keeps the rule of what readers take.
use Rattle.std.proofs.Common.{◌≡◌, ℕ, ◌≢◌, List, [], refl, subst, ⊎_elim}
use mathlib.Core.Option.{some}
use mathlib.Core.List.{IsPrefix}
use lib.ListN.{get_elem?}
use Rattle.crossbeam_utils.specs.Register.{Admits, TurnsAt}
use Rattle.atomic_table.proofs.Lists.{at_set, at_snoc}
use Rattle.ring_records.specs.declared.notice.Notice.{Notice}
use Rattle.ring_records.proofs.Prefixes.{prefix_self, prefix_trans}
use Rattle.decision_board.specs.declared.store.Store.{Store}
use Rattle.decision_board.specs.Posts.{IsPosted, Keeps, Shows}

-- a reader that has seen nothing joins
pub admits : (history : ℕ) → Admits (Keeps history) []
admits history x views h = (h.0, λ seat v at. ⊎_elim (h.1 seat v) (λ (e : [] ≡ v). subst (λ w. IsPrefix w x.front.mark.notices) e (x.front.mark.notices, refl)) (at_snoc views [] v seat at))

pub steps : (history : ℕ) (seat : ℕ) (v : List Notice) (x y : Store) → (IsPosted history x → IsPosted history y) → IsPrefix x.front.mark.notices y.front.mark.notices → TurnsAt (Keeps history) seat v x y (Shows history)
steps history seat v x y stays up views h at =
    let posted = stays h.0 in
    let ds = y.front.mark.notices in (
      ds,
      (
        posted,
        λ j u e. ⊎_elim (λ (t : (j ≡ seat) × (ds ≡ u)). subst (λ w. IsPrefix w ds) t.1 (prefix_self ds))
            (λ (t : (j ≢ seat) × (get_elem? views j ≡ some u)). prefix_trans u x.front.mark.notices ds (h.1 j u t.1) up) (at_set views seat j ds u e),
      ),
      (posted, prefix_trans v x.front.mark.notices ds (h.1 seat v at) up, refl),
    )
