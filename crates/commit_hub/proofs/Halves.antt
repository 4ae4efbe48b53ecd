-- The ghost steps of two halves and of tokens. Assumes `Logic`.
use Rattle.std.proofs.Common.{◌≡◌, ℕ, List, [], ◌∷◌, refl}
use mathlib.Core.List.{IsPrefix}
use seplogic.Ra.Ura.{Ura}
use base.Fraction.{full_share}
use base.Share.{quarter, three_quarters, quarters}
use base.Growing.{latest, at_least}
use base.Logic.{SProp, ent, sep, ex, emp, guard, upd, upd_i, via}
use base.Fml.{Fml, fsep, fobs, fauth}
use types.Logic.{Logic, sem}
use types.Owned.{basic}
use types.Growing.{latest_new, latest_grows, latest_shows, latest_bounds, latest_cut, latest_glue}
use types.Kit.{‵, raw, ◌⊛◌, some, given, later, ◌$◌, ◌∵◌, !, qed, move, split, learn, suffices, done, use0, use1, use2, settle, check, await, updating, keep, fsplit, fjoin, now, show, rewrite, pick}
use types.Tokens.{name_new}
use Rattle.ring_records.specs.declared.input.Input.{Input}
use Rattle.commit_hub.specs.Tied.{coded_view, histories, held_owns, known_owns, begun_owns, nothing as none_durable}
use Rattle.commit_hub.specs.Ties.{Names, TieView}

module _ {M : Type 1} {𝓤 : Ura M} (𝓛 : Logic 𝓤) where
  open 𝓛 use {H, A}

  abbrev ⟦◌⟧ : Fml → SProp 𝓤
  ⟦ P ⟧ = sem 𝓛 P

  abbrev ◌∗◌ : SProp 𝓤 → SProp 𝓤 → SProp 𝓤
  P ∗ Q = sep 𝓤 P Q

  abbrev ◌⊢◌ : SProp 𝓤 → SProp 𝓤 → Type 1
  P ⊢ Q = ent 𝓤 P Q

  infix 26 ◌⊢◌
  infixr 35 ◌∗◌
  abbrev Both : Names → TieView → TieView → TieView → SProp 𝓤
  Both n x y z = guard 𝓤 (y ≡ x) (⟦ known_owns n z ⟧ ∗ ⟦ held_owns n z ⟧)

  set : (n : Names) (x y z : TieView) → IsPrefix x.durable.inputs z.durable.inputs → ⟦ known_owns n y ⟧ ∗ ⟦ held_owns n x ⟧ ⊢ upd 𝓤 (Both n x y z)
  set n x y z longer = let c = coded_view.code in let G : SProp 𝓤 = Both n x y z in let γ : ℕ = n.value in let η : ℕ = n.history in
      qed 𝓛 (‵ (known_owns n y) ∷ ‵ (held_owns n x) ∷ []) ∵ fsplit ! $ move ! (2 ∷ []) $ fsplit ! $ move ! (2 ∷ 0 ∷ []) $
      use2 𝓛 (given (c y ≡ c x) (‵ (fobs γ (c y)) ⊛ ‵ (fauth γ (c x)))) (𝓛.names.name_agree γ (c y) (c x)) $ learn ! (λ e.
      use1 𝓛 (raw (upd 𝓤 (A.obs γ (c z) ∗ A.auth γ (c z)))) (𝓛.names.name_set_upd γ (c y) (c x) (c z)) $ settle 𝓛 G (‵ (fobs γ (c z)) ⊛ ‵ (fauth γ (c z))) $ split ! $
      move ! (3 ∷ 2 ∷ []) $ rewrite ! 0 (λ (d : TieView). ‵ (latest histories quarter η d.durable.inputs)) {x = x} {y = y} (coded_view.inj y x e) refl $
      use2 𝓛 (‵ (latest histories full_share η x.durable.inputs)) (latest_glue histories 𝓛 full_share quarter three_quarters η x.durable.inputs quarters) $
      use1 𝓛 (raw (upd 𝓤 ⟦ latest histories full_share η z.durable.inputs ⟧)) (latest_grows histories 𝓛 η x.durable.inputs z.durable.inputs longer) $ settle 𝓛 G (‵ (latest histories full_share η z.durable.inputs)) $
      use1 𝓛 (‵ (latest histories quarter η z.durable.inputs) ⊛ ‵ (latest histories three_quarters η z.durable.inputs)) (latest_cut histories 𝓛 full_share quarter three_quarters η z.durable.inputs quarters) $ split ! $
      suffices ! G (upd_i 𝓤 G) $ check ! (coded_view.inj y x e) $ move ! (2 ∷ 0 ∷ []) $ fjoin ! $ move ! (2 ∷ 1 ∷ []) $ fjoin ! $ move ! (1 ∷ 0 ∷ []) $ done !)

  pub sets : (n : Names) (x y z : TieView) → IsPrefix x.durable.inputs z.durable.inputs → ⟦ known_owns n y ⟧ ∗ ⟦ held_owns n x ⟧ ⊢ H.⇛ (Both n x y z)
  sets n x y z longer = via 𝓤 _ (set n x y z longer) (basic 𝓛 _)

  -- what is durable now may be told, and stays
  pub tells : (n : Names) (x : TieView) → ⟦ held_owns n x ⟧ ⊢ ⟦ held_owns n x ⟧ ∗ ⟦ begun_owns n.history x.durable.inputs ⟧
  tells n x = qed 𝓛 (‵ (held_owns n x) ∷ []) ∵ fsplit ! $ move ! (1 ∷ []) $
      use1 𝓛 (‵ (latest histories three_quarters n.history x.durable.inputs) ⊛ ‵ (at_least histories n.history x.durable.inputs)) (latest_shows histories 𝓛 three_quarters n.history x.durable.inputs x.durable.inputs (histories.same x.durable.inputs)) $ split ! $
      move ! (2 ∷ 0 ∷ []) $ fjoin ! $ done !

  -- what was told is a beginning of what is durable now
  pub bounds : (n : Names) (y : TieView) (m : List Input) → ⟦ known_owns n y ⟧ ∗ ⟦ begun_owns n.history m ⟧ ⊢ guard 𝓤 (IsPrefix m y.durable.inputs) (⟦ known_owns n y ⟧ ∗ ⟦ begun_owns n.history m ⟧)
  bounds n y m = qed 𝓛 (‵ (known_owns n y) ∷ ‵ (begun_owns n.history m) ∷ []) ∵ fsplit ! $ move ! (1 ∷ 2 ∷ []) $
      use2 𝓛 (given (IsPrefix m y.durable.inputs) (‵ (latest histories quarter n.history y.durable.inputs) ⊛ ‵ (at_least histories n.history m))) (latest_bounds histories 𝓛 quarter n.history y.durable.inputs m) $ learn ! (λ p. split ! $
      check ! p $ move ! (2 ∷ 0 ∷ []) $ fjoin ! $ done !)

  -- a value that nobody else knows
  pub begins : emp 𝓤 ⊢ H.⇛ (ex 𝓤 (λ (n : Names). ⟦ fsep (known_owns n none_durable) (held_owns n none_durable) ⟧))
  begins = qed 𝓛 [] ∵ updating ! $ use0 𝓛 (later (some (λ (η : ℕ). ‵ (latest histories full_share η [])))) (via 𝓤 _ (latest_new histories 𝓛 []) (basic 𝓛 _)) $ await ! tt $ pick ! (λ η.
      use1 𝓛 (‵ (latest histories quarter η []) ⊛ ‵ (latest histories three_quarters η [])) (latest_cut histories 𝓛 full_share quarter three_quarters η [] quarters) $ split ! $
      name_new ! tt (coded_view.code none_durable) (λ γ. let n : Names = record { value = γ; history = η } in
      move ! (0 ∷ 2 ∷ []) $ fjoin ! $ move ! (1 ∷ 2 ∷ []) $ fjoin ! $ move ! (1 ∷ 0 ∷ []) $ fjoin ! $
      now ! $ show ! (λ (g : Names). ⟦ fsep (known_owns g none_durable) (held_owns g none_durable) ⟧) n $ keep ! (0 ∷ []) $ done !))
