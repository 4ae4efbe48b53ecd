-- The ghost steps of a history: how it begins and grows, and what its marks say. Assumes `Logic`.
use Rattle.std.proofs.Common.{ℕ, List, [], ◌∷◌, ◌++◌, refl}
use mathlib.Core.List.{IsPrefix}
use seplogic.Ra.Ura.{Ura}
use base.Fraction.{full_share}
use base.Growing.{Least, latest}
use base.Logic.{SProp, ent, sep, ex, emp, guard, upd, upd_i, via, wand, apply∗, snd∗}
use base.Before.{before}
use base.Fml.{Lft, Fml, fsep, fbor}
use types.Logic.{Logic, sem, lfts}
use types.Owned.{basic}
use types.Growing.{latest_new, latest_grows, latest_shows, latest_bounds, at_least_dup, at_least_join}
use types.Kit.{‵, raw, ◌⊛◌, some, later, ◌$◌, ◌∵◌, !, qed, move, drop, split, suffices, done, use0, use1, use2, settle, await, updating, keep, fjoin, now, show, pick}
use denote.Sharing.{ShrLaws, said}
use denote.Struct.Lending.{Lends}
use Rattle.ring_records.specs.declared.notice.Notice.{Notice}
use Rattle.decision_board.specs.History.{histories, mark_owns, right_owns}

-- what is marked may be had twice, and lent
module _ (history : ℕ) (notices : List Notice) where
  abbrev P : Fml
  P = mark_owns history notices

  pub twice : {M : Type 1} {𝓤 : Ura M} (𝓛 : Logic 𝓤) → ent 𝓤 (sem 𝓛 P) (sep 𝓤 (sem 𝓛 P) (sem 𝓛 P))
  twice 𝓛 = at_least_dup histories 𝓛 history notices

  pub marks_last : ShrLaws (said P)
  marks_last = record { contraction = λ M 𝓤 𝓛 _. twice 𝓛; mono = λ M 𝓤 𝓛 κ' κ. snd∗ 𝓤 (sem 𝓛 (before κ' κ)) (sem 𝓛 P) }

  pub lends : {M : Type 1} {𝓤 : Ura M} (𝓛 : Logic 𝓤) (l : Lft) → Lends 𝓛 P (said P) l
  lends {M} {𝓤} 𝓛 l κ ts inc sp = let Back = 𝓛.H.⇛ (sep 𝓤 (𝓛.A.bor κ P) (lfts 𝓛 ts)) in qed 𝓛 (‵ (fbor κ P) ∷ raw (lfts 𝓛 ts) ∷ []) {P = 𝓛.H.⇛ (sep 𝓤 (sem 𝓛 P) (lfts 𝓛 ts))} (
      updating ! $ use2 𝓛 (later (‵ P ⊛ raw (wand 𝓤 (sem 𝓛 P) Back))) (𝓛.more.bor_acc_by κ ts P sp) $ await ! tt $ split ! $ use1 𝓛 (‵ P ⊛ ‵ P) (twice 𝓛) $ split ! $ move ! (0 ∷ 2 ∷ []) $
      use2 𝓛 (later (‵ (fbor κ P) ⊛ raw (lfts 𝓛 ts))) (apply∗ 𝓤 (sem 𝓛 P) Back) $ await ! tt $ split ! $ drop ! $ move ! (1 ∷ 0 ∷ []) $ now ! $ done !)

module _ {M : Type 1} {𝓤 : Ura M} (𝓛 : Logic 𝓤) where
  open 𝓛 use {H}

  abbrev ⟦◌⟧ : Fml → SProp 𝓤
  ⟦ P ⟧ = sem 𝓛 P

  abbrev ◌∗◌ : SProp 𝓤 → SProp 𝓤 → SProp 𝓤
  P ∗ Q = sep 𝓤 P Q

  abbrev ◌⊢◌ : SProp 𝓤 → SProp 𝓤 → Type 1
  P ⊢ Q = ent 𝓤 P Q

  infix 26 ◌⊢◌
  infixr 35 ◌∗◌
  -- a history that nobody else knows
  pub begins : emp 𝓤 ⊢ H.⇛ (ex 𝓤 (λ (n : ℕ). ⟦ fsep (mark_owns n []) (right_owns n []) ⟧))
  begins = qed 𝓛 [] ∵ updating ! $ use0 𝓛 (later (some (λ (n : ℕ). ‵ (latest histories full_share n [])))) (via 𝓤 _ (latest_new histories 𝓛 []) (basic 𝓛 _)) $ await ! tt $ pick ! (λ n.
      use1 𝓛 (‵ (right_owns n []) ⊛ ‵ (mark_owns n [])) (latest_shows histories 𝓛 full_share n [] [] (histories.same [])) $ split ! $ move ! (1 ∷ 0 ∷ []) $ fjoin ! $
      now ! $ show ! (λ (m : ℕ). ⟦ fsep (mark_owns m []) (right_owns m []) ⟧) n $ keep ! (0 ∷ []) $ done !)

  -- it grows by a notice, and that is marked
  grown : (n : ℕ) (xs : List Notice) (x : Notice) → ⟦ right_owns n xs ⟧ ⊢ upd 𝓤 (⟦ right_owns n (xs ++ x ∷ []) ⟧ ∗ ⟦ mark_owns n (xs ++ x ∷ []) ⟧)
  grown n xs x = let ys : List Notice = xs ++ x ∷ [] in let G : SProp 𝓤 = ⟦ right_owns n ys ⟧ ∗ ⟦ mark_owns n ys ⟧ in
      qed 𝓛 (‵ (right_owns n xs) ∷ []) ∵
      use1 𝓛 (raw (upd 𝓤 ⟦ right_owns n ys ⟧)) (latest_grows histories 𝓛 n xs ys (x ∷ [], refl)) $ settle 𝓛 G (‵ (right_owns n ys)) $
      use1 𝓛 (‵ (right_owns n ys) ⊛ ‵ (mark_owns n ys)) (latest_shows histories 𝓛 full_share n ys ys (histories.same ys)) $ split ! $
      suffices ! _ (upd_i 𝓤 G) $ done !

  pub grows : (n : ℕ) (xs : List Notice) (x : Notice) → ⟦ right_owns n xs ⟧ ⊢ H.⇛ (⟦ right_owns n (xs ++ x ∷ []) ⟧ ∗ ⟦ mark_owns n (xs ++ x ∷ []) ⟧)
  grows n xs x = via 𝓤 _ (grown n xs x) (basic 𝓛 _)

  -- it begins with what is marked
  pub bounds : (n : ℕ) (ys xs : List Notice) → ⟦ right_owns n ys ⟧ ∗ ⟦ mark_owns n xs ⟧ ⊢ guard 𝓤 (IsPrefix xs ys) (⟦ right_owns n ys ⟧ ∗ ⟦ mark_owns n xs ⟧)
  bounds n ys xs = latest_bounds histories 𝓛 full_share n ys xs

  -- two marks begin one list
  pub joins : (n : ℕ) (xs ys : List Notice) → ⟦ mark_owns n xs ⟧ ∗ ⟦ mark_owns n ys ⟧ ⊢ ex 𝓤 (λ (zs : List Notice). guard 𝓤 (Least histories.le xs ys zs) ⟦ mark_owns n zs ⟧)
  joins n xs ys = at_least_join histories 𝓛 n xs ys
