-- `covers` compares a mark with what its history is.
use mathlib.Core.Path.{◌≡◌, refl}
use mathlib.Core.List.{List, [], ◌∷◌}
use mathlib.Core.List.{IsPrefix}
use Prim.Native.Nat.{ℕ}
use mir.Syntax.{named}
use mir.Val.{Val, vunit, vptr}
use base.Fml.{ftrue, flft}
use types.Kit.{‵, raw, ◌⊛◌, given, ◌$◌, ◌∵◌, !, qed, by, move, keep, drop, split, join, fsplit, fsplit3, fjoin, fjoin3, learn, use0, use2, rewrite, feq_i}
use types.Run.{unit_lit, of_opd, returns, enter}
use types.ByLocal.{alloc_all, pass_all, free_all, look_at, sets}
use contract.Running.{tables}
use denote.Exit.{yes}
use denote.RattleType.{RattleType, owns}
use denote.Builtin.{RefOf}
use denote.Ref.{mut_vals, mut_Tells, shr_vals, shr_Tells}
use denote.Signature.{types_at, plain}
use denote.Opens.{unhide}
use denote.Steps.{nothing, opens, closes}
use denote.Triple.Walked.{Stays, stay_dropped, stay_ref, walk_of, Goes-dropped, Goes-ref}
use Rattle.core.proofs.ledger.Walks.{facts, tells_all, hears_last}
use Rattle.std.proofs.raw_atomic.Walks.{proved, leaves}
use Rattle.decision_board.specs.History.{mark_owns, right_owns}
use Rattle.decision_board.specs.contracts.tokens.Right as the-right
use Rattle.decision_board.specs.contracts.tokens.Mark as the-mark
use Rattle.decision_board.proofs.Histories as steps
use Rattle.decision_board.specs.contracts.tokens.covers as f
use Rattle.decision_board.proofs.tokens.covers.Statement.{statement}
use Rattle.decision_board.proofs.tokens.covers.Code as code

abbrev A : RattleType
A = the-right.the_row

abbrev B : RattleType
B = the-mark.the_row

abbrev stayed : Stays f.ended.signature.params f.ended.kept
stayed = (stay_dropped (RefOf (0 ∷ []) tt (plain (λ _. B)) (λ _. tt)) yes, (stay_ref (1 ∷ []) tt (plain (λ _. A)), tt))

pub covers_spec : {M : Type 1} → statement M
covers_spec 𝓤 𝓛 𝓜 𝓡 wired =
    let c = f.clauses 𝓛 𝓜.mem 𝓡.returns in let 𝓣 = tables 𝓤 𝓛.H 𝓜 𝓡 𝓡.env in let W = walk_of 𝓛 f.ended stayed c in
    proved 𝓛 f.ended stayed c 𝓜 𝓡
    (Goes-dropped 𝓛 2 (RefOf (0 ∷ []) tt (plain (λ _. B)) (λ _. tt)) yes (λ κs x w. refl), (Goes-ref 𝓛 2 1 tt (plain (λ _. A)), tt))
    f.Key.name code.function (code.unfolded 𝓤 𝓛.H 𝓜 𝓡 wired)
    (λ κs. (shr_vals, (mut_vals, tt))) (λ κs. (shr_Tells (named 0) κs.0 B, (mut_Tells (named 1) κs.1.0 A, tt))) (λ κs qs bounds a g are.
    let s = a.1.0 in let u : Val = vptr a.0.ref_ptr.0 a.0.ref_ptr.1 in let v : Val = vptr s.ref_ptr.0 s.ref_ptr.1 in
    let mark : B.Denot = a.0.now in let right : A.Denot = s.now in let n : ℕ = right.history in
    let y : W.Ghost = ((κs, qs, bounds, a, (u ∷ [], (v ∷ [], tt))), g) in
    qed 𝓛 (((‵ (flft κs.0 qs.0) ⊛ ‵ (flft κs.1.0 qs.1.0) ⊛ ‵ ftrue) ⊛ ‵ (owns (types_at f.ended.signature.params κs) a y.0.4)) ∷ raw ((c κs a).requires g) ∷ []) ∵
    move ! (1 ∷ []) $ hears_last ! (λ named. split ! $ split ! $ move ! (1 ∷ []) $ split ! $ move ! (3 ∷ []) $ fsplit ! $ fsplit ! $ drop ! $ unhide ! $ fsplit ! $ drop ! $
    move ! (1 ∷ []) $ fsplit ! $ fsplit3 ! $ keep ! (1 ∷ 2 ∷ 5 ∷ 4 ∷ 7 ∷ 6 ∷ []) $
    enter ! 𝓣.C 𝓣.Λ code.function (u ∷ v ∷ []) (W.post y) $ alloc_all ! (λ l. pass_all ! refl ((tt, tt), ((tt, tt), tt)) $
    opens ! tt A s.ref_ptr.0 s.ref_ptr.1 (λ ds. move ! (1 ∷ []) $ fsplit ! $ move ! (1 ∷ 6 ∷ []) $
    rewrite ! 1 (λ (k : ℕ). ‵ (mark_owns k mark.notices)) {x = n} {y = mark.history} named refl $
    use2 𝓛 (given (IsPrefix mark.notices right.notices) (‵ (right_owns n right.notices) ⊛ ‵ (mark_owns n mark.notices))) (steps.bounds 𝓛 n right.notices mark.notices) $
    learn ! (λ begins. split ! $ move ! (1 ∷ []) $ drop ! $ move ! (1 ∷ 0 ∷ []) $ fjoin ! $ move ! (1 ∷ 0 ∷ []) $ closes ! tt A right ds s.ref_ptr.0 s.ref_ptr.1 $
    sets ! (of_opd ! (unit_lit !)) refl (tt, tt) $ returns ! (look_at ! 0 refl) $ free_all ! refl $
    feq_i ! (List Val) (v ∷ []) (v ∷ []) refl $ fjoin3 ! $ nothing ! $ move ! (1 ∷ 0 ∷ []) $ fjoin ! $ nothing ! $ fjoin ! $
    feq_i ! (List Val) (vunit ∷ []) (vunit ∷ []) refl $ move ! (2 ∷ 4 ∷ []) $ join ! $ move ! (3 ∷ 0 ∷ []) $ join ! $
    use0 𝓛 (raw (facts 𝓤 (IsPrefix mark.notices right.notices ∷ (right ≡ right) ∷ []))) (tells_all 𝓤 (IsPrefix mark.notices right.notices ∷ (right ≡ right) ∷ []) (begins, refl)) $
    keep ! (1 ∷ 3 ∷ 2 ∷ 0 ∷ []) $ by ! (leaves 𝓛 f.ended stayed c y vunit tt (tt, (right, tt)) (tt, (tt, tt))))))))
