-- `add` sets the right in one ghost step, and marks what it says.
use mathlib.Core.Path.{◌≡◌, refl}
use mathlib.Core.List.{List, [], ◌∷◌, ◌++◌}
use Prim.Native.Nat.{ℕ}
use mir.Syntax.{named}
use mir.Val.{Val, vptr}
use base.Fml.{ftrue, flft}
use types.Kit.{‵, raw, ◌⊛◌, later, ◌$◌, ◌∵◌, !, qed, by, move, keep, split, join, fsplit, fsplit3, fjoin, fjoin3, use0, use1, await, feq_i}
use types.Run.{no_more, and_then, returns, enter}
use types.ByLocal.{alloc_all, pass_all, free_all, look_at, get, sets}
use types.Part.{agg}
use contract.Running.{tables}
use denote.Exit.{yes}
use denote.RattleType.{RattleType, owns}
use denote.Builtin.{RefOf, unit}
use denote.Ref.{mut_vals, mut_Tells, shr_vals, shr_Tells}
use denote.Signature.{types_at, plain}
use denote.Steps.{nothing, opens, closes}
use denote.Triple.Walked.{Stays, stay_dropped, stay_ref, walk_of, Goes-dropped, Goes-ref}
use Rattle.core.proofs.ledger.Walks.{token, Mark as Marker, made, facts, tells_all}
use Rattle.std.proofs.raw_atomic.Walks.{proved, leaves}
use Rattle.ring_records.specs.declared.notice.Notice.{Notice}
use Rattle.ring_records.specs.contracts.notice.Notice as a-notice
use Rattle.decision_board.specs.History.{mark_owns, right_owns}
use Rattle.decision_board.specs.contracts.tokens.Right as the-right
use Rattle.decision_board.specs.contracts.tokens.Mark as the-mark
use Rattle.decision_board.proofs.Histories as steps
use Rattle.decision_board.specs.contracts.tokens.add as f
use Rattle.decision_board.proofs.tokens.add.Statement.{statement}
use Rattle.decision_board.proofs.tokens.add.Code as code

abbrev A : RattleType
A = the-right.the_row

abbrev B : RattleType
B = the-mark.the_row

abbrev N : RattleType
N = a-notice.the_row

abbrev stayed : Stays f.ended.signature.params f.ended.kept
stayed = (stay_ref (0 ∷ []) tt (plain (λ _. A)), (stay_dropped (RefOf (1 ∷ []) tt (plain (λ _. N)) (λ _. tt)) yes, tt))

pub add_spec : {M : Type 1} → statement M
add_spec 𝓤 𝓛 𝓜 𝓡 wired =
    let c = f.clauses 𝓛 𝓜.mem 𝓡.returns in let 𝓣 = tables 𝓤 𝓛.H 𝓜 𝓡 𝓡.env in let W = walk_of 𝓛 f.ended stayed c in
    proved 𝓛 f.ended stayed c 𝓜 𝓡
    (Goes-ref 𝓛 2 0 tt (plain (λ _. A)), (Goes-dropped 𝓛 2 (RefOf (1 ∷ []) tt (plain (λ _. N)) (λ _. tt)) yes (λ κs x w. refl), tt))
    f.Key.name code.function (code.unfolded 𝓤 𝓛.H 𝓜 𝓡 wired)
    (λ κs. (mut_vals, (shr_vals, tt))) (λ κs. (mut_Tells (named 0) κs.0 A, (shr_Tells (named 1) κs.1.0 N, tt))) (λ κs qs bounds a g are.
    let r = a.0 in let u : Val = vptr r.ref_ptr.0 r.ref_ptr.1 in let v : Val = vptr a.1.0.ref_ptr.0 a.1.0.ref_ptr.1 in
    let right : A.Denot = r.now in let n : ℕ = right.history in let all : List Notice = right.notices ++ a.1.0.now ∷ [] in
    let right' : A.Denot = record { marker = right.marker; history = n; notices = all } in let mark : B.Denot = record { marker = record {}; history = n; notices = all } in
    let y : W.Ghost = ((κs, qs, bounds, a, (u ∷ [], (v ∷ [], tt))), g) in
    let φs : List (Type 0) = (n ≡ n) ∷ (all ≡ all) ∷ (n ≡ n) ∷ (all ≡ all) ∷ [] in
    qed 𝓛 (((‵ (flft κs.0 qs.0) ⊛ ‵ (flft κs.1.0 qs.1.0) ⊛ ‵ ftrue) ⊛ ‵ (owns (types_at f.ended.signature.params κs) a y.0.4)) ∷ raw ((c κs a).requires g) ∷ []) ∵
    split ! $ split ! $ move ! (2 ∷ []) $ fsplit ! $ fsplit3 ! $ keep ! (1 ∷ 2 ∷ 4 ∷ 5 ∷ []) $
    enter ! 𝓣.C 𝓣.Λ code.function (u ∷ v ∷ []) (W.post y) $ alloc_all ! (λ l. pass_all ! refl ((tt, tt), ((tt, tt), tt)) $
    opens ! tt A r.ref_ptr.0 r.ref_ptr.1 (λ cs. move ! (1 ∷ []) $ fsplit ! $ move ! (1 ∷ []) $
    use1 𝓛 (later (‵ (right_owns n all) ⊛ ‵ (mark_owns n all))) (steps.grows 𝓛 n right.notices a.1.0.now) $ await ! tt $ split ! $
    move ! (2 ∷ 0 ∷ []) $ fjoin ! $ move ! (2 ∷ 0 ∷ 3 ∷ 4 ∷ 5 ∷ []) $ closes ! tt A right' cs r.ref_ptr.0 r.ref_ptr.1 $
    sets ! (agg ! (no_more !)) refl (tt, tt) $ sets ! (agg ! (and_then ! (get ! refl) (no_more !))) refl (tt, (tt, tt)) $
    returns ! (look_at ! 0 refl) $ free_all ! refl $
    feq_i ! (List Val) (u ∷ []) (u ∷ []) refl $ fjoin3 ! $ nothing ! $ nothing ! $ fjoin ! $ move ! (1 ∷ 0 ∷ []) $ fjoin ! $ move ! (2 ∷ []) $
    use0 𝓛 (‵ ((Marker (the-mark.the_type).name [] unit).own_val (tt, tt) (token ∷ []))) (made (the-mark.the_type).name [] unit 𝓛) $ fjoin ! $
    move ! (2 ∷ 3 ∷ []) $ join ! $ use0 𝓛 (raw (facts 𝓤 φs)) (tells_all 𝓤 φs (refl, (refl, (refl, refl)))) $
    keep ! (1 ∷ 3 ∷ 2 ∷ 0 ∷ []) $ by ! (leaves 𝓛 f.ended stayed c y token mark (right', (tt, tt)) (tt, (tt, tt))))))
