-- `compare` joins what two marks say.
use mathlib.Core.Path.{refl}
use mathlib.Core.List.{List, [], ◌∷◌}
use mathlib.Core.List.{IsPrefix}
use Prim.Native.Nat.{ℕ}
use mir.Syntax.{named}
use mir.Val.{Val, vunit, vptr}
use base.Logic.{emp}
use base.Growing.{Least}
use types.Kit.{‵, raw, ◌⊛◌, some, given, ◌$◌, ◌∵◌, !, qed, by, move, keep, drop, split, fsplit, fjoin, pick, learn, use0, use2, rewrite, feq_i}
use types.Run.{unit_lit, of_opd, returns, enter}
use types.ByLocal.{alloc_all, pass_all, free_all, look_at, sets}
use contract.Monad.{fact, fact_i}
use contract.Running.{tables}
use denote.Exit.{yes}
use denote.RattleType.{RattleType, owns}
use denote.Builtin.{RefOf}
use denote.Ref.{shr_vals, shr_Tells}
use denote.Signature.{types_at, plain}
use denote.Opens.{unhide}
use denote.Steps.{nothing}
use denote.Triple.Entry.{alive}
use denote.Triple.Walked.{Stays, stay_dropped, walk_of, Goes-dropped}
use Rattle.core.proofs.ledger.Walks.{hears_last}
use Rattle.std.proofs.raw_atomic.Walks.{proved, leaves}
use Rattle.ring_records.specs.declared.notice.Notice.{Notice}
use Rattle.decision_board.specs.History.{histories, mark_owns}
use Rattle.decision_board.specs.contracts.tokens.Right as the-right
use Rattle.decision_board.specs.contracts.tokens.Mark as the-mark
use Rattle.decision_board.proofs.Histories as steps
use Rattle.decision_board.specs.contracts.tokens.compare as f
use Rattle.decision_board.proofs.tokens.compare.Statement.{statement}
use Rattle.decision_board.proofs.tokens.compare.Code as code

abbrev A : RattleType
A = the-right.the_row

abbrev B : RattleType
B = the-mark.the_row

abbrev stayed : Stays f.ended.signature.params f.ended.kept
stayed = (stay_dropped (RefOf (0 ∷ []) tt (plain (λ _. B)) (λ _. tt)) yes, (stay_dropped (RefOf (1 ∷ []) tt (plain (λ _. B)) (λ _. tt)) yes, tt))

pub compare_spec : {M : Type 1} → statement M
compare_spec 𝓤 𝓛 𝓜 𝓡 wired =
    let c = f.clauses 𝓛 𝓜.mem 𝓡.returns in let 𝓣 = tables 𝓤 𝓛.H 𝓜 𝓡 𝓡.env in let W = walk_of 𝓛 f.ended stayed c in
    proved 𝓛 f.ended stayed c 𝓜 𝓡
    (Goes-dropped 𝓛 2 (RefOf (0 ∷ []) tt (plain (λ _. B)) (λ _. tt)) yes (λ κs x w. refl), (Goes-dropped 𝓛 2 (RefOf (1 ∷ []) tt (plain (λ _. B)) (λ _. tt)) yes (λ κs x w. refl), tt))
    f.Key.name code.function (code.unfolded 𝓤 𝓛.H 𝓜 𝓡 wired)
    (λ κs. (shr_vals, (shr_vals, tt))) (λ κs. (shr_Tells (named 0) κs.0 B, (shr_Tells (named 1) κs.1.0 B, tt))) (λ κs qs bounds a g are.
    let u : Val = vptr a.0.ref_ptr.0 a.0.ref_ptr.1 in let v : Val = vptr a.1.0.ref_ptr.0 a.1.0.ref_ptr.1 in
    let one : B.Denot = a.0.now in let other : B.Denot = a.1.0.now in let n : ℕ = one.history in
    let E : Type 0 = (list : List Notice) × IsPrefix one.notices list × IsPrefix other.notices list in
    let y : W.Ghost = ((κs, qs, bounds, a, (u ∷ [], (v ∷ [], tt))), g) in
    qed 𝓛 ((raw (alive 𝓛 f.ended.signature κs qs) ⊛ ‵ (owns (types_at f.ended.signature.params κs) a y.0.4)) ∷ raw ((c κs a).requires g) ∷ []) ∵
    move ! (1 ∷ []) $ hears_last ! (λ named. split ! $ move ! (1 ∷ []) $ fsplit ! $ fsplit ! $ drop ! $ unhide ! $ fsplit ! $ drop ! $
    move ! (1 ∷ []) $ fsplit ! $ fsplit ! $ drop ! $ unhide ! $ fsplit ! $ drop ! $ keep ! (2 ∷ 0 ∷ 3 ∷ []) $
    rewrite ! 1 (λ (k : ℕ). ‵ (mark_owns k other.notices)) {x = n} {y = other.history} named refl $
    use2 𝓛 (some (λ (zs : List Notice). given (Least histories.le one.notices other.notices zs) (‵ (mark_owns n zs)))) (steps.joins 𝓛 n one.notices other.notices) $
    pick ! (λ zs. learn ! (λ least. drop ! $
    enter ! 𝓣.C 𝓣.Λ code.function (u ∷ v ∷ []) (W.post y) $ alloc_all ! (λ l. pass_all ! refl ((tt, tt), ((tt, tt), tt)) $
    sets ! (of_opd ! (unit_lit !)) refl (tt, tt) $ feq_i ! (List Val) (vunit ∷ []) (vunit ∷ []) refl $
    returns ! (look_at ! 0 refl) $ free_all ! refl $ nothing ! $ nothing ! $ fjoin ! $ nothing ! $ fjoin ! $
    use0 𝓛 (raw (fact 𝓤 E)) (fact_i 𝓤 E (emp 𝓤) (zs, least.0, least.1)) $
    keep ! (3 ∷ 1 ∷ 2 ∷ 0 ∷ []) $ by ! (leaves 𝓛 f.ended stayed c y vunit tt (tt, (tt, tt)) (tt, (tt, tt))))))))
