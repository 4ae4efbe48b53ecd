-- `open` makes a ghost name, and hands out its two halves.
use mathlib.Core.Path.{◌≡◌, refl}
use mathlib.Core.List.{List, [], ◌∷◌, ◌++◌}
use Rattle.commit_hub.specs.Tied.{nothing as none_durable, held_owns, known_owns}
use Rattle.commit_hub.specs.Ties.{Names}
use seplogic.Ra.Ura.{Ura}
use mir.Val.{Val, vstruct, vcons, vnil, of_list}
use base.Logic.{SProp, ent, emp, via, fst∗}
use base.Fml.{fsep, feq}
use prog.Memory.{Memory}
use prog.Routine.{Routine}
use prog.Wp.{Calls, Loops, WpFn, Tables}
use types.Logic.{Logic}
use contract.Monad.{Fun}
use contract.Running.{tables, tables_of}
use sound.WpLaws.{WpFn-mono}
use types.Kit.{by, ‵, raw, some, later, ◌$◌, ◌∵◌, !, qed, move, join, fsplit, fjoin, fjoin3, fpack, pick, suffices, frame, use0, await, feq_i}
use types.Run.{no_more, and_then, returns, enter}
use types.ByLocal.{alloc_all, pass_all, free_all, look_at, get, sets}
use types.Part.{agg}
use denote.RattleType.{RattleType, Valss, owns}
use denote.Builtin.{unit}
use denote.Steps.{nothing}
use denote.Triple.Entry.{on_entry, alive}
use denote.Triple.Spec.{Meets, triple_of}
use denote.Triple.Table.{entered}
use denote.Triple.Walked.{walk_of, Walks, ends_at, walked, walk_Meets}
use Rattle.core.proofs.ledger.Walks.{token, Mark, made, tells_all}
use Rattle.commit_hub.specs.contracts.tied.Held as held-half
use Rattle.commit_hub.specs.contracts.tied.Known as known-half
use Rattle.commit_hub.proofs.Halves as steps
use Rattle.commit_hub.specs.contracts.tied.open as function
use Rattle.commit_hub.specs.contracts.tied.open.Key.{name as key}
use Rattle.commit_hub.proofs.tied.open.Statement as stated
use Rattle.commit_hub.proofs.tied.open.Code as code

abbrev A : RattleType
A = held-half.the_row

abbrev B : RattleType
B = known-half.the_row

module _ {M : Type 1} {𝓤 : Ura M} (𝓛 : Logic 𝓤) (mem : Memory → SProp 𝓤) (run : Routine → Fun 𝓤) where
  open 𝓛 use {H}

  module _ (C : Calls 𝓤 H) (Λ : Loops 𝓤 H) where
    abbrev called : (walk_of 𝓛 function.ended tt (function.clauses 𝓛 mem run)).Ghost
    called = ((tt, tt, tt, tt, tt), tt)

    walk : ent 𝓤 (on_entry 𝓛 function.signature tt tt tt tt) (WpFn 𝓤 H C Λ code.function [] ((walk_of 𝓛 function.ended tt (function.clauses 𝓛 mem run)).post called))
    walk =
        let v : Val = vstruct (vcons token (vcons token vnil)) in
        qed 𝓛 (raw (alive 𝓛 function.signature tt tt) ∷ ‵ (owns [] tt tt) ∷ []) ∵ enter ! C Λ code.function [] _ $
        alloc_all ! (λ l. pass_all ! refl tt $
        use0 𝓛 (later (some (λ (γ : Names). ‵ (fsep (known_owns γ none_durable) (held_owns γ none_durable))))) (steps.begins 𝓛) $ await ! tt $ pick ! (λ γ. fsplit ! $
        let held₀ : A.Denot = record { marker = record {}; name = γ; knows = none_durable } in let known₀ : B.Denot = record { marker = record {}; name = γ; knows = none_durable } in
        sets ! (agg ! (no_more !)) refl (tt, tt) $ sets ! (agg ! (and_then ! (get ! refl) (no_more !))) refl (tt, (tt, tt)) $ sets ! (agg ! (no_more !)) refl (tt, tt) $ sets ! (agg ! (and_then ! (get ! refl) (no_more !))) refl (tt, (tt, tt)) $
        sets ! (agg ! (and_then ! (get ! refl) (and_then ! (get ! refl) (no_more !)))) refl (tt, ((tt, tt), ((tt, tt), tt))) $
        returns ! (look_at ! 0 refl) $ free_all ! refl $
        suffices ! _ (ends_at 𝓛 function.ended tt (function.clauses 𝓛 mem run) called v (held₀, known₀) tt tt) $
        use0 𝓛 (‵ ((Mark (known-half.the_type).name [] unit).own_val (tt, tt) (token ∷ []))) (made (known-half.the_type).name [] unit 𝓛) $ fjoin ! $ move ! (1 ∷ []) $
        use0 𝓛 (‵ ((Mark (held-half.the_type).name [] unit).own_val (tt, tt) (token ∷ []))) (made (held-half.the_type).name [] unit 𝓛) $ fjoin ! $
        nothing ! $ move ! (1 ∷ 2 ∷ 0 ∷ []) $ fjoin3 ! $ feq_i ! (List Val) (v ∷ []) (v ∷ []) refl $ fjoin ! $
        fpack ! (Valss (A ∷ B ∷ [])) (λ vss. fsep (feq (List Val) (v ∷ []) (vstruct (of_list (vss.0 ++ (vss.1.0 ++ []))) ∷ [])) (owns (A ∷ B ∷ []) (held₀, (known₀, tt)) vss)) (token ∷ [], (token ∷ [], tt)) $
        move ! (2 ∷ 0 ∷ 1 ∷ []) $ join ! $ move ! (1 ∷ 0 ∷ []) $ join ! $ frame ! $
        by ! (tells_all 𝓤 ((known₀.name ≡ held₀.name) ∷ (held₀.knows ≡ none_durable) ∷ (known₀.knows ≡ none_durable) ∷ []) (refl, (refl, refl)))))

    walks : Walks 𝓛 function.ended tt (WpFn 𝓤 H C Λ code.function) (function.clauses 𝓛 mem run)
    walks =
        walked 𝓛 function.ended tt (function.clauses 𝓛 mem run) (WpFn 𝓤 H C Λ code.function) (λ κs. tt) (λ κs. tt)
        (λ κs qs bounds a g are. via 𝓤 _ (fst∗ 𝓤 _ (emp 𝓤)) walk)

  meets : (𝓣 : Tables 𝓤 H) → Meets 𝓛 function.signature (WpFn 𝓤 H 𝓣.C 𝓣.Λ code.function) (function.spec 𝓛 mem run)
  meets 𝓣 =
      walk_Meets 𝓛 function.ended tt tt (function.clauses 𝓛 mem run) (WpFn 𝓤 H 𝓣.C 𝓣.Λ code.function)
      (WpFn-mono 𝓤 H 𝓛.laws 𝓣 code.function) (walks 𝓣.C 𝓣.Λ)

pub open_spec : {M : Type 1} → stated.statement M
unfolding tables_of
open_spec 𝓤 𝓛 𝓜 𝓡 wired =
    entered 𝓤 𝓛.H (triple_of 𝓛 function.signature (function.spec 𝓛 𝓜.mem 𝓡.returns))
    (tables 𝓤 𝓛.H 𝓜 𝓡 𝓡.env).C (tables 𝓤 𝓛.H 𝓜 𝓡 𝓡.env).Λ key code.function (code.unfolded 𝓤 𝓛.H 𝓜 𝓡 wired)
    (meets 𝓛 𝓜.mem 𝓡.returns (tables_of 𝓤 𝓛.H 𝓜 (tables 𝓤 𝓛.H 𝓜 𝓡 𝓡.env)))
