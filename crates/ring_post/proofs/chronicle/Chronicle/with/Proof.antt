-- The value has no bytes, and its list is the one that the clause names.
use Rattle.std.proofs.Common.{[], ◌∷◌, refl}
use seplogic.Ra.Ura.{Ura}
use mir.Syntax.{named}
use mir.Val.{Val, vptr, vstruct, vnil}
use base.Logic.{SProp, ent, emp, via, fst∗}
use base.Fml.{Fml}
use prog.Memory.{Memory}
use prog.Routine.{Routine}
use prog.Wp.{Calls, Loops, WpFn, Tables}
use types.Logic.{Logic}
use contract.Lifetimes.{Lfts, Shares}
use contract.Monad.{Fun}
use contract.Running.{tables, tables_of}
use sound.WpLaws.{WpFn-mono}
use types.Kit.{‵, raw, ◌$◌, ◌∵◌, !, qed, move, suffices, done}
use types.Run.{no_more, returns, enter}
use types.Part.{agg}
use types.ByLocal.{alloc_all, pass_all, free_all, look_at, sets}
use denote.Exit.{yes}
use denote.RattleType.{owns}
use denote.Ref.{shr_vals, shr_Tells}
use denote.Shadow.{pure_i}
use denote.Signature.{plain, types_at}
use denote.Triple.Entry.{on_entry, alive, Args}
use denote.Triple.Spec.{Meets, triple_of}
use denote.Triple.Table.{entered}
use denote.Triple.Walked.{says, stay_none_ref, Stays, walk_of, Walks, AllGo, ends_at, walked, Goes-none_ref, walk_Meets}
use Rattle.ring_post.specs.declared.chronicle.Chronicle.{Chronicle}
use Rattle.ring_post.specs.contracts.chronicle.Chronicle as made
use Rattle.ring_post.specs.contracts.chronicle.Entry as told
use Rattle.ring_post.specs.contracts.chronicle.Chronicle.with as function
use Rattle.ring_post.specs.contracts.chronicle.Chronicle.with.Key.{name as key}
use Rattle.ring_post.proofs.chronicle.Chronicle.with.Statement as stated
use Rattle.ring_post.proofs.chronicle.Chronicle.with.Code as code

abbrev stayed : Stays (function.ended).signature.params (function.ended).kept
stayed = (stay_none_ref (0 ∷ []) tt (plain (λ _. made.the_row)) yes, (stay_none_ref (1 ∷ []) tt (plain (λ _. told.the_row)) yes, tt))

module _ {M : Type 1} {𝓤 : Ura M} (𝓛 : Logic 𝓤) (mem : Memory → SProp 𝓤) (run : Routine → Fun 𝓤) where
  open 𝓛 use {H}

  module _ (C : Calls 𝓤 H) (Λ : Loops 𝓤 H) (κs : Lfts 2) (qs : Shares 2) (a : Args function.signature κs) where
    abbrev before : Val
    before = vptr a.0.ref_ptr.0 a.0.ref_ptr.1

    abbrev entry : Val
    entry = vptr a.1.0.ref_ptr.0 a.1.0.ref_ptr.1

    abbrev called : (walk_of 𝓛 function.ended stayed (function.clauses 𝓛 mem run)).Ghost
    called = ((κs, qs, tt, a, (before ∷ [], (entry ∷ [], tt))), tt)

    abbrev after : Chronicle
    after = record { entries = a.1.0.now ∷ a.0.now.entries }

    abbrev passed : Fml
    passed = owns (types_at function.signature.params κs) a (before ∷ [], (entry ∷ [], tt))

    walk : ent 𝓤 (on_entry 𝓛 function.signature κs qs a (before ∷ [], (entry ∷ [], tt)))
        (WpFn 𝓤 H C Λ code.function (before ∷ entry ∷ []) ((walk_of 𝓛 function.ended stayed (function.clauses 𝓛 mem run)).post called))
    walk =
        qed 𝓛 (raw (alive 𝓛 function.signature κs qs) ∷ ‵ passed ∷ []) ∵ enter ! C Λ code.function (before ∷ entry ∷ []) _ $
        alloc_all ! (λ l. pass_all ! refl ((tt, tt), ((tt, tt), tt)) $
        sets ! (agg ! (no_more !)) refl (tt, tt) $ returns ! (look_at ! 0 refl) $ free_all ! refl $
        suffices ! _ (ends_at 𝓛 function.ended stayed (function.clauses 𝓛 mem run) called (vstruct vnil) after (tt, (tt, tt)) (tt, (tt, tt))) $
        says ! refl $ pure_i ! (made.the_row.own_val after (vstruct vnil ∷ [])) ((λ vss. (tt, tt)), tt) ((tt, (refl, tt)), tt) $
        move ! (1 ∷ 2 ∷ 0 ∷ []) $ done !)

  walks : (C : Calls 𝓤 H) (Λ : Loops 𝓤 H) → Walks 𝓛 function.ended stayed (WpFn 𝓤 H C Λ code.function) (function.clauses 𝓛 mem run)
  walks C Λ =
      walked 𝓛 function.ended stayed (function.clauses 𝓛 mem run) (WpFn 𝓤 H C Λ code.function) (λ κs. (shr_vals, (shr_vals, tt)))
      (λ κs. (shr_Tells (named 0) κs.0 made.the_row, (shr_Tells (named 1) κs.1.0 told.the_row, tt)))
      (λ κs qs bounds a g are. via 𝓤 _ (fst∗ 𝓤 _ (emp 𝓤)) (walk C Λ κs qs a))

  goes : AllGo 𝓛 2 (function.signature).params (function.ended).kept stayed
  goes = (Goes-none_ref 𝓛 2 (0 ∷ []) tt (plain (λ _. made.the_row)) yes, (Goes-none_ref 𝓛 2 (1 ∷ []) tt (plain (λ _. told.the_row)) yes, tt))

  meets : (𝓣 : Tables 𝓤 H) → Meets 𝓛 function.signature (WpFn 𝓤 H 𝓣.C 𝓣.Λ code.function) (function.spec 𝓛 mem run)
  meets 𝓣 =
      walk_Meets 𝓛 function.ended stayed goes (function.clauses 𝓛 mem run) (WpFn 𝓤 H 𝓣.C 𝓣.Λ code.function)
      (WpFn-mono 𝓤 H 𝓛.laws 𝓣 code.function) (walks 𝓣.C 𝓣.Λ)

pub with_spec : {M : Type 1} → stated.statement M
unfolding tables_of
with_spec 𝓤 𝓛 𝓜 𝓡 wired =
    entered 𝓤 𝓛.H (triple_of 𝓛 function.signature (function.spec 𝓛 𝓜.mem 𝓡.returns))
    (tables 𝓤 𝓛.H 𝓜 𝓡 𝓡.env).C (tables 𝓤 𝓛.H 𝓜 𝓡 𝓡.env).Λ key code.function (code.unfolded 𝓤 𝓛.H 𝓜 𝓡 wired)
    (meets 𝓛 𝓜.mem 𝓡.returns (tables_of 𝓤 𝓛.H 𝓜 (tables 𝓤 𝓛.H 𝓜 𝓡 𝓡.env)))
