-- The value has no bytes, and its list is that which the clauses name.
use Rattle.std.proofs.Common.{◌<◌, ◌^◌, [], ◌∷◌, length, refl}
use seplogic.Ra.Ura.{Ura}
use mir.Syntax.{named}
use mir.Val.{Val, vstruct, vnil}
use base.Logic.{SProp, ent, emp, via, fst∗}
use base.Fml.{Fml}
use prog.Memory.{Memory}
use prog.Routine.{Routine}
use prog.Wp.{Calls, Loops, WpFn, Tables}
use types.Logic.{Logic}
use contract.Lifetimes.{Lfts, Shares}
use contract.Monad.{Fun}
use contract.Running.{tables, tables_of}
use sound.WpLaws.{WpFn-mono}
use types.Kit.{‵, raw, ◌$◌, ◌∵◌, !, qed, move, suffices, done}
use types.Run.{no_more, returns, enter}
use types.Part.{agg}
use types.ByLocal.{alloc_all, pass_all, free_all, look_at, sets}
use denote.Exit.{yes}
use denote.RattleType.{owns}
use denote.Slice.{slice_val, shr_slice_vals, shr_slice_Tells}
use denote.Shadow.{pure_i}
use denote.Signature.{plain, types_at}
use denote.Triple.Entry.{on_entry, alive, Args}
use denote.Triple.Spec.{Meets, triple_of}
use denote.Triple.Table.{entered}
use denote.Triple.Walked.{says, stay_none_slice, Stays, walk_of, Walks, AllGo, ends_at, walked, Goes-none_slice, walk_Meets}
use Rattle.group_commit.specs.declared.all_inputs.AllInputs.{AllInputs}
use Rattle.ring_records.specs.contracts.input.Input as input
use Rattle.group_commit.specs.contracts.all_inputs.AllInputs as made
use Rattle.group_commit.specs.contracts.all_inputs.AllInputs.new as function
use Rattle.group_commit.specs.contracts.all_inputs.AllInputs.new.Key.{name as key}
use Rattle.group_commit.proofs.all_inputs.AllInputs.new.Statement as stated
use Rattle.group_commit.proofs.all_inputs.AllInputs.new.Code as code

abbrev stayed : Stays (function.ended).signature.params (function.ended).kept
stayed = (stay_none_slice (0 ∷ []) tt (plain (λ _. input.the_row)) yes, tt)

module _ {M : Type 1} {𝓤 : Ura M} (𝓛 : Logic 𝓤) (mem : Memory → SProp 𝓤) (run : Routine → Fun 𝓤) where
  open 𝓛 use {H}

  module _ (C : Calls 𝓤 H) (Λ : Loops 𝓤 H) (κs : Lfts 1) (qs : Shares 1) (a : Args function.signature κs) (fits : length a.0.now < 2 ^ 64) where
    abbrev inputs : Val
    inputs = slice_val a.0.ref_ptr (length a.0.now)

    abbrev called : (walk_of 𝓛 function.ended stayed (function.clauses 𝓛 mem run)).Ghost
    called = ((κs, qs, tt, a, (inputs ∷ [], tt)), tt)

    abbrev after : AllInputs
    after = record { list = a.0.now }

    abbrev passed : Fml
    passed = owns (types_at function.signature.params κs) a (inputs ∷ [], tt)

    walk : ent 𝓤 (on_entry 𝓛 function.signature κs qs a (inputs ∷ [], tt))
        (WpFn 𝓤 H C Λ code.function (inputs ∷ []) ((walk_of 𝓛 function.ended stayed (function.clauses 𝓛 mem run)).post called))
    walk =
        qed 𝓛 (raw (alive 𝓛 function.signature κs qs) ∷ ‵ passed ∷ []) ∵ enter ! C Λ code.function (inputs ∷ []) _ $
        alloc_all ! (λ l. pass_all ! refl ((tt, (tt, (record { fits = fits }, tt))), tt) $
        sets ! (agg ! (no_more !)) refl (tt, tt) $ returns ! (look_at ! 0 refl) $ free_all ! refl $
        suffices ! _ (ends_at 𝓛 function.ended stayed (function.clauses 𝓛 mem run) called (vstruct vnil) after (tt, tt) (tt, tt)) $
        says ! refl $ pure_i ! (made.the_row.own_val after (vstruct vnil ∷ [])) ((λ vss. (tt, tt)), tt) ((tt, (refl, tt)), tt) $
        move ! (1 ∷ 2 ∷ 0 ∷ []) $ done !)

  walks : (C : Calls 𝓤 H) (Λ : Loops 𝓤 H) → Walks 𝓛 function.ended stayed (WpFn 𝓤 H C Λ code.function) (function.clauses 𝓛 mem run)
  walks C Λ =
      walked 𝓛 function.ended stayed (function.clauses 𝓛 mem run) (WpFn 𝓤 H C Λ code.function) (λ κs. (shr_slice_vals, tt))
      (λ κs. (shr_slice_Tells (named 0) κs.0 input.the_row, tt))
      (λ κs qs bounds a g are. via 𝓤 _ (fst∗ 𝓤 _ (emp 𝓤)) (walk C Λ κs qs a are.0.0.1.0))

  goes : AllGo 𝓛 1 (function.signature).params (function.ended).kept stayed
  goes = (Goes-none_slice 𝓛 1 (0 ∷ []) tt (plain (λ _. input.the_row)) yes, tt)

  meets : (𝓣 : Tables 𝓤 H) → Meets 𝓛 function.signature (WpFn 𝓤 H 𝓣.C 𝓣.Λ code.function) (function.spec 𝓛 mem run)
  meets 𝓣 =
      walk_Meets 𝓛 function.ended stayed goes (function.clauses 𝓛 mem run) (WpFn 𝓤 H 𝓣.C 𝓣.Λ code.function)
      (WpFn-mono 𝓤 H 𝓛.laws 𝓣 code.function) (walks 𝓣.C 𝓣.Λ)

pub new_spec : {M : Type 1} → stated.statement M
unfolding tables_of
new_spec 𝓤 𝓛 𝓜 𝓡 wired =
    entered 𝓤 𝓛.H (triple_of 𝓛 function.signature (function.spec 𝓛 𝓜.mem 𝓡.returns))
    (tables 𝓤 𝓛.H 𝓜 𝓡 𝓡.env).C (tables 𝓤 𝓛.H 𝓜 𝓡 𝓡.env).Λ key code.function (code.unfolded 𝓤 𝓛.H 𝓜 𝓡 wired)
    (meets 𝓛 𝓜.mem 𝓡.returns (tables_of 𝓤 𝓛.H 𝓜 (tables 𝓤 𝓛.H 𝓜 𝓡 𝓡.env)))
