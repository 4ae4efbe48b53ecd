-- The value has no bytes, and its lists are those that the clauses name.
use Rattle.std.proofs.Common.{[], ◌∷◌, refl}
use seplogic.Ra.Ura.{Ura}
use mir.Val.{vstruct, vnil}
use base.Logic.{SProp, ent, emp, via, fst∗}
use prog.Memory.{Memory}
use prog.Routine.{Routine}
use prog.Wp.{Calls, Loops, WpFn, Tables}
use types.Logic.{Logic}
use contract.Monad.{Fun}
use contract.Running.{tables, tables_of}
use sound.WpLaws.{WpFn-mono}
use types.Kit.{‵, raw, ◌$◌, ◌∵◌, !, qed, move, suffices, done}
use types.Run.{no_more, returns, enter}
use types.Part.{agg}
use types.ByLocal.{alloc_all, pass_all, free_all, look_at, sets}
use denote.RattleType.{owns}
use denote.Shadow.{pure_i}
use denote.Triple.Entry.{on_entry, alive}
use denote.Triple.Spec.{Meets, triple_of}
use denote.Triple.Table.{entered}
use denote.Triple.Walked.{says, walk_of, Walks, ends_at, walked, walk_Meets}
use Rattle.ring_post.specs.declared.chronicle.Chronicle.{Chronicle}
use Rattle.ring_post.specs.contracts.chronicle.Chronicle as made
use Rattle.ring_post.specs.contracts.chronicle.Chronicle.new as function
use Rattle.ring_post.specs.contracts.chronicle.Chronicle.new.Key.{name as key}
use Rattle.ring_post.proofs.chronicle.Chronicle.new.Statement as stated
use Rattle.ring_post.proofs.chronicle.Chronicle.new.Code as code

abbrev empty : Chronicle
empty = record { entries = [] }

module _ {M : Type 1} {𝓤 : Ura M} (𝓛 : Logic 𝓤) (mem : Memory → SProp 𝓤) (run : Routine → Fun 𝓤) where
  open 𝓛 use {H}

  module _ (C : Calls 𝓤 H) (Λ : Loops 𝓤 H) where
    abbrev called : (walk_of 𝓛 function.ended tt (function.clauses 𝓛 mem run)).Ghost
    called = ((tt, tt, tt, tt, tt), tt)

    walk : ent 𝓤 (on_entry 𝓛 function.signature tt tt tt tt) (WpFn 𝓤 H C Λ code.function [] ((walk_of 𝓛 function.ended tt (function.clauses 𝓛 mem run)).post called))
    walk =
        qed 𝓛 (raw (alive 𝓛 function.signature tt tt) ∷ ‵ (owns [] tt tt) ∷ []) ∵ enter ! C Λ code.function [] _ $
        alloc_all ! (λ l. pass_all ! refl tt $ sets ! (agg ! (no_more !)) refl (tt, tt) $
        returns ! (look_at ! 0 refl) $ free_all ! refl $
        suffices ! _ (ends_at 𝓛 function.ended tt (function.clauses 𝓛 mem run) called (vstruct vnil) empty tt tt) $
        says ! refl $ pure_i ! (made.the_row.own_val empty (vstruct vnil ∷ [])) ((λ vss. (tt, tt)), tt) ((tt, (refl, tt)), tt) $
        move ! (1 ∷ 2 ∷ 0 ∷ []) $ done !)

    walks : Walks 𝓛 function.ended tt (WpFn 𝓤 H C Λ code.function) (function.clauses 𝓛 mem run)
    walks =
        walked 𝓛 function.ended tt (function.clauses 𝓛 mem run) (WpFn 𝓤 H C Λ code.function) (λ κs. tt) (λ κs. tt)
        (λ κs qs bounds a g are. via 𝓤 _ (fst∗ 𝓤 _ (emp 𝓤)) walk)

  meets : (𝓣 : Tables 𝓤 H) → Meets 𝓛 function.signature (WpFn 𝓤 H 𝓣.C 𝓣.Λ code.function) (function.spec 𝓛 mem run)
  meets 𝓣 =
      walk_Meets 𝓛 function.ended tt tt (function.clauses 𝓛 mem run) (WpFn 𝓤 H 𝓣.C 𝓣.Λ code.function)
      (WpFn-mono 𝓤 H 𝓛.laws 𝓣 code.function) (walks 𝓣.C 𝓣.Λ)

pub new_spec : {M : Type 1} → stated.statement M
unfolding tables_of
new_spec 𝓤 𝓛 𝓜 𝓡 wired =
    entered 𝓤 𝓛.H (triple_of 𝓛 function.signature (function.spec 𝓛 𝓜.mem 𝓡.returns))
    (tables 𝓤 𝓛.H 𝓜 𝓡 𝓡.env).C (tables 𝓤 𝓛.H 𝓜 𝓡 𝓡.env).Λ key code.function (code.unfolded 𝓤 𝓛.H 𝓜 𝓡 wired)
    (meets 𝓛 𝓜.mem 𝓡.returns (tables_of 𝓤 𝓛.H 𝓜 (tables 𝓤 𝓛.H 𝓜 𝓡 𝓡.env)))
