use Rattle.std.proofs.Common.{◌+◌, ◌++◌, ℕ, List, length, take, drop, ap, subst, arith, length-drop}
use Rattle.std.proofs.lemmas.List.{drop-drop, take_rest}
use Rattle.gated_journal.specs.Found.{IsWaiting}
use Rattle.gated_journal.specs.Listed.{Lists, IsListed}
use Rattle.gated_journal.specs.declared.found.Stage.{Stage}
use Rattle.gated_journal.proofs.AreaParts.{taken_behind}
use Rattle.gated_journal.proofs.listed.take_list.Goals as goal

pub loop-next-preserved : goal.loop-next-preserved
loop-next-preserved c =
    let inv = c.loop-next.invariant in
    let t = c.take_framed-next-in-loop-next in
    let bytes = c.args.bytes.now in
    let k = c.loop-next.taken + c.loop-next.next.1 in
    let m = t.result.1 in
    let now = t.new.inputs.items in
    let rest = take_rest bytes k in
    let before : (from : List ℕ) → Lists 1 from c.args.inputs.now.items → Lists 1 (from ++ take k bytes) c.loop-next.inputs.items =
    λ from l. subst (λ (s : Stage). IsListed 1 s (from ++ take k bytes) c.loop-next.inputs.items (drop k bytes)) (inv.more (omega (arith, c.loop-next-test.true))) (inv.lists from l) in
    record {
      within = omega (arith, t.ensures.size, ap length rest, length-drop k bytes, inv.within);
      lists = λ from l. subst (λ (b : List ℕ). IsListed 1 t.result.0 b now (drop (k + m) bytes)) (taken_behind from bytes k m)
          (subst (λ (b : List ℕ). IsListed 1 t.result.0 ((from ++ take k bytes) ++ take m (drop k bytes)) now b) (drop-drop m k bytes)
          (subst (λ (b : List ℕ). IsListed 1 t.result.0 ((from ++ take k bytes) ++ take m b) now (drop m b)) rest (t.ensures.lists (from ++ take k bytes) (before from l))));
      waits = λ e. subst (λ (b : List ℕ). IsWaiting t.result.0 b) rest (t.ensures.waits e);
      room = λ some. omega (arith, t.ensures.room some, ap length rest, length-drop k bytes, inv.within);
      damaged = λ p is. omega (arith, t.ensures.damaged p is);
      more = t.ensures.more;
    }
