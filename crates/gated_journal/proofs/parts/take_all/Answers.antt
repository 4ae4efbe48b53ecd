use Rattle.std.proofs.Common.{◌≡◌, ◌+◌, ◌++◌, ℕ, List, length, take, drop, sym, ◌∙◌, ap, subst, arith, length-append, length-take, length-drop}
use Rattle.std.proofs.lemmas.List.{drop-drop, take_rest}
use Rattle.gated_journal.specs.Found.{Holds, HasRoom, IsWaiting}
use Rattle.gated_journal.proofs.AreaParts.{taken_behind}
use Rattle.gated_journal.proofs.parts.take_all.Goals as goal

pub loop-size-preserved : goal.loop-size-preserved
loop-size-preserved c =
    let inv = c.loop-size.invariant in
    let t = c.take_next-size-in-loop-size in
    let bytes = c.args.bytes.now in
    let layout = c.args.layout in
    let k = c.loop-size.taken + c.loop-size.size in
    let m = t.result in
    let rest = take_rest bytes k in
    let here : (from : List ℕ) → c.args.found.now.at ≡ length from → c.loop-size.found.at ≡ length (from ++ take k bytes) =
    λ from at. omega (arith, inv.1, at, length-append from (take k bytes), length-take k bytes, inv.0) in
    let now : (from : List ℕ) → c.args.found.now.at ≡ length from → Holds layout c.args.found.now from bytes → Holds layout c.loop-size.found (from ++ take k bytes) _ =
    λ from at holds. subst (λ (l : List ℕ). Holds layout c.loop-size.found (from ++ take k bytes) l) (sym rest) (inv.4 from at holds) in (
      omega (arith, t.ensures.size, ap length rest, length-drop k bytes, inv.0),
      omega (arith, t.ensures.at, inv.1),
      t.ensures.n ∙ inv.2,
      t.ensures.layout ∙ inv.3,
      λ from at holds. subst (λ (l : List ℕ). Holds layout t.new.found l (drop (k + m) bytes)) (taken_behind from bytes k m)
          (subst (λ (l : List ℕ). Holds layout t.new.found ((from ++ take k bytes) ++ take m (drop k bytes)) l) (drop-drop m k bytes)
          (subst (λ (l : List ℕ). Holds layout t.new.found ((from ++ take k bytes) ++ take m l) (drop m l)) rest (t.ensures.holds (from ++ take k bytes) (here from at) (now from at holds)))),
      λ from at holds e. subst (λ (l : List ℕ). IsWaiting t.new.found.stage l) rest (t.ensures.waits (from ++ take k bytes) (now from at holds) e),
      λ some. subst (λ (j : ℕ). HasRoom t.new.found j) (omega (arith, ap length rest, length-drop k bytes, inv.0)) (t.ensures.room some),
    )
