use Rattle.std.proofs.Common.{◌≡◌, ◌∷◌, ◌++◌, ◌<◌, List, ℕ, drop, sym, ◌∙◌, ap, subst, length, arith}
use Rattle.std.proofs.lemmas.List.{append-nil, drop_more, take_rest}
use Rattle.gated_journal.specs.Damage.{NoFrame}
use Rattle.gated_journal.specs.Pieces.{IsAreaDamaged, IsEnough}
use Rattle.gated_journal.specs.NextFrame.{TakesFrame}
use Rattle.gated_journal.specs.declared.found.Stage.TheVariants.{Damaged}
use Rattle.gated_journal.proofs.AreaParts.{nonempty, unmoved, frames_more}
use Rattle.gated_journal.specs.Listed.{Lists}
use Rattle.gated_journal.proofs.FramesAlone.{lists_more, is_stuck}
use Rattle.gated_journal.proofs.Pieces.{damaged_frame}
use Rattle.gated_journal.proofs.parts.take_framed.Goals as goal

pub returns-in-Some-clause-holds : goal.returns-in-Some-clause-holds
returns-in-Some-clause-holds c = λ n snapshot taken at f.
    let layout = c.args.layout in
    let bytes = c.args.bytes.now in
    let some : 0 < length bytes = nonempty bytes (sym c.is_empty.ensures ∙ c.if-is_empty.false) in
    let is : bytes ≡ 1 ∷ drop 1 bytes = drop_more bytes 0 0 some ∙ ap (λ (g : ℕ). g ∷ drop 1 bytes) c.if-bytes-ne1.false in
    frames_more layout n snapshot taken bytes c.args.inputs.now.items c.take_frame.new.inputs.items c.in-Some.size (drop 1 bytes) f is
    (subst (λ (l : List ℕ). TakesFrame layout c.args.inputs.now.items c.take_frame.new.inputs.items l c.in-Some.size) (take_rest bytes 1) c.in-Some.ensures.frame)

pub returns-in-None-clause-holds : goal.returns-in-None-clause-holds
returns-in-None-clause-holds c = λ n snapshot taken at f.
    let layout = c.args.layout in
    let bytes = c.args.bytes.now in
    let some : 0 < length bytes = nonempty bytes (sym c.is_empty.ensures ∙ c.if-is_empty.false) in
    let is : bytes ≡ 1 ∷ drop 1 bytes = drop_more bytes 0 0 some ∙ ap (λ (g : ℕ). g ∷ drop 1 bytes) c.if-bytes-ne1.false in
    let enough : IsEnough (drop 1 bytes) = subst IsEnough (take_rest bytes 1) (c.is_short.ensures.no c.if-is_short.false) in
    let none : NoFrame layout (drop 1 bytes) = subst (NoFrame layout) (take_rest bytes 1) c.in-None.ensures.frame in
    unmoved layout n (Damaged c.args.at) snapshot c.args.inputs.now.items taken bytes (
      omega (arith, at),
      λ more. subst (λ (k : ℕ). IsAreaDamaged layout n ((taken ++ bytes) ++ more) k) (sym at) (damaged_frame layout n snapshot taken (drop 1 bytes) c.args.inputs.now.items f enough none bytes more is),
    )

pub returns-in-Some-clause-lists : goal.returns-in-Some-clause-lists
returns-in-Some-clause-lists c = λ taken l.
    let layout = c.args.layout in
    let bytes = c.args.bytes.now in
    let some : 0 < length bytes = nonempty bytes (sym c.is_empty.ensures ∙ c.if-is_empty.false) in
    let is : bytes ≡ 1 ∷ drop 1 bytes = drop_more bytes 0 0 some ∙ ap (λ (g : ℕ). g ∷ drop 1 bytes) c.if-bytes-ne1.false in
    lists_more taken bytes (drop 1 bytes) c.args.inputs.now.items c.take_frame.new.inputs.items c.in-Some.size l is
    (subst (λ (t : List ℕ). TakesFrame layout c.args.inputs.now.items c.take_frame.new.inputs.items t c.in-Some.size) (take_rest bytes 1) c.in-Some.ensures.frame)

pub returns-in-None-clause-lists : goal.returns-in-None-clause-lists
returns-in-None-clause-lists c = λ taken l.
    let layout = c.args.layout in
    let bytes = c.args.bytes.now in
    let some : 0 < length bytes = nonempty bytes (sym c.is_empty.ensures ∙ c.if-is_empty.false) in
    let is : bytes ≡ 1 ∷ drop 1 bytes = drop_more bytes 0 0 some ∙ ap (λ (g : ℕ). g ∷ drop 1 bytes) c.if-bytes-ne1.false in
    let enough : IsEnough (drop 1 bytes) = subst IsEnough (take_rest bytes 1) (c.is_short.ensures.no c.if-is_short.false) in
    let none : NoFrame layout (drop 1 bytes) = subst (NoFrame layout) (take_rest bytes 1) c.in-None.ensures.frame in
    ((c.args.inputs.now.items, subst (λ (t : List ℕ). Lists layout t c.args.inputs.now.items) (sym (append-nil taken)) l), is_stuck bytes (drop 1 bytes) is enough none)
