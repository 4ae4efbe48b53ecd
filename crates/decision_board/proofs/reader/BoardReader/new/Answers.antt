use Rattle.std.proofs.Common.{List, sym, subst, refl}
use mathlib.Core.List.{IsPrefix}
use Rattle.ring_records.specs.declared.notice.Notice.{Notice}
use Rattle.decision_board.proofs.reader.BoardReader.new.Goals as goal

pub invariant_of-result : goal.invariant_of-result
invariant_of-result g c =
    let there = c.args.place.place.me.0.client in
    (c.requires.start.0, c.requires.told, subst (λ (l : List Notice). IsPrefix l there) (sym c.requires.start.1) (there, refl))
