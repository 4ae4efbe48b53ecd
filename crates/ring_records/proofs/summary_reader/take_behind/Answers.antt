use Rattle.std.proofs.Common.{sym, ◌∙◌, arith}
use Rattle.std.proofs.lemmas.Bool.{ltb-true, le-ltb}
use Rattle.ring_records.specs.SnapshotPart.{shown}
use Rattle.ring_records.proofs.SnapshotParts.{end_behind, floor_behind, last_behind}
use Rattle.ring_records.proofs.summary_reader.take_behind.Goals as goal

pub returns-then-has_floors-clause-part : goal.returns-then-has_floors-clause-part
returns-then-has_floors-clause-part c = λ n k read whole.
    end_behind c.args.layout n k (shown c.args.parts.now) c.take_end.new.count c.args.bytes.now c.take_end.result c.in-None.is read whole (ltb-true 2 c.args.layout (sym c.has_floors.ensures ∙ c.if-has_floors.true)) c.take_end.ensures.end

pub returns-else-has_floors-clause-part : goal.returns-else-has_floors-clause-part
returns-else-has_floors-clause-part c = λ n k read whole. last_behind c.args.layout n k (shown c.args.parts.now) _ c.args.bytes.now c.in-None.is read whole (sym c.has_floors.ensures ∙ c.if-has_floors.false)

pub returns-then-len-from-clause-part : goal.returns-then-len-from-clause-part
returns-then-len-from-clause-part c = λ n k read whole.
    floor_behind c.args.layout n k (shown c.args.parts.now) c.in-Some.count c.take_floor.new.floors.items c.args.bytes.now c.take_floor.result c.in-Some.is read (omega (arith, c.if-len-from.true, c.from.ensures, c.len.ensures, c.args.parts.now.floors.ok.0)) c.take_floor.ensures.floor

pub returns-else-len-from-clause-part : goal.returns-else-len-from-clause-part
returns-else-len-from-clause-part c = λ n k read whole.
    last_behind c.args.layout n k (shown c.args.parts.now) _ c.args.bytes.now c.in-Some.is read whole (le-ltb _ _ (omega (arith, c.if-len-from.false, c.from.ensures, c.len.ensures, c.args.parts.now.floors.ok.0)))
