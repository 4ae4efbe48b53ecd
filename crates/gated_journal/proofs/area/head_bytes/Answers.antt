use Rattle.std.proofs.Common.{rules, ℕ, List, sym, subst, arith}
use Rattle.disk_model.specs.Calls.{IsPart}
use Rattle.gated_journal.proofs.AreaHeads.{read_front, read_none}
use Rattle.gated_journal.proofs.area.head_bytes.Goals as goal
use Rattle.gated_journal.proofs.area.head_bytes.Goals.{then-start-size+in_default, else-start-size}

pub returns-clause-part : goal.returns-clause-part
returns-clause-part g c =
    let image = (g.D.Device.disk c.args.device.now).image in
    let start = c.args.start in
    let P = λ (l : List ℕ). IsPart start l image in
    elim c.if-start-size.branch [
      | then-start-size+in_default w ↦ subst P (sym w.bytes-is)
          (read_front start w.min-there.result w.read_part.new.buf image w.in_default.ensures.part (search rules) (omega (arith, w.min-there.ensures)) (search rules))
      | else-start-size w ↦ subst P (sym w.bytes-is) (read_none start image (omega (arith, w.if-start-size.false, c.size-size.ensures)))
    ]
