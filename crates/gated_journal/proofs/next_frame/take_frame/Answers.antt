use Rattle.gated_journal.proofs.Taken.{whole_frame}
use Rattle.gated_journal.proofs.next_frame.take_frame.Goals as goal

pub returns-then-take_records-clause-frame : goal.returns-then-take_records-clause-frame
returns-then-take_records-clause-frame c =
    whole_frame c.args.inputs.now.items c.take_records.new.inputs.items c.in-Some.head.0 c.args.tail.now c.in-Some.head.1.now c.in-Some.ensures (c.take_records.ensures.taken c.if-take_records.true)
