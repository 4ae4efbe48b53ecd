use Rattle.std.proofs.Common.{arith}
use Rattle.ring_records.specs.SnapshotPart.{shown}
use Rattle.ring_records.proofs.SnapshotParts.{state_part, message_part, whole_window_of}
use Rattle.ring_records.proofs.summary_reader.take_part.Goals as goal

pub returns-then-len-from-clause-part : goal.returns-then-len-from-clause-part
returns-then-len-from-clause-part c =
    let p = shown c.args.parts.now in
    state_part c.args.layout c.args.n c.args.counts.now p.states c.take_state.new.states.items p.messages p.count p.floors c.args.bytes.now c.take_state.result c.requires.read (omega (arith, c.if-len-from.true, c.from.ensures, c.len.ensures, c.args.parts.now.states.ok.0)) c.take_state.ensures.state

pub returns-then-len-counts-clause-part : goal.returns-then-len-counts-clause-part
returns-then-len-counts-clause-part c =
    let p = shown c.args.parts.now in
    message_part c.args.layout c.args.n c.args.counts.now p.states p.messages c.take_message.new.messages.items p.count p.floors c.args.bytes.now c.take_message.result c.requires.read (λ less. omega (arith, less, c.if-len-from.false, c.from.ensures, c.len.ensures, c.args.parts.now.states.ok.0)) (omega (arith, c.if-len-counts.true, c.len-else-len-from.ensures, c.args.parts.now.messages.ok.0)) c.take_message.ensures.message

pub returns-else-len-counts-clause-part : goal.returns-else-len-counts-clause-part
returns-else-len-counts-clause-part c =
    c.take_behind.ensures.part c.args.n c.args.counts.now c.requires.read
    (whole_window_of c.args.layout c.args.n c.args.counts.now (shown c.args.parts.now) c.requires.read (λ less. omega (arith, less, c.if-len-from.false, c.from.ensures, c.len.ensures, c.args.parts.now.states.ok.0)) (λ less. omega (arith, less, c.if-len-counts.false, c.len-else-len-from.ensures, c.args.parts.now.messages.ok.0)))
