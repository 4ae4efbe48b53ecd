use Rattle.std.proofs.Common.{sym, ap, ◌∙◌, arith}
use Rattle.node_core.specs.Measure as bytes
use Rattle.node_core.proofs.Measures.{dropped_within}
use Rattle.node_core.proofs.measure.change.Goals as goal

pub bytes_under-requires : goal.bytes_under-requires
bytes_under-requires c =
    let within = dropped_within c.args.core.now.known c.in-Retire.group c.in-Retire.floor in
    omega (arith, within, c.requires.short)

pub returns-in-Stand-clause-more : goal.returns-in-Stand-clause-more
returns-in-Stand-clause-more c =
    c.stood_len.ensures.value c.args.core.now.me c.in-Stand.bid ∙ sym (ap (bytes.more c.args.core.now.me c.args.core.now.known) c.in-Stand.is)

pub returns-in-Take-clause-more : goal.returns-in-Take-clause-more
returns-in-Take-clause-more c = c.heard_len.ensures.more c.in-Take.no ∙ sym (ap (bytes.more c.args.core.now.me c.args.core.now.known) c.in-Take.is)

pub returns-in-Take-clause-less : goal.returns-in-Take-clause-less
returns-in-Take-clause-less c = c.heard_len.ensures.less c.in-Take.no ∙ sym (ap (bytes.less c.args.core.now.known) c.in-Take.is)
