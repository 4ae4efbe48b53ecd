use Rattle.std.proofs.Common.{arith}
use Rattle.node_core.proofs.Measures.{measured}
use Rattle.node_core.proofs.free.FreeCore.len_after.Goals as goal

pub overflow_sub-result : goal.overflow_sub-result
overflow_sub-result c =
    let law = measured c.args.self.now.me c.args.self.now.size c.args.self.now.known c.args.input.now c.requires.free in
    omega (arith, law, c.requires.exact, c.from.ensures, c.change-more.ensures.more, c.change-more.ensures.less)

pub returns-clause-value : goal.returns-clause-value
returns-clause-value c =
    let law = measured c.args.self.now.me c.args.self.now.size c.args.self.now.known c.args.input.now c.requires.free in
    omega (arith, law, c.requires.exact, c.from.ensures, c.change-more.ensures.more, c.change-more.ensures.less)
