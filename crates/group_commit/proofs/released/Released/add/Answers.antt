use Rattle.std.proofs.Common.{rules, refl}
use Rattle.group_commit.proofs.Releases.{few_queued, few_taken, queued, may_credit, next_stand, next_take, next_acked, next_retire}
use Rattle.group_commit.proofs.released.Released.add.Goals as goal

pub queue-requires-clause-few : goal.queue-requires-clause-few
queue-requires-clause-few c = let a = c.requires.free in few_queued a.1 c.args.self.now a.2 c.args.input.now a.3 a.4

pub overflow_add-self : goal.overflow_add-self
overflow_add-self c = let a = c.requires.free in let few = few_taken a.1 c.args.self.now a.2 c.args.input.now a.3 a.4 in search rules

pub credit-requires-clause-above : goal.credit-requires-clause-above
credit-requires-clause-above c =
    let a = c.requires.free in
    let q = queued a.0 c.args.self.now c.queue.new.link.link a.2 c.args.input.now c.args.effects.now a.3 a.5 c.queue.ensures.credited c.queue.ensures.window in
    (may_credit a.0 a.1 c.queue.new.link.link a.2 c.args.input.now c.in-Acked.upto q a.4 c.in-Acked.is).0

pub credit-requires-clause-sent : goal.credit-requires-clause-sent
credit-requires-clause-sent c =
    let a = c.requires.free in
    let q = queued a.0 c.args.self.now c.queue.new.link.link a.2 c.args.input.now c.args.effects.now a.3 a.5 c.queue.ensures.credited c.queue.ensures.window in
    (may_credit a.0 a.1 c.queue.new.link.link a.2 c.args.input.now c.in-Acked.upto q a.4 c.in-Acked.is).1

pub returns-in-Stand-clause-keeps : goal.returns-in-Stand-clause-keeps
returns-in-Stand-clause-keeps c = λ me n s keeps free brings.
    next_stand me c.args.self.now _ s c.args.input.now c.in-Stand.key c.in-Stand.bid keeps c.in-Stand.is
    (queued me c.args.self.now _ s c.args.input.now c.args.effects.now keeps brings c.queue.ensures.credited c.queue.ensures.window) refl

pub returns-in-Take-clause-keeps : goal.returns-in-Take-clause-keeps
returns-in-Take-clause-keeps c = λ me n s keeps free brings.
    next_take me c.args.self.now _ s c.args.input.now c.in-Take.no c.in-Take.msg keeps c.in-Take.is
    (queued me c.args.self.now _ s c.args.input.now c.args.effects.now keeps brings c.queue.ensures.credited c.queue.ensures.window) refl

pub returns-in-Acked-clause-keeps : goal.returns-in-Acked-clause-keeps
returns-in-Acked-clause-keeps c = λ me n s keeps free brings.
    next_acked me n c.args.self.now _ _ s c.args.input.now c.in-Acked.upto keeps c.in-Acked.is free
    (queued me c.args.self.now _ s c.args.input.now c.args.effects.now keeps brings c.queue.ensures.credited c.queue.ensures.window) c.credit.ensures.credited c.credit.ensures.window refl

pub returns-in-Retire-clause-keeps : goal.returns-in-Retire-clause-keeps
returns-in-Retire-clause-keeps c = λ me n s keeps free brings.
    next_retire me c.args.self.now _ s c.args.input.now c.in-Retire.group c.in-Retire.floor keeps c.in-Retire.is
    (queued me c.args.self.now _ s c.args.input.now c.args.effects.now keeps brings c.queue.ensures.credited c.queue.ensures.window) refl
