use Rattle.std.proofs.Common.{◌<◌, ◌^◌, ap, arith}
use Rattle.neighbour_link.specs.Outlink.{sent_count}
use Rattle.node_core.proofs.Objections.{free}
use Rattle.node_core.proofs.Steps.{counted_next}
use Rattle.node_core.proofs.free.FreeCore.apply.Goals as goal

pub accept-requires-clause-free : goal.accept-requires-clause-free
accept-requires-clause-free c =
    (free c.self.inside.inputs c.self.inside.inlink c.self.inside.size c.self.inside.table c.self.inside.outlink.link c.reserve.new.self.link c.args.input c.args.self.now c.self.view_is c.reserve.ensures.same c.requires).1

pub accept-requires-clause-few_sent : goal.accept-requires-clause-few_sent
accept-requires-clause-few_sent c =
    let may = free c.self.inside.inputs c.self.inside.inlink c.self.inside.size c.self.inside.table c.self.inside.outlink.link c.reserve.new.self.link c.args.input c.args.self.now c.self.view_is c.reserve.ensures.same c.requires in
    let few : c.self.inside.inputs < 2 ^ 56 = may.0 in
    let sent = c.self.invariant.sent_few in
    let same = ap sent_count c.reserve.ensures.same in
    omega arith

pub accept-requires-clause-few_taken : goal.accept-requires-clause-few_taken
accept-requires-clause-few_taken c =
    let may = free c.self.inside.inputs c.self.inside.inlink c.self.inside.size c.self.inside.table c.self.inside.outlink.link c.reserve.new.self.link c.args.input c.args.self.now c.self.view_is c.reserve.ensures.same c.requires in
    let few : c.self.inside.inputs < 2 ^ 56 = may.0 in
    let taken = c.self.invariant.taken_few in
    omega arith

pub overflow_add-self : goal.overflow_add-self
overflow_add-self c =
    let may = free c.self.inside.inputs c.self.inside.inlink c.self.inside.size c.self.inside.table c.self.inside.outlink.link c.reserve.new.self.link c.args.input c.args.self.now c.self.view_is c.reserve.ensures.same c.requires in
    let few : c.self.inside.inputs < 2 ^ 56 = may.0 in
    omega arith

pub invariant_of-self-2 : goal.invariant_of-self-2
invariant_of-self-2 c =
    let may = free c.self.inside.inputs c.self.inside.inlink c.self.inside.size c.self.inside.table c.self.inside.outlink.link c.reserve.new.self.link c.args.input c.args.self.now c.self.view_is c.reserve.ensures.same c.requires in
    counted_next c.accept.new.table.me c.self.inside.size c.self.inside.inputs c.self.inside.inlink c.self.inside.table c.self.inside.outlink.link c.reserve.new.self.link c.args.input _ c.accept.ensures.me c.reserve.ensures.same c.look_at.ensures may.2 may.1 c.self.invariant (c.in_ok-effects.ensures.steps c.self.inside.inputs)
