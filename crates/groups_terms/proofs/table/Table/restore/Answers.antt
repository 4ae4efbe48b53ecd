use Rattle.std.proofs.Common.{◌≡◌, ◌-◌, drop, ap, ◌∙◌, arith}
use Rattle.groups_terms.specs.Table.{ballots_of}
use Rattle.groups_terms.proofs.States.{absent, one_more_put, states-put_back}
use Rattle.groups_terms.proofs.table.Table.restore.Goals as goal

pub put_state-requires : goal.put_state-requires
put_state-requires c =
    let bound = c.loop-left.invariant.bound in
    let test = c.loop-left-test.true in
    absent c.as_slice-items.result.now (c.loop-left.left - 1) c.loop-left.left c.index-items-left.result c.loop-left.table.ballots c.as_slice-items.ensures.sorted
    (omega arith) (omega arith) c.index-items-left.is c.loop-left.invariant.put

pub loop-left-preserved : goal.loop-left-preserved
loop-left-preserved c =
    let bound = c.loop-left.invariant.bound in
    let test = c.loop-left-test.true in
    record {
      bound = omega arith;
      me_is = c.put_state.ensures.me ∙ c.loop-left.invariant.me_is;
      count_is = c.put_state.ensures.stands ∙ c.loop-left.invariant.count_is;
      floors_are = c.put_state.ensures.floors ∙ c.loop-left.invariant.floors_are;
      put = one_more_put c.as_slice-items.result.now (c.loop-left.left - 1) c.loop-left.left c.index-items-left.result c.loop-left.table.ballots _
          (omega arith) (omega arith) c.index-items-left.is c.loop-left.invariant.put c.in_ok-put_state.ensures.ballots;
    }

pub returns-clause-value : goal.returns-clause-value
returns-clause-value c =
    let stop = c.loop-left-test.false in
    let none : c.loop-left.left ≡ 0 = omega arith in
    states-put_back c.loop-left.table c.as_slice-items.result.now (c.loop-left.invariant.put ∙ ap (λ n. ballots_of (drop n c.as_slice-items.result.now)) none) ∙ c.as_slice-items.ensures.value
