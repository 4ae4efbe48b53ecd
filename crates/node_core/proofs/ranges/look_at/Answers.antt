use Rattle.std.proofs.Common.{rules, arith}
use Rattle.ring_records.proofs.Written.{take-has, acked-has}
use Rattle.node_core.proofs.ranges.look_at.Goals as goal

pub returns-in-Take : goal.returns-in-Take
returns-in-Take c = rw c.in-Take.is (take-has c.in-Take.no c.in-Take.msg _ _ c.key.ensures c.candidate.ensures (first_of (search rules, omega arith)) c.look_at_key-in-Take.ensures c.look_at_candidate.ensures)

pub returns-in-Acked : goal.returns-in-Acked
returns-in-Acked c = rw c.in-Acked.is (acked-has c.in-Acked.upto (first_of (search rules, omega arith)))
