use Rattle.std.proofs.Common.{◌≡◌, ◌+◌, ◌-◌, ◌≤◌, length, take, drop, Ok}
use Rattle.gated_journal.specs.Listed.{Lists}
use Rattle.gated_journal.specs.OnlyReads.{OnlyReads, NoCause}
use Rattle.gated_journal.specs.Pieces.{IsNextFront}
use Rattle.gated_journal.proofs.listed.read_list.Given as goal

abbrev pub invariant-loop-at : goal.invariant-loop-at
invariant-loop-at g l = record {
  from : l.start ≤ l.at;
  to : l.at + length l.rest.items ≤ l.size;
  rest : l.rest.items ≡ take (length l.rest.items) (drop l.at (g.D.Device.disk l.fn.device).image);
  lists : Lists 1 (take (l.at - l.start) (drop l.start (g.D.Device.disk l.fn.device).image)) l.inputs.items;
  front : IsNextFront l.rest.items;
  device : OnlyReads g.D.Device l.fn.device l.device (Ok l.at) NoCause;
}

abbrev pub decreases-loop-at : goal.decreases-loop-at
decreases-loop-at g l = l.size - (l.at + length l.rest.items)
