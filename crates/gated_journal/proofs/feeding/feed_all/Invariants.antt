use Rattle.std.proofs.Common.{◌≡◌, ◌-◌, ◌≤◌, Ok}
use Rattle.gated_journal.specs.Feeding.{fed_to}
use Rattle.gated_journal.specs.OnlyReads.{OnlyReads, NoCause}
use Rattle.gated_journal.specs.declared.area_reader.Fed.TheVariants.{More}
use Rattle.gated_journal.proofs.feeding.feed_all.Given as goal

abbrev pub invariant-loop-at : goal.invariant-loop-at
invariant-loop-at g l = record {
  from : l.start ≤ l.at;
  to : l.at ≤ l.size;
  reader : l.reader ≡ fed_to l.layout l.n l.start (g.D.Device.disk l.fn.device).image l.at (Ok More);
  device : OnlyReads g.D.Device l.fn.device l.device (Ok l.at) NoCause;
}

abbrev pub decreases-loop-at : goal.decreases-loop-at
decreases-loop-at g l = l.size - l.at
