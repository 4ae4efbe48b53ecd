use Rattle.std.proofs.Common.{◌≡◌, ◌++◌, take, string_bytes}
use Rattle.std.specs.List.{flat_map}
use Rattle.ring_page.specs.Leaders.{lead_row}
use Rattle.ring_page.proofs.leaders.print_lead_rows.Given as goal

abbrev pub invariant-loop-lead : goal.invariant-loop-lead
invariant-loop-lead l = string_bytes l.out ≡ string_bytes l.initial.out ++ flat_map lead_row (take l.lead-index l.leads)
