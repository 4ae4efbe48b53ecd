use Rattle.std.proofs.Common.{◌≡◌, ◌++◌, take, string_bytes}
use Rattle.std.specs.List.{flat_map}
use Rattle.ring_page.specs.Nodes.{lead_drawn}
use Rattle.ring_page.proofs.picture.draw_leads.Given as goal

abbrev pub invariant-loop-lead : goal.invariant-loop-lead
invariant-loop-lead l = string_bytes l.out ≡ string_bytes l.initial.out ++ flat_map (lead_drawn l.node) (take l.lead-index l.leads)
