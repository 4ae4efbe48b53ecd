use Rattle.std.proofs.Common.{◌≡◌, map, take}
use Rattle.serde_json.specs.View.{view}
use Rattle.ring_status.specs.Data.{lead_data}
use Rattle.ring_status.proofs.json.leads_json.Given as goal

abbrev pub invariant-loop-lead : goal.invariant-loop-lead
invariant-loop-lead l = map view l.all.items ≡ map lead_data (take l.lead-index l.leads)
