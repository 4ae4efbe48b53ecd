use Rattle.std.proofs.Common.{◌≡◌, map, take}
use Rattle.serde_json.specs.View.{view}
use Rattle.ring_status.specs.Data.{refusal_data}
use Rattle.ring_status.proofs.json.refusals_json.Given as goal

abbrev pub invariant-loop-told : goal.invariant-loop-told
invariant-loop-told l = map view l.all.items ≡ map refusal_data (take l.told-index l.told)
