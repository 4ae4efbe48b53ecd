use Rattle.std.proofs.Common.{◌≡◌, ◌-◌, not}
use Rattle.std.specs.FinMap as map
use Rattle.ring_records.specs.Known.{drops}
use Rattle.groups_terms.specs.Dropped.{kept_in, HaveTerms, stood_among}
use Rattle.groups_terms.proofs.dropped.drop_under.Given as goal

-- without those below the floor the ballots are what they were without them, and so are the Stands
abbrev pub invariant-loop-key : goal.invariant-loop-key
invariant-loop-key l = record {
  terms : HaveTerms (kept_in l.ballots);
  left : map.retain_keys (kept_in l.ballots) (λ key. not (drops l.group l.floor key)) ≡ map.retain_keys (kept_in l.fn.ballots) (λ key. not (drops l.group l.floor key));
  stood : l.stands - stood_among (kept_in l.ballots) (drops l.group l.floor) ≡ l.fn.stands - stood_among (kept_in l.fn.ballots) (drops l.group l.floor);
}

abbrev pub decreases-loop-key : goal.decreases-loop-key
decreases-loop-key l = map.len (kept_in l.ballots)
