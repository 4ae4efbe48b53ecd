use Rattle.std.proofs.Common.{◌∙◌, sym, subst, ap}
use Rattle.ring_records.specs.Member.{member}
use Rattle.ring_records.specs.Snapshot.{IsSound}
use Rattle.ring_records.proofs.Sound.{sound-empty}
use Rattle.gated_journal.specs.Reading.{Reading}
use Rattle.group_commit.specs.Desk.{new_desk}
use Rattle.ring_start.proofs.found.NewNode.new.Goals as goal

pub open-requires : goal.open-requires
open-requires c = subst (IsSound c.args.nodes) (sym (ap (λ (r : Reading). r.base) c.fresh.ensures)) (sound-empty c.args.nodes)

pub invariant_of-result : goal.invariant_of-result
invariant_of-result c = record {
  inside = c.requires;
  fresh = c.in_ok-desk.ensures.desk ∙ ap (new_desk (member c.args.number c.args.nodes c.args.capacity) 0) c.fresh.ensures;
}
