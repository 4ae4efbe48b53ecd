use Rattle.group_commit.proofs.Seen.{all_seen, durable_seen, lawful_desk, leader_seen, shown_seen, used_seen}
use Rattle.group_commit.proofs.laws.counts.Goals as goal

pub returns : goal.returns
returns c = record {
  lawful = λ past desk is known. lawful_desk desk known past is;
  known = all_seen;
  durable = durable_seen;
  shown = shown_seen;
  leader = leader_seen;
  used = used_seen;
}
