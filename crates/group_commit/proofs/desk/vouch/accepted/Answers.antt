use Rattle.std.proofs.Common.{rules, ◌∙◌}
use Rattle.ring_records.proofs.Replies.{same_reply}
use Rattle.group_commit.proofs.desk.vouch.accepted.Goals as goal

pub returns-in-Some : goal.returns-in-Some
returns-in-Some c = record {
  asked = search rules;
  says = (same_reply c.args.reply.now c.acceptance.result).0 (search rules) ∙ search rules;
}
