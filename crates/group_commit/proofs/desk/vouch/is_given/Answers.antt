use Rattle.std.proofs.Common.{rules, inl, refl}
use Rattle.ring_records.proofs.Replies.{same_reply}
use Rattle.group_commit.proofs.desk.vouch.is_given.Goals as goal

pub returns-then-eq : goal.returns-then-eq
returns-then-eq c = (λ t. inl ((same_reply c.args.reply.now c.args.full.now).0 (search rules)), λ given. refl)
