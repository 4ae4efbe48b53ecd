-- What a list of notices answers to a question for leaders.
use Rattle.std.specs.Prelude.{ℕ, ◌≡◌, List, Option}
use Rattle.ring_records.specs.declared.candidate.Candidate.{Candidate}
use Rattle.ring_records.specs.declared.notice.Notice.{Notice}
use Rattle.ring_records.specs.declared.reply.Reply.{Reply}
use Rattle.ring_records.specs.declared.reply.Reply.TheVariants as replied
use Rattle.ring_records.specs.declared.request.Request.{Request}
use Rattle.ring_records.specs.declared.request.Request.TheVariants.{Stand, Take, Acked, Retire, Who, Latest}
use Rattle.ring_records.specs.Latest.{IsLatest}
use Rattle.ring_records.specs.Notices.{leader_in, leads_in}

-- the greatest term of the group with a leader in the list that is seen, and that leader
pub record IsLatestReply (group : List ℕ) (reply : Reply) (list : List Notice) : Type 0 where
  pub latest : Option (ℕ × Candidate)
  pub is : reply ≡ replied.Latest latest
  pub greatest : IsLatest (leads_in list group) latest

-- the reply to a question for leaders, by the list that is seen; nothing else is asked
abbrev pub IsReadReply : List Notice → Request → Reply → Type 0
IsReadReply list (Who key) reply = reply ≡ replied.Leader (leader_in list key)
IsReadReply list (Latest group) reply = IsLatestReply group reply list
IsReadReply list (Stand key bid) reply = ⊥
IsReadReply list (Take number msg) reply = ⊥
IsReadReply list (Acked upto) reply = ⊥
IsReadReply list (Retire group floor) reply = ⊥
