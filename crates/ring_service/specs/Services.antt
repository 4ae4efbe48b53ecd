-- What a service over a hub and a board answers.
use Rattle.std.specs.Prelude.{◌≡◌, ◌<◌, ◌≤◌, ◌+◌, ◌⊎◌, List, Option, Some, Ok, Err}
use Rattle.std.specs.Option.{option_map}
use Rattle.std.specs.declared.sync.ledger.Ledger as ledger
use mathlib.Core.List.{IsPrefix}
use Rattle.ring_records.specs.declared.key.Key.{Key}
use Rattle.ring_records.specs.declared.notice.Notice.{Notice}
use Rattle.ring_records.specs.declared.input.Input.{Input}
use Rattle.ring_records.specs.declared.refusal.Refusal.{Refusal}
use Rattle.ring_records.specs.declared.refusal.Refusal.TheVariants as refused
use Rattle.ring_records.specs.declared.reply.Reply.{Reply}
use Rattle.ring_records.specs.declared.request.Request.{Request}
use Rattle.ring_records.specs.declared.request.Request.TheVariants.{Stand, Take, Acked, Retire, Who, Latest}
use Rattle.ring_records.specs.declared.summary.Summary.{Summary}
use Rattle.ring_records.specs.Answer.{Answered}
use Rattle.ring_records.specs.Notices.{floor_in}
use Rattle.ring_records.specs.Member.{Member}
use Rattle.group_commit.specs.Desk.{IsAnswer}
use Rattle.group_commit.specs.Past.{IsPast}
use Rattle.decision_board.specs.Readers.{seen, learned}
use Rattle.commit_hub.specs.Holders.{begun_by, count_of}
use Rattle.commit_hub.specs.declared.ledgers.NodeLedger as node
use Rattle.commit_hub.specs.declared.share.Begun.{Begun}
use Rattle.commit_hub.specs.declared.share.Share.{Share}
use Rattle.sessions.specs.Session.{Answer}
use Rattle.ring_service.specs.Reads.{IsReadReply}
use Rattle.ring_service.specs.declared.service.HubService.{HubService}

module _ {A : Type 0} {a : node.Ghosts A} {la : ledger.Ghosts A} where
  -- of a stub with its token: the stub, and the inputs that the token speaks of
  abbrev pub stub_in : Option (Answered × Begun A a la) → Option Answered
  stub_in last = option_map (λ l. l.0) last

  abbrev pub begun_in : Option (Answered × Begun A a la) → Option (List Input)
  begun_in last = option_map (λ l. begun_by l.1) last

module _ {R J A : Type 0} {a : node.Ghosts A} {la : ledger.Ghosts A} where
  abbrev pub share_of : HubService R J A a la → Share A a
  share_of service = service.share

  -- what the service's reader of the board saw last, and the longest list that it learned
  abbrev pub reader_of : HubService R J A a la → List Notice × List Notice
  reader_of service = service.reader

  -- the stub of its last reply to a Stand or a Retire, and the inputs that this rests on
  abbrev pub last_of : HubService R J A a la → Option Answered
  last_of service = stub_in service.last

  abbrev pub begun_of : HubService R J A a la → Option (List Input)
  begun_of service = begun_in service.last

  -- its share counts at most one input more
  abbrev pub CountsOne : HubService R J A a la → HubService R J A a la → Type 0
  CountsOne old new = (count_of (share_of old) ≤ count_of (share_of new)) × (count_of (share_of new) ≤ count_of (share_of old) + 1)

  -- A question was answered by the hub: the reply is that of the last stub, which has this question. The node answers so at
  -- some point of the inputs that the stub's token speaks of, behind each past of which its opening is the summary.
  pub record IsReleased (member : Member) (opening : Summary) (old : HubService R J A a la) (q : Request) (reply : Reply) (new : HubService R J A a la) : Type 0 where
    pub given : Answered
    pub begun : List Input
    pub last : last_of new ≡ Some given
    pub rests : begun_of new ≡ Some begun
    pub question : given.question ≡ q
    pub is : reply ≡ given.answer.reply
    pub answer : (past : List Input) → IsPast member opening past → IsAnswer member past begun given
    pub board : reader_of new ≡ reader_of old
    pub counts : CountsOne old new

  -- It was not: the hub is closed or has failed, all numbers of tickets were given, a growth was refused, or the ticket
  -- is not the hub's. The ticket, if there was one, is forfeited.
  pub record IsUnreleased (old : HubService R J A a la) (why : Refusal) (new : HubService R J A a la) : Type 0 where
    pub cause : (why ≡ refused.Failed) ⊎ ((why ≡ refused.Limit) ⊎ ((why ≡ refused.OutOfMemory) ⊎ (why ≡ refused.Foreign)))
    pub last : last_of new ≡ last_of old
    pub rests : begun_of new ≡ begun_of old
    pub board : reader_of new ≡ reader_of old
    pub counts : CountsOne old new

  -- the board was read: what is seen begins with what was seen, and with what was learned
  pub record IsRead (old new : HubService R J A a la) : Type 0 where
    pub begins : IsPrefix (seen (reader_of old)) (seen (reader_of new)) × IsPrefix (learned (reader_of old)) (seen (reader_of new))
    pub learns : learned (reader_of new) ≡ learned (reader_of old)
    pub last : last_of new ≡ last_of old
    pub rests : begun_of new ≡ begun_of old
    pub share : share_of new ≡ share_of old

  -- the board has ended
  abbrev pub IsOver : HubService R J A a la → Refusal → HubService R J A a la → Type 0
  IsOver old why new = (why ≡ refused.NoPlace) × (new ≡ old)

  -- the key is below its group's floor in the list that is seen, which is this
  pub record IsGivenUp (old : HubService R J A a la) (key : Key) (why : Refusal) (new : HubService R J A a la) : Type 0 where
    pub is : why ≡ refused.Retired (floor_in (seen (reader_of new)) key.group)
    pub below : key.term < floor_in (seen (reader_of new)) key.group
    pub read : IsRead old new

  -- A Stand and a Retire are answered by the hub, a question for leaders by the board. Nothing else is asked.
  abbrev pub HubAnswers : Member → Summary → HubService R J A a la → Request → Answer → HubService R J A a la → Type 0
  HubAnswers member opening old (Stand key bid) (Ok reply) new = IsReleased member opening old (Stand key bid) reply new
  HubAnswers member opening old (Stand key bid) (Err why) new = IsUnreleased old why new
  HubAnswers member opening old (Retire group floor) (Ok reply) new = IsReleased member opening old (Retire group floor) reply new
  HubAnswers member opening old (Retire group floor) (Err why) new = IsUnreleased old why new
  HubAnswers member opening old (Who key) (Ok reply) new = IsReadReply (seen (reader_of new)) (Who key) reply × IsRead old new
  HubAnswers member opening old (Who key) (Err why) new = IsOver old why new ⊎ IsGivenUp old key why new
  HubAnswers member opening old (Latest group) (Ok reply) new = IsReadReply (seen (reader_of new)) (Latest group) reply × IsRead old new
  HubAnswers member opening old (Latest group) (Err why) new = IsOver old why new
  HubAnswers member opening old (Take number msg) answer new = ⊥
  HubAnswers member opening old (Acked upto) answer new = ⊥
