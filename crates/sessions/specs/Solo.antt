-- What a service over one node answers.
use Rattle.std.specs.Prelude.{◌≡◌, ◌⊎◌, ◌≤◌, ◌^◌, ℕ, Bool, true, false, List, [], ◌++◌, Option, is_some, Ok, Err}
use Rattle.std.specs.List.{cons_option}
use Rattle.disk_model.specs.declared.device.Device.{Ghosts}
use Rattle.gated_journal.specs.Unread.{IsFault}
use Rattle.group_commit.specs.Desk.{DeskKept, answered, seen}
use Rattle.group_commit.specs.Past.{IsPast}
use Rattle.node_store.specs.Node.{desk_of, member_of, state_of, device_of}
use Rattle.node_store.specs.Flying.{settled_base}
use Rattle.node_store.specs.declared.node.Node.{Node}
use Rattle.ring_records.specs.States.{opened}
use Rattle.ring_records.specs.Serving.{gained_by}
use Rattle.ring_records.specs.declared.input.Input.{Input}
use Rattle.ring_records.specs.declared.refusal.Refusal.{Refusal}
use Rattle.ring_records.specs.declared.refusal.Refusal.TheVariants as refused
use Rattle.ring_records.specs.declared.reply.Reply.{Reply}
use Rattle.ring_records.specs.declared.request.Request.{Request}
use Rattle.sessions.specs.Session.{Answer}
use Rattle.sessions.specs.declared.solo.SoloService.{SoloService}

module _ {D : Type 0} {g : Ghosts D} where
  abbrev pub node_of : SoloService D g → Node D g
  node_of s = s.node

  -- a flush was refused
  abbrev pub has_failed : SoloService D g → Bool
  has_failed s = is_some s.unanswered

  -- the inputs of its node since the opening
  abbrev pub history : SoloService D g → List Input
  history s = (state_of s.node).inputs

  -- the node's opening is the summary of these inputs
  abbrev pub HasPast : SoloService D g → List Input → Type 0
  HasPast s past = IsPast (member_of s.node) (desk_of s.node).opening past

  -- what the node answers to the question after all its inputs, behind this past
  abbrev pub reply_to : List Input → SoloService D g → Request → Reply
  reply_to past s q = (answered (seen past (desk_of s.node)) q).answer.reply

  -- the inputs, one or none, that the question has the node accept then
  abbrev pub gained_with : List Input → SoloService D g → Request → List Input
  gained_with past s q = gained_by (member_of s.node) (seen past (desk_of s.node)).state q

  -- the desk of its node with these inputs behind what it accepted
  abbrev pub asked : SoloService D g → List Input → DeskKept
  asked s more = record (desk_of s.node) { view = record (desk_of s.node).view { state = record (state_of s.node) { inputs = history s ++ more } } }

  -- it is the same opening of the same node
  pub record IsSame (s t : SoloService D g) : Type 0 where
    pub member : member_of t.node ≡ member_of s.node
    pub opening : (desk_of t.node).opening ≡ (desk_of s.node).opening
    pub run : (desk_of t.node).view.run ≡ (desk_of s.node).view.run

  -- The node's reply, which rests on durable inputs alone: the node accepted what the question asks it to accept, where that
  -- is admitted, and nothing waits. The area in use is that in which its flush left the input.
  pub record IsReplied (s : SoloService D g) (q : Request) (reply : Reply) (t : SoloService D g) : Type 0 where
    pub works : has_failed s ≡ false
    pub more : Option Input
    pub is : (past : List Input) → HasPast s past → (reply ≡ reply_to past s q) × (cons_option more [] ≡ gained_with past s q)
    pub next : state_of t.node ≡ opened (settled_base (asked s (cons_option more []))) (history s ++ cons_option more [])
    pub same : IsSame s t
    pub goes_on : has_failed t ≡ false

  -- no ticket was given, and the node is as it was: all numbers of tickets were given, or a growth was refused
  pub record IsUnasked (s : SoloService D g) (why : Refusal) (t : SoloService D g) : Type 0 where
    pub works : has_failed s ≡ false
    pub cause : ((why ≡ refused.Limit) × (2 ^ 60 ≤ (desk_of s.node).view.issued)) ⊎ (why ≡ refused.OutOfMemory)
    pub same : desk_of t.node ≡ desk_of s.node
    pub goes_on : has_failed t ≡ false

  -- the node accepted what is asked, and the flush was refused: the device failed, or a growth was refused
  pub record IsUnflushed (count : D → ℕ) (s : SoloService D g) (q : Request) (why : Refusal) (t : SoloService D g) : Type 0 where
    pub works : has_failed s ≡ false
    pub cause : IsFault (count (device_of s.node)) (count (device_of t.node)) why ⊎ (why ≡ refused.OutOfMemory)
    pub more : Option Input
    pub is : (past : List Input) → HasPast s past → cons_option more [] ≡ gained_with past s q
    pub next : history t ≡ history s ++ cons_option more []
    pub same : IsSame s t
    pub failed : has_failed t ≡ true

  -- a flush was refused before
  pub record IsGivenUp (s : SoloService D g) (why : Refusal) (t : SoloService D g) : Type 0 where
    pub failed : has_failed s ≡ true
    pub is : why ≡ refused.Failed
    pub same : t ≡ s

  abbrev pub SoloAnswers : (D → ℕ) → SoloService D g → Request → Answer → SoloService D g → Type 0
  SoloAnswers count s q (Ok reply) t = IsReplied s q reply t
  SoloAnswers count s q (Err why) t = IsUnasked s why t ⊎ (IsUnflushed count s q why t ⊎ IsGivenUp s why t)
