-- A node at work, and what its calls make of it.
use Rattle.std.proofs.Common.{arith, Err, ◌≡◌, ◌⊎◌, ⊎_elim, ℕ, ◌+◌, ◌<◌, ◌≤◌, ◌^◌, true, false, List, [], ◌∷◌, ◌++◌, length, take, Option, Some, None, inl, inr, refl, sym, ap, subst, ◌∙◌, length-append}
use Rattle.std.proofs.lemmas.Bool.Decides.{nat_tests}
use Rattle.std.proofs.lemmas.List.{take-append-le, length-take}
use Rattle.std.specs.List.{filter}
use Rattle.std.specs.Prelude.{unwrap_or, is_none, nat_eq, ◌&&◌}
use Rattle.std.proofs.lemmas.Bool.{eq-eqb}
use Rattle.ring_records.specs.declared.input.Input.{Input}
use Rattle.ring_records.specs.declared.request.Request.{Request}
use Rattle.ring_records.specs.declared.base.Base.{Base}
use Rattle.ring_records.specs.Admission.{fresh, newest}
use Rattle.ring_records.specs.Lawful.{IsLawful, IsLawfulState}
use Rattle.disk_model.specs.Disk.{Reach, Reaches}
use Rattle.disk_model.specs.FuseDevice.{inner_of}
use Rattle.disk_model.specs.Unarmed.{is_idle_device}
use Rattle.disk_model.specs.MemDevice.{disk_of, limit_of}
use Rattle.disk_model.specs.declared.fuse.FuseDevice.{FuseDevice}
use Rattle.disk_model.specs.declared.memory.MemDevice.{MemDevice}
use Rattle.gated_journal.specs.Damage.{AreAreasUnread}
use Rattle.gated_journal.specs.Reading.{device_size}
use Rattle.gated_journal.specs.Unread.{header_at, IsFault, IsUnread}
use Rattle.node_store.specs.Recovery.{IsNotLawful}
use Rattle.ring_records.specs.Lists.{EachAfter}
use Rattle.ring_records.specs.Answer.{Answered}
use Rattle.ring_records.specs.Answering.{gained, answered}
use Rattle.ring_records.specs.States.{NodeState, launched_base, is_idle, opened, landed}
use Rattle.ring_records.specs.Serving.{gained_by}
use Rattle.ring_records.specs.declared.summary.Summary.{Summary}
use Rattle.ring_records.specs.Outside.{is_outside}
use Rattle.ring_records.specs.declared.refusal.Refusal.{Refusal}
use Rattle.ring_records.specs.declared.refusal.Refusal.TheVariants.{Device, Failed, OutOfMemory}
use Rattle.ring_records.specs.Member.{Member, member}
use Rattle.group_commit.specs.Desk as desks
use Rattle.group_commit.specs.Desk.{DeskView, DeskKept, seen, ended, objection, kept_at, IsHere, IsSealed}
use Rattle.group_commit.specs.DeskCalls.{ticket_for, submitted}
use Rattle.group_commit.specs.Ticket.{TicketView}
use Rattle.ring_records.proofs.States.{base-fresh, lawful-opened, lawful-asked}
use Rattle.group_commit.specs.Past.{IsPast}
use Rattle.node_store.specs.State.{ReadsAsLeft, opened_view}
use Rattle.ring_node.specs.Node.{NodeView, new_node, asked_with, reopened}
use Rattle.ring_node.specs.Open.{is_due}
use Rattle.ring_node.specs.Held.{HeldView, MatchFirst, AreHeld, shown_with, view_with, reach_of, IsServed, IsShownBy}
use Rattle.ring_node.proofs.Queue.{First, held_none, held_more, shown_more, first, held_from, none_due, ended_first, found_first}

-- what is shown by other names
pub same_view : {dropped : ℕ} (desk desk' : DeskView) (queue queue' : List HeldView) → desk' ≡ desk → queue' ≡ queue → view_with dropped desk' queue' ≡ view_with dropped desk queue
same_view {dropped} desk desk' queue queue' d q = λ i. view_with dropped (d i) (q i)

-- ---- a node that is opened

-- an idle device is reliable as far as the one behind it goes
pub idle_reaches : (device : FuseDevice MemDevice) (inner : MemDevice) (size : ℕ) → is_idle_device device ≡ true → inner_of device ≡ inner → size ≤ limit_of inner
    → Reaches (reach_of device) size
idle_reaches device inner size idle behind within = let same = ap limit_of behind in record { reliable = idle; within = omega arith }

-- what it holds is no longer
pub image_within : (device : FuseDevice MemDevice) → is_idle_device device ≡ true → Reaches (reach_of device) (length (disk_of (inner_of device)).image)
image_within device idle =
    let long = length-take (inner_of device).held.size (inner_of device).held.bytes.items in
    idle_reaches device (inner_of device) _ idle refl (omega arith)

pub starts : (m : Member) (run : ℕ) (base : Base) (inputs : List Input) (reach : Reach) → IsLawfulState m (opened base inputs) → base.layout ≡ newest → Reaches reach (device_size m.capacity)
    → IsServed (opened_view m run (opened base inputs)) reach []
starts m run base inputs reach lawful layout reaches = record {
  takes = refl;
  works = refl;
  idle = refl;
  none = refl;
  lawful = lawful;
  layout = layout;
  held = held_none m.node run (length inputs);
  reaches = reaches;
}

pub new_shown : (node n capacity : ℕ) → view_with 0 (opened_view (member node n capacity) 0 (opened fresh [])) [] ≡ new_node node n capacity
unfolding shown_with
new_shown node n capacity = refl

-- it shows that state
pub reopens_shown : (m : Member) (run : ℕ) (s : NodeState) (v : NodeView) → v.member ≡ m → view_with s.base.inputs (opened_view m run s) [] ≡ reopened s v
unfolding reopened shown_with
reopens_shown m run s v member_is = λ i. record { member = sym member_is i; inputs = s.inputs; durable = s.durable; base = s.base; held = []; issued = 0; dropped = s.base.inputs }

pub none_lawful : (me n capacity : ℕ) → IsLawfulState (member me n capacity) (opened fresh [])
unfolding IsLawful EachAfter
none_lawful me n capacity = lawful-opened (member me n capacity) fresh [] (base-fresh me []) tt

-- ---- a node that is stopped

-- whether what flew landed or flies for good, the images read as what a stop leaves of the state in which it flies
pub stopped : (m : Member) (s t : NodeState) (image : List ℕ) → (t ≡ s) ⊎ (t ≡ landed s) → ReadsAsLeft m t image → ReadsAsLeft m s image
stopped m s t image (inl e) read = subst (λ (u : NodeState). ReadsAsLeft m u image) e read
stopped m s t image (inr e) read = ⊎_elim (λ old. inr old) (λ new. inr new) (subst (λ (u : NodeState). ReadsAsLeft m u image) e read)

-- ---- a node between its calls

-- of an idle state no checkpoint flies
pub is_idle_state : (s : NodeState) → s.flying ≡ s.durable → s.checkpoint ≡ None → is_idle s ≡ true
is_idle_state s idle none = (λ i. nat_eq (idle i) s.durable && is_none (none i)) ∙ ap (λ b. b && true) (eq-eqb s.durable s.durable refl)

pub base_stays : (s : NodeState) → s.checkpoint ≡ None → launched_base s ≡ s.base
base_stays s none = ap (λ o. unwrap_or o s.base) none

-- the opening stands for its past
pub count_past : (past : List Input) (desk : DeskKept) (k : ℕ) → IsPast desk.view.member desk.opening past → desk.opening.inputs + k ≡ length past + k
count_past past desk k is = ap (λ (s : Summary). s.inputs + k) is.summed

-- the desk shows all of it
pub shown_by : (past : List Input) (desk : DeskKept) → IsPast desk.view.member desk.opening past
    → IsShownBy desk.view.member (past ++ desk.view.state.inputs) (length past + desk.view.state.durable) desk
shown_by past desk is = record { past = past; member = refl; is = is; all = refl; count = refl }

-- ---- the oldest ticket

module _ (desk : DeskView) (from top : ℕ) (queue : List HeldView) (held : AreHeld desk.member.node desk.run from top desk.tickets queue) (h : HeldView) (rest : List HeldView) (is : queue ≡ h ∷ rest) where
  pub oldest : First desk.member.node desk.run from top desk.tickets h rest
  oldest = first desk.member.node desk.run from top desk.tickets h rest queue is held

  own_is : h.ticket.own ≡ oldest.own
  own_is = ap (λ (t : TicketView). t.own) oldest.is

  pub number_is : oldest.kept.answer.number ≡ h.ticket.number
  number_is = sym (ap (λ (t : TicketView). t.number) oldest.is)

  -- it is open
  pub is_here : IsHere desk h.ticket oldest.kept
  is_here = record {
    node = ap (λ (t : TicketView). t.node) oldest.is;
    run = ap (λ (t : TicketView). t.run) oldest.is;
    own = (λ i. kept_at (record desk { tickets = oldest.are i }) (own_is i)) ∙ found_first oldest.own oldest.kept oldest.others;
    question = sym (ap (λ (t : TicketView). t.question) oldest.is);
  }

  -- where it ends, the others are left
  pub others_are : (ended h.ticket.own desk).tickets ≡ oldest.others
  others_are = (λ i. (ended (own_is i) (record desk { tickets = oldest.are i })).tickets) ∙ ended_first oldest.own oldest.kept oldest.others

  pub others_held : AreHeld desk.member.node desk.run from top (ended h.ticket.own desk).tickets rest
  others_held = subst (λ (ts : List (ℕ × Answered)). AreHeld desk.member.node desk.run from top ts rest) (sym others_are) (held_from desk.member.node desk.run oldest.kept.answer.number from top oldest.others rest oldest.low oldest.held)

  -- what was kept for it was shown first
  module _ (answered : Answered) (there : IsHere desk h.ticket answered) where
    same : oldest.kept ≡ answered
    same = let e = is_here.own in let f = there.own in cc

    pub first_number : answered.answer.number ≡ h.ticket.number
    first_number = ap (λ (a : Answered). a.answer.number) (sym same) ∙ number_is

    pub first_shown : shown_with desk.tickets queue ≡ record { serial = h.serial; kept = answered } ∷ shown_with (ended h.ticket.own desk).tickets rest
    unfolding shown_with
    first_shown = (λ i. shown_with (oldest.are i) (is i)) ∙ (λ i. record { serial = h.serial; kept = same i } ∷ shown_with (sym others_are i) rest)

-- ---- a node at work

module _ (desk : DeskView) (reach : Reach) (queue : List HeldView) (here : IsServed desk reach queue) where
  pub within_served : desk.state.durable ≤ length desk.state.inputs
  within_served = let low = here.lawful.counts.durable in let high = here.lawful.counts.flying in omega arith

  -- it is asked
  module _ (q : Request) (h : HeldView) (is : h.ticket ≡ ticket_for q desk) where
    pub gives : IsServed (submitted q desk) reach (queue ++ h ∷ [])
    gives =
        let m = desk.member in
        let s = desk.state in
        let more = gained_by m s q in
        let a = desks.answered desk q in
        let long = length-append s.inputs more in
        let within = within_served in
        record {
          takes = here.takes;
          works = here.works;
          idle = here.idle;
          none = here.none;
          lawful = lawful-asked m s q here.lawful;
          layout = here.layout;
          held = held_more m.node desk.run 0 (length s.inputs) (length (s.inputs ++ more)) desk.issued a h desk.tickets queue is (omega arith) (omega arith) here.held;
          reaches = here.reaches;
        }

    pub gives_shown : {dropped : ℕ} → view_with dropped (submitted q desk) (queue ++ h ∷ []) ≡ asked_with h.serial q (view_with dropped desk queue)
    unfolding asked_with
    gives_shown {dropped} =
        let shown = shown_more desk.member.node desk.run 0 (length desk.state.inputs) desk.issued (desks.answered desk q) h desk.tickets queue here.held in
        let m = desk.member in
        let base = base_stays desk.state here.none in
        (λ i. record (view_with dropped (submitted q desk) (queue ++ h ∷ [])) { held = shown i })
        ∙ (λ i. record (view_with dropped (submitted q desk) (queue ++ h ∷ [])) {
          inputs = desk.state.inputs ++ gained m.node m.n m.capacity (base i) desk.state.inputs q;
          held = shown_with desk.tickets queue ++ record { serial = h.serial; kept = answered m.node m.n m.capacity (base i) desk.state.inputs q } ∷ [];
        })

  -- its durable inputs stay
  pub durable_more : (more : List Input) → take desk.state.durable (desk.state.inputs ++ more) ≡ take desk.state.durable desk.state.inputs
  durable_more more = take-append-le desk.state.durable desk.state.inputs more within_served

  -- where the oldest ticket is not due, none is
  pub sealed : MatchFirst (λ h. desk.state.durable < h.ticket.number) queue → filter (is_due desk.state.durable) (shown_with desk.tickets queue) ≡ []
  sealed late = none_due desk.member.node desk.run desk.state.durable 0 (length desk.state.inputs) desk.tickets queue late here.held

  -- the oldest ticket ends
  module _ (h : HeldView) (rest : List HeldView) (is : queue ≡ h ∷ rest) where
    pub ends : IsServed (ended h.ticket.own desk) reach rest
    ends = record {
      takes = here.takes;
      works = here.works;
      idle = here.idle;
      none = here.none;
      lawful = here.lawful;
      layout = here.layout;
      held = others_held desk 0 (length desk.state.inputs) queue here.held h rest is;
      reaches = here.reaches;
    }

    low : MatchFirst (λ (x : HeldView). x.ticket.number ≤ desk.state.durable) queue → h.ticket.number ≤ desk.state.durable
    low due = subst (MatchFirst (λ (x : HeldView). x.ticket.number ≤ desk.state.durable)) is due

    pub early : MatchFirst (λ (x : HeldView). x.ticket.number ≤ desk.state.durable) queue
        → (oldest desk 0 (length desk.state.inputs) queue here.held h rest is).kept.answer.number ≤ desk.state.durable
    early due = omega (arith, low due, number_is desk 0 (length desk.state.inputs) queue here.held h rest is)

    pub ends_due : (answered : Answered) → IsHere desk h.ticket answered → MatchFirst (λ (x : HeldView). x.ticket.number ≤ desk.state.durable) queue
        → is_due desk.state.durable (record { serial = h.serial; kept = answered }) ≡ true
    ends_due answered there due =
        let le = low due in
        let number = first_number desk 0 (length desk.state.inputs) queue here.held h rest is answered there in
        grind (arith, nat_tests)

-- a ticket that is open is so whatever is summarised
pub here_since : (past : List Input) (desk : DeskKept) (ticket : TicketView) (kept : Answered) → IsHere (seen past desk) ticket kept → IsHere desk.view ticket kept
here_since past desk ticket kept here = record { node = here.node; run = here.run; own = here.own; question = here.question }

pub here_whole : (past : List Input) (desk : DeskKept) (ticket : TicketView) (kept : Answered) → IsHere desk.view ticket kept → IsHere (seen past desk) ticket kept
here_whole past desk ticket kept here = record { node = here.node; run = here.run; own = here.own; question = here.question }

-- a ticket that is open and due is not refused
pub not_sealed : (desk : DeskKept) (ticket : TicketView) (kept : Answered) (why : Refusal) → IsHere desk.view ticket kept → kept.answer.number ≤ desk.opening.inputs + desk.view.state.durable
    → IsSealed desk ticket why → ⊥
not_sealed desk ticket kept why here low sealed = elim sealed.cause [
  | inl foreign ↦ foreign.1 kept here
  | inr early ↦ let same : early.0 ≡ kept = (let e = early.1.own in let f = here.own in cc) in
      let number = ap (λ (a : Answered). a.answer.number) same in
      let lt = early.2 in
      absurd (omega arith)
]

-- ---- want of memory alone

-- what is wrong with an image is not that its device failed
head_fault : (node n : ℕ) (image : List ℕ) (count : ℕ) → header_at node n image ≡ Err (Device count) → ⊥
head_fault node n image count fault = grind (arith, nat_tests)

areas_fault : (n capacity : ℕ) (image : List ℕ) (why : Refusal) (count : ℕ) → AreAreasUnread n capacity image why → why ≡ Device count → ⊥
areas_fault n capacity image why count unread fault = elim unread.cause [
  | inl none ↦ let is = sym fault ∙ none.0 in absurd cc
  | inr (inl broken) ↦ elim broken.cause [
    | inl head ↦ let is = sym fault ∙ head.0 in absurd cc
    | inr frames ↦ elim frames.cause [
      | inl at ↦ let is = sym fault ∙ at.is in absurd cc
      | inr past ↦ let is = sym fault ∙ past.0 in absurd cc
    ]
  ]
  | inr (inr plain) ↦ elim plain.cause [
    | inl at ↦ let is = sym fault ∙ at.is in absurd cc
    | inr past ↦ let is = sym fault ∙ past.0 in absurd cc
  ]
]

-- a node that takes requests takes one of its ring while it gave few tickets
pub unobjected : (desk : DeskView) (question : Request) → desk.closed ≡ false → desk.failed ≡ false → is_outside desk.member.n question ≡ false → desk.issued < 2 ^ 60
    → objection desk question ≡ None
unobjected desk question takes works inside few = grind (arith, nat_tests)

pub no_objection : {objection : Option Refusal} {why : Refusal} → (objection ≡ Some why) ⊎ ((objection ≡ None) × (why ≡ OutOfMemory)) → objection ≡ None → why ≡ OutOfMemory
no_objection (inl objects) none = let is = sym objects ∙ none in absurd cc
no_objection (inr short) none = short.1

-- the device holds what reads, and does not fail
pub no_cause : (node n before now : ℕ) (image : List ℕ) (why : Refusal) → (why ≡ OutOfMemory) ⊎ IsFault before now why
    → (why ≡ OutOfMemory) ⊎ (IsUnread node n image why ⊎ IsNotLawful node n image why) → why ≡ OutOfMemory
no_cause node n before now image why (inl short) found = short
no_cause node n before now image why (inr fault) (inl short) = short
no_cause node n before now image why (inr fault) (inr (inr unlawful)) = let is = sym fault.is ∙ unlawful.unlawful.is in absurd cc
no_cause node n before now image why (inr fault) (inr (inl unread)) = elim unread.cause [
  | inl head ↦ absurd (head_fault node n image now (head ∙ ap Err fault.is))
  | inr areas ↦ absurd (areas_fault n areas.0 image why now areas.2 fault.is)
]
