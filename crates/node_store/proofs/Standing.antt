-- What keeps a node and its journal together.
use Rattle.std.proofs.Common.{◌≡◌, ◌-◌, ◌≤◌, ℕ, Bool, false, List, [], ◌++◌, inl, inr, ⊎_elim, length, take, refl, sym, ◌∙◌, ap, subst, arith, length-append}
use Rattle.std.specs.List.{cons_option}
use Rattle.std.proofs.lemmas.List.{take_all, take-append-le}
use Rattle.disk_model.specs.declared.device.Device.{Ghosts}
use Rattle.disk_model.specs.Disk.{Disk, MayLeave}
use Rattle.ring_records.specs.declared.input.Input.{Input}
use Rattle.ring_records.specs.declared.request.Request.{Request}
use Rattle.ring_records.specs.Answer.{Answered}
use Rattle.ring_records.specs.Admission.{newest, used}
use Rattle.ring_records.specs.Lists.{EachAfter}
use Rattle.ring_records.specs.Member.{Member}
use Rattle.ring_records.specs.Lawful.{IsLawfulState}
use Rattle.ring_records.specs.Summary.{empty}
use Rattle.ring_records.proofs.Lists.{none≢some}
use Rattle.ring_records.proofs.Snapshots.{length-empty}
use Rattle.ring_records.proofs.States.{lawful-asked}
use Rattle.gated_journal.specs.declared.journal.Journal.{Journal}
use Rattle.gated_journal.specs.Areas.{AllReadAs, ReadsAsOneOf}
use Rattle.gated_journal.specs.Journal.{device_of, member_of, len_of, room_of, layout_of, epoch_of, is_spoiled}
use Rattle.gated_journal.specs.Reading.{Reading, fresh_area}
use Rattle.gated_journal.specs.Opened.{count_in, used_in}
use Rattle.node_core.specs.Core.{IsNodeOf}
use Rattle.group_commit.specs.Desk.{DeskKept, DeskView, core_of, new_desk, seen, IsSubmitted}
use Rattle.group_commit.specs.Opening.{IsKnownLawful}
use Rattle.group_commit.specs.Past.{IsPast}
use Rattle.group_commit.specs.Ticket.{TicketView}
use Rattle.group_commit.proofs.Seen.{submitted_seen, lawful_seen}
use Rattle.node_store.specs.Standing.{ReadsOnce, Stands}
use Rattle.node_store.specs.State.{Holds, MayBeLeft, durable_held, flown_held}
use Rattle.node_store.proofs.Left.{may_be_left}

-- ---- what a stop leaves

module _ {D : Type 0} {g : Ghosts D} (desk : DeskKept) (journal : Journal D g) (stands : Stands desk journal) where
  -- what every image reads as that a stop may leave
  held : (image : List ℕ) → MayLeave (g.disk (device_of journal)) image → ReadsAsOneOf desk.view.member (durable_held desk) (flown_held desk) image
  held image may = ⊎_elim (λ old. inl old) (λ new. inr new.1) (rw stands.named at (stands.holds image may))

  -- each of these may be left of it
  pub left : (image : List ℕ) → MayLeave (g.disk (device_of journal)) image → MayBeLeft desk image
  left image may = may_be_left desk image stands.counts stands.lawful (held image may)

  -- where its opening is the summary of a past, its history is lawful, and the device holds it
  pub held_of : (past : List Input) → IsPast desk.view.member desk.opening past
      → IsLawfulState desk.view.member (seen past desk).state × Holds desk.view.member (g.disk (device_of journal)) (seen past desk).state
  held_of past is = (stands.lawful past is, λ image may. ((left image may).left past is).reads)

  -- ---- the desk

  -- other tickets, or closed
  pub goes_on : (tickets : List (ℕ × Answered)) (closed : Bool) → Stands (record desk { view = record desk.view { tickets = tickets; closed = closed } }) journal
  goes_on tickets closed = record {
    inside = stands.inside;
    whole = stands.whole;
    counts = stands.counts;
    lawful = stands.lawful;
    named = stands.named;
    holds = stands.holds;
    ready = λ works. let r = stands.ready works in record { idle = r.idle; none = r.none; works = r.works; count = r.count; left = r.left; form = r.form; area = r.area };
  }

  -- another fuse of the journal's device
  pub rearmed : (new : Journal D g) → member_of new ≡ member_of journal → g.disk (device_of new) ≡ g.disk (device_of journal) → is_spoiled new ≡ is_spoiled journal
      → len_of new ≡ len_of journal → room_of new ≡ room_of journal → layout_of new ≡ layout_of journal → epoch_of new ≡ epoch_of journal → Stands desk new
  rearmed new member disk spoiled len room layout epoch = record {
    inside = stands.inside;
    whole = stands.whole;
    counts = stands.counts;
    lawful = stands.lawful;
    named = member ∙ stands.named;
    holds = λ image may. subst (λ (m : Member). ReadsOnce m (durable_held desk) (flown_held desk) image) (sym member) (stands.holds image (subst (λ (d : Disk). MayLeave d image) disk may));
    ready = λ works. let r = stands.ready works in record { idle = r.idle; none = r.none; works = spoiled ∙ r.works; count = len ∙ r.count; left = room ∙ r.left; form = layout ∙ r.form; area = epoch ∙ r.area };
  }

  -- a request
  pub asks : (q : Request) (new : DeskKept) (ticket : TicketView) → IsSubmitted q desk new ticket → Stands new journal
  asks q new ticket is =
      let s = desk.view.state in
      let more = cons_option is.more [] in
      let bound : s.durable ≤ length s.inputs = omega (arith, stands.counts.durable, stands.counts.flying) in
      let durable : take s.durable (s.inputs ++ more) ≡ take s.durable s.inputs = take-append-le s.durable s.inputs more bound in
      let flown : take s.flying (s.inputs ++ more) ≡ take s.flying s.inputs = take-append-le s.flying s.inputs more stands.counts.flying in
      rw is.next (record {
        inside = stands.inside;
        whole = stands.whole;
        counts = record {
          durable = stands.counts.durable;
          flying = omega (arith, stands.counts.flying, length-append s.inputs more);
          based = stands.counts.based;
          checkpointed = stands.counts.checkpointed;
        };
        lawful = λ past of. subst (λ (v : DeskView). IsLawfulState v.member v.state) (sym (submitted_seen q desk new ticket past is of) ∙ ap (seen past) is.next)
            (lawful-asked desk.view.member (seen past desk).state q (stands.lawful past of));
        named = stands.named;
        holds = λ image may. rw (durable, flown) (stands.holds image may);
        ready = λ works. let r = stands.ready works in record { idle = r.idle; none = r.none; works = r.works; count = r.count; left = rw durable r.left; form = r.form; area = r.area };
      })

-- ---- a node that is opened

module _ {D : Type 0} {g : Ghosts D} (m : Member) (journal : Journal D g) (run : ℕ) where
  pub opens : (r : Reading) → IsNodeOf m.n m.node → member_of journal ≡ m
      → IsKnownLawful (core_of m r) r.inputs → AllReadAs (member_of journal) (g.disk (device_of journal)) r → is_spoiled journal ≡ false
      → len_of journal ≡ count_in r → room_of journal ≡ m.capacity - used_in r → layout_of journal ≡ r.layout → epoch_of journal ≡ r.epoch → Stands (new_desk m run r) journal
  unfolding used
  opens r inside named lawful all works count left layout area =
      let whole : take (length r.inputs) r.inputs ≡ r.inputs = take_all (length r.inputs) r.inputs (omega arith) in
      record {
        inside = inside;
        whole = refl;
        counts = record { durable = omega arith; flying = omega arith; based = omega arith; checkpointed = λ b e. none≢some b e };
        lawful = λ past is. lawful_seen m r.layout r.epoch r.base past r.inputs (length r.inputs) (length r.inputs) is lawful (omega arith) (omega arith);
        named = named;
        holds = λ image may. inl (rw whole (all image may));
        ready = λ _. record { idle = refl; none = refl; works = works; count = count; left = rw whole left; form = layout; area = area };
      }

  -- a new one
  pub opens_empty : IsNodeOf m.n m.node → member_of journal ≡ m → AllReadAs (member_of journal) (g.disk (device_of journal)) (fresh_area newest 1 empty) → is_spoiled journal ≡ false
      → len_of journal ≡ 0 → room_of journal ≡ m.capacity - 42 → layout_of journal ≡ newest → epoch_of journal ≡ 1 → Stands (new_desk m run (fresh_area newest 1 empty)) journal
  unfolding EachAfter
  opens_empty inside named all works count left layout area = opens (fresh_area newest 1 empty) inside named tt all works count (omega (arith, left, length-empty newest (omega arith))) layout area
