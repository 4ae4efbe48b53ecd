-- What is shown of a hub's desk, behind each past that it may have.
use Rattle.std.proofs.Common.{◌≡◌, Bool, not, List, refl, sym, subst}
use Rattle.std.specs.FinMap as fin
use Rattle.ring_records.specs.declared.input.Input.{Input}
use Rattle.ring_records.specs.declared.summary.Summary.{Summary}
use Rattle.ring_records.specs.Admission.{newest, snapshot_len}
use Rattle.ring_records.specs.Member.{Member}
use Rattle.group_commit.specs.Desk.{DeskKept, frees_room, is_due, seen}
use Rattle.group_commit.specs.Next.{is_to_make_room}
use Rattle.group_commit.specs.Past.{IsPast}
use Rattle.group_commit.specs.Since.{IsKnownDesk}
use Rattle.group_commit.proofs.Seen.{all_seen, lawful_desk, shown_seen, used_seen}
use Rattle.commit_hub.specs.declared.look.Look.{Look}
use Rattle.commit_hub.specs.Over.{is_over}
use Rattle.commit_hub.specs.Told.{IsLook, look_at, look_of, room_of}
use Rattle.commit_hub.proofs.Batches.{named}

look_seen : (past : List Input) (is_wanted : Bool) (desk : DeskKept) → IsPast desk.view.member desk.opening past → IsKnownDesk desk
    → look_at is_wanted desk ≡ look_of desk.view.member (seen past desk).state (room_of is_wanted desk) (not (is_over desk))
look_seen past is_wanted desk is known =
    let knows = all_seen past desk is known in
    λ i. record {
      shown = shown_seen past desk is known i;
      used = used_seen past desk i;
      snapshot = snapshot_len newest (knows i);
      epoch = desk.view.state.base.epoch;
      layout = desk.view.state.base.layout;
      capacity = desk.view.member.capacity;
      stands = (knows i).stands;
      floors = fin.len (knows i).floors;
      is_due = is_due desk;
      frees_room = frees_room desk;
      is_room_coming = is_to_make_room is_wanted desk;
      is_open = not (is_over desk);
    }

pub is_look : (is_wanted : Bool) (desk : DeskKept) (m : Member) (opening : Summary) (look : Look) → desk.view.member ≡ m → desk.opening ≡ opening → IsKnownDesk desk
    → look ≡ look_at is_wanted desk → IsLook m opening look
is_look is_wanted desk m opening look of from known is =
    named (λ m opening. IsLook m opening look) desk m opening of from (subst (IsLook desk.view.member desk.opening) (sym is) (record {
      state = desk.view.state;
      known = known;
      inputs = refl;
      durable = refl;
      used_is = refl;
      epoch = refl;
      capacity = refl;
      is_wanted = is_wanted;
      room = refl;
      lawful = λ past behind. lawful_desk desk known past behind;
      is = λ past behind. look_seen past is_wanted desk behind known;
    }))
