-- A node of the ring: it is at work, and its messages are those that its durable inputs sent.
use Rattle.std.proofs.Common.{arith, ℕ, ◌≡◌, ◌≤◌, true, List, [], ◌∷◌, ◌++◌, length, refl, sym, ap, subst, ◌∙◌}
use Rattle.std.proofs.lemmas.Bool.Decides.{nat_tests}
use Rattle.std.proofs.lemmas.List.{take_all}
use Rattle.disk_model.specs.Disk.{Reach, Reaches}
use Rattle.ring_records.specs.declared.base.Base.{Base}
use Rattle.ring_records.specs.declared.input.Input.{Input}
use Rattle.ring_records.specs.declared.msg.Msg.{Msg}
use Rattle.ring_records.specs.declared.request.Request.{Request}
use Rattle.ring_records.specs.Admission.{newest}
use Rattle.ring_records.specs.States.{opened}
use Rattle.ring_records.specs.Serving.{gained_by}
use Rattle.ring_records.specs.Lawful.{IsLawfulState}
use Rattle.ring_records.specs.Emission.{sent}
use Rattle.ring_records.specs.Member.{Member}
use Rattle.ring_records.specs.declared.summary.Summary.{Summary}
use Rattle.gated_journal.specs.Reading.{device_size, is_header}
use Rattle.group_commit.specs.Desk.{DeskView, DeskKept, seen, ended}
use Rattle.group_commit.specs.DeskCalls.{ticket_for, submitted}
use Rattle.group_commit.specs.Past.{IsPast}
use Rattle.node_store.specs.State.{opened_view}
use Rattle.ring_node.specs.Held.{HeldView, AreInside, IsWhole, IsRingNode}
use Rattle.ring_node.proofs.Sending.{inside}
use Rattle.ring_node.proofs.Serving as serving

pub me_within : (m : Member) → is_header m ≡ true → m.node ≤ m.n
me_within m range = grind (arith, nat_tests)

-- the node by other names
pub by_name : (m : Member) (view : DeskView) (reach : Reach) (queue : List HeldView) (messages : List Msg) (past : List Input) (desk : DeskKept) (reach' : Reach) (queue' : List HeldView) (messages' : List Msg)
    → IsPast desk.view.member desk.opening past → seen past desk ≡ view → reach' ≡ reach → queue' ≡ queue → messages' ≡ messages
    → IsWhole m view reach queue messages → IsRingNode m past desk reach' queue' messages'
by_name m view reach queue messages past desk reach' queue' messages' behind k r q ms whole = record {
  behind = behind;
  whole = subst (λ (a : DeskView × Reach × List HeldView × List Msg). IsWhole m a.0 a.1 a.2 a.3) (λ i. (sym k i, sym r i, sym q i, sym ms i)) whole;
}

-- a desk with the same opening has the same past
pub same_past : (past : List Input) (old new : DeskKept) → new.opening ≡ old.opening → new.view.member ≡ old.view.member → IsPast old.view.member old.opening past
    → IsPast new.view.member new.opening past
same_past past old new opening member_is is = subst (λ (a : Member × Summary). IsPast a.0 a.1 past) (λ i. (sym member_is i, sym opening i)) is

pub keeps_past : (past : List Input) (old new : DeskKept) (view : DeskView) → new ≡ record old { view = view } → view.member ≡ old.view.member → IsPast old.view.member old.opening past
    → IsPast new.view.member new.opening past
keeps_past past old new view next member_is is = same_past past old new (ap (λ (d : DeskKept). d.opening) next) (ap (λ (d : DeskKept). d.view.member) next ∙ member_is) is

-- a node that is opened with these inputs, all of them durable, and the messages that they sent
pub opens : (m : Member) (run : ℕ) (base : Base) (inputs : List Input) (reach : Reach) (messages : List Msg) → is_header m ≡ true → IsLawfulState m (opened base inputs)
    → base.layout ≡ newest → Reaches reach (device_size m.capacity) → messages ≡ sent m.node inputs → IsWhole m (opened_view m run (opened base inputs)) reach [] messages
opens m run base inputs reach messages range lawful layout reaches sends = record {
  range = range;
  is = refl;
  served = serving.starts m run base inputs reach lawful layout reaches;
  sends = sends ∙ ap (sent m.node) (sym (take_all (length inputs) inputs (omega arith)));
  inside = subst (AreInside m.n) (sym sends) (inside m.node m.n m.capacity base (me_within m range) inputs lawful.all);
}

module _ (m : Member) (desk : DeskView) (reach : Reach) (queue : List HeldView) (messages : List Msg) (here : IsWhole m desk reach queue messages) where
  -- it is asked
  pub asks : (q : Request) (h : HeldView) → h.ticket ≡ ticket_for q desk → IsWhole m (submitted q desk) reach (queue ++ h ∷ []) messages
  asks q h is = record {
    range = here.range;
    is = here.is;
    served = serving.gives desk reach queue here.served q h is;
    sends = here.sends ∙ ap (sent m.node) (sym (serving.durable_more desk reach queue here.served (gained_by desk.member desk.state q)));
    inside = here.inside;
  }

  -- the oldest ticket ends
  pub ends : (h : HeldView) (rest : List HeldView) → queue ≡ h ∷ rest → IsWhole m (ended h.ticket.own desk) reach rest messages
  ends h rest is = record {
    range = here.range;
    is = here.is;
    served = serving.ends desk reach queue here.served h rest is;
    sends = here.sends;
    inside = here.inside;
  }
