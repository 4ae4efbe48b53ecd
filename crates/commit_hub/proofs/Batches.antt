-- A batch that a hub launches, and what it lets the node release.
use Rattle.std.proofs.Common.{◌≡◌, ℕ, List, ◌++◌, append_assoc, sym, ap, ◌∙◌, subst}
use Rattle.ring_records.specs.declared.input.Input.{Input}
use Rattle.ring_records.specs.declared.packet.Packet.{Packet}
use Rattle.ring_records.specs.declared.summary.Summary.{Summary}
use Rattle.ring_records.specs.Member.{Member}
use Rattle.ring_records.specs.Release.{packets, notices, window}
use Rattle.ring_records.specs.States.{NodeState, launched_base, durable_in, flown_in, flying_in}
use Rattle.ring_records.specs.Lawful.{IsNodeState, IsLawfulState}
use Rattle.ring_records.specs.States as states
use Rattle.group_commit.specs.declared.landed.Landed.{Landed}
use Rattle.group_commit.specs.Desk.{DeskKept, landed, seen}
use Rattle.group_commit.specs.Past.{IsPast, shifted}
use Rattle.group_commit.proofs.Costs.{flown}
use Rattle.group_commit.proofs.Past.{durable-shifted, flying-shifted}
use Rattle.commit_hub.specs.Told.{IsBrought, IsWindow}

-- what is told of the desk is told of what its ledger names
pub named : (P : Member → Summary → Type 0) (d : DeskKept) (m : Member) (opening : Summary) → d.view.member ≡ m → d.opening ≡ opening → P d.view.member d.opening → P m opening
named P d m opening of from holds = subst (λ (x : Member). P x opening) of (subst (P d.view.member) from holds)

-- ---- lands

-- what flew and is durable now
pub brings : (old new : DeskKept) (since inputs : List Input) (brought : Landed) → IsNodeState old.view.state → new ≡ record old { view = landed old.view }
    → ((past : List Input) → IsPast new.view.member new.opening past → IsLawfulState new.view.member (seen past new).state)
    → since ≡ durable_in old.view.state → inputs ≡ flying_in old.view.state
    → ((past : List Input) → IsPast old.view.member old.opening past → brought.packets.items ≡ packets old.view.member.node (durable_in (seen past old).state) (flying_in (seen past old).state))
    → ((past : List Input) → IsPast old.view.member old.opening past → brought.notices.items ≡ notices old.view.member.node (durable_in (seen past old).state) (flying_in (seen past old).state))
    → IsBrought old.view.member old.opening since inputs brought
brings old new since inputs brought counts next lawful from is sends tells past behind =
    let m = old.view.member in
    let s = old.view.state in
    let state : IsLawfulState m (shifted past (states.landed s)) =
    subst (λ (d : DeskKept). (past : List Input) → IsPast d.view.member d.opening past → IsLawfulState d.view.member (seen past d).state) next lawful past behind in
    let whole : past ++ flown_in s ≡ (past ++ since) ++ inputs =
    ap (λ (l : List Input). past ++ l) (sym (flown s counts)) ∙ (sym (append_assoc past (durable_in s) (flying_in s)) ∙ (λ i. (past ++ sym from i) ++ sym is i)) in
    let durable : durable_in (shifted past s) ≡ past ++ since = durable-shifted past s ∙ ap (λ (l : List Input). past ++ l) (sym from) in
    let flies : flying_in (shifted past s) ≡ inputs = flying-shifted past s ∙ sym is in
    record {
      state = states.landed s;
      lawful = state;
      durable = durable-shifted past (states.landed s) ∙ whole;
      packets = sends past behind ∙ (λ i. packets m.node (durable i) (flies i));
      notices = tells past behind ∙ (λ i. notices m.node (durable i) (flies i));
    }

-- what flew, as the batch tells it, is released behind each past
pub released : {T : Type 0} (f : ℕ → List Input → List Input → T) (told : T) (d : DeskKept) (m : Member) (opening : Summary) (inputs : List Input)
    → d.view.member ≡ m → d.opening ≡ opening → inputs ≡ flying_in d.view.state
    → ((past : List Input) → IsPast d.view.member d.opening past → told ≡ f d.view.member.node (durable_in (seen past d).state) (flying_in (seen past d).state))
    → (past : List Input) → IsPast m opening past → told ≡ f m.node (durable_in (seen past d).state) inputs
released f told d m opening inputs of from is tells =
    named (λ m opening. (past : List Input) → IsPast m opening past → told ≡ f m.node (durable_in (seen past d).state) inputs) d m opening of from
    (λ past behind. tells past behind ∙ ap (f d.view.member.node (durable_in (seen past d).state)) (flying-shifted past d.view.state ∙ sym is))

-- ---- windows

-- it is that of the desk's durable inputs
pub is_window : (list : List Packet) (d : DeskKept) → ((past : List Input) → IsPast d.view.member d.opening past → IsLawfulState d.view.member (seen past d).state)
    → ((past : List Input) → IsPast d.view.member d.opening past → list ≡ window d.view.member.node (durable_in (seen past d).state))
    → IsWindow d.view.member d.opening (durable_in d.view.state) list
is_window list d lawful is past behind =
    let durable = durable-shifted past d.view.state in
    record { state = d.view.state; lawful = lawful past behind; durable = durable; packets = is past behind ∙ ap (window d.view.member.node) durable }
