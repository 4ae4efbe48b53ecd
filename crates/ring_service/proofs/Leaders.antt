-- The leaders that the nodes of a ring named are one for each key.
use Rattle.std.proofs.Common.{◌≡◌, ◌⊎◌, ℕ, ◌≤◌, Bool, List, [], ◌++◌, append_assoc, take, Some, refl, sym, ap, ◌∙◌, subst, inl, inr, arith}
use Rattle.std.specs.List.{Contains}
use Rattle.std.proofs.lemmas.Bool.Decides.{nat_tests}
use mathlib.Core.List.{IsPrefix}
use Rattle.ring_records.specs.declared.candidate.Candidate.{Candidate}
use Rattle.ring_records.specs.declared.input.Input.{Input}
use Rattle.ring_records.specs.declared.key.Key.{Key}
use Rattle.ring_records.specs.declared.packet.Packet.{Packet}
use Rattle.ring_records.specs.declared.packet.Packet.TheVariants.{Carry}
use Rattle.ring_records.specs.declared.reply.Reply.{Reply}
use Rattle.ring_records.specs.declared.request.Request.{Request}
use Rattle.ring_records.specs.Allowed.{IsAllowed}
use Rattle.ring_records.specs.Lawful.{IsLawful}
use Rattle.ring_records.specs.Answer.{PacketRests}
use Rattle.ring_records.specs.Leader.{leader}
use Rattle.ring_records.specs.Lists.{EachAfter}
use Rattle.ring_records.specs.Place.{before}
use Rattle.ring_records.specs.States.{NodeState, launched_base, left_by}
use Rattle.ring_records.proofs.Prefixes.{prefix_trans}
use Rattle.ring_records.proofs.Resting.{packets-rest, window-rests}
use Rattle.history_laws.specs.Linked.{AreHanded, IsLeaderIn}
use Rattle.history_laws.proofs.Handed.{shown_in}
use Rattle.group_commit.specs.declared.landed.Landed.{Landed}
use Rattle.group_commit.specs.Desk.{DeskKept}
use Rattle.group_commit.specs.Past.{shifted}
use Rattle.node_store.specs.State.{IsOpenedAs}
use Rattle.node_store.proofs.Left.{allowed_in}
use Rattle.group_commit.specs.Next.{Durable, durable_part}
use Rattle.commit_hub.specs.Told.{IsBroughtBehind, IsWindowBehind}
use Rattle.ring_service.specs.Begun.{BeginsBehind}
use Rattle.ring_service.specs.Leaders.{Life, AreFromReleased, AreLives, IsEarlier, IsNamed, IsReadFrom, MayBeReleasedBy, IsReplied, Names, history_of}
use Rattle.ring_service.specs.Rounds.{at_rest}
use Rattle.ring_service.proofs.Begun.{prefix_behind}
use Rattle.ring_service.proofs.Readers.{LeadsWithin, read_leads, reply_leads}
use Rattle.ring_service.proofs.Series.{opens_again}

-- ---- what a node released

pub window_released : (life : Life) (begun : List Input) (list : List Packet) (packet : Packet) → IsPrefix begun life.known.inputs → IsWindowBehind life.member life.past begun list
    → Contains list packet → MayBeReleasedBy life packet
window_released life begun list packet p shown here = record {
  begun = life.past ++ begun;
  begins = prefix_behind life.past begun life.known.inputs p;
  rests = window-rests life.member.node (life.past ++ begun) packet (subst (λ (l : List Packet). Contains l packet) shown.packets here);
}

pub round_released : (life : Life) (since inputs : List Input) (landed : Landed) (packet : Packet) → IsPrefix (since ++ inputs) life.known.inputs
    → IsBroughtBehind life.member life.past since inputs landed → Contains landed.packets.items packet → MayBeReleasedBy life packet
round_released life since inputs landed packet p brought here =
    let whole : life.past ++ (since ++ inputs) ≡ (life.past ++ since) ++ inputs = sym (append_assoc life.past since inputs) in
    record {
      begun = (life.past ++ since) ++ inputs;
      begins = subst (λ (l : List Input). IsPrefix l (history_of life)) whole (prefix_behind life.past (since ++ inputs) life.known.inputs p);
      rests = packets-rest life.member.node (life.past ++ since) inputs packet (subst (λ (l : List Packet). Contains l packet) brought.packets here);
    }

pub earlier_released : (was life : Life) (packet : Packet) → IsEarlier was life → MayBeReleasedBy was packet → MayBeReleasedBy life packet
earlier_released was life packet earlier is = record {
  begun = is.begun;
  begins = prefix_trans is.begun (history_of was) (history_of life) is.begins earlier.begins;
  rests = subst (λ (me : ℕ). PacketRests me is.begun packet) earlier.node is.rests;
}

-- ---- from life to life

pub is_later : (life : Life) (known : Durable) → IsPrefix life.known.inputs known.inputs → IsEarlier life (record life { known = known })
is_later life known p = record { node = refl; ring = refl; begins = prefix_behind life.past life.known.inputs known.inputs p }

pub is_next : (life : Life) (image : List ℕ) (run : ℕ) (keep : Bool) (desk : DeskKept) (left : BeginsBehind life.member life.past life.known.inputs image)
    → IsOpenedAs life.member run (left_by keep left.state) desk
    → IsEarlier life (record { member = life.member; opening = desk.opening; past = take (left_by keep left.state).base.inputs (left_by keep left.state).inputs; known = durable_part desk })
is_next life image run keep desk left opened = record {
  node = refl;
  ring = refl;
  begins = subst (IsPrefix (history_of life)) (sym (opens_again life.member run left.state keep desk opened)) (left.begins keep);
}

-- ---- the leaders

module _ (n : ℕ) (lives : ℕ → Life) (are : AreLives n lives) where
  abbrev pub histories : ℕ → List Input
  histories i = history_of (lives i)

  allowed : (i : ℕ) → 1 ≤ i → i ≤ n → EachAfter (IsAllowed i n) [] (histories i)
  unfolding IsLawful
  allowed i low high =
      let is = are i low high in
      let m = (lives i).member in
      let s : NodeState = shifted (lives i).past (at_rest (lives i).known) in
      let lawful = is.lawful (lives i).past is.past in
      subst (λ (k : ℕ). EachAfter (IsAllowed k n) [] (histories i)) is.node
      (subst (λ (k : ℕ). EachAfter (IsAllowed m.node k) [] (histories i)) is.ring (allowed_in m (launched_base s) [] (histories i) lawful.all))

  before_low : (i : ℕ) → 1 ≤ i → i ≤ n → 1 ≤ before n i
  unfolding before
  before_low i low high = grind (arith, nat_tests)

  before_high : (i : ℕ) → 1 ≤ i → i ≤ n → before n i ≤ n
  unfolding before
  before_high i low high = grind (arith, nat_tests)

  pub handed : AreFromReleased n lives → AreHanded n histories
  handed from = record {
    lawful = allowed;
    named = from.named;
    handed = λ i msg_no m low high p.
        let is = from.handed i msg_no m low high p in
        let sender = are (before n i) (before_low i low high) (before_high i low high) in
        (is.begun, is.begins.0, is.begins.1, subst (λ (me : ℕ). PacketRests me is.begun (Carry msg_no m)) sender.node is.rests);
  }

  given_leads : (was : Life) (key : Key) (c : Candidate) (question : Request) (reply : Reply) → IsReplied was question reply ⊎ IsReadFrom was question reply → Names question reply key c
      → LeadsWithin was.member.node (history_of was) key c
  given_leads was key c question reply (inl given) names = reply_leads was question reply key c given names
  given_leads was key c question reply (inr read) names = read_leads was question reply key c read names

  pub named_leads : (key : Key) (c : Candidate) → IsNamed n lives key c → IsLeaderIn n histories key c
  named_leads key c k =
      let named = k.named in
      let was = named.was in
      let at : was.member.node ≡ k.node = named.earlier.node ∙ (are k.node k.low k.high).node in
      let within = given_leads was key c named.question named.reply named.given named.names in
      let later = named.earlier.begins in
      shown_in n histories k.node within.0 (within.1 ++ later.0) key c k.low k.high
      (sym (append_assoc within.0 within.1 later.0) ∙ (ap (λ (l : List Input). l ++ later.0) within.2 ∙ later.1))
      (subst (λ (me : ℕ). leader me within.0 key ≡ Some c) at within.3)
