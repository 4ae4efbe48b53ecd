-- What a node may release once one more input is durable.
use Rattle.std.proofs.Common.{◌≡◌, ℕ, ◌+◌, ◌-◌, ◌<◌, ◌≤◌, ◌^◌, List, [], ◌∷◌, ◌++◌, length, take, drop, Option, Some, None, refl, sym, ap, ◌∙◌, subst, append-nil, length-append, length-drop, length-take-le, arith}
use Rattle.std.specs.List.{cons_option}
use Rattle.std.specs.Option.{option_map}
use Rattle.std.specs.Prelude.{nat_le, is_some}
use Rattle.std.proofs.lemmas.Bool.{ltb-false, leb-false}
use Rattle.ring_records.specs.declared.input.Input.{Input}
use Rattle.ring_records.specs.declared.input.Input.TheVariants.{Stand, Take, Acked, Retire}
use Rattle.ring_records.specs.declared.key.Key.{Key}
use Rattle.ring_records.specs.declared.msg.Msg.{Msg}
use Rattle.ring_records.specs.declared.packet.Packet.{Packet}
use Rattle.ring_records.specs.declared.packet.Packet.TheVariants.{Carry}
use Rattle.ring_records.specs.declared.refusal.Refusal.TheVariants as refused
use Rattle.ring_records.specs.declared.summary.Summary.{Summary}
use Rattle.ring_records.specs.Objection.{where_so, already, stale}
use Rattle.ring_records.specs.Known.{Objects, retired_in, stood_of, known_of, sends, stepped}
use Rattle.ring_records.specs.Lists.{or_else}
use Rattle.ring_records.specs.Release.{numbered}
use Rattle.ring_records.proofs.Admission.{or_else-none, where_so-none}
use Rattle.ring_records.proofs.Iteration.{IsItem, take-item}
use Rattle.neighbour_link.specs.Outlink.{LinkView, sent_count}
use Rattle.node_core.specs.Brought.{brought}
use Rattle.node_core.proofs.Histories.{brought-carry}
use Rattle.node_core.specs.declared.effects.Effects.{Effects}
use Rattle.group_commit.specs.declared.released.Released.{Released}
use Rattle.group_commit.specs.Outbox.{Keeps}

-- ---- what nothing is against

-- there is one number more for an input
pub few : (n : ℕ) (s : Summary) (x : Input) → Objects n s x None → s.inputs < 2 ^ 56
few n s (Stand key bid) (led, is, e) =
    let live = or_else-none (retired_in s key) _ (sym e) in
    let a = or_else-none (or_else (already (stood_of (known_of s key))) (where_so (is_some (known_of s key)) refused.Late)) _ live.1 in
    let b = or_else-none (stale key.term led) _ a.1 in
    let c = or_else-none (where_so (nat_le 1024 s.stands) refused.Limit) _ b.1 in
    leb-false (2 ^ 56) s.inputs (where_so-none _ refused.Limit c.1)
few n s (Take msg_no msg) e =
    let a = or_else-none _ _ (sym e) in
    let b = or_else-none _ _ a.1 in
    leb-false (2 ^ 56) s.inputs (where_so-none _ _ b.1)
few n s (Acked upto) e =
    let a = or_else-none _ _ (sym e) in
    let b = or_else-none _ _ a.1 in
    leb-false (2 ^ 56) s.inputs (where_so-none _ _ b.1)
few n s (Retire group new) (led, is, e) =
    let a = or_else-none _ _ (sym e) in
    let b = or_else-none _ _ a.1 in
    leb-false (2 ^ 56) s.inputs (where_so-none _ _ b.1)

-- a credit is above the last one, and not above what was sent
pub credited : (n : ℕ) (s : Summary) (x : Input) (upto : ℕ) → Objects n s x None → x ≡ Acked upto → (s.credit < upto) × (upto ≤ s.sent)
credited n s x upto free is =
    let a = or_else-none _ _ (sym (subst (λ (y : Input). Objects n s y None) is free)) in
    let b = or_else-none _ _ a.1 in
    (leb-false upto s.credit (where_so-none _ _ a.0), ltb-false s.sent upto (where_so-none _ _ b.0))

pub few_queued : (n : ℕ) (released : Released) (s : Summary) (x : Input) → Keeps released s → Objects n s x None → sent_count released.link.link + 1 < 2 ^ 64
few_queued n released s x keeps free = let below = few n s x free in let sent = keeps.sent in let within = keeps.sent_few in omega arith

pub few_taken : (n : ℕ) (released : Released) (s : Summary) (x : Input) → Keeps released s → Objects n s x None → released.taken + 1 < 2 ^ 64
few_taken n released s x keeps free = let below = few n s x free in let taken = keeps.taken in let within = keeps.taken_few in omega arith

-- ---- one more input

-- the link once what the input sends is queued
pub record Queued (me : ℕ) (link : LinkView) (s : Summary) (x : Input) : Type 0 where
  pub credited : link.credited ≡ s.credit
  pub window : link.window ≡ s.window ++ cons_option (sends me s x) []
  pub sent : sent_count link ≡ s.sent + length (cons_option (sends me s x) [])

pub queued : (me : ℕ) (old : Released) (link : LinkView) (s : Summary) (x : Input) (effects : Effects) → Keeps old s → effects ≡ brought me s x
    → link.credited ≡ old.link.link.credited
    → ((count : ℕ) (on : Option Msg) → effects.carry ≡ option_map (Carry count) on → link.window ≡ old.link.link.window ++ cons_option on []) → Queued me link s x
queued me old link s x effects keeps brings credited window =
    let more = window s.sent (sends me s x) (ap (λ (e : Effects). e.carry) brings ∙ brought-carry me s x) in
    let count = ap length more ∙ length-append old.link.link.window (cons_option (sends me s x) []) in
    let before = keeps.sent in
    record {
      credited = credited ∙ keeps.credited;
      window = more ∙ ap (λ l. l ++ cons_option (sends me s x) []) keeps.window;
      sent = omega (arith, credited, count, before);
    }

-- a credit that is allowed may be taken then
pub may_credit : (me n : ℕ) (link : LinkView) (s : Summary) (x : Input) (upto : ℕ) → Queued me link s x → Objects n s x None → x ≡ Acked upto
    → (link.credited < upto) × (upto ≤ sent_count link)
may_credit me n link s x upto q free is =
    let within = credited n s x upto free is in
    let from = q.credited in
    let sent = q.sent in
    (omega arith, omega arith)

one_most : {A : Type 0} (o : Option A) → length (cons_option o []) ≤ 1
one_most None = omega arith
one_most (Some x) = omega arith

pub next_stand : (me : ℕ) (old new : Released) (s : Summary) (x : Input) (key : Key) (bid : ℕ) → Keeps old s → x ≡ Stand key bid
    → Queued me new.link.link s x
    → new.taken ≡ old.taken → Keeps new (stepped me s x)
next_stand me old new s x key bid keeps is q taken = subst (λ (y : Input). Queued me new.link.link s y → Keeps new (stepped me s y)) (sym is) (λ q. record {
  credited = q.credited;
  window = q.window;
  sent = q.sent;
  taken = taken ∙ keeps.taken;
  sent_few = (let few = keeps.sent_few in let one = one_most (sends me s (Stand key bid)) in omega arith);
  taken_few = (let few = keeps.taken_few in omega arith);
}) q

pub next_take : (me : ℕ) (old new : Released) (s : Summary) (x : Input) (msg_no : ℕ) (msg : Msg) → Keeps old s → x ≡ Take msg_no msg
    → Queued me new.link.link s x
    → new.taken ≡ old.taken + 1 → Keeps new (stepped me s x)
next_take me old new s x msg_no msg keeps is q taken = subst (λ (y : Input). Queued me new.link.link s y → Keeps new (stepped me s y)) (sym is) (λ q. record {
  credited = q.credited;
  window = q.window;
  sent = q.sent;
  taken = taken ∙ ap (λ n. n + 1) keeps.taken;
  sent_few = (let few = keeps.sent_few in let one = one_most (sends me s (Take msg_no msg)) in omega arith);
  taken_few = (let few = keeps.taken_few in omega arith);
}) q

pub next_acked : (me n : ℕ) (old new : Released) (link : LinkView) (s : Summary) (x : Input) (upto : ℕ) → Keeps old s → x ≡ Acked upto → Objects n s x None
    → Queued me link s x
    → new.link.link.credited ≡ upto → new.link.link.window ≡ drop (upto - link.credited) link.window
    → new.taken ≡ old.taken → Keeps new (stepped me s x)
next_acked me n old new link s x upto keeps is free q upto_is window taken = subst (λ (y : Input). Objects n s y None → Queued me link s y → Keeps new (stepped me s y)) (sym is) (λ free q.
    let within = credited n s (Acked upto) upto free refl in
    let same : link.window ≡ s.window = q.window ∙ append-nil s.window in
    let left : new.link.link.window ≡ drop (upto - s.credit) s.window = window ∙ (λ i. drop (upto - q.credited i) (same i)) in
    let count = ap length left ∙ length-drop (upto - s.credit) s.window in
    let sent = q.sent in
    let from = q.credited in
    let size = ap length same in
    record {
      credited = upto_is;
      window = left;
      sent = omega arith;
      taken = taken ∙ keeps.taken;
      sent_few = (let few = keeps.sent_few in omega arith);
      taken_few = (let few = keeps.taken_few in omega arith);
    }) free q

-- ---- the messages that may be released again

numbered-push : (msg_no : ℕ) (msgs : List Msg) (msg : Msg) → numbered msg_no (msgs ++ msg ∷ []) ≡ numbered msg_no msgs ++ Carry (msg_no + length msgs) msg ∷ []
numbered-push msg_no [] msg = let none : msg_no ≡ msg_no + 0 = omega arith in ap (λ n. Carry n msg ∷ []) none
numbered-push msg_no (m ∷ msgs) msg =
    ap (λ l. Carry msg_no m ∷ l) (numbered-push (msg_no + 1) msgs msg)
    ∙ (let sum : msg_no + 1 + length msgs ≡ msg_no + length (m ∷ msgs) = omega arith in ap (λ n. Carry msg_no m ∷ (numbered (msg_no + 1) msgs ++ Carry n msg ∷ [])) sum)

pub numbered-item : (first : ℕ) (msgs : List Msg) (index : ℕ) (msg : Msg) (before after : List Packet) → IsItem msgs index msg → before ≡ numbered first (take index msgs)
    → after ≡ before ++ Carry (first + index) msg ∷ []
    → after ≡ numbered first (take (index + 1) msgs)
numbered-item first msgs index msg before after here is more =
    let within = here.within in
    let count : index ≡ length (take index msgs) = sym (length-take-le index msgs (omega (arith, within))) in
    more ∙ ap (λ l. l ++ Carry (first + index) msg ∷ []) is
    ∙ ap (λ n. numbered first (take index msgs) ++ Carry (first + n) msg ∷ []) count
    ∙ sym (numbered-push first (take index msgs) msg) ∙ ap (numbered first) (sym (take-item msgs index msg here))

pub next_retire : (me : ℕ) (old new : Released) (s : Summary) (x : Input) (group : List ℕ) (floor : ℕ) → Keeps old s → x ≡ Retire group floor
    → Queued me new.link.link s x
    → new.taken ≡ old.taken → Keeps new (stepped me s x)
next_retire me old new s x group floor keeps is q taken = subst (λ (y : Input). Queued me new.link.link s y → Keeps new (stepped me s y)) (sym is) (λ q. record {
  credited = q.credited;
  window = q.window ∙ append-nil s.window;
  sent = (let sent = q.sent in omega arith);
  taken = taken ∙ keeps.taken;
  sent_few = (let few = keeps.sent_few in omega arith);
  taken_few = (let few = keeps.taken_few in omega arith);
}) q
