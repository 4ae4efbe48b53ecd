-- What lands at a desk: what its inputs that flew bring, by what was known before them.
use Rattle.std.proofs.Common.{◌≡◌, ℕ, ◌+◌, ◌-◌, ◌≤◌, List, [], ◌∷◌, ◌++◌, length, take, drop, refl, sym, ap, ◌∙◌, subst, append_assoc, arith}
use Rattle.std.proofs.Math.Seq.{take-add}
use Rattle.std.proofs.lemmas.Bool.{lt-ltb, le-ltb}
use Rattle.std.proofs.lemmas.List.{length-append, length-take-le, length-drop, drop-drop, take-append-drop, take-append-le, drop-append-le, take_all, drop_all}
use Rattle.std.proofs.lemmas.List.Sums.{fold-append}
use Rattle.std.specs.Prelude.{if◌then◌else◌}
use Rattle.ring_records.specs.declared.notice.Notice.{Notice}
use Rattle.ring_records.specs.declared.input.Input.{Input}
use Rattle.ring_records.specs.declared.msg.Msg.{Msg}
use Rattle.ring_records.specs.declared.packet.Packet.{Packet}
use Rattle.ring_records.specs.declared.packet.Packet.TheVariants.{Credit}
use Rattle.ring_records.specs.declared.summary.Summary.{Summary}
use Rattle.ring_records.specs.Allowed.{IsAllowed}
use Rattle.ring_records.specs.Release.{carry, carries, credit_where, credits, packets, notices}
use Rattle.ring_records.specs.History.{taken}
use Rattle.ring_records.specs.Known.{stepped, after}
use Rattle.ring_records.specs.Decided.{told}
use Rattle.ring_records.specs.Lists.{EachAfter}
use Rattle.ring_records.specs.Member.{Member}
use Rattle.ring_records.specs.Summary.{summary}
use Rattle.ring_records.proofs.Growth.{taken-append}
use Rattle.node_core.specs.declared.effects.Effects.{Effects}
use Rattle.group_commit.specs.declared.outbox.Outbox.{Outbox}
use Rattle.group_commit.specs.Kept.{HoldsFor}
use Rattle.group_commit.specs.Past.{IsPast}
use Rattle.group_commit.specs.Outbox.{AreFree, brought_after, carried, told_in, credit_since, Holds}
use Rattle.group_commit.proofs.Opening.{free-part, EachAfter-behind}
use Rattle.group_commit.proofs.Past.{follows-take, found-known}
use Rattle.group_commit.proofs.Settling.{brought-append, length-brought}

-- ---- the inputs that fly

-- those from one number to another
abbrev pub part : ℕ → ℕ → List Input → List Input
part start end inputs = take (end - start) (drop start inputs)

part-rest : (start end : ℕ) (inputs : List Input) → start ≤ end → drop start inputs ≡ part start end inputs ++ drop end inputs
part-rest start end inputs within =
    let sum : end - start + start ≡ end = omega arith in
    sym (take-append-drop (end - start) (drop start inputs)) ∙ ap (λ l. part start end inputs ++ l) (drop-drop (end - start) start inputs ∙ ap (λ n. drop n inputs) (omega (arith, sum)))

pub part-joins : (start end : ℕ) (inputs : List Input) → start ≤ end → take start inputs ++ part start end inputs ≡ take end inputs
part-joins start end inputs within =
    let sum : start + (end - start) ≡ end = omega arith in
    sym (take-add start (end - start) inputs) ∙ ap (λ n. take n inputs) sum

pub part-length : (start end : ℕ) (inputs : List Input) → end ≤ length inputs → length (part start end inputs) ≡ end - start
part-length start end inputs within =
    let left = length-drop start inputs in
    length-take-le (end - start) (drop start inputs) (omega (arith, left))

-- so they are the first of those that wait
pub flies : (me start end : ℕ) (outbox : Outbox) (opening : Summary) (inputs : List Input) → start ≤ end → end ≤ length inputs
    → HoldsFor me outbox opening (take start inputs) (drop start inputs) (end - start)
    → Holds me outbox (after me opening (take start inputs)) (part start end inputs ++ drop end inputs) (length (part start end inputs))
flies me start end outbox opening inputs within all holds =
    subst (λ (p : List Input × ℕ). Holds me outbox (after me opening (take start inputs)) p.0 p.1)
    (λ i. (part-rest start end inputs within i, sym (part-length start end inputs all) i)) holds

-- and nothing is against them
pub free : (me n start end : ℕ) (opening : Summary) (inputs : List Input) → start ≤ end → AreFree me n opening inputs
    → AreFree me n (after me opening (take start inputs)) (part start end inputs)
free me n start end opening inputs within each =
    free-part me n opening (take start inputs) (part start end inputs) (drop end inputs)
    (subst (AreFree me n opening) (sym (take-append-drop start inputs) ∙ ap (λ l. take start inputs ++ l) (part-rest start end inputs within)) each)

-- what they bring stood first
pub brought-part : (me : ℕ) (s : Summary) (l rest : List Input) (waiting : List Effects) → waiting ≡ brought_after me s (l ++ rest) → take (length l) waiting ≡ brought_after me s l
brought-part me s l rest waiting is =
    let count = length-brought me s l in
    let size : length l ≡ length (brought_after me s l) = sym count in
    ap (take (length l)) (is ∙ brought-append me s l rest)
    ∙ (take-append-le (length l) (brought_after me s l) (brought_after me (after me s l) rest) (omega (arith, count))
    ∙ take_all (length l) (brought_after me s l) (omega (arith, count)))

-- the desk once they are durable
pub lands : (me start end : ℕ) (new : Outbox) (opening : Summary) (inputs : List Input) → start ≤ end
    → Holds me new (after me (after me opening (take start inputs)) (part start end inputs)) (drop end inputs) 0 → HoldsFor me new opening (take end inputs) (drop end inputs) (end - end)
lands me start end new opening inputs within holds =
    let none : 0 ≡ end - end = omega arith in
    let known = sym (fold-append (stepped me) opening (take start inputs) (part start end inputs)) ∙ ap (after me opening) (part-joins start end inputs within) in
    subst (λ (p : Summary × ℕ). Holds me new p.0 (drop end inputs) p.1) (λ i. (known i, none i)) holds

-- all of them are durable
pub whole_holds : (me count : ℕ) (outbox : Outbox) (opening : Summary) (inputs : List Input) → count ≡ length inputs
    → Holds me outbox (after me opening inputs) [] 0 → HoldsFor me outbox opening (take count inputs) (drop count inputs) (count - count)
whole_holds me count outbox opening inputs all holds =
    let none : 0 ≡ count - count = omega arith in
    subst (λ (p : (List Input × List Input) × ℕ). HoldsFor me outbox opening p.0.0 p.0.1 p.1)
    (λ i. ((sym (take_all count inputs (omega (arith, all))) i, sym (drop_all count inputs (omega (arith, all))) i), none i)) holds

-- more inputs wait behind them
pub waits_more : (me k : ℕ) (outbox : Outbox) (opening : Summary) (inputs more : List Input) (durable : ℕ) → durable ≤ length inputs
    → Holds me outbox (after me opening (take durable inputs)) (drop durable inputs ++ more) k
    → HoldsFor me outbox opening (take durable (inputs ++ more)) (drop durable (inputs ++ more)) k
waits_more me k outbox opening inputs more durable within holds =
    subst (λ (p : List Input × List Input). HoldsFor me outbox opening p.0 p.1 k) (λ i. (sym (take-append-le durable inputs more within) i, sym (drop-append-le durable inputs more within) i)) holds

-- ---- by the history

credit_by : (before : ℕ) (msgs : List Msg) → credit_since before (before + length msgs) ≡ credit_where msgs (before + length msgs)
credit_by before [] = ap (λ b. if b then Credit (before + 0) ∷ [] else []) (le-ltb before (before + 0) (omega arith))
credit_by before (msg ∷ msgs) = ap (λ b. if b then Credit (before + length (msg ∷ msgs)) ∷ [] else []) (lt-ltb before (before + length (msg ∷ msgs)) (omega arith))

credits-known : (h l : List Input) → credit_since (length (taken h)) (length (taken (h ++ l))) ≡ credits h l
unfolding credits
credits-known h l =
    let count : length (taken (h ++ l)) ≡ length (taken h) + length (taken l) = ap length (taken-append h l) ∙ length-append (taken h) (taken l) in
    ap (credit_since (length (taken h))) count ∙ (credit_by (length (taken h)) (taken l) ∙ ap (credit_where (taken l)) (sym count))

-- these are the packets and the notices of inputs that are allowed after h
pub packets-known : (me n : ℕ) (s t : Summary) (h l : List Input) → s ≡ summary me h → t ≡ summary me (h ++ l) → EachAfter (IsAllowed me n) [] h → EachAfter (IsAllowed me n) h l
    → carried (brought_after me s l) ++ credit_since s.taken t.taken ≡ packets me h l
unfolding packets carries
packets-known me n s t h l knows knows_now within allowed = λ i.
    found-known (λ (e : Effects). e.carry) (carry me) me n (λ g x. refl) s h l knows within allowed i
    ++ ((λ j. credit_since ((knows j).taken) ((knows_now j).taken)) ∙ credits-known h l) i

pub notices-known : (me n : ℕ) (s : Summary) (h l : List Input) → s ≡ summary me h → EachAfter (IsAllowed me n) [] h → EachAfter (IsAllowed me n) h l
    → told_in (brought_after me s l) ≡ notices me h l
unfolding notices
notices-known me n s h l knows within allowed = found-known (λ (e : Effects). e.notice) (told me) me n (λ g x. refl) s h l knows within allowed

-- ---- of a node with a past

-- those that fly are allowed after the durable ones
allowed-part : (m : Member) (h l : List Input) → EachAfter (IsAllowed m.node m.n) [] (h ++ l) → EachAfter (IsAllowed m.node m.n) h l
allowed-part m h l each = EachAfter-behind (IsAllowed m.node m.n) [] h l each

-- what is handed out
pub landed_packets : (m : Member) (opening : Summary) (past inputs : List Input) (start end : ℕ) (waiting : List Effects) (l : List Input) (before now : ℕ) (all : List Packet)
    → IsPast m opening past → AreFree m.node m.n opening inputs → start ≤ end
    → waiting ≡ brought_after m.node (after m.node opening (take start inputs)) (drop start inputs) → l ≡ part start end inputs → before ≡ (after m.node opening (take start inputs)).taken → now ≡ (after m.node opening (take end inputs)).taken
    → all ≡ carried (take (length l) waiting) ++ credit_since before now → all ≡ packets m.node (past ++ take start inputs) (part start end inputs)
landed_packets m opening past inputs start end waiting l before now all past_is each within waits flown taken_before taken_now is =
    let s = after m.node opening (take start inputs) in
    let f = follows-take m opening past inputs start past_is each in
    let g = follows-take m opening past inputs end past_is each in
    let joined = append_assoc past (take start inputs) (part start end inputs) ∙ ap (λ k. past ++ k) (part-joins start end inputs within) in
    let brings = ap (λ k. take (length k) waiting) flown ∙ brought-part m.node s (part start end inputs) (drop end inputs) waiting (waits ∙ ap (brought_after m.node s) (part-rest start end inputs within)) in
    is
    ∙ ((λ i. carried (brings i) ++ credit_since (taken_before i) (taken_now i))
    ∙ packets-known m.node m.n s (after m.node opening (take end inputs)) (past ++ take start inputs) (part start end inputs) f.knows (g.knows ∙ ap (summary m.node) (sym joined)) f.allowed
    (allowed-part m (past ++ take start inputs) (part start end inputs) (subst (EachAfter (IsAllowed m.node m.n) []) (sym joined) g.allowed)))

pub landed_notices : (m : Member) (opening : Summary) (past inputs : List Input) (start end : ℕ) (waiting : List Effects) (l : List Input) (all : List Notice) → IsPast m opening past
    → AreFree m.node m.n opening inputs → start ≤ end
    → waiting ≡ brought_after m.node (after m.node opening (take start inputs)) (drop start inputs) → l ≡ part start end inputs
    → all ≡ told_in (take (length l) waiting) → all ≡ notices m.node (past ++ take start inputs) (part start end inputs)
landed_notices m opening past inputs start end waiting l all past_is each within waits flown is =
    let s = after m.node opening (take start inputs) in
    let f = follows-take m opening past inputs start past_is each in
    let g = follows-take m opening past inputs end past_is each in
    let joined = append_assoc past (take start inputs) (part start end inputs) ∙ ap (λ k. past ++ k) (part-joins start end inputs within) in
    let brings = ap (λ k. take (length k) waiting) flown ∙ brought-part m.node s (part start end inputs) (drop end inputs) waiting (waits ∙ ap (brought_after m.node s) (part-rest start end inputs within)) in
    is
    ∙ (ap told_in brings
    ∙ notices-known m.node m.n s (past ++ take start inputs) (part start end inputs) f.knows f.allowed
    (allowed-part m (past ++ take start inputs) (part start end inputs) (subst (EachAfter (IsAllowed m.node m.n) []) (sym joined) g.allowed)))
