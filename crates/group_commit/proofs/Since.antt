-- A desk's state since its opening, by what is known: what happens to it, and that it fits.
use Rattle.std.proofs.Common.{◌≡◌, ℕ, zero, suc, Bool, ◌+◌, ◌-◌, ◌<◌, ◌≤◌, List, [], ◌∷◌, ◌++◌, ◌||◌, ◌&&◌, nat_lt, true, false, inl, inr, append-nil, length, take, drop, Option, Some, None, refl, sym, ap, ◌∙◌, subst, arith}
use Rattle.std.specs.FinMap as map
use Rattle.std.specs.List.{cons_option, list_any, sum_by}
use Rattle.std.specs.Prelude.{unwrap_or}
use Rattle.std.proofs.lemmas.Bool.{and_parts, cases_lt, false≢true, ltb-false, or_parts}
use Rattle.std.proofs.lemmas.List.{length-append, length-take, length-take-le, take_all, drop_all, take-take, take-append-drop, take-append-le, drop-append-le, drop-drop}
use Rattle.std.proofs.lemmas.List.Folds.{list_any-append}
use Rattle.std.proofs.lemmas.List.Sums.{fold-append, sum_by-append}
use Rattle.std.proofs.lemmas.Option.{same_Some}
use Rattle.ring_records.specs.declared.base.Base.{Base}
use Rattle.ring_records.specs.declared.input.Input.{Input}
use Rattle.ring_records.specs.declared.room.Room.{Room}
use Rattle.ring_records.specs.declared.summary.Summary.{Summary}
use Rattle.ring_records.specs.Admission.{area_bytes, costs_of, is_retire, must_renew, newest, no_room, room_of, snapshot_len, state_len, used}
use Rattle.ring_records.specs.Lawful.{HasRoom}
use Rattle.ring_records.specs.Known.{stepped, after}
use Rattle.ring_records.specs.Lists.{EachAfter}
use Rattle.ring_records.specs.Member.{Member}
use Rattle.ring_records.specs.States.{NodeState, launched_base, durable_in, flown_in}
use Rattle.ring_records.proofs.Admission.{or_else-none, room-had}
use Rattle.ring_records.proofs.Counts.{used-more}
use Rattle.ring_records.proofs.Growth.{EachAfter-at, EachAfter-take}
use Rattle.ring_records.proofs.Lists.{EachAfter-push, none≢some}
use Rattle.ring_records.proofs.Snapshots.{length-parts}
use Rattle.ring_records.proofs.States.{next-few}
use Rattle.ring_records.proofs.StatesInOrder.{len-values}
use Rattle.node_core.specs.Core.{CoreView, Refuses}
use Rattle.gated_journal.specs.Frames.{AreSuited}
use Rattle.gated_journal.proofs.Suited.{newest-all, plain-all}
use Rattle.group_commit.specs.Desk.{DeskKept, epochs}
use Rattle.group_commit.specs.Launching.{needs_checkpoint, MayRenew}
use Rattle.group_commit.specs.Kept.{area_behind, state_with}
use Rattle.group_commit.specs.Opening.{opened_core, core_after, room_past, waits_for_area, IsOpenTo, IsKnownLawful}
use Rattle.group_commit.specs.Since.{IsOpenSince, IsLawfulSince, IsAreaOf, IsKnownState}
use Rattle.group_commit.specs.CoreOf.{core_in}
use Rattle.group_commit.proofs.Costs.{used-joined}
use Rattle.group_commit.proofs.Opening.{objects_none, EachAfter-from}
use Rattle.group_commit.proofs.Settling.{after-push}

-- ---- areas

area-same : (me : ℕ) (opening : Summary) (b : Base) (g h : List Input) → b.inputs ≤ length h → take b.inputs h ≡ take b.inputs g → IsAreaOf me opening b g → IsAreaOf me opening b h
area-same me opening b g h within same of = record { within = within; bytes = of.bytes ∙ ap (λ (l : List Input). area_bytes b.layout (after me opening l)) (sym same) }

area-grown : (me : ℕ) (opening : Summary) (b : Base) (h more : List Input) → IsAreaOf me opening b h → IsAreaOf me opening b (h ++ more)
area-grown me opening b h more of = area-same me opening b h (h ++ more) (let w = of.within in let l = length-append h more in omega arith) (take-append-le b.inputs h more of.within) of

area-first : (me : ℕ) (opening : Summary) (b : Base) (k : ℕ) (h : List Input) → b.inputs ≤ k → IsAreaOf me opening b h → IsAreaOf me opening b (take k h)
area-first me opening b k h few of = area-same me opening b h (take k h) (let w = of.within in let l = length-take k h in omega arith) (take-take b.inputs k h few) of

-- ---- what may be accepted

-- where a core refuses an input for nothing, there is room for it
pub room_none : (core : CoreView) (x : Input) → Refuses core x None → HasRoom core.capacity core.room x (snapshot_len newest (stepped core.me core.known x))
room_none core x (first, objects, e) =
    let behind = snapshot_len newest (stepped core.me core.known x) in
    room-had core.capacity core.room x behind (or_else-none first (no_room core.capacity core.room x behind) (sym e)).1

open_now : (m : Member) (opening : Summary) (s : NodeState) (x : Input) → Refuses (core_in m opening s) x None → IsOpenSince m opening (launched_base s) s.inputs x
open_now m opening s x free = record {
  free = objects_none (core_in m opening s) x free;
  fits = λ _. subst (λ (t : Summary). HasRoom m.capacity (room_of (launched_base s) s.inputs) x (snapshot_len newest t)) (sym (after-push m.node opening s.inputs x)) (room_none (core_in m opening s) x free);
}

lawful-first : (m : Member) (opening : Summary) (b : Base) (k : ℕ) (l : List Input) → IsLawfulSince m opening b l → IsLawfulSince m opening b (take k l)
lawful-first m opening b k l lawful = EachAfter-take (IsOpenSince m opening b) k l lawful

lawful-more : (m : Member) (opening : Summary) (b : Base) (l : List Input) (more : Option Input) → ((x : Input) → more ≡ Some x → IsOpenSince m opening b l x) → IsLawfulSince m opening b l
    → IsLawfulSince m opening b (l ++ cons_option more [])
lawful-more m opening b l None free lawful = rw append-nil lawful
lawful-more m opening b l (Some x) free lawful = EachAfter-push (IsOpenSince m opening b) [] l x lawful (free x refl)

-- a base asks no room of what it stands for
rebased : (m : Member) (opening : Summary) (b c : Base) (before l : List Input) → length before + length l ≤ c.inputs → EachAfter (IsOpenSince m opening b) before l
    → EachAfter (IsOpenSince m opening c) before l
unfolding EachAfter
rebased m opening b c before [] all each = tt
rebased m opening b c before (x ∷ l) all each = (
  record { free = each.0.free; fits = λ within. absurd (omega arith) },
  rebased m opening b c (before ++ x ∷ []) l (let n = length-append before (x ∷ []) in omega arith) each.1,
)

-- where the base stands for no input since, all of them are counted
pub used-since : (base : Base) (l : List Input) → base.inputs ≡ 0 → used base l ≡ base.bytes + costs_of l
unfolding used
used-since base l none = ap (λ n. base.bytes + costs_of (drop n l)) none

pub used-first : (base : Base) → base.inputs ≡ 0 → used base [] ≡ base.bytes
used-first base none = let all = used-since base [] none in omega (arith, all)

pub room-since : (base : Base) (l : List Input) → base.inputs ≡ 0 → room_past (room_of base []) l ≡ room_of base l
room-since base l none =
    let first = used-since base [] none in
    let all = used-since base l none in
    let taken : used base [] + costs_of l ≡ used base l = omega (arith, first, all) in
    let waits = (λ i. list_any is_retire (drop (none i) []) || list_any is_retire l) ∙ sym (ap (λ n. list_any is_retire (drop n l)) none) in
    λ i. record { layout = base.layout; epoch = base.epoch; taken = taken i; waits = waits i }

pub lawful_opened : (m : Member) (opening : Summary) (base : Base) (l : List Input) → base.inputs ≡ 0 → IsKnownLawful (opened_core m opening base) l → IsLawfulSince m opening base l
lawful_opened m opening base l none lawful =
    EachAfter-from (IsOpenTo (opened_core m opening base)) (IsOpenSince m opening base) [] (λ before x free. one before x free) [] l lawful
  where
    one : (before : List Input) (x : Input) → IsOpenTo (opened_core m opening base) before x → IsOpenSince m opening base before x
    one before x free =
        record {
          free = objects_none (core_after (opened_core m opening base) before) x free;
          fits = λ _. subst (λ (p : Room × Summary). HasRoom m.capacity p.0 x (snapshot_len newest p.1)) (λ i. (room-since base before none i, sym (after-push m.node opening before x) i))
              (room_none (core_after (opened_core m opening base) before) x free);
        }

-- ---- what waits for an area

first_none : (p : Input → Bool) (k : ℕ) (l : List Input) → list_any p l ≡ false → list_any p (take k l) ≡ false
first_none p zero l none = refl
first_none p (suc k) [] none = refl
first_none p (suc k) (x ∷ l) none =
    let parts = or_parts (p x) (list_any p l) none in
    λ i. parts.0 i || first_none p k l parts.1 i

rest_none : (p : Input → Bool) (k : ℕ) (l : List Input) → list_any p l ≡ false → list_any p (drop k l) ≡ false
rest_none p zero l none = none
rest_none p (suc k) [] none = refl
rest_none p (suc k) (x ∷ l) none = rest_none p k l (or_parts (p x) (list_any p l) none).1

-- what stands behind the base of the first inputs stands behind it of all
drop_first : (d k : ℕ) (l : List Input) → drop d (take k l) ≡ take (k - d) (drop d l)
drop_first zero k l = let same : k - 0 ≡ k = omega arith in sym (ap (λ n. take n l) same)
drop_first (suc d) zero l = sym (none (drop (suc d) l))
  where
    none : (l : List Input) → take (0 - suc d) l ≡ []
    none l = let zero : 0 - suc d ≡ 0 = omega arith in ap (λ n. take n l) zero
drop_first (suc d) (suc k) [] = sym (none (suc k - suc d))
  where
    none : (n : ℕ) → take {A = Input} n [] ≡ []
    none zero = refl
    none (suc n) = refl
drop_first (suc d) (suc k) (x ∷ l) = let same : k - d ≡ suc k - suc d = omega arith in drop_first d k l ∙ ap (λ n. take n (drop d l)) same

-- where none of the inputs waits for an area, none of the first does
pub first_plain : (base : Base) (k : ℕ) (l : List Input) → waits_for_area base l ≡ false → waits_for_area base (take k l) ≡ false
first_plain base k l plain = go (nat_lt base.layout newest) plain
  where
    go : (b : Bool) → (b && list_any is_retire (drop base.inputs l)) ≡ false → (b && list_any is_retire (drop base.inputs (take k l))) ≡ false
    go false e = refl
    go true e = ap (list_any is_retire) (drop_first base.inputs k l) ∙ first_none is_retire (k - base.inputs) (drop base.inputs l) e

-- and the area may hold each of those behind the base
pub plain_suited : (base : Base) (start count : ℕ) (l : List Input) → base.inputs ≤ start → waits_for_area base l ≡ false → AreSuited base.layout (take count (drop start l))
plain_suited base start count l behind plain = go (nat_lt base.layout newest) refl plain
  where
    go : (b : Bool) → nat_lt base.layout newest ≡ b → (b && list_any is_retire (drop base.inputs l)) ≡ false → AreSuited base.layout (take count (drop start l))
    go false new e = newest-all base.layout (take count (drop start l)) (ltb-false base.layout newest new)
    go true old e =
        let sum : start ≡ base.inputs + (start - base.inputs) = omega (arith, behind) in
        let same : drop start l ≡ drop (start - base.inputs) (drop base.inputs l) = ap (λ n. drop n l) sum ∙ sym (drop-drop (start - base.inputs) base.inputs l) in
        plain-all base.layout (take count (drop start l)) (first_none is_retire count (drop start l) (ap (list_any is_retire) same ∙ rest_none is_retire (start - base.inputs) (drop base.inputs l) e))

-- where one waits, there is one behind the base
behind : (base : Base) (l : List Input) → list_any is_retire (drop base.inputs l) ≡ true → base.inputs < length l
behind base l some = elim (cases_lt base.inputs (length l)) [
  | inl less ↦ less
  | inr all ↦ absurd (false≢true (sym (ap (list_any is_retire) (drop_all base.inputs l all)) ∙ some))
]

split : (x : Input) (l : List Input) → (front : List Input) × (last : Input) × (x ∷ l ≡ front ++ last ∷ [])
split x [] = ([], x, refl)
split x (y ∷ l) = let rest = split y l in (x ∷ rest.0, rest.1, ap (λ k. x ∷ k) rest.2)

or-false : (b : Bool) → (b || false) ≡ b
or-false true = refl
or-false false = refl

-- ---- the state

-- it was opened, and so many of these inputs are durable, and so many durable or flying
pub known_opened : (m : Member) (opening : Summary) (base : Base) (l : List Input) (durable flying : ℕ) → base.inputs ≡ 0 → base.bytes ≡ area_bytes base.layout opening → durable ≡ flying
    → flying ≤ length l
    → IsKnownLawful (opened_core m opening base) l → IsKnownState m opening (state_with base l durable flying None)
known_opened m opening base l durable flying none bytes same high lawful =
    let area : IsAreaOf m.node opening base l = record { within = omega (arith, none); bytes = bytes ∙ ap (λ k. area_bytes base.layout (after m.node opening (take k l))) (sym none) } in
    let each = lawful_opened m opening base l none lawful in
    record {
      counts = record { durable = omega (arith, same); flying = high; based = omega (arith, none); checkpointed = λ b e. none≢some b e };
      base = area-first m.node opening base durable l (omega (arith, none)) area;
      next = area;
      held = lawful-first m opening base flying l each;
      all = each;
      left = λ b e. none≢some b e;
      fits = λ b e. none≢some b e;
      flies = λ idle some. absurd (omega (arith, same, some));
    }

-- the core that it was opened with, once it has accepted them
pub core_opened : (m : Member) (opening : Summary) (base : Base) (l : List Input) (durable flying : ℕ) (core : CoreView) → base.inputs ≡ 0 → core ≡ core_after (opened_core m opening base) l
    → core ≡ core_in m opening (state_with base l durable flying None)
core_opened m opening base l durable flying core none is = is ∙ (λ i. record { me = m.node; size = m.n; capacity = m.capacity; known = after m.node opening l; room = room-since base l none i })

-- it accepted the input, if there is one
pub known_more : (m : Member) (opening : Summary) (s : NodeState) (core : CoreView) (more : Option Input) → core ≡ core_in m opening s → ((x : Input) → more ≡ Some x → Refuses core x None)
    → IsKnownState m opening s
    → IsKnownState m opening (record s { inputs = s.inputs ++ cons_option more [] })
known_more m opening s core more knows free known =
    let counts = known.counts in
    let l = cons_option more [] in
    let durable : take s.durable (s.inputs ++ l) ≡ durable_in s = take-append-le s.durable s.inputs l (let d = counts.durable in let f = counts.flying in omega arith) in
    let flown : take s.flying (s.inputs ++ l) ≡ flown_in s = take-append-le s.flying s.inputs l counts.flying in
    record {
      counts = record {
        durable = counts.durable;
        flying = (let f = counts.flying in let n = length-append s.inputs l in omega arith);
        based = counts.based;
        checkpointed = counts.checkpointed;
      };
      base = subst (IsAreaOf m.node opening s.base) (sym durable) known.base;
      next = area-grown m.node opening (launched_base s) s.inputs l known.next;
      held = subst (IsLawfulSince m opening s.base) (sym flown) known.held;
      all = lawful-more m opening (launched_base s) s.inputs more (λ x e. open_now m opening s x (subst (λ (c : CoreView). Refuses c x None) knows (free x e))) known.all;
      left = known.left;
      fits = known.fits;
      flies = λ none some. ap (waits_for_area s.base) flown ∙ known.flies none some;
    }

room-joined : (base : Base) (l more : List Input) → base.inputs ≤ length l → room_of base (l ++ more) ≡ room_past (room_of base l) more
room-joined base l more within =
    let waits = ap (list_any is_retire) (drop-append-le base.inputs l more within) ∙ list_any-append is_retire (drop base.inputs l) more in
    λ i. record { layout = base.layout; epoch = base.epoch; taken = used-joined base l more within i; waits = waits i }

pub core_more : (m : Member) (opening : Summary) (s : NodeState) (core new : CoreView) (more : List Input) → IsKnownState m opening s → core ≡ core_in m opening s
    → new ≡ core_after core more
    → new ≡ core_in m opening (record s { inputs = s.inputs ++ more })
core_more m opening s core new more known is grows =
    grows ∙ (ap (λ (c : CoreView). core_after c more) is
    ∙ λ i. record {
      me = m.node;
      size = m.n;
      capacity = m.capacity;
      known = sym (fold-append (stepped m.node) opening s.inputs more) i;
      room = sym (room-joined (launched_base s) s.inputs more known.next.within) i;
    })

-- what it knew by its first inputs, so many of them
pub knows_front : (m : Member) (opening : Summary) (s : NodeState) (core : CoreView) (k : ℕ) → core ≡ core_in m opening s
    → core.known ≡ after m.node (after m.node opening (take k s.inputs)) (drop k s.inputs)
knows_front m opening s core k is =
    (λ i. (is i).known)
    ∙ (ap (after m.node opening) (sym (take-append-drop k s.inputs))
    ∙ fold-append (stepped m.node) opening (take k s.inputs) (drop k s.inputs))

-- a batch flies
pub known_launched : (m : Member) (opening : Summary) (base : Base) (l : List Input) (durable flying k : ℕ) (pending : Option ℕ) → pending ≡ None → durable ≤ k → k ≤ length l
    → waits_for_area base l ≡ false
    → IsKnownState m opening (state_with base l durable flying pending) → IsKnownState m opening (state_with base l durable k pending)
known_launched m opening base l durable flying k (Some bytes) none low high plain known = none≢some bytes (sym none)
known_launched m opening base l durable flying k None none low high plain known =
    record {
      counts = record { durable = low; flying = high; based = known.counts.based; checkpointed = λ b e. none≢some b e };
      base = known.base;
      next = known.next;
      held = lawful-first m opening base k l known.all;
      all = known.all;
      left = λ b e. none≢some b e;
      fits = λ b e. none≢some b e;
      flies = λ idle some. first_plain base k l plain;
    }

-- its core stays
pub core_launched : (m : Member) (opening : Summary) (base : Base) (l : List Input) (durable flying k : ℕ) (pending : Option ℕ) → pending ≡ None
    → core_in m opening (state_with base l durable flying pending) ≡ core_in m opening (state_with base l durable k pending)
core_launched m opening base l durable flying k (Some bytes) none = none≢some bytes (sym none)
core_launched m opening base l durable flying k None none = refl

-- a checkpoint flies
pub known_all : (m : Member) (opening : Summary) (base : Base) (l : List Input) (durable flying count bytes : ℕ) (pending : Option ℕ) → pending ≡ None → count ≡ length l
    → bytes ≡ snapshot_len newest (after m.node opening l)
    → base.epoch + 1 < epochs → bytes ≤ m.capacity → IsKnownState m opening (state_with base l durable flying pending) → IsKnownState m opening (state_with base l durable count (Some bytes))
known_all m opening base l durable flying count bytes (Some other) none all spells few fits known = none≢some other (sym none)
known_all m opening base l durable flying count bytes None none all spells few fits known =
    let counts = known.counts in
    let whole : take count l ≡ l = take_all count l (omega (arith, all)) in
    let next = area_behind base count bytes in
    record {
      counts = record {
        durable = (let d = counts.durable in let f = counts.flying in omega (arith, all));
        flying = omega (arith, all);
        based = counts.based;
        checkpointed = λ b e. sym (ap (λ (c : Base). c.inputs) (same_Some next b e));
      };
      base = known.base;
      next = record { within = omega (arith, all); bytes = spells ∙ ap (λ (g : List Input). snapshot_len newest (after m.node opening g)) (sym whole) };
      held = lawful-first m opening base count l known.all;
      all = rebased m opening base next [] l (omega (arith, all)) known.all;
      left = λ b e. subst (λ (c : Base). c.epoch < epochs) (same_Some next b e) few;
      fits = λ b e. subst (λ (c : Base). c.bytes ≤ m.capacity) (same_Some next b e) fits;
      flies = λ idle some. none≢some next (sym idle);
    }

-- the core, with room counted from its summary
pub core_all : (m : Member) (opening : Summary) (base : Base) (l : List Input) (durable flying count bytes : ℕ) (pending : Option ℕ) (core new : CoreView) → count ≡ length l
    → bytes ≡ snapshot_len newest (after m.node opening l)
    → core ≡ core_in m opening (state_with base l durable flying pending) → new ≡ record core { room = record { layout = newest; epoch = base.epoch + 1; taken = snapshot_len newest core.known; waits = false } } → new ≡ core_in m opening (state_with base l durable count (Some bytes))
unfolding used
core_all m opening base l durable flying count bytes pending core new all spells is steps =
    let none : drop count l ≡ [] = drop_all count l (omega (arith, all)) in
    let same : snapshot_len newest (after m.node opening l) ≡ bytes + costs_of (drop count l) = (let z : bytes + 0 ≡ bytes = omega arith in sym spells ∙ (sym z ∙ ap (λ (g : List Input). bytes + costs_of g) (sym none))) in
    let waits : false ≡ list_any is_retire (drop count l) = sym (ap (list_any is_retire) none) in
    steps ∙ (ap (λ (c : CoreView). record c { room = record { layout = newest; epoch = base.epoch + 1; taken = snapshot_len newest c.known; waits = false } }) is
    ∙ λ i. record { me = m.node; size = m.n; capacity = m.capacity; known = after m.node opening l; room = record { layout = newest; epoch = base.epoch + 1; taken = same i; waits = waits i } })

-- what flies is durable
pub known_landed : (m : Member) (opening : Summary) (s : NodeState) → IsKnownState m opening s → IsKnownState m opening (state_with (launched_base s) s.inputs s.flying s.flying None)
known_landed m opening s known =
    let counts = known.counts in
    record {
      counts = record { durable = omega arith; flying = counts.flying; based = next-few s counts; checkpointed = λ b e. none≢some b e };
      base = area-first m.node opening (launched_base s) s.flying s.inputs (next-few s counts) known.next;
      next = known.next;
      held = lawful-first m opening (launched_base s) s.flying s.inputs known.all;
      all = known.all;
      left = λ b e. none≢some b e;
      fits = λ b e. none≢some b e;
      flies = λ idle some. absurd (omega (arith, some));
    }

-- ---- room

-- the last of the inputs behind the base, and the room that there was for it
record LastRoom (m : Member) (opening : Summary) (base : Base) (l : List Input) : Type 0 where
  front : List Input
  last : Input
  is : l ≡ front ++ last ∷ []
  within : base.inputs ≤ length front
  has : HasRoom m.capacity (room_of base front) last (snapshot_len newest (after m.node opening l))
  renews : must_renew (room_of base front) last ≡ waits_for_area base l

last_room : (m : Member) (opening : Summary) (base : Base) (l : List Input) → IsLawfulSince m opening base l → base.inputs < length l → LastRoom m opening base l
last_room m opening base l lawful some = go (ends l some)
  where
    ends : (l : List Input) → base.inputs < length l → (front : List Input) × (last : Input) × (l ≡ front ++ last ∷ [])
    ends [] some = absurd (omega (arith, some))
    ends (x ∷ l) some = split x l

    go : (front : List Input) × (last : Input) × (l ≡ front ++ last ∷ []) → LastRoom m opening base l
    go (front, last, is) =
        let count = ap length is ∙ length-append front (last ∷ []) in
        let within : base.inputs ≤ length front = omega (arith, count, some) in
        let free = EachAfter-at (IsOpenSince m opening base) [] front last [] (subst (IsLawfulSince m opening base) is lawful) in
        let waits = ap (list_any is_retire) (drop-append-le base.inputs front (last ∷ []) within) ∙ (list_any-append is_retire (drop base.inputs front) (last ∷ []) ∙ ap (λ b. list_any is_retire (drop base.inputs front) || b) (or-false (is_retire last))) in
        record {
          front = front;
          last = last;
          is = is;
          within = within;
          has = subst (λ (k : List Input). HasRoom m.capacity (room_of base front) last (snapshot_len newest (after m.node opening k))) (sym is) (free.fits within);
          renews = ap (λ b. nat_lt base.layout newest && b) (sym (ap (λ (k : List Input). list_any is_retire (drop base.inputs k)) is ∙ waits));
        }

-- where none of them waits for an area, what stands behind the base fits
pub all_fit : (m : Member) (opening : Summary) (base : Base) (l : List Input) → IsLawfulSince m opening base l → waits_for_area base l ≡ false → base.inputs < length l → used base l ≤ m.capacity
all_fit m opening base l lawful plain some =
    let room = last_room m opening base l lawful some in
    let fits = room.has.plain (room.renews ∙ plain) in
    let more = ap (used base) room.is ∙ used-more base room.front room.last room.within in
    omega (arith, fits, more)

-- where one does, another area may be written, and the snapshot of all fits it
pub all_renew : (m : Member) (opening : Summary) (base : Base) (l : List Input) → IsLawfulSince m opening base l → waits_for_area base l ≡ true
    → (base.epoch + 1 < epochs) × (snapshot_len newest (after m.node opening l) ≤ m.capacity)
all_renew m opening base l lawful waits =
    let room = last_room m opening base l lawful (behind base l (and_parts (nat_lt base.layout newest) (list_any is_retire (drop base.inputs l)) waits).1) in
    (room.has.epoch (room.renews ∙ waits), room.has.short (room.renews ∙ waits))

-- so of a desk which needs a checkpoint
pub may_renew : (desk : DeskKept) → IsKnownState desk.view.member desk.opening desk.view.state → needs_checkpoint desk ≡ true → MayRenew desk
may_renew desk known needs =
    let renews = all_renew desk.view.member desk.opening (launched_base desk.view.state) desk.view.state.inputs known.all needs in
    record { left = renews.0; fits = renews.1 }

pub first_fit : (m : Member) (opening : Summary) (base : Base) (k : ℕ) (l : List Input) → IsLawfulSince m opening base l → waits_for_area base l ≡ false → base.inputs < k → k ≤ length l
    → used base (take k l) ≤ m.capacity
first_fit m opening base k l lawful plain some within =
    let count = length-take-le k l within in
    all_fit m opening base (take k l) (lawful-first m opening base k l lawful) (first_plain base k l plain) (omega (arith, some, count))

-- so does what is durable once all that flies is, where an input flies or a checkpoint does
pub flown_fit : (m : Member) (opening : Summary) (s : NodeState) → IsKnownState m opening s → (s.checkpoint ≡ None → s.durable < s.flying)
    → used (launched_base s) (flown_in s) ≤ m.capacity
unfolding used
flown_fit m opening s known some = go s.checkpoint known.counts.checkpointed known.fits some known.flies
  where
    go : (o : Option Base) → ((b : Base) → o ≡ Some b → b.inputs ≡ s.flying) → ((b : Base) → o ≡ Some b → b.bytes ≤ m.capacity) → (o ≡ None → s.durable < s.flying)
        → (o ≡ None → s.durable < s.flying → waits_for_area s.base (flown_in s) ≡ false) → used (unwrap_or o s.base) (flown_in s) ≤ m.capacity
    go None same fits flies suited =
        let count = length-take-le s.flying s.inputs known.counts.flying in
        let based = known.counts.based in
        let more = flies refl in
        let plain = suited refl more in
        all_fit m opening s.base (flown_in s) known.held plain (omega (arith, count, based, more))
    go (Some b) same fits flies suited =
        let count = length-take-le s.flying s.inputs known.counts.flying in
        let all = same b refl in
        let room = fits b refl in
        let none : costs_of (drop b.inputs (flown_in s)) ≡ 0 = ap costs_of (drop_all b.inputs (flown_in s) (omega (arith, count, all))) in
        omega (arith, room, none)

-- where each takes some, there are no more of them than all take
counted : {A : Type 0} (f : A → ℕ) → ((x : A) → 0 < f x) → (xs : List A) → length xs ≤ sum_by f xs
counted f some [] = omega arith
counted f some (x ∷ xs) =
    let few = counted f some xs in
    let one = some x in
    omega (arith, few, one, sum_by-append f (x ∷ []) xs)

-- ---- snapshots

-- each key takes some bytes of a snapshot
pub few_keys : (s : Summary) → map.len s.keys ≤ snapshot_len newest s
few_keys s =
    let count = len-values s.keys in
    let few = counted state_len (λ state. omega arith) (map.values s.keys) in
    omega (arith, count, few, length-parts newest s (omega arith))
