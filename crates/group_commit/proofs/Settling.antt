-- What an outbox holds as inputs are accepted, fly and land.
use Rattle.std.proofs.Common.{◌≡◌, ℕ, zero, suc, ◌+◌, ◌-◌, ◌<◌, List, [], ◌∷◌, ◌++◌, length, take, drop, append-nil, Option, Some, None, refl, sym, ap, ◌∙◌, subst, append_assoc, add-one, arith}
use Rattle.std.specs.List.{cons_option}
use Rattle.std.specs.Option.{option_map}
use Rattle.std.proofs.lemmas.List.{take_all, length-take-le}
use Rattle.std.proofs.lemmas.List.Sums.{fold-append}
use Rattle.ring_records.specs.declared.input.Input.{Input}
use Rattle.ring_records.specs.declared.summary.Summary.{Summary}
use Rattle.ring_records.specs.Known.{Objects, stepped, after}
use Rattle.ring_records.proofs.Growth.{EachAfter-at}
use Rattle.ring_records.proofs.Lists.{filter_map-push}
use Rattle.ring_records.proofs.Iteration.{IsItem, take-item, cut-item}
use Rattle.node_core.specs.Brought.{brought}
use Rattle.node_core.specs.declared.effects.Effects.{Effects}
use Rattle.group_commit.specs.declared.landed.Landed.{Landed}
use Rattle.group_commit.specs.declared.outbox.Outbox.{Outbox}
use Rattle.group_commit.specs.declared.released.Released.{Released}
use Rattle.group_commit.specs.Outbox.{AreFree, brought_after, carried, told_in, Keeps, HasRoom, IsReady, IsBlank, IsLoaded, IsStill, IsWith, Holds}

-- ---- what inputs bring

pub after-push : (me : ℕ) (s : Summary) (l : List Input) (x : Input) → after me s (l ++ x ∷ []) ≡ stepped me (after me s l) x
after-push me s l x = fold-append (stepped me) s l (x ∷ [])

pub brought-append : (me : ℕ) (s : Summary) (l more : List Input) → brought_after me s (l ++ more) ≡ brought_after me s l ++ brought_after me (after me s l) more
unfolding brought_after
brought-append me s [] more = refl
brought-append me s (x ∷ l) more = ap (λ es. brought me s x ∷ es) (brought-append me (stepped me s x) l more)

pub brought-push : (me : ℕ) (s : Summary) (l : List Input) (x : Input) → brought_after me s (l ++ x ∷ []) ≡ brought_after me s l ++ brought me (after me s l) x ∷ []
unfolding brought_after
brought-push me s l x = brought-append me s l (x ∷ [])

pub length-brought : (me : ℕ) (s : Summary) (l : List Input) → length (brought_after me s l) ≡ length l
unfolding brought_after
length-brought me s [] = refl
length-brought me s (x ∷ l) = let rest = length-brought me (stepped me s x) l in omega arith

-- ---- an outbox where nothing waits

pub holds_restored : (me : ℕ) (outbox : Outbox) (s : Summary) → Keeps outbox.released s
    → outbox.waiting.items ≡ [] → IsBlank outbox.landing → Holds me outbox s [] 0
unfolding brought_after
holds_restored me outbox s keeps none blank = record {
  released = keeps;
  waiting = none;
  room = omega arith;
  blank = blank;
  ready = λ less. absurd (omega (arith, less));
  count = λ less. absurd (omega (arith, less));
}

-- one more durable input
pub holds_next : (me : ℕ) (old new : Outbox) (s t : Summary) → Holds me old s [] 0 → new.waiting ≡ old.waiting → new.landing ≡ old.landing
    → Keeps new.released t → HasRoom new.released 0 → Holds me new t [] 0
unfolding brought_after
holds_next me old new s t holds same_waiting same_landing keeps room = record {
  released = keeps;
  waiting = (λ i. (same_waiting i).items) ∙ holds.waiting;
  room = room;
  blank = subst IsBlank (sym same_landing) holds.blank;
  ready = λ less. absurd (omega (arith, less));
  count = λ less. absurd (omega (arith, less));
}

-- ---- what waits

-- one more input waits
pub waits_next : (me flying : ℕ) (old new : Outbox) (s : Summary) (l : List Input) (x : Input) (effects : Effects) → Holds me old s l flying
    → effects ≡ brought me (after me s l) x
    → new.released ≡ old.released → new.landing ≡ old.landing → new.waiting.items ≡ old.waiting.items ++ effects ∷ [] → Holds me new s (l ++ x ∷ []) flying
waits_next me flying old new s l x effects holds brings same_released same_landing more = record {
  released = subst (λ (r : Released). Keeps r s) (sym same_released) holds.released;
  waiting = more ∙ (λ i. holds.waiting i ++ brings i ∷ []) ∙ sym (brought-push me s l x);
  room = subst (λ (r : Released). HasRoom r flying) (sym same_released) holds.room;
  blank = subst IsBlank (sym same_landing) holds.blank;
  ready = subst (λ (l : Landed). 0 < flying → IsReady l flying) (sym same_landing) holds.ready;
  count = subst (λ (l : Landed). 0 < flying → l.count ≡ flying) (sym same_landing) holds.count;
}

-- it holds what it held
pub holds_with : (me flying : ℕ) (old new : Outbox) (s : Summary) (l : List Input) → IsWith old new old.waiting.items → Holds me old s l flying → Holds me new s l flying
holds_with me flying old new s l is holds = record {
  released = subst (λ (r : Released). Keeps r s) (sym is.released) holds.released;
  waiting = is.waiting ∙ holds.waiting;
  room = subst (λ (r : Released). HasRoom r flying) (sym is.released) holds.room;
  blank = subst IsBlank (sym is.landing) holds.blank;
  ready = subst (λ (l : Landed). 0 < flying → IsReady l flying) (sym is.landing) holds.ready;
  count = subst (λ (l : Landed). 0 < flying → l.count ≡ flying) (sym is.landing) holds.count;
}

-- and what one input more brings, if there is one
pub holds_gained : (me flying : ℕ) (old new : Outbox) (s : Summary) (l : List Input) (known : Summary) (o : Option Input) → known ≡ after me s l
    → IsWith old new (old.waiting.items ++ cons_option (option_map (brought me known) o) []) → Holds me old s l flying → Holds me new s (l ++ cons_option o []) flying
holds_gained me flying old new s l known (Some x) knows is holds =
    waits_next me flying old new s l x (brought me known x) holds (ap (λ (k : Summary). brought me k x) knows) is.released is.landing is.waiting
holds_gained me flying old new s l known None knows is holds =
    subst (λ (k : List Input). Holds me new s k flying) (sym (append-nil l))
    (holds_with me flying old new s l (record { released = is.released; waiting = is.waiting ∙ append-nil old.waiting.items; landing = is.landing }) holds)

pub ends_with : {A : Type 0} (xs ys : List A) (a b : A) → xs ≡ ys ++ a ∷ [] → a ≡ b → xs ≡ ys ++ b ∷ []
ends_with xs ys a b is same = is ∙ ap (λ c. ys ++ c ∷ []) same

pub idle : {A : Type 0} → 0 < 0 → A
idle less = absurd (omega (arith, less))

-- where nothing flies, it needs no memory for what flies
pub holds_still : (me flying : ℕ) (outbox : Outbox) (s : Summary) (l : List Input) → Holds me outbox s l flying → Holds me outbox s l 0
holds_still me flying outbox s l holds = record {
  released = holds.released;
  waiting = holds.waiting;
  room = omega arith;
  blank = holds.blank;
  ready = λ less. absurd (omega (arith, less));
  count = λ less. absurd (omega (arith, less));
}

-- with memory for what flies, and without
pub loaded_holds : (me count : ℕ) (old new : Outbox) (s : Summary) (l : List Input) → IsLoaded old new count → Holds me old s l 0 → Holds me new s l count
loaded_holds me count old new s l is holds =
    record { released = is.released s holds.released; waiting = is.waiting ∙ holds.waiting; room = is.room; blank = is.blank; ready = λ some. is.ready; count = λ some. is.count }

pub still_holds : (me : ℕ) (old new : Outbox) (s : Summary) (l : List Input) → IsStill old new → Holds me old s l 0 → Holds me new s l 0
still_holds me old new s l is holds =
    record { released = is.released s holds.released; waiting = is.waiting ∙ holds.waiting; room = omega arith; blank = is.blank holds.blank; ready = idle; count = idle }

pub still_loaded : (old new : Outbox) (count : ℕ) → IsLoaded old new count → IsStill old new
still_loaded old new count is = record { released = is.released; waiting = is.waiting; blank = λ blank. is.blank }

-- ---- what flies lands

drop_nil : {A : Type 0} (k : ℕ) → drop {A = A} k [] ≡ []
drop_nil zero = refl
drop_nil (suc k) = refl

split_at : {A : Type 0} (i : ℕ) (xs rest : List A) (x : A) → drop i xs ≡ x ∷ rest → (take (suc i) xs ≡ take i xs ++ x ∷ []) × (drop (suc i) xs ≡ rest)
split_at i [] rest x e = absurd (let none = ap length (sym (drop_nil i) ∙ e) in omega arith)
split_at zero (y ∷ xs) rest x e = (ap (λ l. take 1 l) e, ap (drop 1) e)
split_at (suc i) (y ∷ xs) rest x e = let there = split_at i xs rest x e in (ap (λ l. y ∷ l) there.0, there.1)

-- the first that is left goes to the end of those before it
pub passes : {A : Type 0} (i : ℕ) (xs rest : List A) (x : A) → drop i xs ≡ x ∷ rest → (take (i + 1) xs ≡ take i xs ++ x ∷ []) × (drop (i + 1) xs ≡ rest)
passes i xs rest x e = subst (λ k. (take k xs ≡ take i xs ++ x ∷ []) × (drop k xs ≡ rest)) (sym (add-one i)) (split_at i xs rest x e)

pub drop-front : {A : Type 0} (xs ys : List A) → drop (length xs) (xs ++ ys) ≡ ys
drop-front [] ys = refl
drop-front (x ∷ xs) ys = drop-front xs ys

head_or : {A : Type 0} → A → List A → A
head_or x [] = x
head_or x (y ∷ ys) = y

pub first_of : {A : Type 0} (x : A) {xs ys : List A} {y : A} → x ∷ xs ≡ y ∷ ys → x ≡ y
unfolding head_or
first_of x e = ap (head_or x) e

-- what waits first is what the next input brings
pub brings_next : (me : ℕ) (s : Summary) (l rest : List Input) (waiting : List Effects) (i : ℕ) (x : Input) → waiting ≡ brought_after me s (l ++ rest) → IsItem l i x
    → drop i waiting ≡ brought me (after me s (take i l)) x ∷ brought_after me (stepped me (after me s (take i l)) x) (drop (i + 1) l ++ rest)
unfolding brought_after
brings_next me s l rest waiting i x is here =
    let cut : l ++ rest ≡ take i l ++ (x ∷ (drop (i + 1) l ++ rest)) =
    ap (λ k. k ++ rest) (cut-item l i x here) ∙ (append_assoc (take i l ++ x ∷ []) (drop (i + 1) l) rest ∙ append_assoc (take i l) (x ∷ []) (drop (i + 1) l ++ rest)) in
    let front : i ≡ length (brought_after me s (take i l)) = sym (length-brought me s (take i l) ∙ length-take-le i l (let within = here.within in omega arith)) in
    (λ k. drop (front k) ((is ∙ (ap (brought_after me s) cut ∙ brought-append me s (take i l) (x ∷ (drop (i + 1) l ++ rest)))) k))
    ∙ drop-front (brought_after me s (take i l)) _

-- nothing is against an input of these
pub free_at : (me n : ℕ) (s : Summary) (l : List Input) (i : ℕ) (x : Input) → AreFree me n s l → IsItem l i x → Objects n (after me s (take i l)) x None
free_at me n s l i x free here =
    let cut = cut-item l i x here ∙ append_assoc (take i l) (x ∷ []) (drop (i + 1) l) in
    EachAfter-at (λ before y. Objects n (after me s before) y None) [] (take i l) x (drop (i + 1) l) (subst (AreFree me n s) cut free)

-- So many of them have landed; this much of what waited is left.
pub record Settles (outbox : Outbox) (landed : Landed) (waited : List Effects) (count i : ℕ) : Type 0 where
  pub blank : IsBlank outbox.landing
  pub waits : outbox.waiting.items ≡ drop i waited
  pub room : HasRoom outbox.released (count - i)
  pub ready : IsReady landed (count - i)
  pub packets : landed.packets.items ≡ carried (take i waited)
  pub notices : landed.notices.items ≡ told_in (take i waited)
  pub again : landed.again.items ≡ landed.notices.items
  pub counts : landed.count ≡ count

pub settles_none : (me : ℕ) (old new : Outbox) (landed : Landed) (s : Summary) (l : List Input) (count : ℕ) → 0 < count → Holds me old s l count
    → landed ≡ old.landing → new.released ≡ old.released → new.waiting ≡ old.waiting → IsBlank new.landing → Settles new landed old.waiting.items count 0
settles_none me old new landed s l count some holds same released waits blank =
    let all : count ≡ count - 0 = omega arith in
    record {
      blank = blank;
      waits = λ i. (waits i).items;
      room = subst (λ (p : Released × ℕ). HasRoom p.0 p.1) (λ i. (sym released i, all i)) holds.room;
      ready = subst (λ (p : Landed × ℕ). IsReady p.0 p.1) (λ i. (sym same i, all i)) (holds.ready some);
      packets = (λ i. (same i).packets.items) ∙ holds.blank.packets;
      notices = (λ i. (same i).notices.items) ∙ holds.blank.notices;
      again = (λ i. (same i).again.items) ∙ (holds.blank.again ∙ sym ((λ i. (same i).notices.items) ∙ holds.blank.notices));
      counts = (λ i. (same i).count) ∙ holds.count some;
    }

pub settles_end : (outbox : Outbox) (landed : Landed) (waited : List Effects) (count i : ℕ) → i ≡ count → Settles outbox landed waited count i → Settles outbox landed waited count count
settles_end outbox landed waited count i all settles = subst (Settles outbox landed waited count) all settles

pub settles_next : (old new : Outbox) (landed now : Landed) (waited : List Effects) (count i : ℕ) (effects : Effects) → Settles old landed waited count i → i < count
    → old.waiting.items ≡ effects ∷ new.waiting.items
    → IsBlank new.landing → ((k : ℕ) → HasRoom old.released (k + 1) → HasRoom new.released k) → ((k : ℕ) → IsReady landed (k + 1) → IsReady now k)
    → now.packets.items ≡ landed.packets.items ++ cons_option effects.carry [] → now.notices.items ≡ landed.notices.items ++ cons_option effects.notice [] → now.again.items ≡ landed.again.items ++ cons_option effects.notice [] → now.count ≡ landed.count → Settles new now waited count (i + 1)
settles_next old new landed now waited count i effects settles less split blank room ready packets notices again counts =
    let left : count - i ≡ count - (i + 1) + 1 = omega (arith, less) in
    let goes = passes i waited new.waiting.items effects (sym settles.waits ∙ split) in
    record {
      blank = blank;
      waits = sym goes.1;
      room = room (count - (i + 1)) (subst (HasRoom old.released) left settles.room);
      ready = ready (count - (i + 1)) (subst (IsReady landed) left settles.ready);
      packets = packets ∙ ap (λ l. l ++ cons_option effects.carry []) settles.packets ∙ sym (ap carried goes.0 ∙ filter_map-push (λ (e : Effects). e.carry) (take i waited) effects);
      notices = notices ∙ ap (λ l. l ++ cons_option effects.notice []) settles.notices ∙ sym (ap told_in goes.0 ∙ filter_map-push (λ (e : Effects). e.notice) (take i waited) effects);
      again = again ∙ (ap (λ l. l ++ cons_option effects.notice []) settles.again ∙ sym notices);
      counts = counts ∙ settles.counts;
    }

-- what the node may release, once so many have landed
pub keeps_next : (me : ℕ) (new : Released) (s : Summary) (l : List Input) (i : ℕ) (x : Input) → IsItem l i x → Keeps new (stepped me (after me s (take i l)) x)
    → Keeps new (after me s (take (i + 1) l))
keeps_next me new s l i x here keeps = subst (Keeps new) (sym (ap (after me s) (take-item l i x here) ∙ after-push me s (take i l) x)) keeps

-- nothing flies behind what landed
pub holds_landed : (me : ℕ) (old new : Outbox) (landed : Landed) (s : Summary) (l rest : List Input) → Holds me old s (l ++ rest) (length l)
    → Settles new landed old.waiting.items (length l) (length l)
    → Keeps new.released (after me s (take (length l) l)) → Holds me new (after me s l) rest 0
holds_landed me old new landed s l rest holds settles keeps =
    let whole = take_all (length l) l (omega arith) in
    let none_left : length l - length l ≡ 0 = omega arith in
    let front = sym (length-brought me s l) in
    record {
      released = subst (λ (k : List Input). Keeps new.released (after me s k)) whole keeps;
      waiting = settles.waits ∙ (λ i. drop (front i) ((holds.waiting ∙ brought-append me s l rest) i)) ∙ drop-front (brought_after me s l) (brought_after me (after me s l) rest);
      room = subst (HasRoom new.released) none_left settles.room;
      blank = settles.blank;
      ready = λ less. absurd (omega (arith, less));
      count = λ less. absurd (omega (arith, less));
    }
