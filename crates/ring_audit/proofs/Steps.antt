-- One more input placed, and when there is none.
use Rattle.std.proofs.Common.{ℕ, ◌≡◌, ◌≤◌, ◌<◌, ◌+◌, ◌-◌, Bool, true, leb, List, [], ◌∷◌, ◌++◌, length, take, drop, set, get_or, refl, sym, ap, ◌∙◌, subst, inl, inr, arith, zero-add, Vec, Global}
use Rattle.std.specs.Prelude.{slice_get, Some, IsTrue, ◌↔◌, Result, Ok, Err, OnOk}
use Rattle.std.proofs.Math.Seq.{get_or-append_seam}
use Rattle.std.proofs.lemmas.Bool.{cases_eq, cases_lt, leb-true, le-leb}
use Rattle.std.proofs.lemmas.Bool.Decides.{nat_tests}
use Rattle.std.proofs.lemmas.Grind.{get_or-set_at}
use Rattle.std.proofs.lemmas.List.{get_or-map, get_or-set_other, get_or_append_left, length-append, length-map, length-set, take-append-drop, take_more}
use Rattle.std.proofs.lemmas.Option.{same_Some, slice_get_within, get_or_from_slice_get, slice_get-get_or}
use Rattle.ring_records.specs.declared.input.Input.{Input}
use Rattle.ring_records.specs.declared.input.Input.TheVariants.{Stand, Take, Acked, Retire}
use Rattle.ring_records.specs.declared.key.Key.{Key}
use Rattle.ring_records.specs.declared.msg.Msg.{Msg}
use Rattle.ring_records.specs.Emission.{sent}
use Rattle.ring_records.specs.History.{taken}
use Rattle.ring_records.specs.Place.{before, after}
use Rattle.ring_records.specs.Lists.{EachAfter}
use Rattle.ring_records.specs.Allowed.{IsAllowed}
use Rattle.ring_records.specs.Ring.{IsCarried, MayFollow, IsLegal}
use Rattle.ring_records.specs.Part.{part as part_of}
use Rattle.ring_records.proofs.Growth.{slice_get-append, EachAfter-at}
use Rattle.ring_records.proofs.Lists.{EachAfter-push}
use Rattle.ring_records.proofs.Parts.{part-same, part-other, by_node}
use Rattle.ring_audit.specs.declared.part.Part.{Part}
use Rattle.ring_audit.specs.declared.placing.Placing.{Placing}
use Rattle.ring_audit.specs.Part.{PartStandsFor}
use Rattle.ring_audit.specs.Placement.{history_of, lists}
use Rattle.ring_audit.specs.Placed.{IsPlaced, IsPlacement, IsNext}
use Rattle.ring_audit.specs.Placing.{IsPart, IsPlacing}
use Rattle.ring_audit.proofs.Places.{IsFront, done_placement}

-- ---- the histories

pub lists_count : (vs : List (Vec Input Global)) → length (lists vs) ≡ length vs
lists_count vs = length-map vs (λ (v : Vec Input Global). v.items)

pub history_is : (vs : List (Vec Input Global)) (i k : ℕ) (v : Vec Input Global) → k ≡ i - 1 → k < length vs → v ≡ get_or vs k v → history_of (lists vs) i ≡ v.items
history_is vs i k v e lt is =
    ap (λ j. get_or (lists vs) j []) (sym e)
    ∙ (get_or-map (λ (w : Vec Input Global). w.items) vs k v [] lt ∙ ap (λ (w : Vec Input Global). w.items) (sym is))

pub index_in : (vs : List (Vec Input Global)) (n i number : ℕ) → n ≡ length (lists vs) → 1 ≤ i → i ≤ n → number ≡ i → number - 1 < length vs
index_in vs n i number size low high is = let count = lists_count vs in omega arith

-- ---- one more item of a prefix

next_front : (h whole : List Input) (x : Input) → IsFront h whole → slice_get whole (length h) ≡ Some x → IsFront (h ++ x ∷ []) whole
next_front h whole x e is =
    let less : length h < length whole = slice_get_within whole (length h) x is in
    let here : get_or whole (length h) x ≡ x = get_or_from_slice_get whole (length h) x x is in
    (λ t. e t ++ sym here t ∷ []) ∙ (sym (take_more whole (length h) x less) ∙ ap (λ k. take k whole) (sym (length-append h (x ∷ []))))

seam : (h ys : List Input) (x : Input) → slice_get (h ++ x ∷ ys) (length h) ≡ Some x
seam h ys x =
    let len = length-append h (x ∷ ys) in
    slice_get-get_or (h ++ x ∷ ys) (length h) x (omega arith) ∙ ap Some (get_or-append_seam h x ys x)

front_next : (h whole : List Input) (x : Input) → IsFront (h ++ x ∷ []) whole → slice_get whole (length h) ≡ Some x
front_next h whole x e =
    let m = length (h ++ x ∷ []) in
    let cut : (h ++ x ∷ []) ++ drop m whole ≡ whole = ap (λ xs. xs ++ drop m whole) e ∙ take-append-drop m whole in
    subst (λ xs. slice_get xs (length h) ≡ Some x) cut (slice_get-append (h ++ x ∷ []) (drop m whole) (length h) x (seam h [] x))

-- ---- one more step of the run

pub placed_next : (hs : List (List Input)) (run : List (ℕ × Input)) (i : ℕ) (x : Input) → IsPlaced hs run → IsNext hs run i x → IsPlaced hs (run ++ (i, x) ∷ [])
unfolding IsLegal
placed_next hs run i x p next = record {
  legal = EachAfter-push (MayFollow (length hs)) [] run (i, x) p.legal next.follows;
  parts = by_node (length hs) run i x (λ k h. 1 ≤ k → k ≤ length hs → IsFront h (history_of hs k))
      (λ low high. next_front (part_of run i) (history_of hs i) x (p.parts i low high) next.next)
      p.parts;
}

step_next : (hs : List (List Input)) (run : List (ℕ × Input)) (step : ℕ × Input) → IsPlaced hs (run ++ step ∷ []) → IsNext hs run step.0 step.1
unfolding IsLegal
step_next hs run step p =
    let follows : MayFollow (length hs) run step = EachAfter-at (MayFollow (length hs)) [] run step [] p.legal in
    record {
      next = front_next (part_of run step.0) (history_of hs step.0) step.1 (subst (λ h. IsFront h (history_of hs step.0)) (part-same (length hs) run step.0 step.1) (p.parts step.0 follows.first follows.last));
      follows = follows;
    }

pub none_next : (hs : List (List Input)) (run : List (ℕ × Input)) → IsPlaced hs run → ((i : ℕ) (x : Input) → 1 ≤ i → i ≤ length hs → IsNext hs run i x → ⊥)
    → IsPlacement hs run
none_next hs run p none = done_placement hs run p (λ step q. let n = step_next hs run step q in none step.0 step.1 n.follows.first n.follows.last n)

-- ---- what the parts leave

pub part_at : (hs : List (List Input)) (placing : Placing) (i : ℕ) (part : Part) → IsPlacing hs placing → 1 ≤ i → i ≤ placing.n → part ≡ get_or placing.parts.items (i - 1) part
    → IsPart hs placing.run.items i part
part_at hs placing i part p low high is =
    let size = p.size in
    let i_is : (i - 1) + 1 ≡ i = omega arith in
    subst (λ k. IsPart hs placing.run.items k part) i_is (p.each (i - 1) part (omega arith) is)

part_next : (hs : List (List Input)) (run : List (ℕ × Input)) (i : ℕ) (x : Input) (old new : Part) → IsPart hs run i old
    → ((n i : ℕ) (h : List Input) → PartStandsFor n i old h → PartStandsFor n i new (h ++ x ∷ [])) → new.left + 1 ≡ old.left → IsPart hs (run ++ (i, x) ∷ []) i new
part_next hs run i x old new p stands fewer =
    let same = part-same (length hs) run i x in
    let len = ap length same in
    let more = length-append (part_of run i) (x ∷ []) in
    let was = p.left in
    record {
      stands = subst (PartStandsFor (length hs) i new) (sym same) (stands (length hs) i (part_of run i) p.stands);
      left = omega arith;
    }

part_stays : (hs : List (List Input)) (run : List (ℕ × Input)) (i j : ℕ) (x : Input) (part : Part) → (i ≡ j → ⊥) → IsPart hs run j part → IsPart hs (run ++ (i, x) ∷ []) j part
part_stays hs run i j x part ne p =
    let same = part-other (length hs) run i x j ne in
    record {
      stands = subst (PartStandsFor (length hs) j part) (sym same) p.stands;
      left = ap (λ h. length h + part.left) same ∙ p.left;
    }

-- the node's part is another one, behind one more input
pub placing_next : (hs : List (List Input)) (old : Placing) (new : Placing) (i : ℕ) (x : Input) (was now : Part) → IsPlacing hs old → i ≤ old.n → IsNext hs old.run.items i x
    → was ≡ get_or old.parts.items (i - 1) was → ((n i : ℕ) (h : List Input) → PartStandsFor n i was h → PartStandsFor n i now (h ++ x ∷ [])) → now.left + 1 ≡ was.left
    → new.n ≡ old.n → new.run.items ≡ old.run.items ++ (i, x) ∷ [] → new.parts.items ≡ set old.parts.items (i - 1) now → IsPlacing hs new
placing_next hs old new i x was now p high next was_is stands fewer size run parts =
    let low = next.follows.first in
    let sizes = p.size in
    let count = p.count in
    let here : IsPart hs (old.run.items ++ (i, x) ∷ []) i now = part_next hs old.run.items i x was now (part_at hs old i was p low high was_is) stands fewer in
    record {
      size = size ∙ p.size;
      most = subst (λ k. k ≤ 16) (sym size) p.most;
      count = ap length parts ∙ (length-set old.parts.items (i - 1) now ∙ p.count);
      placed = subst (IsPlaced hs) (sym run) (placed_next hs old.run.items i x p.placed next);
      each = λ k part lt is. subst (λ r. IsPart hs r (k + 1) part) (sym run) (elim (cases_eq (i - 1) k) [
        | inl e ↦ (let i_is : i ≡ k + 1 = omega arith in
            let part_is : part ≡ now = is ∙ (ap (λ ps. get_or ps k part) parts ∙ get_or-set_at old.parts.items (i - 1) k now part (sym e) (omega arith)) in
            subst (λ j. IsPart hs (old.run.items ++ (i, x) ∷ []) j part) i_is (subst (IsPart hs (old.run.items ++ (i, x) ∷ []) i) (sym part_is) here))
        | inr ne ↦ part_stays hs old.run.items i (k + 1) x part (λ q. ne (omega arith)) (p.each k part lt (is ∙ (ap (λ ps. get_or ps k part) parts ∙ get_or-set_other old.parts.items (i - 1) k now part (λ q. ne (sym q)))))
      ]);
    }

-- ---- the next input of a history

-- so many inputs of the list are placed, and this is the one behind them
pub record IsBehind (hs : List (List Input)) (run : List (ℕ × Input)) (i : ℕ) (items : List Input) (k : ℕ) (x : Input) : Type 0 where
  pub whole : history_of hs i ≡ items
  pub count : k ≡ length (part_of run i)
  pub within : k < length items
  pub is : x ≡ get_or items k x

behind : (hs : List (List Input)) (run : List (ℕ × Input)) (i : ℕ) (items : List Input) (k : ℕ) (x : Input) → IsBehind hs run i items k x
    → slice_get (history_of hs i) (length (part_of run i)) ≡ Some x
behind hs run i items k x b =
    (λ t. slice_get (b.whole t) (sym b.count t)) ∙ (slice_get-get_or items k x b.within ∙ ap Some (sym b.is))

pub next_found : (hs : List (List Input)) (n : ℕ) (run : List (ℕ × Input)) (i : ℕ) (items : List Input) (k : ℕ) (x : Input) → n ≡ length hs → 1 ≤ i → i ≤ n
    → IsBehind hs run i items k x → IsAllowed i (length hs) (part_of run i) x → IsCarried n run i x → IsNext hs run i x
next_found hs n run i items k x size low high b allowed carried = record {
  next = behind hs run i items k x b;
  follows = record { first = low; last = subst (λ m. i ≤ m) size high; allowed = allowed; carried = subst (λ m. IsCarried m run i x) size carried };
}

pub next_same : (hs : List (List Input)) (run : List (ℕ × Input)) (i : ℕ) (items : List Input) (k : ℕ) (x y : Input) → IsBehind hs run i items k x → IsNext hs run i y → y ≡ x
next_same hs run i items k x y b next = same_Some y x (sym next.next ∙ behind hs run i items k x b)

-- ---- what the neighbours have

pub carried_stand : (n : ℕ) (run : List (ℕ × Input)) (i : ℕ) (key : Key) (bid : ℕ) (x : Input) → x ≡ Stand key bid → IsTrue true ↔ IsCarried n run i x
unfolding IsCarried
carried_stand n run i key bid x is = subst (λ y. IsTrue true ↔ IsCarried n run i y) (sym is) ((λ _. tt), (λ _. refl))

pub carried_retire : (n : ℕ) (run : List (ℕ × Input)) (i : ℕ) (group : List ℕ) (floor : ℕ) (x : Input) → x ≡ Retire group floor → IsTrue true ↔ IsCarried n run i x
unfolding IsCarried
carried_retire n run i group floor x is = subst (λ y. IsTrue true ↔ IsCarried n run i y) (sym is) ((λ _. tt), (λ _. refl))

pub carried_take : (n : ℕ) (run : List (ℕ × Input)) (i j place : ℕ) (msg : Msg) (x : Input) (b : Bool) → x ≡ Take place msg → j ≡ before n i
    → (IsTrue b ↔ (slice_get (sent j (part_of run j)) place ≡ Some msg)) → IsTrue b ↔ IsCarried n run i x
unfolding IsCarried
carried_take n run i j place msg x b is at has =
    subst (λ y. IsTrue b ↔ IsCarried n run i y) (sym is) (subst (λ k. IsTrue b ↔ (slice_get (sent k (part_of run k)) place ≡ Some msg)) at has)

pub carried_acked : (n : ℕ) (run : List (ℕ × Input)) (i j upto : ℕ) (x : Input) (count : ℕ) → x ≡ Acked upto → j ≡ after n i → count ≡ length (taken (part_of run j))
    → IsTrue (leb upto count) ↔ IsCarried n run i x
unfolding IsCarried
carried_acked n run i j upto x count is at has =
    let total : count ≡ length (taken (part_of run (after n i))) = has ∙ ap (λ k. length (taken (part_of run k))) at in
    subst (λ y. IsTrue (leb upto count) ↔ IsCarried n run i y) (sym is) ((λ e. subst (λ m. upto ≤ m) total (leb-true upto count e)), (λ le. le-leb upto count (subst (λ m. upto ≤ m) (sym total) le)))

pub next_carried : (hs : List (List Input)) (n : ℕ) (run : List (ℕ × Input)) (i : ℕ) (y x : Input) → n ≡ length hs → y ≡ x → IsNext hs run i y → IsCarried n run i x
next_carried hs n run i y x size same next = subst (λ m. IsCarried m run i x) (sym size) (subst (IsCarried (length hs) run i) same next.follows.carried)

pub ok_both : {T E P Q R : Type 0} (r : Result T E) → OnOk r P → OnOk r Q → (P → Q → R) → OnOk r R
ok_both (Ok x) p q f = f p q
ok_both (Err e) p q f = tt

-- ---- nothing is placed

after_step : (n i j : ℕ) → i < n → j ≡ after n i → j ≡ i + 1
unfolding after
after_step n i j less e = grind (arith, nat_tests)

pub next_node : (n node next k : ℕ) → (k < n → node ≡ k + 1) → next ≡ after n node → k + 1 < n → next ≡ (k + 1) + 1
next_node n node next k here e less =
    let is = here (omega arith) in
    after_step n node next (omega arith) e ∙ ap (λ m. m + 1) is

pub fresh_part : (vs : List (Vec Input Global)) (n i k : ℕ) (v : Vec Input Global) (part : Part) → n ≡ length vs → i ≡ k + 1 → k < length vs → v ≡ get_or vs k v
    → PartStandsFor n i part [] → part.left ≡ length v.items → IsPart (lists vs) [] (k + 1) part
unfolding part_of
fresh_part vs n i k v part size node lt is stands whole = record {
  stands = subst (λ m. PartStandsFor m (k + 1) part []) (size ∙ sym (lists_count vs)) (subst (λ j. PartStandsFor n j part []) node stands);
  left = zero-add part.left ∙ (whole ∙ sym (ap length (history_is vs (k + 1) k v (omega arith) lt is)));
}

pub parts_push : (hs : List (List Input)) (parts : List Part) (count : ℕ) (new : Part) → length parts ≡ count
    → ((k : ℕ) (part : Part) → k < count → part ≡ get_or parts k part → IsPart hs [] (k + 1) part) → IsPart hs [] (count + 1) new
    → (k : ℕ) (part : Part) → k < count + 1 → part ≡ get_or (parts ++ new ∷ []) k part → IsPart hs [] (k + 1) part
parts_push hs parts count new len each here k part lt is = elim (cases_lt k count) [
  | inl less ↦ each k part less (is ∙ get_or_append_left parts (new ∷ []) part k (omega arith))
  | inr le ↦ (let k_is : count ≡ k = omega arith in
      let part_is : part ≡ new = is ∙ (ap (λ j. get_or (parts ++ new ∷ []) j part) (sym k_is ∙ sym len) ∙ get_or-append_seam parts new [] part) in
      subst (λ p. IsPart hs [] (k + 1) p) (sym part_is) (subst (λ j. IsPart hs [] (j + 1) new) k_is here))
]

pub placing_start : (vs : List (Vec Input Global)) (placing : Placing) → placing.n ≡ length vs → placing.n ≤ 16 → length placing.parts.items ≡ length vs → placing.run.items ≡ []
    → ((k : ℕ) (part : Part) → k < length vs → part ≡ get_or placing.parts.items k part → IsPart (lists vs) [] (k + 1) part) → IsPlacing (lists vs) placing
unfolding IsLegal EachAfter part_of
placing_start vs placing size most count none each = record {
  size = size ∙ sym (lists_count vs);
  most = most;
  count = count ∙ sym (lists_count vs);
  placed = subst (IsPlaced (lists vs)) (sym none) (record { legal = tt; parts = λ i low high. refl });
  each = λ k part lt is. subst (λ r. IsPart (lists vs) r (k + 1) part) (sym none) (each k part (subst (λ m. k < m) (lists_count vs) lt) is);
}
