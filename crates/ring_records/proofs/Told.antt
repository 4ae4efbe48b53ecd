-- The notices of a history say what it says: its leaders, and its floors.
use Rattle.std.proofs.Common.{ℕ, ◌≡◌, ◌≤◌, ◌<◌, max, Bool, true, false, cond, ltb, leb, ◌&&◌, List, [], ◌∷◌, ◌++◌, Option, Some, None, refl, sym, ap, ◌∙◌, subst, arith, append-nil}
use Rattle.std.specs.Option.{option_map}
use Rattle.std.specs.Prelude.{unwrap_or}
use Rattle.std.specs.List.{cons_option}
use Rattle.std.specs.Str.{bytes_eq}
use Rattle.std.proofs.lemmas.Bool.{le-leb}
use Rattle.std.proofs.lemmas.Option.{same_Some}
use Rattle.std.proofs.lemmas.Slice.Eq.{bytes_eq-Decides}
use Rattle.ring_records.specs.declared.candidate.Candidate.{Candidate}
use Rattle.ring_records.specs.declared.decision.Decision.{Decision}
use Rattle.ring_records.specs.declared.input.Input.{Input}
use Rattle.ring_records.specs.declared.input.Input.TheVariants.{Stand, Take, Acked, Retire}
use Rattle.ring_records.specs.declared.key.Key.{Key}
use Rattle.ring_records.specs.declared.msg.Msg.{Msg}
use Rattle.ring_records.specs.declared.notice.Notice.{Notice}
use Rattle.ring_records.specs.declared.notice.Notice.TheVariants.{Decided, Retired}
use Rattle.ring_records.specs.Allowed.{IsInTurn, IsAllowed}
use Rattle.ring_records.specs.History.{floor_for, floor, is_retired}
use Rattle.ring_records.specs.Leader.{makes_leader, first_leader, leader, latest, term_of}
use Rattle.ring_records.specs.Latest.{IsLatest}
use Rattle.ring_records.specs.Decided.{decided, told}
use Rattle.ring_records.specs.Lists.{first, found_after, or_else, EachAfter}
use Rattle.ring_records.specs.Notices.{named_by, first_named, top_term, floor_by, floor_in, leader_in, leads_in}
use Rattle.ring_records.specs.Order.{is_key}
use Rattle.ring_records.specs.Release.{notices}
use Rattle.ring_records.proofs.Decisions.{IsNew, decided-tells, decided-first}
use Rattle.ring_records.proofs.FloorsRise.{floor-rises, live-before}
use Rattle.ring_records.proofs.History.{floor-push, floor-same, retired-same, first_leader-push}
use Rattle.ring_records.proofs.Keys.{is_key-true, is_key-same}
use Rattle.ring_records.proofs.Latest.{leads_by, latest_is, latest_same}
use Rattle.ring_records.proofs.Lists.{none≢some, along, found_after-push}
use Rattle.ring_records.proofs.Notices.{first_named-push, floor_in-push, latest-top}

-- the list has the floors of h, and names the first leader of each key that is not retired
pub record Tells (me : ℕ) (h : List Input) (ns : List Notice) : Type 0 where
  pub floors : (group : List ℕ) → floor_in ns group ≡ floor h group
  pub firsts : (key : Key) → is_retired h key ≡ false → first_named ns key ≡ first_leader me h key

pub tells-leader : (me : ℕ) (h : List Input) (ns : List Notice) → Tells me h ns → (key : Key) → leader_in ns key ≡ leader me h key
unfolding leader_in leader is_retired
tells-leader me h ns tells key = ap (λ f. cond (ltb key.term f) None (first_named ns key)) (tells.floors key.group) ∙ go (ltb key.term (floor h key.group)) (tells.firsts key)
  where
    go : (b : Bool) → (b ≡ false → first_named ns key ≡ first_leader me h key) → cond b None (first_named ns key) ≡ cond b None (first_leader me h key)
    go true same = refl
    go false same = same refl

tells-latest : (me : ℕ) (h : List Input) (ns : List Notice) → Tells me h ns → (group : List ℕ) → IsLatest (leads_in ns group) (latest me h group)
tells-latest me h ns tells group =
    latest_same (leads_by me h group) (leads_in ns group) (λ term. tells-leader me h ns tells (record { group = group; term = term })) (latest me h group) (latest_is me h group)

or_none : (o : Option Candidate) → or_else o None ≡ o
or_none None = refl
or_none (Some c) = refl

-- an input that tells nothing, gives no floor, and shows no leader for a key that has none
quiet : (me : ℕ) (h : List Input) (x : Input) (ns : List Notice) → ((group : List ℕ) → floor_for group x ≡ None)
    → ((key : Key) → is_retired h key ≡ false → or_else (first_leader me h key) (makes_leader me key h x) ≡ first_leader me h key) → Tells me h ns → Tells me (h ++ x ∷ []) ns
quiet me h x ns none shows tells = record {
  floors = λ group. tells.floors group ∙ sym (floor-same h x group (none group));
  firsts = λ key live.
      let was = sym (retired-same h x key (none key.group)) ∙ live in
      tells.firsts key was ∙ (sym (shows key was) ∙ sym (first_leader-push me h x key));
}

-- a message that decides nothing shows no leader that is new
undecided : (me : ℕ) (h : List Input) (msg_no : ℕ) (msg : Msg) → decided me h (Take msg_no msg) ≡ None → (key : Key) → is_retired h key ≡ false
    → or_else (first_leader me h key) (makes_leader me key h (Take msg_no msg)) ≡ first_leader me h key
undecided me h msg_no msg none key live = go (first_leader me h key) (makes_leader me key h (Take msg_no msg)) refl refl
  where
    go : (o p : Option Candidate) → first_leader me h key ≡ o → makes_leader me key h (Take msg_no msg) ≡ p → or_else o p ≡ o
    go (Some c) p e f = refl
    go None None e f = refl
    go None (Some c) e f =
        let new : IsNew me h (Take msg_no msg) key c = (live, e, first_leader-push me h (Take msg_no msg) key ∙ (λ i. or_else (e i) (f i))) in
        none≢some (record { key = key; leader = c }) (sym none ∙ decided-first me h (Take msg_no msg) key c new)

-- a message that decides d names it
names-new : (me : ℕ) (h : List Input) (msg_no : ℕ) (msg : Msg) (d : Decision) → decided me h (Take msg_no msg) ≡ Some d → (key : Key) → is_retired h key ≡ false
    → or_else (first_leader me h key) (named_by key (Decided d)) ≡ or_else (first_leader me h key) (makes_leader me key h (Take msg_no msg))
unfolding named_by
names-new me h msg_no msg d e key live = go (first_leader me h key) (makes_leader me key h (Take msg_no msg)) refl refl
  where
    unnamed : first_leader me h key ≡ None → makes_leader me key h (Take msg_no msg) ≡ None → (b : Bool) → is_key d.key key ≡ b → cond b (Some d.leader) None ≡ None
    unnamed f g true same =
        let new = decided-tells me h (Take msg_no msg) d e in
        let now = ap (first_leader me (h ++ Take msg_no msg ∷ [])) (sym (is_key-true d.key key same)) ∙ new.2 in
        none≢some d.leader (sym (first_leader-push me h (Take msg_no msg) key ∙ (λ i. or_else (f i) (g i))) ∙ now)
    unnamed f g false same = refl

    go : (o p : Option Candidate) → first_leader me h key ≡ o → makes_leader me key h (Take msg_no msg) ≡ p → or_else o (cond (is_key d.key key) (Some d.leader) None) ≡ or_else o p
    go (Some c) p f g = refl
    go None None f g = unnamed f g (is_key d.key key) refl
    go None (Some c) f g =
        let new : IsNew me h (Take msg_no msg) key c = (live, f, first_leader-push me h (Take msg_no msg) key ∙ (λ i. or_else (f i) (g i))) in
        let is : d ≡ record { key = key; leader = c } = same_Some d (record { key = key; leader = c }) (sym e ∙ decided-first me h (Take msg_no msg) key c new) in
        ap (λ (b : Decision). cond (is_key b.key key) (Some b.leader) None) is ∙ ap (λ b. cond b (Some c) None) (is_key-same key)

-- ---- one more input

take-step : (me : ℕ) (h : List Input) (msg_no : ℕ) (msg : Msg) (ns : List Notice) → Tells me h ns
    → Tells me (h ++ Take msg_no msg ∷ []) (ns ++ cons_option (option_map Decided (decided me h (Take msg_no msg))) [])
unfolding floor_for floor_by
take-step me h msg_no msg ns tells = go (decided me h (Take msg_no msg)) refl
  where
    go : (o : Option Decision) → decided me h (Take msg_no msg) ≡ o → Tells me (h ++ Take msg_no msg ∷ []) (ns ++ cons_option (option_map Decided o) [])
    go None e = rw (append-nil ns) (quiet me h (Take msg_no msg) ns (λ group. refl) (undecided me h msg_no msg e) tells)
    go (Some d) e = record {
      floors = λ group. (let f = floor_in-push ns (Decided d) group in let same = tells.floors group in let now = floor-same h (Take msg_no msg) group refl in omega (arith, f, same, now));
      firsts = λ key live.
          let was = sym (retired-same h (Take msg_no msg) key refl) ∙ live in
          first_named-push ns (Decided d) key ∙ (ap (λ o. or_else o (named_by key (Decided d))) (tells.firsts key was) ∙ (names-new me h msg_no msg d e key was ∙ sym (first_leader-push me h (Take msg_no msg) key)));
    }

retire-floor : (me n : ℕ) (h : List Input) (g : List ℕ) (new : ℕ) (ns : List Notice) → IsAllowed me n h (Retire g new) → Tells me h ns → (group : List ℕ)
    → floor_in (ns ++ Retired g new ∷ []) group ≡ floor (h ++ Retire g new ∷ []) group
unfolding IsInTurn floor_for floor_by
retire-floor me n h g new ns a tells group = go (bytes_eq g group) refl
  where
    go : (b : Bool) → bytes_eq g group ≡ b → floor_in (ns ++ Retired g new ∷ []) group ≡ floor (h ++ Retire g new ∷ []) group
    go true e =
        let groups : g ≡ group = (bytes_eq-Decides g group).0 e in
        let now : floor (h ++ Retire g new ∷ []) group ≡ new = floor-push h (Retire g new) group ∙ ap (λ b. unwrap_or (cond b (Some new) None) (floor h group)) e in
        let above : floor h group < new = subst (λ k. floor h k < new) groups a.in_turn.above in
        let under : new ≤ top_term ns group = subst (λ t. new ≤ t) (latest-top ns group (latest me h group) (tells-latest me h ns tells group)) (subst (λ k. new ≤ term_of (latest me h k)) groups a.in_turn.decided) in
        let told : floor_in (ns ++ Retired g new ∷ []) group ≡ max (floor_in ns group) new = floor_in-push ns (Retired g new) group
        ∙ (ap (λ b. max (floor_in ns group) (unwrap_or (cond (b && leb new (top_term ns group)) (Some new) None) 0)) e
        ∙ ap (λ b. max (floor_in ns group) (unwrap_or (cond b (Some new) None) 0)) (le-leb new (top_term ns group) under)) in
        let same = tells.floors group in
        omega (arith, now, above, told, same)
    go false e =
        let now : floor (h ++ Retire g new ∷ []) group ≡ floor h group = floor-push h (Retire g new) group ∙ ap (λ b. unwrap_or (cond b (Some new) None) (floor h group)) e in
        let told : floor_in (ns ++ Retired g new ∷ []) group ≡ max (floor_in ns group) 0 = floor_in-push ns (Retired g new) group
        ∙ ap (λ b. max (floor_in ns group) (unwrap_or (cond (b && leb new (top_term ns group)) (Some new) None) 0)) e in
        let same = tells.floors group in
        omega (arith, now, told, same)

retire-step : (me n : ℕ) (h : List Input) (g : List ℕ) (new : ℕ) (ns : List Notice) → IsAllowed me n h (Retire g new) → Tells me h ns → Tells me (h ++ Retire g new ∷ []) (ns ++ Retired g new ∷ [])
unfolding named_by makes_leader
retire-step me n h g new ns a tells = record {
  floors = retire-floor me n h g new ns a tells;
  firsts = λ key live.
      let was = live-before h (h ++ Retire g new ∷ []) key (floor-rises me n h (Retire g new) a key.group) live in
      first_named-push ns (Retired g new) key ∙ (or_none (first_named ns key) ∙ (tells.firsts key was ∙ sym (first_leader-push me h (Retire g new) key ∙ or_none (first_leader me h key))));
}

step : (me n : ℕ) (h : List Input) (x : Input) (ns : List Notice) → IsAllowed me n h x → Tells me h ns → Tells me (h ++ x ∷ []) (ns ++ cons_option (told me h x) [])
unfolding told floor_for makes_leader
step me n h (Stand key bid) ns a tells = rw (append-nil ns) (quiet me h (Stand key bid) ns (λ group. refl) (λ k live. or_none (first_leader me h k)) tells)
step me n h (Take msg_no msg) ns a tells = take-step me h msg_no msg ns tells
step me n h (Acked upto) ns a tells = rw (append-nil ns) (quiet me h (Acked upto) ns (λ group. refl) (λ k live. or_none (first_leader me h k)) tells)
step me n h (Retire g new) ns a tells = retire-step me n h g new ns a tells

start : (me : ℕ) → Tells me [] []
unfolding floor_in floor first_named first_leader first found_after
start me = record { floors = λ group. refl; firsts = λ key live. refl }

pub notices-tell : (me n : ℕ) (h : List Input) → EachAfter (IsAllowed me n) [] h → Tells me h (notices me [] h)
unfolding notices found_after
notices-tell me n h each =
    along (IsAllowed me n) (λ g. Tells me g (found_after (told me) [] g)) (λ g x a so_far. subst (Tells me (g ++ x ∷ [])) (sym (found_after-push (told me) [] g x)) (step me n g x (found_after (told me) [] g) a so_far)) [] h each begin
  where
    begin : Tells me [] (found_after (told me) [] [])
    begin = start me
