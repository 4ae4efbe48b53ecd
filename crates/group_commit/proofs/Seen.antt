-- What is seen of a desk's whole history, behind any past: what its calls make of it, and that its state is lawful.
use Rattle.std.proofs.Common.{◌≡◌, ℕ, ◌+◌, ◌≤◌, min, List, [], ◌∷◌, ◌++◌, append_assoc, length, take, Option, Some, None, refl, sym, ap, ◌∙◌, subst, arith}
use Rattle.std.specs.List.{cons_option}
use Rattle.std.specs.Option.{option_map}
use Rattle.std.proofs.Math.Seq.{take-add}
use Rattle.std.proofs.lemmas.List.{length-append}
use Rattle.std.proofs.lemmas.Option.{same_Some}
use Rattle.ring_records.specs.declared.base.Base.{Base}
use Rattle.ring_records.specs.declared.input.Input.{Input}
use Rattle.ring_records.specs.declared.key.Key.{Key}
use Rattle.ring_records.specs.declared.request.Request.{Request}
use Rattle.ring_records.specs.declared.summary.Summary.{Summary}
use Rattle.ring_records.specs.Admission.{newest, used}
use Rattle.ring_records.specs.Lawful.{IsBaseOf, IsAdmitted, IsLawful, IsLawfulState}
use Rattle.ring_records.specs.Allowed.{IsAllowed}
use Rattle.ring_records.specs.Known.{Objects, after}
use Rattle.ring_records.specs.Leader.{leader}
use Rattle.ring_records.specs.Lists.{EachAfter}
use Rattle.ring_records.specs.Member.{Member}
use Rattle.ring_records.specs.States as states
use Rattle.ring_records.specs.Launching as launching
use Rattle.ring_records.specs.Snapshot.{snapshot_len}
use Rattle.ring_records.specs.States.{NodeState, launched_base, durable_in, flown_in}
use Rattle.ring_records.specs.Serving.{shown_in}
use Rattle.ring_records.specs.Summary.{summary}
use Rattle.ring_records.proofs.Growth.{EachAfter-take}
use Rattle.ring_records.proofs.RetireStep.{after-known}
use Rattle.ring_records.proofs.Known.{}
use Rattle.ring_records.proofs.Lists.{none≢some}
use Rattle.group_commit.specs.Desk.{DeskKept, first_base, known_all, known_durable, seen, shown_all, launched, landed, IsSubmitted}
use Rattle.group_commit.specs.DeskCalls.{submitted}
use Rattle.group_commit.specs.Launching.{launched_all}
use Rattle.group_commit.specs.Leads.{leader_by}
use Rattle.group_commit.specs.Kept.{state_with}
use Rattle.group_commit.specs.Opening.{opened_core, IsKnownLawful}
use Rattle.group_commit.specs.Past.{IsPast, moved, shifted}
use Rattle.group_commit.specs.Since.{IsKnownDesk, IsKnownState}
use Rattle.group_commit.specs.Ticket.{TicketView}
use Rattle.group_commit.proofs.Opening.{EachAfter-behind}
use Rattle.group_commit.proofs.Past.{take-front, core_past, durable_knows, durable-shifted, launched-shifted, free_since, based_past, lawful_past, leader_known, used-moved}
use Rattle.group_commit.proofs.Settling.{drop-front}
use Rattle.group_commit.proofs.Since.{known_opened}

-- ---- what its calls make of it

-- its state, once it accepted these inputs
shifted-more : (past : List Input) (s : NodeState) (more : List Input) → shifted past (record s { inputs = s.inputs ++ more }) ≡ record (shifted past s) { inputs = (past ++ s.inputs) ++ more }
shifted-more past s more = λ i. record (shifted past s) { inputs = sym (append_assoc past s.inputs more) i }

-- a ticket was given for the request as the whole history says
pub submitted_seen : (q : Request) (old new : DeskKept) (ticket : TicketView) (past : List Input) → IsSubmitted q old new ticket → IsPast old.view.member old.opening past
    → seen past new ≡ submitted q (seen past old)
submitted_seen q old new ticket past s is =
    let d = old.view in
    let told = s.answer past is in
    ap (seen past) s.next
    ∙ (λ i. record d { state = shifted-more past d.state (cons_option s.more []) i; tickets = d.tickets ++ (d.issued, s.given) ∷ []; issued = d.issued + 1 })
    ∙ (λ i. record d { state = record (shifted past d.state) { inputs = (past ++ d.state.inputs) ++ told.1 i }; tickets = d.tickets ++ (d.issued, told.0 i) ∷ []; issued = d.issued + 1 })

pub launched_shifted : (past : List Input) (s : NodeState) → shifted past (states.launched s) ≡ states.launched (shifted past s)
launched_shifted past s =
    let sum = length-append past s.inputs in
    let flying : length past + min (s.durable + 64) (length s.inputs) ≡ min (length past + s.durable + 64) (length (past ++ s.inputs)) = omega (arith, sum) in
    λ i. record (shifted past s) { flying = flying i }

pub landed_shifted : (past : List Input) (s : NodeState) → shifted past (states.landed s) ≡ states.landed (shifted past s)
landed_shifted past s = λ i. record (shifted past s) { durable = length past + s.flying; base = sym (launched-shifted past s) i; checkpoint = None }

-- a batch flies
pub launched_seen : (past : List Input) (d : DeskKept) → seen past (record d { view = launched d.view }) ≡ launched (seen past d)
launched_seen past d = λ i. record d.view { state = launched_shifted past d.view.state i }

-- what flies is durable
pub landed_seen : (past : List Input) (d : DeskKept) → seen past (record d { view = landed d.view }) ≡ landed (seen past d)
landed_seen past d = λ i. record d.view { state = landed_shifted past d.view.state i }

-- ---- its state is lawful

pub flown-shifted : (past : List Input) (s : NodeState) → flown_in (shifted past s) ≡ past ++ flown_in s
flown-shifted past s = take-add (length past) s.flying (past ++ s.inputs) ∙ (λ i. take-front past s.inputs i ++ take s.flying (drop-front past s.inputs i))

-- a state that a desk may be in is lawful behind each past
pub lawful_known : (m : Member) (opening : Summary) (past : List Input) (s : NodeState) → IsPast m opening past → IsKnownState m opening s → IsLawfulState m (shifted past s)
lawful_known m opening past s is known =
    let counts = known.counts in
    let low = counts.durable in
    let high = counts.flying in
    let based = counts.based in
    let sum = length-append past s.inputs in
    let free = free_since m opening (launched_base s) s.inputs known.all in
    let launches = launched-shifted past s in
    record {
      counts = record { durable = omega (arith, low); flying = omega (arith, high, sum); based = omega (arith, based); checkpointed = λ b e. flown s.checkpoint counts.checkpointed b e };
      base = subst (IsBaseOf m.node (moved (length past) s.base)) (sym (durable-shifted past s))
          (based_past m opening s.base past (durable_in s) is (EachAfter-take (λ before x. Objects m.n (after m.node opening before) x None) s.durable s.inputs free) known.base);
      next = subst (λ (b : Base). IsBaseOf m.node b (past ++ s.inputs)) (sym launches) (based_past m opening (launched_base s) past s.inputs is free known.next);
      held = subst (IsLawful m.node m.n m.capacity (moved (length past) s.base)) (sym (flown-shifted past s)) (lawful_past m opening s.base past (flown_in s) is known.held);
      all = subst (λ (b : Base). IsLawful m.node m.n m.capacity b (past ++ s.inputs)) (sym launches) (lawful_past m opening (launched_base s) past s.inputs is known.all);
    }
  where
    flown : (o : Option Base) → ((b : Base) → o ≡ Some b → b.inputs ≡ s.flying) → (b : Base) → option_map (moved (length past)) o ≡ Some b → b.inputs ≡ length past + s.flying
    flown None same b e = none≢some b e
    flown (Some c) same b e = let all = same c refl in ap (λ (d : Base). d.inputs) (sym (same_Some (moved (length past) c) b e)) ∙ ap (λ n. length past + n) all

pub lawful_desk : (desk : DeskKept) → IsKnownDesk desk → (past : List Input) → IsPast desk.view.member desk.opening past → IsLawfulState desk.view.member (seen past desk).state
lawful_desk desk known past is = lawful_known desk.view.member desk.opening past desk.view.state is known

-- so is that of one that was opened, and of which no checkpoint flies
pub lawful_seen : (m : Member) (layout epoch : ℕ) (opening : Summary) (past l : List Input) (durable flying : ℕ) → IsPast m opening past
    → IsKnownLawful (opened_core m opening (first_base layout epoch opening)) l → durable ≡ flying → flying ≤ length l
    → IsLawfulState m (shifted past (state_with (first_base layout epoch opening) l durable flying None))
lawful_seen m layout epoch opening past l durable flying is lawful in_order accepted =
    lawful_known m opening past (state_with (first_base layout epoch opening) l durable flying None) is
    (known_opened m opening (first_base layout epoch opening) l durable flying refl refl in_order accepted lawful)

-- ---- a checkpoint

allowed_in : (m : Member) (base : Base) (before l : List Input) → EachAfter (IsAdmitted m.node m.n m.capacity base) before l → EachAfter (IsAllowed m.node m.n) before l
unfolding EachAfter
allowed_in m base before [] each = tt
allowed_in m base before (x ∷ l) each = (each.0.allowed, allowed_in m base (before ++ x ∷ []) l each.1)

-- what is known of inputs that are lawful behind their past is what the whole history says
known_allowed : (m : Member) (opening : Summary) (base : Base) (past l : List Input) → IsPast m opening past → IsLawful m.node m.n m.capacity base (past ++ l)
    → after m.node opening l ≡ summary m.node (past ++ l)
unfolding IsLawful
known_allowed m opening base past l is lawful =
    ap (λ (s : Summary). after m.node s l) is.summed
    ∙ after-known m.node m.n past l is.allowed (EachAfter-behind (IsAllowed m.node m.n) [] past l (allowed_in m base [] (past ++ l) lawful))

-- all its inputs fly, as a checkpoint
pub launched_all_seen : (past : List Input) (d : DeskKept) → IsPast d.view.member d.opening past
    → after d.view.member.node d.opening d.view.state.inputs ≡ summary d.view.member.node (past ++ d.view.state.inputs)
    → seen past (record d { view = launched_all d }) ≡ record (seen past d) { state = launching.launched_all d.view.member.node (seen past d).state }
launched_all_seen past d is knows =
    let s = d.view.state in
    let size = length-append past s.inputs in
    λ i. record d.view {
      state = record (shifted past s) {
        flying = sym size i;
        checkpoint = Some (record { layout = newest; epoch = s.base.epoch + 1; inputs = sym size i; bytes = snapshot_len newest (knows i) });
      };
    }

pub lawful_launched_all : (past : List Input) (d : DeskKept) → IsPast d.view.member d.opening past → IsLawfulState d.view.member (seen past d).state
    → seen past (record d { view = launched_all d }) ≡ record (seen past d) { state = launching.launched_all d.view.member.node (seen past d).state }
lawful_launched_all past d is lawful = launched_all_seen past d is (known_allowed d.view.member d.opening (launched_base (seen past d).state) past d.view.state.inputs is lawful.all)

-- what a snapshot of its first inputs, so many of them, stands for is a past of its node
pub past_first : (past : List Input) (d : DeskKept) (k : ℕ) → IsPast d.view.member d.opening past → IsLawfulState d.view.member (seen past d).state
    → IsPast d.view.member (after d.view.member.node d.opening (take k d.view.state.inputs)) (past ++ take k d.view.state.inputs)
unfolding IsLawful
past_first past d k is lawful =
    let m = d.view.member in
    let l = d.view.state.inputs in
    let allowed = allowed_in m (launched_base (seen past d).state) [] (past ++ l) lawful.all in
    let first : take (length past + k) (past ++ l) ≡ past ++ take k l = take-add (length past) k (past ++ l) ∙ (λ i. take-front past l i ++ take k (drop-front past l i)) in
    let each : EachAfter (IsAllowed m.node m.n) [] (past ++ take k l) = subst (EachAfter (IsAllowed m.node m.n) []) first (EachAfter-take (IsAllowed m.node m.n) (length past + k) (past ++ l) allowed) in
    record {
      summed = ap (λ (s : Summary). after m.node s (take k l)) is.summed ∙ after-known m.node m.n past (take k l) is.allowed (EachAfter-behind (IsAllowed m.node m.n) [] past (take k l) each);
      allowed = each;
    }

-- ---- what it knows and shows

pub all_seen : (past : List Input) (desk : DeskKept) → IsPast desk.view.member desk.opening past → IsKnownDesk desk
    → known_all desk ≡ summary desk.view.member.node (seen past desk).state.inputs
all_seen past desk is known = (core_past desk.view.member desk.opening past desk.view.state is known).knows

pub durable_seen : (past : List Input) (desk : DeskKept) → IsPast desk.view.member desk.opening past → IsKnownDesk desk
    → known_durable desk ≡ summary desk.view.member.node (durable_in (seen past desk).state)
durable_seen past desk is known = durable_knows desk.view.member desk.opening past desk.view.state is known

pub shown_seen : (past : List Input) (desk : DeskKept) → IsPast desk.view.member desk.opening past → IsKnownDesk desk
    → shown_all desk ≡ shown_in desk.view.member.node (seen past desk).state
shown_seen past desk is known =
    let s = desk.view.state in
    let front : desk.opening.inputs ≡ length past = λ i. (is.summed i).inputs in
    let sum = length-append past s.inputs in
    let inputs : desk.opening.inputs + length s.inputs ≡ length (past ++ s.inputs) = omega (arith, front, sum) in
    let knows = all_seen past desk is known in
    λ i. record { inputs = inputs i; durable = front i + s.durable; sent = (knows i).sent; taken = (knows i).taken; credit = (knows i).credit }

pub leader_seen : (past : List Input) (desk : DeskKept) (key : Key) → IsPast desk.view.member desk.opening past → IsKnownDesk desk
    → leader_by (known_all desk) key ≡ leader desk.view.member.node (seen past desk).state.inputs key
leader_seen past desk key is known =
    ap (λ (s : Summary). leader_by s key) (all_seen past desk is known) ∙ leader_known desk.view.member.node (seen past desk).state.inputs key

pub used_seen : (past : List Input) (desk : DeskKept)
    → used (launched_base desk.view.state) desk.view.state.inputs ≡ used (launched_base (seen past desk).state) (seen past desk).state.inputs
used_seen past desk =
    let s = desk.view.state in
    sym (used-moved (launched_base s) past s.inputs) ∙ ap (λ (b : Base). used b (past ++ s.inputs)) (sym (launched-shifted past s))
