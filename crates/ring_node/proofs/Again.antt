-- A node that is opened again, and the messages that its inputs sent.
use Rattle.std.proofs.Common.{arith, ℕ, zero, suc, ◌≡◌, ◌≤◌, ◌+◌, ◌-◌, Bool, true, false, nat_lt, List, [], ◌∷◌, ◌++◌, length, take, drop, refl, sym, ap, subst, ◌∙◌}
use Rattle.std.specs.List.{filter_map}
use Rattle.std.proofs.lemmas.Bool.{ltb-true, ltb-false}
use Rattle.std.proofs.lemmas.Bool.Decides.{nat_tests}
use Rattle.std.proofs.lemmas.List.{length-append, length-take, length-drop, take_all, take-append-drop, take-append-le, take-take}
use Rattle.std.proofs.Math.Seq.{drop-append_seam, drop-nil}
use Rattle.disk_model.specs.Disk.{Disk, Reach, Reaches}
use Rattle.ring_records.specs.declared.base.Base.{Base}
use Rattle.ring_records.specs.declared.input.Input.{Input}
use Rattle.ring_records.specs.declared.input.Input.TheVariants.{Stand, Take, Acked, Retire}
use Rattle.ring_records.specs.declared.msg.Msg.{Msg}
use Rattle.ring_records.specs.declared.summary.Summary.{Summary}
use Rattle.ring_records.specs.Admission.{newest}
use Rattle.ring_records.specs.Allowed.{IsInTurn}
use Rattle.ring_records.specs.Lawful.{IsAdmitted, IsLawful, IsLawfulState}
use Rattle.ring_records.specs.States.{NodeState, launched_base, opened, left_by}
use Rattle.ring_records.specs.States as states
use Rattle.ring_records.specs.Emission.{sent, emit}
use Rattle.ring_records.specs.History.{upto_of, credit}
use Rattle.ring_records.specs.Lists.{found_after}
use Rattle.ring_records.specs.Member.{Member}
use Rattle.ring_records.specs.Release.{numbered, window}
use Rattle.ring_records.proofs.Growth.{sent-append}
use Rattle.ring_records.proofs.History.{credit-push}
use Rattle.ring_records.proofs.Lists.{along}
use Rattle.ring_records.proofs.States.{lawful-left, next-few}
use Rattle.gated_journal.specs.Reading.{device_size, is_header}
use Rattle.group_commit.specs.Desk.{DeskView, DeskKept, seen}
use Rattle.group_commit.specs.Past.{IsPast}
use Rattle.node_store.specs.State.{opened_view, Holds, IsOpenedAs}
use Rattle.ring_node.specs.declared.flight.Flight.{Flight}
use Rattle.ring_node.specs.Messages.{message_in, carried_in}
use Rattle.ring_node.specs.Node.{NodeView, launched_as, left, reopened, durable_in, is_credited}
use Rattle.ring_node.specs.Open.{serial_of}
use Rattle.ring_node.specs.Held.{HeldView, view_with, IsServed, IsWhole, IsRingNode, MayStop}
use Rattle.ring_node.proofs.Flights.{base_same, inputs_stay, durable_same, launched_newest, lawful_flying, flying_shown, gains, told}
use Rattle.ring_node.proofs.Queue.{serials_shown}
use Rattle.ring_node.proofs.Ring.{by_name, opens}
use Rattle.ring_node.proofs.Serving.{reopens_shown, base_stays}

-- ---- messages

drop-drop : {A : Type 0} (n k : ℕ) (l : List A) → drop k (drop n l) ≡ drop (k + n) l
drop-drop zero k l = let same : k ≡ k + 0 = omega arith in ap (λ n. drop n l) same
drop-drop (suc n) k [] = drop-nil k ∙ sym (drop-nil (k + suc n))
drop-drop (suc n) k (x ∷ l) = let same : suc (k + n) ≡ k + suc n = omega arith in drop-drop n k l ∙ ap (λ m. drop m (x ∷ l)) same

numbered-carried : (k msg_no : ℕ) (msgs : List Msg) → carried_in (drop k (numbered msg_no msgs)) ≡ drop k msgs
unfolding message_in
numbered-carried zero msg_no [] = refl
numbered-carried zero msg_no (msg ∷ msgs) = ap (λ l. msg ∷ l) (numbered-carried zero (msg_no + 1) msgs)
numbered-carried (suc k) msg_no [] = refl
numbered-carried (suc k) msg_no (msg ∷ msgs) = numbered-carried k (msg_no + 1) msgs

numbered-length : (msg_no : ℕ) (msgs : List Msg) → length (numbered msg_no msgs) ≡ length msgs
numbered-length msg_no [] = refl
numbered-length msg_no (msg ∷ msgs) = ap suc (numbered-length (msg_no + 1) msgs)

-- the window's messages behind the first k
window-more : (me : ℕ) (h : List Input) (k : ℕ) → carried_in (drop k (window me h)) ≡ drop (k + credit h) (sent me h)
unfolding window
window-more me h k = numbered-carried k (credit h) (drop (credit h) (sent me h)) ∙ drop-drop (credit h) k (sent me h)

window-length : (me : ℕ) (h : List Input) → length (window me h) ≡ length (sent me h) - credit h
unfolding window
window-length me h = numbered-length (credit h) (drop (credit h) (sent me h)) ∙ length-drop (credit h) (sent me h)

-- the first inputs of those that a stop leaves are the durable ones
pub left_first : (s : NodeState) (keep : Bool) → s.durable ≤ s.flying → take s.durable (left_by keep s).inputs ≡ states.durable_in s
left_first s true flies = take-take s.durable s.flying s.inputs flies
left_first s false flies = take-take s.durable s.durable s.inputs (omega arith)

-- the first k inputs of h sent these messages
module _ (me k : ℕ) (h : List Input) (messages : List Msg) (is : messages ≡ sent me (take k h)) (credited : credit h ≤ length messages) where
  abbrev rest : List Msg
  rest = found_after (emit me) (take k h) (drop k h)

  parts : sent me h ≡ messages ++ rest
  parts = ap (sent me) (sym (take-append-drop k h)) ∙ (sent-append me (take k h) (drop k h) ∙ ap (λ ms. ms ++ rest) (sym is))

  behind : (length messages - credit h) + credit h ≡ length messages
  behind = omega (arith, credited)

  more : carried_in (drop (length messages - credit h) (window me h)) ≡ rest
  more = window-more me h (length messages - credit h) ∙ (ap (λ n. drop n (sent me h)) behind ∙ (ap (drop (length messages)) parts ∙ drop-append_seam messages rest))

  pub caught_up : messages ++ carried_in (drop (length messages - credit h) (window me h)) ≡ sent me h
  caught_up = ap (λ ms. messages ++ ms) more ∙ sym parts

  pub known_within : length messages - credit h ≤ length (window me h)
  known_within =
      let long = ap length parts in
      let sum = length-append messages rest in
      let window_long = window-length me h in
      omega (arith, credited)

  pub room_within : length (carried_in (drop (length messages - credit h) (window me h))) ≤ length (window me h)
  room_within =
      let few = ap length more in
      let long = ap length parts in
      let sum = length-append messages rest in
      let window_long = window-length me h in
      omega (arith, credited)

-- ---- credits

credit_more : (me n capacity : ℕ) (b : Base) (h : List Input) (x : Input) → IsAdmitted me n capacity b h x → credit h ≤ credit (h ++ x ∷ [])
unfolding IsInTurn upto_of
credit_more me n capacity b h (Stand key bid) admitted = let more = credit-push h (Stand key bid) in omega arith
credit_more me n capacity b h (Take msg_no msg) admitted = let more = credit-push h (Take msg_no msg) in omega arith
credit_more me n capacity b h (Acked upto) admitted =
    let more = credit-push h (Acked upto) in
    let above = admitted.allowed.in_turn.above in
    omega arith
credit_more me n capacity b h (Retire group floor) admitted = let more = credit-push h (Retire group floor) in omega arith

credit_next : (me n capacity : ℕ) (b : Base) (h : List Input) (x : Input) → IsAdmitted me n capacity b h x → ((k : ℕ) → credit (take k h) ≤ credit h) → (k : ℕ)
    → credit (take k (h ++ x ∷ [])) ≤ credit (h ++ x ∷ [])
credit_next me n capacity b h x admitted before k = go (nat_lt (length h) k) refl
  where
    go : (behind : Bool) → nat_lt (length h) k ≡ behind → credit (take k (h ++ x ∷ [])) ≤ credit (h ++ x ∷ [])
    go true behind =
        let lt = ltb-true (length h) k behind in
        let long = length-append h (x ∷ []) in
        let same = ap credit (take_all k (h ++ x ∷ []) (omega arith)) in
        omega arith
    go false within =
        let le = ltb-false (length h) k within in
        let same = ap credit (take-append-le k h (x ∷ []) (omega arith)) in
        let more = credit_more me n capacity b h x admitted in
        let old = before k in
        omega arith

credit_none : (k : ℕ) → credit (take k []) ≤ credit []
credit_none zero = omega arith
credit_none (suc k) = omega arith

-- the first inputs of a lawful history credit no more than all of them
pub credit_front : (me n capacity : ℕ) (b : Base) (h : List Input) → IsLawful me n capacity b h → (k : ℕ) → credit (take k h) ≤ credit h
unfolding IsLawful
credit_front me n capacity b h lawful = along (IsAdmitted me n capacity b) (λ l. (k : ℕ) → credit (take k l) ≤ credit l) (credit_next me n capacity b) [] h lawful credit_none

-- ---- the node

-- nothing flies of what a stop leaves
opened_is : (s : NodeState) (keep : Bool) → left_by keep s ≡ opened (left_by keep s).base (left_by keep s).inputs
opened_is s true = refl
opened_is s false = refl

-- the area in use has the newest layout, whichever it is, where that in use has it and the one that flies
newest_left : (s : NodeState) (keep : Bool) → s.base.layout ≡ newest → (launched_base s).layout ≡ newest → (left_by keep s).base.layout ≡ newest
newest_left s true here flies = flies
newest_left s false here flies = here

-- the node was opened again with what a stop left of this state, and this is its past
pub record IsAgain (m : Member) (s : NodeState) (past : List Input) (desk : DeskKept) : Type 0 where
  pub run : ℕ
  pub keep : Bool
  pub found : IsOpenedAs m run (left_by keep s) desk
  pub is : past ≡ take desk.opening.inputs s.inputs

module _ (m : Member) (s : NodeState) (past : List Input) (desk : DeskKept) (again : IsAgain m s past desk) (lawful : IsLawfulState m s) where
  abbrev t : NodeState
  t = left_by again.keep s

  lawful_left : IsLawfulState m t
  lawful_left = lawful-left m again.keep s lawful

  summarised_within : t.base.inputs ≤ length t.inputs
  summarised_within =
      let based = lawful_left.counts.based in
      let low = lawful_left.counts.durable in
      let high = lawful_left.counts.flying in
      omega arith

  -- what is summarised was durable, or flew
  front_is : (keep : Bool) → take (left_by keep s).base.inputs s.inputs ≡ take (left_by keep s).base.inputs (left_by keep s).inputs
  front_is true = sym (take-take (launched_base s).inputs s.flying s.inputs (next-few s lawful.counts))
  front_is false = sym (take-take s.base.inputs s.durable s.inputs lawful.counts.based)

  summarised_is : desk.opening.inputs ≡ t.base.inputs
  summarised_is =
      let count = ap (λ (o : Summary). o.inputs) again.found.past.summed in
      let long = length-take t.base.inputs t.inputs in
      let within = summarised_within in
      omega arith

  past_is : past ≡ take t.base.inputs t.inputs
  past_is = again.is ∙ (ap (λ k. take k s.inputs) summarised_is ∙ front_is again.keep)

  past_long : length past ≡ t.base.inputs
  past_long =
      let same = ap length past_is in
      let long = length-take t.base.inputs t.inputs in
      let within = summarised_within in
      omega arith

  pub left_behind : IsPast desk.view.member desk.opening past
  left_behind = subst (λ (a : Member × List Input). IsPast a.0 desk.opening a.1) (λ i. (sym (ap (λ (v : DeskView). v.member) again.found.shows) i, sym past_is i)) again.found.past

  -- it shows what the stop left
  pub left_seen : seen past desk ≡ opened_view m again.run t
  left_seen = ap (λ (l : List Input). seen l desk) past_is ∙ again.found.shows

  -- and has no open ticket
  module _ (queue : List HeldView) (spent : queue ≡ []) where
    pub left_again : (reach : Reach) (messages : List Msg) → is_header m ≡ true → t.base.layout ≡ newest → Reaches reach (device_size m.capacity)
        → messages ≡ sent m.node t.inputs → IsRingNode m past desk reach queue messages
    left_again reach messages range layout reaches sends =
        by_name m _ _ _ _ past desk reach queue messages left_behind (left_seen ∙ ap (opened_view m again.run) (opened_is s again.keep)) refl spent refl
        (opens m again.run t.base t.inputs reach messages range (subst (IsLawfulState m) (opened_is s again.keep) lawful_left) layout reaches sends)

    pub left_shown : (v : NodeView) → v.member ≡ m → view_with (length past) (seen past desk) queue ≡ reopened t v
    left_shown v node_is = (λ i. view_with (past_long i) (left_seen i) (spent i)) ∙ reopens_shown m again.run t v node_is

module _ (m : Member) (desk : DeskView) (reach : Reach) (queue : List HeldView) (messages : List Msg) (here : IsWhole m desk reach queue messages) where
  abbrev v : ℕ → NodeView
  v dropped = view_with dropped desk queue

  -- its state is lawful
  pub lawful_here : IsLawfulState m desk.state
  lawful_here = subst (λ (k : Member). IsLawfulState k desk.state) here.is here.served.lawful

  -- what the device holds of the desk it holds of the node
  pub held_here : (flight : Flight) (disk : Disk) → Holds desk.member disk (launched_as flight desk.member.node desk.state) → Holds m disk (launched_as flight m.node desk.state)
  held_here flight disk holds = subst (λ (k : Member). Holds k disk (launched_as flight k.node desk.state)) here.is holds

  -- its device goes to the journal's end
  pub long_here : device_size m.capacity ≤ reach.limit
  long_here = subst (λ (k : Member). device_size k.capacity ≤ reach.limit) here.is here.served.reaches.within

  -- ---- a crash

  either : (keep : Bool) → left_by keep desk.state ≡ opened (v 0).base (durable_in (v 0))
  either true = λ i. opened (base_stays desk.state here.served.none i) (take (here.served.idle i) desk.state.inputs)
  either false = refl

  module _ (past' : List Input) (desk' : DeskKept) (again : IsAgain m desk.state past' desk') (queue' : List HeldView) (spent : queue' ≡ []) where
    -- its durable inputs sent what they sent before
    pub crashed_again : (reach' : Reach) → Reaches reach' (device_size m.capacity) → IsRingNode m past' desk' reach' queue' messages
    crashed_again reach' reaches =
        left_again m desk.state past' desk' again lawful_here queue' spent reach' messages here.range (newest_left desk.state again.keep here.served.layout (ap (λ (b : Base). b.layout) (base_stays desk.state here.served.none) ∙ here.served.layout)) reaches (here.sends ∙ ap (λ (t : NodeState). sent m.node t.inputs) (sym (either again.keep)))

    pub crashed_shown : (dropped : ℕ) → view_with (length past') (seen past' desk') queue' ≡ reopened (opened (v dropped).base (durable_in (v dropped))) (v dropped)
    crashed_shown dropped = left_shown m desk.state past' desk' again lawful_here queue' spent (v dropped) here.is ∙ ap (λ (t : NodeState). reopened t (v dropped)) (either again.keep)

  -- ---- a stop while this flies

  module _ (flight : Flight) (past' : List Input) (desk' : DeskKept) (again : IsAgain m (launched_as flight m.node desk.state) past' desk') where
    abbrev s : NodeState
    s = launched_as flight m.node desk.state

    -- the area in use has the newest layout, and the one that flies
    newest_s : (left_by again.keep s).base.layout ≡ newest
    newest_s = newest_left s again.keep (ap (λ (b : Base). b.layout) (base_same flight m.node desk.state) ∙ here.served.layout) (launched_newest flight m.node desk.state here.served.none here.served.layout)

    lawful_s : IsLawfulState m s
    lawful_s = lawful_flying m desk reach queue messages here flight

    durable_in_same : states.durable_in desk.state ≡ states.durable_in s
    durable_in_same = durable_same m desk reach queue messages here flight

    -- no more is credited by what is left
    few_credits : is_credited (v 0) ≡ true → credit (left_by again.keep s).inputs ≤ length messages
    few_credits credited =
        let all : credit desk.state.inputs ≤ length (sent desk.member.node (states.durable_in desk.state)) = grind (arith, nat_tests, credited) in
        let same : length messages ≡ length (sent desk.member.node (states.durable_in desk.state)) = ap length (here.sends ∙ ap (λ (k : Member). sent k.node (states.durable_in desk.state)) (sym here.is)) in
        let front = fronts again.keep in
        let inputs = ap credit (inputs_stay flight m.node desk.state) in
        omega arith
      where
        fronts : (keep : Bool) → credit (left_by keep s).inputs ≤ credit s.inputs
        fronts true = credit_front m.node m.n m.capacity (launched_base s) s.inputs lawful_s.all s.flying
        fronts false = credit_front m.node m.n m.capacity (launched_base s) s.inputs lawful_s.all s.durable

    pub stopped_behind : IsPast desk'.view.member desk'.opening past'
    stopped_behind = left_behind m s past' desk' again lawful_s

    stopped_seen : seen past' desk' ≡ opened_view m again.run (left_by again.keep s)
    stopped_seen = left_seen m s past' desk' again lawful_s

    inputs_are : (seen past' desk').state.inputs ≡ (left_by again.keep s).inputs
    inputs_are = ap (λ (d : DeskView). d.state.inputs) stopped_seen

    node_is : desk'.view.member.node ≡ m.node
    node_is = ap (λ (d : DeskView). d.member.node) stopped_seen

    pub all_durable : (seen past' desk').state.durable ≡ length (seen past' desk').state.inputs
    all_durable = ap (λ (d : DeskView). d.state.durable) stopped_seen ∙ (ap (λ (t : NodeState). t.durable) (opened_is s again.keep) ∙ sym (ap length inputs_are))

    pub sent_first : (k : ℕ) × (messages ≡ sent desk'.view.member.node (take k (seen past' desk').state.inputs))
    sent_first = (
      s.durable,
      here.sends ∙ (ap (sent m.node) (durable_in_same ∙ sym (left_first s again.keep lawful_s.counts.durable))
          ∙ λ i. sent (sym node_is i) (take s.durable (sym inputs_are i))),
    )

    pub credits_few : is_credited (v 0) ≡ true → credit (seen past' desk').state.inputs ≤ length messages
    credits_few credited = let few = few_credits credited in let same = ap credit inputs_are in omega arith

    module _ (queue' : List HeldView) (spent : queue' ≡ []) where
      pub stopped_again : (reach' : Reach) (messages' : List Msg) → Reaches reach' (device_size m.capacity) → messages' ≡ sent desk'.view.member.node (seen past' desk').state.inputs
          → IsRingNode m past' desk' reach' queue' messages'
      stopped_again reach' messages' reaches sends =
          left_again m s past' desk' again lawful_s queue' spent reach' messages' here.range newest_s reaches (sends ∙ λ i. sent (node_is i) (inputs_are i))

      -- its counts tell whether it has what flew
      pub stopped_shown : (dropped : ℕ) (kept : Bool) → MayStop flight (v dropped) → kept ≡ gains (v dropped) (seen past' desk').state
          → view_with (length past') (seen past' desk') queue' ≡ reopened (left flight kept (v dropped)) (v dropped)
      stopped_shown dropped kept may tells =
          let u = v dropped in
          let flew : left_by again.keep s ≡ left flight again.keep u = (λ i. left_by again.keep (launched_as flight (sym here.is i).node desk.state)) ∙ ap (left_by again.keep) (sym (flying_shown desk reach queue here.served flight)) in
          let same_one : kept ≡ again.keep = tells ∙ (ap (gains u) (ap (λ (d : DeskView). d.state) stopped_seen ∙ flew) ∙ told flight again.keep u may) in
          left_shown m s past' desk' again lawful_s queue' spent u here.is
          ∙ (ap (λ (t : NodeState). reopened t u) flew ∙ ap (λ b. reopened (left flight b u) u) (sym same_one))

-- the numbers of the open tickets
pub lost_serials : (desk : DeskView) (reach : Reach) (queue : List HeldView) → IsServed desk reach queue
    → filter_map (λ (h : HeldView). h.serial) queue ≡ filter_map serial_of (view_with 0 desk queue).held
lost_serials desk reach queue here = serials_shown desk.member.node desk.run 0 _ desk.tickets queue here.held
