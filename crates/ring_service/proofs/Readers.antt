-- What a flusher told its board, what its readers saw of it, and the leaders that replies named.
use Rattle.std.proofs.Common.{◌≡◌, ℕ, Bool, true, false, cond, List, [], ◌∷◌, ◌++◌, append_assoc, append-nil, take, drop, Option, Some, None, refl, sym, ◌∙◌, ap, subst, inl, inr}
use Rattle.std.specs.List.{Contains, cons_option, filter_map}
use Rattle.std.proofs.lemmas.List.{take-append-drop}
use Rattle.std.proofs.lemmas.List.Elements.{Contains-append_left, Contains-append_cases}
use Rattle.std.proofs.lemmas.Option.{same_Some}
use mathlib.Core.List.{IsPrefix}
use Rattle.disk_model.specs.declared.device.Device.{Ghosts}
use Rattle.ring_records.specs.declared.base.Base.{Base}
use Rattle.ring_records.specs.declared.candidate.Candidate.{Candidate}
use Rattle.ring_records.specs.declared.decision.Decision.{Decision}
use Rattle.ring_records.specs.declared.input.Input.{Input}
use Rattle.ring_records.specs.declared.input.Input.TheVariants.{Stand, Take, Acked, Retire}
use Rattle.ring_records.specs.declared.key.Key.{Key}
use Rattle.ring_records.specs.declared.notice.Notice.{Notice}
use Rattle.ring_records.specs.declared.notice.Notice.TheVariants.{Decided, Retired}
use Rattle.ring_records.specs.declared.refusal.Refusal.{Refusal}
use Rattle.ring_records.specs.declared.reply.Reply.{Reply}
use Rattle.ring_records.specs.declared.reply.Reply.TheVariants as replied
use Rattle.ring_records.specs.declared.request.Request.{Request}
use Rattle.ring_records.specs.Objection.{retired}
use Rattle.ring_records.specs.Answer.{Answer, unless}
use Rattle.ring_records.specs.Answering.{reply}
use Rattle.ring_records.specs.Answer as by_rule
use Rattle.ring_records.specs.History.{floor_for}
use Rattle.ring_records.specs.Leader.{first_leader, latest, leader}
use Rattle.ring_records.specs.Latest.{IsLatest}
use Rattle.ring_records.specs.Decided.{told}
use Rattle.ring_records.specs.Lists.{first, found_after}
use Rattle.ring_records.specs.Notices.{first_named, leader_in, leads_in, named_by}
use Rattle.ring_records.specs.Order.{is_key}
use Rattle.ring_records.specs.Release.{notices}
use Rattle.ring_records.specs.States.{durable_in}
use Rattle.ring_records.proofs.Decisions.{decided-tells}
use Rattle.ring_records.proofs.Growth.{first_leader-kept}
use Rattle.ring_records.proofs.History.{if_live-same, if_live-some, retired-same}
use Rattle.ring_records.proofs.Keys.{is_key-true}
use Rattle.ring_records.proofs.Latest.{latest_is, leads_by}
use Rattle.ring_records.proofs.Leader.{Contains-cons_cases, Contains-filter_map_from, Contains-here, Contains-nil}
use Rattle.ring_records.proofs.Lists.{found_after-append, none≢some}
use Rattle.ring_records.proofs.Notices.{leader-tells}
use Rattle.group_commit.specs.declared.landed.Landed.{Landed}
use Rattle.group_commit.specs.Content.{IsContent}
use Rattle.group_commit.specs.Desk.{DeskKept, seen}
use Rattle.group_commit.specs.Past.{IsPast}
use Rattle.group_commit.proofs.Past.{durable-shifted}
use Rattle.group_commit.specs.Next.{Durable, durable_part}
use Rattle.ring_service.specs.Leaders.{Life, IsReadFrom, IsReplied, IsTold, Names, history_of}
use Rattle.ring_service.specs.Reads.{IsLatestReply, IsReadReply}
use Rattle.ring_service.specs.Rounds.{IsRound}
use Rattle.ring_service.proofs.Begun.{prefix_behind}
use Rattle.ring_service.proofs.Contents.{told-leads}
use Rattle.ring_service.proofs.Resting.{told_decides}
use Rattle.ring_service.proofs.Series.{inputs_behind}

-- ---- a list of notices that says who leads decides that

first_in : {A : Type 0} (xs : List A) (y : A) → first xs ≡ Some y → Contains xs y
unfolding first
first_in [] y e = none≢some y e
first_in (x ∷ xs) y e = subst (Contains (x ∷ xs)) (same_Some x y e) (Contains-here x xs)

named_is : (key : Key) (x : Notice) (c : Candidate) → named_by key x ≡ Some c → x ≡ Decided (record { key = key; leader = c })
unfolding named_by
named_is key (Decided d) c e = go (is_key d.key key) refl e
  where
    go : (b : Bool) → is_key d.key key ≡ b → cond b (Some d.leader) None ≡ Some c → Decided d ≡ Decided (record { key = key; leader = c })
    go true is named = let same = is_key-true d.key key is in let leads = same_Some d.leader c named in λ i. Decided (record { key = same i; leader = leads i })
    go false is named = none≢some c named
named_is key (Retired group floor) c e = none≢some c e

decided_in : (ns : List Notice) (key : Key) (c : Candidate) → leader_in ns key ≡ Some c → Contains ns (Decided (record { key = key; leader = c }))
unfolding first_named
decided_in ns key c e =
    let named = (leader-tells ns key c e).1 in
    let from = Contains-filter_map_from (named_by key) ns c (first_in (filter_map (named_by key) ns) c named) in
    subst (Contains ns) (named_is key from.0 c from.2) from.1

-- ---- what inputs tell leads by some beginning of them

abbrev pub LeadsWithin : ℕ → List Input → Key → Candidate → Type 0
LeadsWithin me h key c = (begun : List Input) × (rest : List Input) × (begun ++ rest ≡ h) × (leader me begun key ≡ Some c)

told_leads : (me : ℕ) (h : List Input) (x : Input) (d : Decision) → told me h x ≡ Some (Decided d) → leader me (h ++ x ∷ []) d.key ≡ Some d.leader
unfolding told floor_for leader
told_leads me h (Stand key bid) d e = none≢some (Decided d) e
told_leads me h (Take msg_no msg) d e =
    let new = decided-tells me h (Take msg_no msg) d (told_decides me h (Take msg_no msg) d e) in
    if_live-same (h ++ Take msg_no msg ∷ []) d.key (first_leader me (h ++ Take msg_no msg ∷ []) d.key) (retired-same h (Take msg_no msg) d.key refl ∙ new.0) ∙ new.2
told_leads me h (Acked upto) d e = none≢some (Decided d) e
told_leads me h (Retire group floor) d e = absurd cc

found_within : (me : ℕ) (h l : List Input) (d : Decision) → Contains (found_after (told me) h l) (Decided d) → LeadsWithin me (h ++ l) d.key d.leader
unfolding found_after
found_within me h [] d has = Contains-nil (Decided d) has
found_within me h (x ∷ l) d has =
    subst (λ (g : List Input). LeadsWithin me g d.key d.leader) (append_assoc h (x ∷ []) l) (go (λ has. found_within me (h ++ x ∷ []) l d has) (told me h x) refl has)
  where
    go : (Contains (found_after (told me) (h ++ x ∷ []) l) (Decided d) → LeadsWithin me ((h ++ x ∷ []) ++ l) d.key d.leader)
        → (o : Option Notice) → told me h x ≡ o → Contains (cons_option o (found_after (told me) (h ++ x ∷ []) l)) (Decided d) → LeadsWithin me ((h ++ x ∷ []) ++ l) d.key d.leader
    go later None e there = later there
    go later (Some notice) e there = elim (Contains-cons_cases notice (found_after (told me) (h ++ x ∷ []) l) (Decided d) there) [
      | inl same ↦ (h ++ x ∷ [], l, refl, told_leads me h x d (e ∙ ap Some same))
      | inr behind ↦ later behind
    ]

-- ---- what a board was told

pub told_at_first : (desk : DeskKept) (past : List Input) (list : List Notice) → IsContent desk.view.member.node (durable_in (seen past desk).state) list
    → IsTold (record { member = desk.view.member; opening = desk.opening; past = past; known = durable_part desk }) list
unfolding notices found_after
told_at_first desk past list content = record {
  first = durable_in desk.view.state;
  since = [];
  inputs = append-nil (durable_in desk.view.state);
  opened = list;
  content = subst (λ (l : List Input). IsContent desk.view.member.node l list) (durable-shifted past desk.view.state) content;
  is = sym (append-nil list);
}

notices_joined : (me : ℕ) (h l more : List Input) → notices me h (l ++ more) ≡ notices me h l ++ notices me (h ++ l) more
unfolding notices
notices_joined me h l more = found_after-append (told me) h l more

pub told_since : {V : Type 0} (g : Ghosts V) (life : Life) (all : List Notice) (old new : V) (behind : Durable) (landed : Landed)
    → IsPast life.member life.opening life.past → IsTold life all → IsRound g life.member life.opening old new life.known behind landed
    → IsTold (record life { known = behind }) (all ++ landed.notices.items)
told_since g life all old new behind landed past is round =
    let me = life.member.node in
    let h : List Input = life.past ++ is.first in
    let before : h ++ is.since ≡ life.past ++ life.known.inputs = append_assoc life.past is.first is.since ∙ ap (λ (l : List Input). life.past ++ l) is.inputs in
    let brought : landed.notices.items ≡ notices me (h ++ is.since) round.inputs =
    (round.brought life.past past).notices ∙ ap (λ (g : List Input). notices me g round.inputs) (sym before) in
    let known : life.known.inputs ++ round.inputs ≡ behind.inputs = sym (ap (λ (d : Durable). d.inputs) round.next ∙ inputs_behind round.base round.inputs life.known) in
    record {
      first = is.first;
      since = is.since ++ round.inputs;
      inputs = sym (append_assoc is.first is.since round.inputs) ∙ (ap (λ (l : List Input). l ++ round.inputs) is.inputs ∙ known);
      opened = is.opened;
      content = is.content;
      is = ap (λ (l : List Notice). l ++ landed.notices.items) is.is
          ∙ (append_assoc is.opened (notices me h is.since) landed.notices.items
          ∙ ap (λ (l : List Notice). is.opened ++ l) (ap (λ (l : List Notice). notices me h is.since ++ l) brought ∙ sym (notices_joined me h is.since round.inputs)));
    }

-- ---- what was seen of it

pub seen_leads : (life : Life) (all some : List Notice) (key : Key) (c : Candidate) → IsTold life all → IsPrefix some all → leader_in some key ≡ Some c
    → LeadsWithin life.member.node (history_of life) key c
unfolding notices
seen_leads life all some key c is p e =
    let d : Decision = record { key = key; leader = c } in
    let me = life.member.node in
    let h : List Input = life.past ++ is.first in
    let whole : h ++ is.since ≡ history_of life = append_assoc life.past is.first is.since ∙ ap (λ (l : List Input). life.past ++ l) is.inputs in
    let there : Contains all (Decided d) = subst (λ (l : List Notice). Contains l (Decided d)) p.1 (Contains-append_left some p.0 (Decided d) (decided_in some key c e)) in
    subst (λ (g : List Input). LeadsWithin me g key c) whole
    (elim (Contains-append_cases is.opened (notices me h is.since) (Decided d) (subst (λ (l : List Notice). Contains l (Decided d)) is.is there)) [
      | inl opened ↦ (h, is.since, refl, told-leads me h is.opened d is.content opened)
      | inr since ↦ found_within me h is.since d since
    ])

pub first_seen : (life : Life) (all some : List Notice) (key : Key) (c : Candidate) → IsTold life all → IsPrefix some all → leader_in some key ≡ Some c
    → first_leader life.member.node (history_of life) key ≡ Some c
unfolding leader
first_seen life all some key c is p e =
    let within = seen_leads life all some key c is p e in
    let me = life.member.node in
    subst (λ (g : List Input). first_leader me g key ≡ Some c) within.2
    (first_leader-kept me within.0 within.1 key c (if_live-some within.0 key (first_leader me within.0 key) c within.3).1)

-- ---- what replies name

read_names : (list : List Notice) (q : Request) (r : Reply) (key : Key) (c : Candidate) → IsReadReply list q r → Names q r key c → leader_in list key ≡ Some c
read_names list q r key c answer (inl who) =
    let is : r ≡ replied.Leader (leader_in list key) = subst (λ (x : Request). IsReadReply list x r) who.0 answer in
    let same : replied.Leader (leader_in list key) ≡ replied.Leader (Some c) = sym is ∙ who.1 in
    cc
read_names list q r key c answer (inr last) =
    let is : IsLatestReply key.group r list = subst (λ (x : Request). IsReadReply list x r) last.0 answer in
    let same : replied.Latest is.latest ≡ replied.Latest (Some (key.term, c)) = sym is.is ∙ last.1 in
    let found : is.latest ≡ Some (key.term, c) = cc in
    (subst (IsLatest (leads_in list key.group)) found is.greatest).0

tells : (o : Option Refusal) (l : Option Candidate) (c : Candidate) → unless o (replied.Leader l) ≡ replied.Leader (Some c) → l ≡ Some c
tells None l c e = (let p : l ≡ Some c = cc in p)
tells (Some r) l c e = absurd cc

reply_names : (me n capacity : ℕ) (base : Base) (h : List Input) (q : Request) (key : Key) (c : Candidate) → Names q (reply me n capacity base h q) key c → leader me h key ≡ Some c
unfolding by_rule.reply
reply_names me n capacity base h q key c (inl who) =
    tells (retired h key) (leader me h key) c (subst (λ (x : Request). reply me n capacity base h x ≡ replied.Leader (Some c)) who.0 who.1)
reply_names me n capacity base h q key c (inr last) =
    let same : replied.Latest (latest me h key.group) ≡ replied.Latest (Some (key.term, c)) = subst (λ (x : Request). reply me n capacity base h x ≡ replied.Latest (Some (key.term, c))) last.0 last.1 in
    let found : latest me h key.group ≡ Some (key.term, c) = cc in
    (subst (IsLatest (leads_by me h key.group)) found (latest_is me h key.group)).0

pub read_leads : (life : Life) (q : Request) (r : Reply) (key : Key) (c : Candidate) → IsReadFrom life q r → Names q r key c → LeadsWithin life.member.node (history_of life) key c
read_leads life q r key c is names = seen_leads life is.told is.seen key c is.by_flusher is.covered (read_names is.seen q r key c is.answer names)

pub reply_leads : (life : Life) (q : Request) (r : Reply) (key : Key) (c : Candidate) → IsReplied life q r → Names q r key c → LeadsWithin life.member.node (history_of life) key c
reply_leads life q r key c is names =
    let m = life.member in
    let a = is.answer.gives in
    let h : List Input = life.past ++ is.begun in
    let upto : List Input = take a.before h in
    let p = prefix_behind life.past is.begun life.known.inputs is.covered in
    let given : r ≡ reply m.node m.n m.capacity is.answer.base upto is.given.question = sym is.says ∙ ap (λ (x : Answer). x.reply) a.same in
    let named : Names is.given.question (reply m.node m.n m.capacity is.answer.base upto is.given.question) key c =
    subst (λ (x : Request). Names x (reply m.node m.n m.capacity is.answer.base upto is.given.question) key c) (sym is.asked) (subst (λ (x : Reply). Names q x key c) given names) in (
      upto,
      drop a.before h ++ p.0,
      sym (append_assoc upto (drop a.before h) p.0) ∙ (ap (λ (l : List Input). l ++ p.0) (take-append-drop a.before h) ∙ p.1),
      reply_names m.node m.n m.capacity is.answer.base upto is.given.question key c named,
    )
