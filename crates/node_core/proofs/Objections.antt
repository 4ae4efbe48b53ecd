-- What a core has against an input is what it knows against it.
use Rattle.std.proofs.Common.{ℕ, ◌≡◌, ◌<◌, ◌≤◌, Bool, false, List, Option, Some, None, refl, sym, ap, subst, ◌∙◌, arith}
use Rattle.std.specs.FinMap as map
use Rattle.std.specs.Prelude.{is_some, nat_lt, nat_le, unwrap_or, ◌^◌}
use Rattle.std.proofs.lemmas.Bool.{ltb-false, leb-false, le-ltb, lt-leb}
use Rattle.ring_records.specs.declared.candidate.Candidate.{Candidate}
use Rattle.ring_records.specs.declared.input.Input.{Input}
use Rattle.ring_records.specs.declared.input.Input.TheVariants.{Stand, Take, Acked, Retire}
use Rattle.ring_records.specs.declared.key.Key.{Key}
use Rattle.ring_records.specs.declared.limits.TheConstants.{STANDS}
use Rattle.ring_records.specs.declared.msg.Msg.{Msg}
use Rattle.ring_records.specs.declared.refusal.Refusal.{Refusal}
use Rattle.ring_records.specs.declared.refusal.Refusal.TheVariants as refused
use Rattle.ring_records.specs.declared.summary.Summary.{Summary}
use Rattle.ring_records.specs.Objection.{where_so, already, stale}
use Rattle.ring_records.specs.Known.{Objects, leads_in, retired_in}
use Rattle.ring_records.specs.Leader.{term_of}
use Rattle.ring_records.specs.Latest.{IsLatest}
use Rattle.ring_records.specs.Lists.{or_else}
use Rattle.ring_records.proofs.Admission.{or_else-none, where_so-none}
use Rattle.ring_records.proofs.Latest.{latest_same, one_latest}
use Rattle.cr_automaton.specs.declared.ballot.Ballot.{Ballot}
use Rattle.neighbour_link.specs.Outlink.{LinkView, sent_count}
use Rattle.groups_terms.specs.Table.{TableView, known, leads}
use Rattle.groups_terms.proofs.States.{stood_in, leader_in, touched_in}
use Rattle.node_core.specs.FreeCore.{FreeView}
use Rattle.node_core.specs.Judged.{full_count, by_floor, by_last, by_ballot, against_stand, against_take, against_acked, against_retire}
use Rattle.node_core.specs.Kept.{known_with, IsFree}

-- a ballot is kept for the keys that are touched alone
by_kept : (o : Option Ballot) (stood : Option ℕ) (touched : Bool) → (known o).stood ≡ stood → touched ≡ is_some o → by_ballot o ≡ or_else (already stood) (where_so touched refused.Late)
unfolding by_ballot already
by_kept None stood touched e f = λ i. or_else (already (e i)) (where_so (sym f i) refused.Late)
by_kept (Some ballot) stood touched e f = λ i. or_else (already (e i)) (where_so (sym f i) refused.Late)

-- the floor of a group, that it may have
by_told : (o : Option ℕ) (term : ℕ) → by_floor o term ≡ where_so (nat_lt term (unwrap_or o 0)) (refused.Retired (unwrap_or o 0))
unfolding by_floor
by_told None term = sym (ap (λ (b : Bool). where_so b (refused.Retired 0)) (le-ltb term 0 (omega arith)))
by_told (Some floor) term = refl

-- the latest leader of a group, by what is known
pub latest_in : (inputs expected : ℕ) (t : TableView) (link : LinkView) (group : List ℕ) (led : Option (ℕ × Candidate)) → IsLatest (leads t.ballots group) led
    → IsLatest (leads_in (known_with inputs t link expected) group) led
latest_in inputs expected t link group led is =
    latest_same (leads t.ballots group) (leads_in (known_with inputs t link expected) group) (λ term. leader_in t (record { group = group; term = term })) led is

pub stand_objects : (inputs expected n : ℕ) (t : TableView) (link : LinkView) (key : Key) (bid : ℕ) (floor : Option ℕ) (ballot : Option Ballot) (led : Option (ℕ × Candidate)) (stands : ℕ) (o : Option Refusal)
    → floor ≡ map.get t.floors key.group → ballot ≡ map.get t.ballots key → IsLatest (leads t.ballots key.group) led → stands ≡ t.stands
    → o ≡ against_stand floor key.term ballot led stands inputs → Objects n (known_with inputs t link expected) (Stand key bid) o
unfolding against_stand full_count
stand_objects inputs expected n t link key bid floor ballot led stands o f b is count e = (
  led,
  latest_in inputs expected t link key.group led is,
  e ∙ (λ i. or_else ((ap (λ g. by_floor g key.term) f ∙ by_told (map.get t.floors key.group) key.term) i) (or_else ((ap by_ballot b ∙ (by_kept (map.get t.ballots key) _ _ refl refl ∙ (λ j. or_else (already (sym (stood_in t key) j)) (where_so (sym (touched_in t key) j) refused.Late)))) i)
      (or_else (stale key.term led) (or_else (where_so (nat_le STANDS (count i)) refused.Limit) (where_so (nat_le (2 ^ 56) inputs) refused.Limit))))),
)

pub take_objects : (inputs expected size : ℕ) (t : TableView) (link : LinkView) (msg_no : ℕ) (msg : Msg) (o : Option Refusal) → o ≡ against_take size expected inputs msg_no msg
    → Objects size (known_with inputs t link expected) (Take msg_no msg) o
unfolding against_take full_count
take_objects inputs expected size t link msg_no msg o e = e

or_else-assoc : (a b c : Option Refusal) → or_else (or_else a b) c ≡ or_else a (or_else b c)
or_else-assoc None b c = refl
or_else-assoc (Some x) b c = refl

pub acked_objects : (inputs expected n : ℕ) (t : TableView) (link : LinkView) (upto : ℕ) (o : Option Refusal) → o ≡ against_acked link inputs upto
    → Objects n (known_with inputs t link expected) (Acked upto) o
unfolding against_acked full_count
acked_objects inputs expected n t link upto o e =
    e ∙ or_else-assoc (where_so (nat_le upto link.credited) (refused.Old link.credited)) (where_so (nat_lt (sent_count link) upto) (refused.AckAhead (sent_count link))) (where_so (nat_le (2 ^ 56) inputs) refused.Limit)

-- the floor of a group, that it may have, is not below 1
by_new : (o : Option ℕ) (new : ℕ) → 1 ≤ new → by_last o new ≡ where_so (nat_le new (unwrap_or o 0)) (refused.Retired (unwrap_or o 0))
unfolding by_last
by_new None new some = sym (ap (λ (b : Bool). where_so b (refused.Retired 0)) (lt-leb new 0 (omega (arith, some))))
by_new (Some floor) new some = refl

pub retire_objects : (inputs expected n : ℕ) (t : TableView) (link : LinkView) (group : List ℕ) (new : ℕ) (floor : Option ℕ) (led : Option (ℕ × Candidate)) (o : Option Refusal)
    → 1 ≤ new → floor ≡ map.get t.floors group → IsLatest (leads t.ballots group) led → o ≡ against_retire floor new led inputs → Objects n (known_with inputs t link expected) (Retire group new) o
unfolding against_retire full_count
retire_objects inputs expected n t link group new floor led o some f is e = (
  led,
  latest_in inputs expected t link group led is,
  e ∙ (λ i. or_else ((ap (λ g. by_last g new) f ∙ by_new (map.get t.floors group) new some) i)
      (or_else (where_so (nat_lt (term_of led) new) refused.Undecided) (where_so (nat_le (2 ^ 56) inputs) refused.Limit))),
)

-- the same, of the core as it is seen
pub seen : (size : ℕ) (s : Summary) (x y : Input) (o : Option Refusal) (now : FreeView) → size ≡ now.size → s ≡ now.known → y ≡ x → Objects size s y o → Objects now.size now.known x o
seen size s x y o now e f g objects = subst (λ (p : (ℕ × Summary) × Input). Objects p.0.0 p.0.1 p.1 o) (λ i. ((e i, f i), g i)) objects

-- ---- what is free where nothing is said

unkept : (o : Option Ballot) → is_some o ≡ false → (known o).stood ≡ None
unkept None e = refl
unkept (Some b) e = absurd cc

pub free_in : (inputs expected n : ℕ) (t : TableView) (link : LinkView) (x : Input) → Objects n (known_with inputs t link expected) x None → (inputs < 2 ^ 56) × IsFree t link x
free_in inputs expected n t link (Stand key bid) (led, is, e) =
    let live = or_else-none (retired_in (known_with inputs t link expected) key) _ (sym e) in
    let a = or_else-none _ _ live.1 in
    let touch = or_else-none _ _ a.0 in
    let b = or_else-none _ _ a.1 in
    let c = or_else-none _ _ b.1 in
    (leb-false (2 ^ 56) inputs (where_so-none _ _ c.1), (unkept (map.get t.ballots key) (sym (touched_in t key) ∙ where_so-none _ _ touch.1), leb-false STANDS t.stands (where_so-none _ _ c.0)))
free_in inputs expected n t link (Take msg_no msg) e =
    let a = or_else-none _ _ (sym e) in
    let b = or_else-none _ _ a.1 in
    (leb-false (2 ^ 56) inputs (where_so-none _ _ b.1), tt)
free_in inputs expected n t link (Acked upto) e =
    let a = or_else-none _ _ (sym e) in
    let b = or_else-none _ _ a.1 in
    (leb-false (2 ^ 56) inputs (where_so-none _ _ b.1), (leb-false upto link.credited (where_so-none _ _ a.0), ltb-false (sent_count link) upto (where_so-none _ _ b.0)))
free_in inputs expected n t link (Retire group new) (led, is, e) =
    let a = or_else-none _ _ (sym e) in
    let b = or_else-none _ _ a.1 in (
      leb-false (2 ^ 56) inputs (where_so-none _ _ b.1),
      λ other of. subst (λ (o : Option (ℕ × Candidate)). new ≤ term_of o)
          (one_latest (leads_in (known_with inputs t link expected) group) led other is (latest_in inputs expected t link group other of))
          (ltb-false (term_of led) new (where_so-none _ _ b.0)),
    )

-- the same of the core as it is seen, on whose link room was made
pub free : (inputs expected size : ℕ) (t : TableView) (link was : LinkView) (x : Input) (now : FreeView) → record { me = t.me; size = size; known = known_with inputs t link expected } ≡ now
    → was ≡ link → Objects now.size now.known x None
    → (inputs < 2 ^ 56) × IsFree t was x × Objects size (known_with inputs t link expected) x None
free inputs expected size t link was x now view same objects =
    let none = subst (λ (v : FreeView). Objects v.size v.known x None) (sym view) objects in
    let may = free_in inputs expected size t link x none in
    (may.0, subst (λ (l : LinkView). IsFree t l x) (sym same) may.1, none)
