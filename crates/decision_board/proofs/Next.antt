-- The first group behind a name that has a leader, by the entries of a map.
use Rattle.std.proofs.Common.{ℕ, ◌≡◌, ◌<◌, ◌≤◌, true, false, List, Option, Some, None, refl, sym, ap, ◌∙◌, subst, arith, Ordering, Less, Equal, Greater}
use Rattle.std.specs.Cmp.Lexicographic.{slice_cmp, nat_list_cmp_total}
use Rattle.std.specs.FinMap as map
use Rattle.std.specs.Option.{IsSome}
use Rattle.std.specs.Ordering.{is_gt, nat_cmp, ordering_then, ordering_reverse}
use Rattle.std.specs.BTreeMap.{BTreeMap, get}
use Rattle.std.specs.BTreeMap.Range.{IsInRange, IsEntryInRange, IsLeBy, IsLtBy}
use Rattle.std.specs.Range.Bound.{IsForward}
use Rattle.std.specs.declared.ops.Bound.{Bound}
use Rattle.std.specs.declared.ops.Bound.TheVariants.{Included, Excluded, Unbounded}
use Rattle.std.proofs.lemmas.Cmp.{ranked}
use Rattle.ring_records.specs.declared.candidate.Candidate.{Candidate}
use Rattle.ring_records.specs.declared.key.Key.{Key}
use Rattle.ring_records.specs.KeyOrder.{key_cmp}
use Rattle.ring_records.proofs.KeyRange.{key_at}
use Rattle.ring_records.specs.declared.decision.Decision.{Decision}
use Rattle.ring_records.specs.declared.notice.Notice.{Notice}
use Rattle.ring_records.specs.Notices.{leads_in}
use Rattle.decision_board.specs.Leaders.{LeaderMap, FloorMap, HaveTerms, HasTerm, leads, start_of, AreOf}
use Rattle.decision_board.specs.Next.{IsBehind, IsFirstLed, IsNext}
use Rattle.decision_board.proofs.Maps.{get_is, latest_of}

pub forward : (low : Bound Key) → IsForward (IsLeBy key_cmp) (IsLtBy key_cmp) low Unbounded
forward Unbounded = tt
forward (Included key) = tt
forward (Excluded key) = tt

-- the keys of a group behind another stand behind all of its keys
behind_all : (a b : List ℕ) (s t : ℕ) → slice_cmp nat_cmp a b ≡ Less → key_cmp (key_at a s) (key_at b t) ≡ Less
behind_all a b s t less = ap (λ o. ordering_then o (nat_cmp s t)) less

then_less : (o : Ordering) (t : ℕ) → t ≤ 999999999 → ordering_then o (nat_cmp 999999999 t) ≡ Less → o ≡ Less
then_less Less t le e = refl
then_less Equal t le e = let above : 999999999 < t = ranked 999999999 t Less (sym e) in absurd (omega arith)
then_less Greater t le e = absurd (cc e)

none_unless : (o : Option Candidate) → (IsSome o → ⊥) → o ≡ None
none_unless None refuted = refl
none_unless (Some c) refuted = absurd (refuted refl)

module _ (m : BTreeMap Key Candidate) (have : HaveTerms (map.from_entries {R = key_cmp} m.entries)) where
  abbrev all : LeaderMap
  all = map.from_entries {R = key_cmp} m.entries

  in_range : (after : Option (List ℕ)) (group : List ℕ) (term : ℕ) → IsBehind after group → IsInRange key_cmp (start_of after) Unbounded (key_at group term)
  in_range None group term behind = (tt, tt)
  in_range (Some after) group term behind = (behind_all after group 999999999 term behind, tt)

  is_behind : (after : Option (List ℕ)) (k : Key) → HasTerm k → IsInRange key_cmp (start_of after) Unbounded k → IsBehind after k.group
  is_behind None k has range = tt
  is_behind (Some after) k has range = then_less (slice_cmp nat_cmp after k.group) k.term has.1 range.0

  has_leader : (k : Key) (c : Candidate) → get key_cmp m k ≡ Some c → map.get all k ≡ Some c
  has_leader k c e = sym (get_is m k) ∙ e

  pub first_none : (after : Option (List ℕ)) → ((q : Key) → IsInRange key_cmp (start_of after) Unbounded q → get key_cmp m q ≡ None) → IsFirstLed (leads all) after None
  first_none after none group behind these term = sym (get_is m (key_at group term)) ∙ none (key_at group term) (in_range after group term behind)

  -- the first entry of the range is of the first group
  pub first_some : (after : Option (List ℕ)) (e : Key × Candidate) → IsEntryInRange key_cmp (start_of after) Unbounded m e
      → ((q : Key) → IsInRange key_cmp (start_of after) Unbounded q → IsSome (get key_cmp m q) → IsLeBy key_cmp e.0 q) → IsFirstLed (leads all) after (Some e.0.group)
  first_some after e at_e least =
      let led : map.get all e.0 ≡ Some e.1 = has_leader e.0 e.1 at_e.1 in
      let some : IsSome (map.get all e.0) = subst IsSome (sym led) refl in (
        record {
          behind = is_behind after e.0 (have e.0 some) at_e.0;
          before = λ group behind less term. none_unless (map.get all (key_at group term)) (λ is.
              let le : is_gt (key_cmp e.0 (key_at group term)) ≡ false = least (key_at group term) (in_range after group term behind) (subst IsSome (sym (get_is m (key_at group term))) is) in
              let up : slice_cmp nat_cmp e.0.group group ≡ Greater = nat_list_cmp_total.antisymm e.0.group group ∙ ap ordering_reverse less in
              let above : is_gt (key_cmp e.0 (key_at group term)) ≡ true = ap (λ o. is_gt (ordering_then o (nat_cmp e.0.term term))) up in
              absurd (cc (le, above)));
        },
        (e.0.term, some),
      )

-- by the leaders that the notices name
pub next_same : (m : LeaderMap) (f : FloorMap) (ns : List Notice) (after : Option (List ℕ)) (o : Option Decision) → AreOf m f ns → IsNext (leads m) after o → IsNext (leads_in ns) after o
next_same m f ns after None are is = λ group behind these term. sym (are.keys (key_at group term)) ∙ is group behind these term
next_same m f ns after (Some d) are is = (
  record { behind = is.0.behind; before = λ group behind less term. sym (are.keys (key_at group term)) ∙ is.0.before group behind less term },
  latest_of m f ns d.key.group (Some (d.key.term, d.leader)) are is.1,
)
