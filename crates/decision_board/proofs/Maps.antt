-- The leaders by key, as a map's entries and as a finite map.
use Rattle.std.proofs.Common.{ℕ, ◌≡◌, ◌⊎◌, ◌≤◌, ◌<◌, ltb, leb, not, ◌&&◌, inl, inr, Bool, true, false, cond, ◌-◌, List, [], ◌∷◌, ◌++◌, Option, Some, None, is_some, refl, sym, ap, ◌∙◌, subst, arith, Ordering, Less, Equal, Greater}
use Rattle.std.specs.FinMap as map
use Rattle.std.specs.Map.{lookup}
use Rattle.std.specs.Option.{IsSome}
use Rattle.std.specs.Cmp.{IsTotalOrder, eq_by_cmp_equiv}
use Rattle.std.specs.Cmp.Lexicographic.{slice_cmp, nat_list_cmp_total}
use Rattle.std.specs.Ordering.{is_eq, is_gt, is_le, is_lt, nat_cmp}
use Rattle.std.specs.Prelude.{unwrap_or}
use Rattle.std.specs.Str.{bytes_eq}
use Rattle.std.proofs.lemmas.Bool.{leb-true, ltb-true, lt-ltb, le-leb, lt-leb, cases_lt}
use Rattle.std.proofs.lemmas.Cmp.{ranked}
use Rattle.std.proofs.lemmas.Map.Text.{is_eq-slice_cmp}
use Rattle.std.proofs.lemmas.Slice.Eq.{bytes_eq-Decides}
use Rattle.std.specs.BTreeMap.{BTreeMap, get}
use Rattle.std.specs.BTreeMap.Range.{IsInRange, IsEntryInRange}
use Rattle.std.specs.declared.ops.Bound.{Bound}
use Rattle.std.specs.declared.ops.Bound.TheVariants.{Included, Excluded}
use Rattle.ring_records.specs.declared.candidate.Candidate.{Candidate}
use Rattle.ring_records.specs.declared.decision.Decision.{Decision}
use Rattle.ring_records.specs.declared.key.Key.{Key}
use Rattle.ring_records.specs.declared.notice.Notice.{Notice}
use Rattle.ring_records.specs.declared.notice.Notice.TheVariants.{Decided, Retired}
use Rattle.ring_records.specs.Notices.{floor_in, leader_in, leads_in, top_term}
use Rattle.ring_records.specs.KeyOrder.{key_cmp}
use Rattle.ring_records.specs.Latest.{IsLatest}
use Rattle.ring_records.specs.Order.{is_key}
use Rattle.ring_records.proofs.Compare.{get-key, get-put, lookup-key, insert-key, is_eq-key_cmp, keys_total, keys_exact}
use Rattle.ring_records.proofs.KeyRange.{key_at, terms_in_order, within_group, same_group, term_at_most}
use Rattle.ring_records.proofs.Keys.{is_key-true}
use Rattle.ring_records.proofs.Latest.{latest_same}
use Rattle.ring_records.proofs.Lists.{none≢some}
use Rattle.ring_records.proofs.Notices.{counts, decided-below, decided-known, decided-new, decided-floor, floor_in-retired, retired-idle, retired-live, top-led, led-under, none-floor, none-leads}
use Rattle.decision_board.specs.Leaders.{LeaderMap, FloorMap, HasTerm, HaveTerms, leads, put, is_from, is_under, reaches, without, floor_of, taken_in, AreOf}

-- ---- a map's entries, as a finite map

module _ {K X : Type 0} {R : K → K → Ordering} (o : IsTotalOrder R) where
  found : (q : K) (es : List (K × X)) → map.find R q es ≡ lookup (λ k. is_eq (R q k)) es
  found q [] = refl
  found q (e ∷ es) = ap (cond (is_eq (R q e.0)) (Some e.1)) (found q es)

  -- what a map has
  pub get_in : (m : BTreeMap K X) (q : K) → get R m q ≡ map.get (map.from_entries {R = R} m.entries) q
  get_in m q = sym (found q m.entries) ∙ sym (map.get-from_entries o m.entries q)

  -- a value is put, or taken out
  pub put_in : map.IsAntisymmetric R → (m n : BTreeMap K X) (k : K) (x : X) → ((q : K) → get R n q ≡ cond (is_eq (R k q)) (Some x) (get R m q))
      → map.from_entries {R = R} n.entries ≡ map.insert (map.from_entries m.entries) k x
  put_in exact m n k x put = map.same_map o exact _ _ (λ q.
      sym (get_in n q)
      ∙ (put q
      ∙ (ap (λ b. cond b (Some x) (get R m q)) ((eq_by_cmp_equiv o).symm k q)
      ∙ (ap (cond (is_eq (R q k)) (Some x)) (get_in m q) ∙ sym (map.get-insert o (map.from_entries m.entries) k x q)))))

  pub remove_in : map.IsAntisymmetric R → (m n : BTreeMap K X) (k : K) → ((q : K) → get R n q ≡ cond (is_eq (R k q)) None (get R m q))
      → map.from_entries {R = R} n.entries ≡ map.remove (map.from_entries m.entries) k
  remove_in exact m n k out = map.same_map o exact _ _ (λ q.
      sym (get_in n q)
      ∙ (out q
      ∙ (ap (λ b. cond b None (get R m q)) ((eq_by_cmp_equiv o).symm k q)
      ∙ (ap (cond (is_eq (R q k)) None) (get_in m q) ∙ sym (map.get-remove o (map.from_entries m.entries) k q)))))

pub get_is : (m : BTreeMap Key Candidate) (key : Key) → get key_cmp m key ≡ map.get (map.from_entries {R = key_cmp} m.entries) key
get_is m key = get_in keys_total m key

-- ---- a leader is put

pub put_known : (m : LeaderMap) (key : Key) (c : Candidate) → map.contains_key m key ≡ true → m ≡ put m key c
put_known m key c has = sym (ap (λ b. cond b m (map.insert m key c)) has)

pub put_new : (m n : LeaderMap) (key : Key) (c : Candidate) → map.contains_key m key ≡ false → n ≡ map.insert m key c → n ≡ put m key c
put_new m n key c has is = is ∙ sym (ap (λ b. cond b m (map.insert m key c)) has)

pub inserted : (old new : List (Key × Candidate)) (key : Key) (c : Candidate)
    → ((other : Key) → lookup (λ k. is_eq (key_cmp other k)) new ≡ cond (is_eq (key_cmp key other)) (Some c) (lookup (λ k. is_eq (key_cmp other k)) old))
    → map.from_entries {R = key_cmp} new ≡ map.insert (map.from_entries old) key c
inserted old new key c put = insert-key old new key c (λ other.
    sym (lookup-key other new)
    ∙ (put other
    ∙ (ap (λ b. cond b (Some c) (lookup (λ k. is_eq (key_cmp other k)) old)) (is_eq-key_cmp key other)
    ∙ ap (cond (is_key key other) (Some c)) (lookup-key other old))))

pub terms_kept : (m : LeaderMap) (key : Key) (c : Candidate) → HaveTerms m → HasTerm key → HaveTerms (map.insert m key c)
terms_kept m key c have has other some = at (is_key key other) refl (subst IsSome (get-put m key c other) some)
  where
    at : (b : Bool) → is_key key other ≡ b → IsSome (cond b (Some c) (map.get m other)) → HasTerm other
    at true same is = subst HasTerm (is_key-true key other same) has
    at false same is = have other is

pub terms_fewer : (m : LeaderMap) (key : Key) → HaveTerms m → HaveTerms (map.remove m key)
terms_fewer m key have other some = at (is_eq (key_cmp other key)) (subst IsSome (map.get-remove keys_total m key other) some)
  where
    at : (b : Bool) → IsSome (cond b None (map.get m other)) → HasTerm other
    at true is = absurd (cc is)
    at false is = have other is

-- ---- the latest of a group

module _ (m : BTreeMap Key Candidate) (group : List ℕ) (have : HaveTerms (map.from_entries {R = key_cmp} m.entries)) where
  abbrev low : Bound Key
  low = Included (key_at group 1)

  abbrev high : Bound Key
  high = Included (key_at group 999999999)

  abbrev leads_here : ℕ → Option Candidate
  leads_here term = map.get (map.from_entries {R = key_cmp} m.entries) (key_at group term)

  inside : (term : ℕ) → HasTerm (key_at group term) → IsInRange key_cmp low high (key_at group term)
  inside term has = (terms_in_order group 1 term has.0, terms_in_order group term 999999999 has.1)

  none_where : (term : ℕ) (o : Option Candidate) → leads_here term ≡ o → (IsSome o → o ≡ None) → leads_here term ≡ None
  none_where term None e refuted = e
  none_where term (Some c) e refuted = e ∙ refuted refl

  -- no key of the range has a leader
  pub latest_none : ((q : Key) → IsInRange key_cmp low high q → get key_cmp m q ≡ None) → IsLatest leads_here None
  latest_none none term = none_where term (leads_here term) refl (λ some. sym (get_is m (key_at group term)) ∙ none (key_at group term) (inside term (have (key_at group term) some)))

  -- the last entry of the range is the latest
  pub latest_some : (e : Key × Candidate) → IsEntryInRange key_cmp low high m e
      → ((q : Key) → IsInRange key_cmp low high q → IsSome (get key_cmp m q) → is_lt (key_cmp e.0 q) ≡ false) → IsLatest leads_here (Some (e.0.term, e.1))
  latest_some e at_e top =
      let group_is : group ≡ e.0.group = same_group group 1 999999999 e.0 at_e.0.0 at_e.0.1 in
      let key_is : key_at group e.0.term ≡ e.0 = ap (λ g. key_at g e.0.term) group_is in (
        ap (map.get (map.from_entries {R = key_cmp} m.entries)) key_is ∙ (sym (get_is m e.0) ∙ at_e.1),
        λ term above. none_where term (leads_here term) refl (λ some.
            let here : IsSome (get key_cmp m (key_at group term)) = subst IsSome (sym (get_is m (key_at group term))) some in
            let most : term ≤ e.0.term = term_at_most group e.0.term term
            (subst (λ k. is_lt (key_cmp k (key_at group term)) ≡ false) (sym key_is) (top (key_at group term) (inside term (have (key_at group term) some)) here)) in
            absurd (omega arith)),
      )

-- ---- what finite maps have

held : (m : LeaderMap) (q : Key) (c : Candidate) → map.get m q ≡ Some c → 0 < map.len m
held m q c e = elim (cases_lt 0 (map.len m)) [
  | inl some ↦ some
  | inr le ↦ none≢some c (sym (ap (λ (l : LeaderMap). map.get l q) (map.empty_of_len m (omega (arith, le))) ∙ map.get-empty key_cmp q) ∙ e)
]

retained : (m : LeaderMap) (p : Key → Bool) (q : Key) → map.get (map.retain_keys m p) q ≡ cond (p q) (map.get m q) None
retained m p q = map.get-retain_keys m p q (λ x same. ap p (sym (keys_exact q x same)))

nat_less : (s t : ℕ) → s < t → nat_cmp s t ≡ Less
nat_less s t less = at (nat_cmp s t) refl
  where
    at : (o : Ordering) → nat_cmp s t ≡ o → o ≡ Less
    at Less e = refl
    at Equal e = let same : s ≡ t = ranked s t Equal (sym e) in absurd (omega (arith, same, less))
    at Greater e = let above : t < s = ranked s t Greater (sym e) in absurd (omega (arith, above, less))

pub le_by : (a b : ℕ) → is_le (nat_cmp a b) ≡ leb a b
le_by a b = at (nat_cmp a b) refl
  where
    at : (o : Ordering) → nat_cmp a b ≡ o → is_le (nat_cmp a b) ≡ leb a b
    at Less e = let less : a < b = ranked a b Less (sym e) in ap is_le e ∙ sym (le-leb a b (omega (arith, less)))
    at Equal e = let same : a ≡ b = ranked a b Equal (sym e) in ap is_le e ∙ sym (le-leb a b (omega (arith, same)))
    at Greater e = let above : b < a = ranked a b Greater (sym e) in ap is_le e ∙ sym (lt-leb a b above)

tied_same : (q key : Key) → is_eq (key_cmp q key) ≡ true → q ≡ key
tied_same q key e = is_key-true q key (sym (is_eq-key_cmp q key) ∙ e)

-- ---- the terms of a group below a floor

module _ (m : BTreeMap Key Candidate) (group : List ℕ) (floor : ℕ) (have : HaveTerms (map.from_entries {R = key_cmp} m.entries)) where
  abbrev from_first : Bound Key
  from_first = Included (key_at group 1)

  abbrev to_floor : Bound Key
  to_floor = Excluded (key_at group floor)

  before : (term : ℕ) → term < floor → key_cmp (key_at group term) (key_at group floor) ≡ Less
  before term less = within_group group term floor ∙ nat_less term floor less

  -- no key of the range has a leader
  pub under_none : ((q : Key) → IsInRange key_cmp from_first to_floor q → get key_cmp m q ≡ None) → (term : ℕ) → term < floor → leads (map.from_entries m.entries) group term ≡ None
  under_none none term less = none_where m group have term (leads (map.from_entries m.entries) group term) refl (λ some.
      sym (get_is m (key_at group term)) ∙ none (key_at group term) (terms_in_order group 1 term (have (key_at group term) some).0, before term less))

  -- an entry of the range
  pub under_some : (e : Key × Candidate) → IsEntryInRange key_cmp from_first to_floor m e
      → (e.0.group ≡ group) × (e.0.term < floor) × IsSome (map.get (map.from_entries {R = key_cmp} m.entries) e.0)
  under_some e at_e =
      let same : group ≡ e.0.group = same_group group 1 floor e.0 at_e.0.0 (ap is_gt at_e.0.1) in
      let less : key_cmp (key_at group e.0.term) (key_at group floor) ≡ Less = ap (λ g. key_cmp (key_at g e.0.term) (key_at group floor)) same ∙ at_e.0.1 in (
        sym same,
        ranked e.0.term floor Less (sym less ∙ within_group group e.0.term floor),
        subst IsSome (sym (sym (get_is m e.0) ∙ at_e.1)) refl,
      )

abbrev is_kept : List ℕ → ℕ → Key → Bool
is_kept group floor key = not (is_under group floor key)

-- one key below the floor less: what is left without all of them is the same
pub without_one : (m : LeaderMap) (key : Key) (group : List ℕ) (floor : ℕ) → key.group ≡ group → key.term < floor → without (map.remove m key) group floor ≡ without m group floor
without_one m key group floor same less = map.same_map keys_total keys_exact _ _ (λ q.
    retained (map.remove m key) (is_kept group floor) q
    ∙ (ap (λ o. cond (is_kept group floor q) o None) (map.get-remove keys_total m key q) ∙ (at q (is_eq (key_cmp q key)) refl ∙ sym (retained m (is_kept group floor) q))))
  where
    dropped : is_kept group floor key ≡ false
    dropped = ap (λ b. not (b && ltb key.term floor)) ((bytes_eq-Decides group key.group).1 (sym same)) ∙ ap not (lt-ltb key.term floor less)

    at : (q : Key) (b : Bool) → is_eq (key_cmp q key) ≡ b → cond (is_kept group floor q) (cond b None (map.get m q)) None ≡ cond (is_kept group floor q) (map.get m q) None
    at q true e =
        let here : is_kept group floor q ≡ false = subst (λ (k : Key). is_kept group floor k ≡ false) (sym (tied_same q key e)) dropped in
        ap (λ b. cond b None None) here ∙ sym (ap (λ b. cond b (map.get m q) None) here)
    at q false e = refl

-- where none is below the floor, nothing goes
pub without_none : (m : LeaderMap) (group : List ℕ) (floor : ℕ) → ((term : ℕ) → term < floor → leads m group term ≡ None) → m ≡ without m group floor
without_none m group floor none = map.same_map keys_total keys_exact _ _ (λ q.
    at q (bytes_eq group q.group) (ltb q.term floor) refl refl ∙ sym (retained m (λ key. not (is_under group floor key)) q))
  where
    at : (q : Key) (t u : Bool) → bytes_eq group q.group ≡ t → ltb q.term floor ≡ u → map.get m q ≡ cond (not (bytes_eq group q.group && ltb q.term floor)) (map.get m q) None
    at q true true e f =
        let here : map.get m q ≡ None = subst (λ (g : List ℕ). leads m g q.term ≡ None) ((bytes_eq-Decides group q.group).0 e) (none q.term (ltb-true q.term floor f)) in
        here ∙ sym (ap (λ b. cond (not (b && ltb q.term floor)) (map.get m q) None) e ∙ ap (λ b. cond (not b) (map.get m q) None) f)
    at q true false e f = sym (ap (λ b. cond (not (b && ltb q.term floor)) (map.get m q) None) e ∙ ap (λ b. cond (not b) (map.get m q) None) f)
    at q false u e f = sym (ap (λ b. cond (not (b && ltb q.term floor)) (map.get m q) None) e)

pub fewer : (m : LeaderMap) (key : Key) → IsSome (map.get m key) → map.len (map.remove m key) < map.len m
fewer m key some = at (map.get m key) refl some
  where
    at : (o : Option Candidate) → map.get m key ≡ o → IsSome o → map.len (map.remove m key) < map.len m
    at None e is = absurd (cc is)
    at (Some c) e is =
        let more = held m key c e in
        let less = map.len-remove keys_total m key ∙ ap (λ o. cond (is_some o) (map.len m - 1) (map.len m)) e in
        omega (arith, more, less)

-- ---- one more notice

none_by : (o : Option Candidate) → is_some o ≡ false → o ≡ None
none_by None e = refl
none_by (Some c) e = absurd (cc e)

put_by : (m : LeaderMap) (ns : List Notice) (d : Decision) → ((key : Key) → map.get m key ≡ leader_in ns key) → ltb d.key.term (floor_in ns d.key.group) ≡ false
    → (b : Bool) → map.contains_key m d.key ≡ b → (key : Key) → map.get (cond b m (map.insert m d.key d.leader)) key ≡ leader_in (ns ++ Decided d ∷ []) key
put_by m ns d are live true has key = are key ∙ sym (decided-known ns d (ap is_some (sym (are d.key)) ∙ has) key)
put_by m ns d are live false has key =
    get-put m d.key d.leader key ∙ (ap (cond (is_key d.key key) (Some d.leader)) (are key) ∙ sym (decided-new ns d (sym (are d.key) ∙ none_by (map.get m d.key) has) live key))

abbrev pub AreIn : LeaderMap × FloorMap → List Notice → Type 0
AreIn kept ns = AreOf kept.0 kept.1 ns

decided_of : (m : LeaderMap) (f : FloorMap) (ns : List Notice) (d : Decision) → AreOf m f ns → (b : Bool) → ltb d.key.term (floor_of f d.key.group) ≡ b
    → AreIn (cond b (m, f) (put m d.key d.leader, f)) (ns ++ Decided d ∷ [])
decided_of m f ns d are true low = record {
  keys = λ key. are.keys key ∙ sym (decided-below ns d (ap (ltb d.key.term) (sym (are.groups d.key.group)) ∙ low) key);
  groups = λ group. are.groups group ∙ sym (decided-floor ns d group);
}
decided_of m f ns d are false live = record {
  keys = put_by m ns d are.keys (ap (ltb d.key.term) (sym (are.groups d.key.group)) ∙ live) (map.contains_key m d.key) refl;
  groups = λ group. are.groups group ∙ sym (decided-floor ns d group);
}

-- ---- whether some term from the floor on has a leader

pub reaches_some : (m : LeaderMap) (group : List ℕ) (floor term : ℕ) (c : Candidate) → floor ≤ term → leads m group term ≡ Some c → reaches m group floor ≡ true
reaches_some m group floor term c le led =
    let q = key_at group term in
    let in_it : is_from group floor q ≡ true = ap (λ b. b && leb floor term) ((bytes_eq-Decides group group).1 refl) ∙ le-leb floor term le in
    lt-ltb 0 _ (held (map.retain_keys m (is_from group floor)) q c (retained m (is_from group floor) q ∙ (ap (λ b. cond b (map.get m q) None) in_it ∙ led)))

pub reaches_none : (m : LeaderMap) (group : List ℕ) (floor : ℕ) → ((term : ℕ) → floor ≤ term → leads m group term ≡ None) → reaches m group floor ≡ false
reaches_none m group floor none =
    ap (λ (l : LeaderMap). ltb 0 (map.len l)) (map.same_map keys_total keys_exact (map.retain_keys m (is_from group floor)) map.empty (λ q.
    retained m (is_from group floor) q ∙ (at q (bytes_eq group q.group) (leb floor q.term) refl refl ∙ sym (map.get-empty key_cmp q))))
    ∙ ap (ltb 0) (map.len-empty key_cmp Candidate)
  where
    at : (q : Key) (t u : Bool) → bytes_eq group q.group ≡ t → leb floor q.term ≡ u → cond (bytes_eq group q.group && leb floor q.term) (map.get m q) None ≡ None
    at q true true e f =
        let there : map.get m q ≡ None = subst (λ (g : List ℕ). leads m g q.term ≡ None) ((bytes_eq-Decides group q.group).0 e) (none q.term (leb-true floor q.term f)) in
        ap (λ b. cond (b && leb floor q.term) (map.get m q) None) e ∙ (ap (λ b. cond b (map.get m q) None) f ∙ there)
    at q true false e f = ap (λ b. cond (b && leb floor q.term) (map.get m q) None) e ∙ ap (λ b. cond b (map.get m q) None) f
    at q false u e f = ap (λ b. cond (b && leb floor q.term) (map.get m q) None) e

-- by the latest of the group
pub reaches_latest : (m : LeaderMap) (group : List ℕ) (floor : ℕ) (p : ℕ × Candidate) → IsLatest (leads m group) (Some p) → reaches m group floor ≡ leb floor p.0
reaches_latest m group floor p is = at (cases_lt p.0 floor)
  where
    at : (p.0 < floor) ⊎ (floor ≤ p.0) → reaches m group floor ≡ leb floor p.0
    at (inr le) = reaches_some m group floor p.0 p.1 le is.0 ∙ sym (le-leb floor p.0 le)
    at (inl above) = reaches_none m group floor (λ term le. is.1 term (omega (arith, above, le))) ∙ sym (lt-leb floor p.0 above)

-- by the greatest term decided
reaches_top : (m : LeaderMap) (f : FloorMap) (ns : List Notice) (group : List ℕ) (floor : ℕ) → AreOf m f ns → 0 < floor → reaches m group floor ≡ leb floor (top_term ns group)
reaches_top m f ns group floor are positive = at (cases_lt (top_term ns group) floor)
  where
    at : (top_term ns group < floor) ⊎ (floor ≤ top_term ns group) → reaches m group floor ≡ leb floor (top_term ns group)
    at (inr le) =
        let led = top-led ns group (omega (arith, le, positive)) in
        reaches_some m group floor (top_term ns group) led.0 le (are.keys (key_at group (top_term ns group)) ∙ led.1) ∙ sym (le-leb floor (top_term ns group) le)
    at (inl above) = reaches_none m group floor (λ term le. none_at term le (leads m group term) refl) ∙ sym (lt-leb floor (top_term ns group) above)
      where
        none_at : (term : ℕ) → floor ≤ term → (o : Option Candidate) → leads m group term ≡ o → leads m group term ≡ None
        none_at term le None e = e
        none_at term le (Some c) e = let most = led-under ns (key_at group term) c (sym (are.keys (key_at group term)) ∙ e) in absurd (omega (arith, most, le, above))

-- ---- a floor is told

counts_by : (m : LeaderMap) (f : FloorMap) (ns : List Notice) (group : List ℕ) (floor : ℕ) → AreOf m f ns
    → (ltb (floor_of f group) floor && reaches m group floor) ≡ counts ns group floor
unfolding counts
counts_by m f ns group floor are = at (ltb (floor_of f group) floor) refl
  where
    at : (b : Bool) → ltb (floor_of f group) floor ≡ b → (ltb (floor_of f group) floor && reaches m group floor) ≡ (ltb (floor_in ns group) floor && leb floor (top_term ns group))
    at true e =
        let above = ltb-true (floor_of f group) floor e in
        (λ i. ltb (are.groups group i) floor && reaches_top m f ns group floor are (omega (arith, above)) i)
    at false e =
        ap (λ b. b && reaches m group floor) e ∙ sym (ap (λ b. b && leb floor (top_term ns group)) (ap (λ n. ltb n floor) (sym (are.groups group)) ∙ e))

get-floor : (f : FloorMap) (group : List ℕ) (floor : ℕ) (other : List ℕ) → floor_of (map.insert f group floor) other ≡ cond (bytes_eq group other) floor (floor_of f other)
get-floor f group floor other =
    ap (λ o. unwrap_or o 0) (map.get-insert nat_list_cmp_total f group floor other ∙ ap (λ b. cond b (Some floor) (map.get f other)) ((eq_by_cmp_equiv nat_list_cmp_total).symm other group ∙ is_eq-slice_cmp group other))
    ∙ at (bytes_eq group other)
  where
    at : (b : Bool) → unwrap_or (cond b (Some floor) (map.get f other)) 0 ≡ cond b floor (floor_of f other)
    at true = refl
    at false = refl

retired_of : (m : LeaderMap) (f : FloorMap) (ns : List Notice) (group : List ℕ) (floor : ℕ) → AreOf m f ns → (b : Bool) → counts ns group floor ≡ b
    → AreIn (cond b (without m group floor, map.insert f group floor) (m, f)) (ns ++ Retired group floor ∷ [])
retired_of m f ns group floor are true live = record {
  keys = λ key.
      retained m (λ k. not (is_under group floor k)) key
      ∙ (ap (λ o. cond (not (is_under group floor key)) o None) (are.keys key) ∙ sym (retired-live ns group floor live key));
  groups = λ other.
      get-floor f group floor other
      ∙ (ap (cond (bytes_eq group other) floor) (are.groups other)
      ∙ (sym (ap (λ b. cond b floor (floor_in ns other)) (ap (λ b. bytes_eq group other && b) live ∙ and_true (bytes_eq group other)))
      ∙ sym (floor_in-retired ns group other floor)));
}
  where
    and_true : (b : Bool) → (b && true) ≡ b
    and_true true = refl
    and_true false = refl
retired_of m f ns group floor are false idle =
    let same = retired-idle ns group floor idle in
    record { keys = λ key. are.keys key ∙ sym (same.1 key); groups = λ other. are.groups other ∙ sym (same.0 other) }

-- the leaders and floors that the notices tell are, once one is taken in, those that one more tells
pub taken_of : (kept : LeaderMap × FloorMap) (ns : List Notice) (x : Notice) → AreIn kept ns → AreIn (taken_in kept x) (ns ++ x ∷ [])
taken_of kept ns (Decided d) are = decided_of kept.0 kept.1 ns d are (ltb d.key.term (floor_of kept.1 d.key.group)) refl
taken_of kept ns (Retired group floor) are =
    retired_of kept.0 kept.1 ns group floor are (ltb (floor_of kept.1 group) floor && reaches kept.0 group floor) (sym (counts_by kept.0 kept.1 ns group floor are))

pub no_terms : (es : List (Key × Candidate)) → es ≡ [] → HaveTerms (map.from_entries es)
no_terms es none key some =
    let there : IsSome (map.get (map.from_entries {R = key_cmp} []) key) = subst (λ (l : List (Key × Candidate)). IsSome (map.get (map.from_entries {R = key_cmp} l) key)) none some in
    let nothing : IsSome {T = Candidate} None = subst IsSome (get-key [] key) there in
    absurd (cc nothing)

pub none_of : AreOf map.empty map.empty []
none_of = record {
  keys = λ key. map.get-empty key_cmp key ∙ sym (none-leads key);
  groups = λ group. ap (λ o. unwrap_or o 0) (map.get-empty (slice_cmp nat_cmp) group) ∙ sym (none-floor group);
}

pub latest_of : (m : LeaderMap) (f : FloorMap) (ns : List Notice) (group : List ℕ) (o : Option (ℕ × Candidate)) → AreOf m f ns → IsLatest (leads m group) o → IsLatest (leads_in ns group) o
latest_of m f ns group o are is = latest_same (leads m group) (leads_in ns group) (λ term. sym (are.keys (key_at group term))) o is
