-- What is left of the ballots without those of a group below a floor.
use Rattle.std.proofs.Common.{ℕ, ◌≡◌, ◌+◌, ◌-◌, ◌<◌, ◌≤◌, ltb, not, ◌&&◌, inl, inr, Bool, true, false, cond, List, [], ◌∷◌, map as list_map, Option, Some, None, refl, sym, ap, ◌∙◌, subst, arith, T, Ordering, Less, Equal, Greater}
use Rattle.std.specs.BTreeMap.{BTreeMap, get}
use Rattle.std.specs.BTreeMap.Range.{IsInRange, IsEntryInRange}
use Rattle.std.specs.Cmp.{eq_by_cmp_equiv}
use Rattle.std.specs.FinMap as map
use Rattle.std.specs.FinMap.{is_sorted}
use Rattle.std.specs.List.{count_by}
use Rattle.std.specs.Map.{lookup}
use Rattle.std.specs.Option.{IsSome, option_map}
use Rattle.std.specs.Ordering.{is_eq, is_gt, nat_cmp}
use Rattle.std.specs.Prelude.{is_some}
use Rattle.std.specs.Str.{bytes_eq}
use Rattle.std.specs.declared.ops.Bound.{Bound}
use Rattle.std.specs.declared.ops.Bound.TheVariants.{Included, Excluded}
use Rattle.std.proofs.lemmas.Bool.{cases_lt, lt-ltb, le-ltb, ltb-true}
use Rattle.std.proofs.lemmas.Cmp.{ranked}
use Rattle.std.proofs.lemmas.List.Sums.{sum_by-cons}
use Rattle.std.proofs.lemmas.Slice.Eq.{bytes_eq-Decides}
use Rattle.ring_records.specs.declared.candidate.Candidate.{Candidate}
use Rattle.ring_records.specs.declared.key.Key.{Key}
use Rattle.ring_records.specs.declared.key_state.KeyState.{KeyState}
use Rattle.ring_records.specs.KeyOrder.{key_cmp}
use Rattle.ring_records.specs.Known.{drops}
use Rattle.ring_records.specs.Leader.{term_of}
use Rattle.ring_records.specs.Latest.{IsLatest}
use Rattle.ring_records.specs.Order.{is_key}
use Rattle.ring_records.specs.Snapshot.{has_stood}
use Rattle.ring_records.proofs.Compare.{get-put, is_eq-key_cmp, keys_total, keys_exact}
use Rattle.ring_records.proofs.KeyRange.{key_at, terms_in_order, within_group, same_group}
use Rattle.ring_records.proofs.Keys.{is_key-true}
use Rattle.ring_records.proofs.Lists.{none≢some}
use Rattle.ring_records.proofs.RetireStep.{kept-and-dropped}
use Rattle.cr_automaton.specs.declared.ballot.Ballot.{Ballot}
use Rattle.groups_terms.specs.Dropped.{BallotMap, kept_in, HaveTerms, states_by, stood_among, stood_at}
use Rattle.groups_terms.specs.Latest.{Leaders, latest_of}
use Rattle.groups_terms.specs.Table.{TableView, known, leads, AreLatest, state_at}
use Rattle.groups_terms.proofs.States.{get-states_in}

-- ---- a map's entries, as a finite map

found : (q : Key) (es : List (Key × Ballot)) → map.find key_cmp q es ≡ lookup (λ k. is_eq (key_cmp q k)) es
found q [] = refl
found q (e ∷ es) = ap (cond (is_eq (key_cmp q e.0)) (Some e.1)) (found q es)

pub get_is : (m : BTreeMap Key Ballot) (q : Key) → get key_cmp m q ≡ map.get (kept_in m) q
get_is m q = sym (found q m.entries) ∙ sym (map.get-from_entries keys_total m.entries q)

pub removed : (m n : BTreeMap Key Ballot) (k : Key) → ((q : Key) → get key_cmp n q ≡ cond (is_eq (key_cmp k q)) None (get key_cmp m q)) → kept_in n ≡ map.remove (kept_in m) k
removed m n k out = map.same_map keys_total keys_exact _ _ (λ q.
    sym (get_is n q)
    ∙ (out q
    ∙ (ap (λ b. cond b None (get key_cmp m q)) ((eq_by_cmp_equiv keys_total).symm k q)
    ∙ (ap (cond (is_eq (key_cmp q k)) None) (get_is m q) ∙ sym (map.get-remove keys_total (kept_in m) k q)))))

pub inserted : (m n : BTreeMap Key Ballot) (k : Key) (b : Ballot) → ((q : Key) → get key_cmp n q ≡ cond (is_eq (key_cmp k q)) (Some b) (get key_cmp m q)) → kept_in n ≡ map.insert (kept_in m) k b
inserted m n k b put = map.same_map keys_total keys_exact _ _ (λ q.
    sym (get_is n q)
    ∙ (put q
    ∙ (ap (λ c. cond c (Some b) (get key_cmp m q)) ((eq_by_cmp_equiv keys_total).symm k q)
    ∙ (ap (cond (is_eq (key_cmp q k)) (Some b)) (get_is m q) ∙ sym (map.get-insert keys_total (kept_in m) k b q)))))

-- ---- terms

abbrev pub HasTerm : Key → Type 0
HasTerm key = (1 ≤ key.term) × (key.term ≤ 999999999)

pub terms_kept : (m n : BallotMap) (key : Key) (b : Ballot) → n ≡ map.insert m key b → HasTerm key → HaveTerms m → HaveTerms n
terms_kept m n key b put has have other some = at (is_key key other) refl (subst IsSome (ap (λ (l : BallotMap). map.get l other) put ∙ get-put m key b other) some)
  where
    at : (same : Bool) → is_key key other ≡ same → IsSome (cond same (Some b) (map.get m other)) → HasTerm other
    at true same is = subst HasTerm (is_key-true key other same) has
    at false same is = have other is

pub no_terms : HaveTerms (map.from_entries [])
no_terms key some = absurd (cc (subst IsSome (map.get-from_entries keys_total [] key) some))

pub terms_fewer : (m : BallotMap) (key : Key) → HaveTerms m → HaveTerms (map.remove m key)
terms_fewer m key have other some = at (is_eq (key_cmp other key)) (subst IsSome (map.get-remove keys_total m key other) some)
  where
    at : (b : Bool) → IsSome (cond b None (map.get m other)) → HasTerm other
    at true is = absurd (cc is)
    at false is = have other is

retained : (m : BallotMap) (p : Key → Bool) (q : Key) → map.get (map.retain_keys m p) q ≡ cond (p q) (map.get m q) None
retained m p q = map.get-retain_keys m p q (λ x same. ap p (sym (keys_exact q x same)))

pub terms_retained : (m n : BallotMap) (p : Key → Bool) → n ≡ map.retain_keys m p → HaveTerms m → HaveTerms n
terms_retained m n p is have other some = at (p other) (subst IsSome (ap (λ (l : BallotMap). map.get l other) is ∙ retained m p other) some)
  where
    at : (b : Bool) → IsSome (cond b (map.get m other) None) → HasTerm other
    at true is = have other is
    at false is = absurd (cc is)

-- ---- a group's keys below a floor

pub nat_less : (s t : ℕ) → s < t → nat_cmp s t ≡ Less
nat_less s t less = at (nat_cmp s t) refl
  where
    at : (o : Ordering) → nat_cmp s t ≡ o → o ≡ Less
    at Less e = refl
    at Equal e = let same : s ≡ t = ranked s t Equal (sym e) in absurd (omega (arith, same, less))
    at Greater e = let above : t < s = ranked s t Greater (sym e) in absurd (omega (arith, above, less))

module _ (m : BTreeMap Key Ballot) (group : List ℕ) (floor : ℕ) (have : HaveTerms (kept_in m)) where
  abbrev from_first : Bound Key
  from_first = Included (key_at group 1)

  abbrev to_floor : Bound Key
  to_floor = Excluded (key_at group floor)

  none_where : (term : ℕ) (o : Option Ballot) → map.get (kept_in m) (key_at group term) ≡ o → (IsSome o → o ≡ None) → map.get (kept_in m) (key_at group term) ≡ None
  none_where term None e refuted = e
  none_where term (Some c) e refuted = e ∙ refuted refl

  -- no key of the range has a ballot
  pub under_none : ((q : Key) → IsInRange key_cmp from_first to_floor q → get key_cmp m q ≡ None) → (term : ℕ) → term < floor → map.get (kept_in m) (key_at group term) ≡ None
  under_none none term less = none_where term (map.get (kept_in m) (key_at group term)) refl (λ some.
      sym (get_is m (key_at group term)) ∙ none (key_at group term) (terms_in_order group 1 term (have (key_at group term) some).0, within_group group term floor ∙ nat_less term floor less))

  -- an entry of the range
  pub under_some : (e : Key × Ballot) → IsEntryInRange key_cmp from_first to_floor m e → (e.0.group ≡ group) × (e.0.term < floor) × IsSome (map.get (kept_in m) e.0)
  under_some e at_e =
      let same : group ≡ e.0.group = same_group group 1 floor e.0 at_e.0.0 (ap is_gt at_e.0.1) in
      let less : key_cmp (key_at group e.0.term) (key_at group floor) ≡ Less = ap (λ g. key_cmp (key_at g e.0.term) (key_at group floor)) same ∙ at_e.0.1 in (
        sym same,
        ranked e.0.term floor Less (sym less ∙ within_group group e.0.term floor),
        subst IsSome (sym (sym (get_is m e.0) ∙ at_e.1)) refl,
      )

pub dropped_key : (key : Key) (group : List ℕ) (floor : ℕ) → key.group ≡ group → key.term < floor → drops group floor key ≡ true
dropped_key key group floor same less = ap (λ b. b && ltb key.term floor) ((bytes_eq-Decides key.group group).1 same) ∙ lt-ltb key.term floor less

tied_same : (q key : Key) → is_eq (key_cmp q key) ≡ true → q ≡ key
tied_same q key e = is_key-true q key (sym (is_eq-key_cmp q key) ∙ e)

-- a key less that does not pass the test: those that pass are the same
pub without_one : (m : BallotMap) (key : Key) (p : Key → Bool) → p key ≡ false → map.retain_keys (map.remove m key) p ≡ map.retain_keys m p
without_one m key p out = map.same_map keys_total keys_exact _ _ (λ q.
    retained (map.remove m key) p q
    ∙ (ap (λ o. cond (p q) o None) (map.get-remove keys_total m key q) ∙ (at q (is_eq (key_cmp q key)) refl ∙ sym (retained m p q))))
  where
    at : (q : Key) (b : Bool) → is_eq (key_cmp q key) ≡ b → cond (p q) (cond b None (map.get m q)) None ≡ cond (p q) (map.get m q) None
    at q true e =
        let here : p q ≡ false = subst (λ (k : Key). p k ≡ false) (sym (tied_same q key e)) out in
        ap (λ b. cond b None None) here ∙ sym (ap (λ b. cond b (map.get m q) None) here)
    at q false e = refl

-- where none is below the floor, none is dropped
none_below : (m : BallotMap) (group : List ℕ) (floor : ℕ) → ((term : ℕ) → term < floor → map.get m (key_at group term) ≡ None) → (q : Key) → drops group floor q ≡ true → map.get m q ≡ None
none_below m group floor none q e = at (bytes_eq q.group group) (ltb q.term floor) refl refl e
  where
    at : (t u : Bool) → bytes_eq q.group group ≡ t → ltb q.term floor ≡ u → (t && u) ≡ true → map.get m q ≡ None
    at true true s l both = subst (λ (g : List ℕ). map.get m (key_at g q.term) ≡ None) (sym ((bytes_eq-Decides q.group group).0 s)) (none q.term (ltb-true q.term floor l))
    at true false s l both = absurd (cc both)
    at false u s l both = absurd (cc both)

pub without_none : (m : BallotMap) (group : List ℕ) (floor : ℕ) → ((term : ℕ) → term < floor → map.get m (key_at group term) ≡ None)
    → m ≡ map.retain_keys m (λ key. not (drops group floor key))
without_none m group floor none = map.same_map keys_total keys_exact _ _ (λ q. at q (drops group floor q) refl ∙ sym (retained m (λ key. not (drops group floor key)) q))
  where
    at : (q : Key) (b : Bool) → drops group floor q ≡ b → map.get m q ≡ cond (not (drops group floor q)) (map.get m q) None
    at q true e = none_below m group floor none q e ∙ sym (ap (λ b. cond (not b) (map.get m q) None) e)
    at q false e = sym (ap (λ b. cond (not b) (map.get m q) None) e)

-- a map that has a key has one key less without it
pub fewer : (m : BallotMap) (key : Key) → IsSome (map.get m key) → map.len (map.remove m key) < map.len m
fewer m key some = at (map.get m key) refl some
  where
    at : (o : Option Ballot) → map.get m key ≡ o → IsSome o → map.len (map.remove m key) < map.len m
    at None e is = absurd (cc is)
    at (Some c) e is =
        let less = map.len-remove keys_total m key ∙ ap (λ o. cond (is_some o) (map.len m - 1) (map.len m)) e in
        elim (cases_lt 0 (map.len m)) [
          | inl more ↦ omega (arith, more, less)
          | inr le ↦ none≢some c (sym (ap (λ (l : BallotMap). map.get l key) (map.empty_of_len m (omega (arith, le))) ∙ map.get-empty key_cmp key) ∙ e)
        ]

-- ---- the states that the ballots tell

pub get-states_by : (m : BallotMap) (key : Key) → map.get (states_by m) key ≡ option_map (λ b. state_at (key, b)) (map.get m key)
get-states_by m key = get-states_in (record { me = 0; ballots = m; stands = 0; floors = map.empty }) key

pub retained_states : (s : map.FinMap key_cmp KeyState) (p : Key → Bool) (q : Key) → map.get (map.retain_keys s p) q ≡ cond (p q) (map.get s q) None
retained_states s p q = map.get-retain_keys s p q (λ x same. ap p (sym (keys_exact q x same)))

pub states-retained : (m : BallotMap) (p : Key → Bool) → states_by (map.retain_keys m p) ≡ map.retain_keys (states_by m) p
states-retained m p = map.same_map keys_total keys_exact _ _ (λ q.
    get-states_by (map.retain_keys m p) q
    ∙ (ap (option_map (λ b. state_at (q, b))) (retained m p q)
    ∙ (at q (p q) ∙ sym (retained_states (states_by m) p q ∙ ap (λ o. cond (p q) o None) (get-states_by m q)))))
  where
    at : (q : Key) (b : Bool) → option_map (λ c. state_at (q, c)) (cond b (map.get m q) None) ≡ cond b (option_map (λ c. state_at (q, c)) (map.get m q)) None
    at q true = refl
    at q false = refl

-- ---- and how many of them stood

abbrev count : map.FinMap key_cmp KeyState → ℕ
count s = count_by has_stood (map.values s)

plus_none : (n : ℕ) → n + 0 ≡ n
plus_none n = omega arith

module _ (m : BallotMap) (key : Key) (p : Key → Bool) (here : p key ≡ true) where
  abbrev one : Key → Bool
  one q = is_eq (key_cmp q key)

  abbrev listed : Option Ballot → List (Key × KeyState)
  listed None = []
  listed (Some b) = (key, state_at (key, b)) ∷ []

  is_listed : (o : Option Ballot) → T (is_sorted key_cmp (listed o))
  is_listed None = tt
  is_listed (Some b) = tt

  counted : (o : Option Ballot) → count_by has_stood (list_map (λ e. e.1) (listed o)) ≡ cond (is_some (known o).stood) 1 0
  counted None = refl
  counted (Some b) = sum_by-cons (λ s. cond (has_stood s) 1 0) (state_at (key, b)) [] ∙ plus_none (cond (is_some b.stood) 1 0)

  found_one : (q : Key) (o : Option Ballot) → map.get m key ≡ o → (b : Bool) → one q ≡ b
      → cond b (cond (p q) (option_map (λ c. state_at (q, c)) (map.get m q)) None) None ≡ map.find key_cmp q (listed o)
  found_one q o is true e =
      let same = tied_same q key e in
      ap (λ c. cond c (option_map (λ c. state_at (q, c)) (map.get m q)) None) (ap p same ∙ here)
      ∙ (ap (option_map (λ c. state_at (q, c))) (ap (map.get m) same ∙ is) ∙ inner o same)
    where
      inner : (o : Option Ballot) → q ≡ key → option_map (λ c. state_at (q, c)) o ≡ map.find key_cmp q (listed o)
      inner None same = refl
      inner (Some b) same = ap (λ (k : Key). Some (state_at (k, b))) same ∙ sym (ap (λ c. cond c (Some (state_at (key, b))) None) e)
  found_one q None is false e = refl
  found_one q (Some b) is false e = sym (ap (λ c. cond c (Some (state_at (key, b))) None) e)

  abbrev passing : map.FinMap key_cmp KeyState
  passing = map.retain_keys (states_by m) p

  at_passing : (q : Key) → map.get passing q ≡ cond (p q) (option_map (λ c. state_at (q, c)) (map.get m q)) None
  at_passing q = retained_states (states_by m) p q ∙ ap (λ o. cond (p q) o None) (get-states_by m q)

  -- of the key alone
  alone : (o : Option Ballot) → map.get m key ≡ o → count (map.retain_keys passing one) ≡ cond (is_some (known o).stood) 1 0
  alone o is =
      ap count (map.same_map keys_total keys_exact (map.retain_keys passing one) (map.from_sorted (listed o)) (λ q.
      retained_states passing one q
      ∙ (ap (λ r. cond (one q) r None) (at_passing q)
      ∙ (found_one q o is (one q) refl ∙ sym (map.get-from_sorted key_cmp (listed o) q (is_listed o))))))
      ∙ (ap (λ (es : List (Key × KeyState)). count_by has_stood (list_map (λ e. e.1) es)) (map.entries-from_sorted key_cmp (listed o) (is_listed o))
      ∙ counted o)

  -- and of all others
  others : map.retain_keys passing (λ q. not (one q)) ≡ map.retain_keys (states_by (map.remove m key)) p
  others = map.same_map keys_total keys_exact _ _ (λ q.
      retained_states passing (λ k. not (one k)) q
      ∙ (ap (λ r. cond (not (one q)) r None) (at_passing q)
      ∙ (at q (one q) (p q)
      ∙ sym (retained_states (states_by (map.remove m key)) p q
      ∙ ap (λ o. cond (p q) o None) (get-states_by (map.remove m key) q ∙ ap (option_map (λ c. state_at (q, c))) (map.get-remove keys_total m key q))))))
    where
      at : (q : Key) (b t : Bool) → cond (not b) (cond t (option_map (λ c. state_at (q, c)) (map.get m q)) None) None
          ≡ cond t (option_map (λ c. state_at (q, c)) (cond b None (map.get m q))) None
      at q true true = refl
      at q true false = refl
      at q false true = refl
      at q false false = refl

  -- without the key there is one Stand less where it stood
  pub one_less : stood_among m p ≡ stood_at m key + stood_among (map.remove m key) p
  one_less =
      let parts = kept-and-dropped (λ s. cond (has_stood s) 1 0) passing one in
      sym parts ∙ (λ i. alone (map.get m key) refl i + ap count others i)

-- none is left where no ballot is below the floor
pub none_stood : (m : BallotMap) (group : List ℕ) (floor : ℕ) → ((term : ℕ) → term < floor → map.get m (key_at group term) ≡ None) → stood_among m (drops group floor) ≡ 0
none_stood m group floor none =
    let parts = kept-and-dropped (λ s. cond (has_stood s) 1 0) (states_by m) (drops group floor) in
    let all = ap count (sym (states-retained m (λ key. not (drops group floor key))) ∙ ap states_by (sym (without_none m group floor none))) in
    omega (arith, parts, all)

-- ---- the latest leaders

-- a floor that is at most the latest term of its group leaves the latest leaders
pub latest_left : (m n : BallotMap) (leaders : Leaders) (group : List ℕ) (floor : ℕ) → n ≡ map.retain_keys m (λ key. not (drops group floor key))
    → ((led : Option (ℕ × Candidate)) → IsLatest (leads m group) led → floor ≤ term_of led) → AreLatest m leaders → AreLatest n leaders
latest_left m n leaders group floor is decided are = λ g. go g (latest_of leaders g) (are g)
  where
    has : (key : Key) → map.get n key ≡ cond (not (drops group floor key)) (map.get m key) None
    has key = ap (λ (l : BallotMap). map.get l key) is ∙ retained m (λ key. not (drops group floor key)) key

    none : (g : List ℕ) (term : ℕ) → leads m g term ≡ None → leads n g term ≡ None
    none g term e = ap (λ o. (known o).leader) (has (key_at g term)) ∙ at (drops group floor (key_at g term))
      where
        at : (b : Bool) → (known (cond (not b) (map.get m (key_at g term)) None)).leader ≡ None
        at true = refl
        at false = e

    same : (g : List ℕ) (term : ℕ) → drops group floor (key_at g term) ≡ false → leads n g term ≡ leads m g term
    same g term out = ap (λ o. (known o).leader) (has (key_at g term)) ∙ ap (λ b. (known (cond (not b) (map.get m (key_at g term)) None)).leader) out

    reached : (g : List ℕ) (p : ℕ × Candidate) → IsLatest (leads m g) (Some p) → (b : Bool) → bytes_eq g group ≡ b → drops group floor (key_at g p.0) ≡ false
    reached g p latest true e =
        let most : floor ≤ p.0 = decided (Some p) (subst (λ (k : List ℕ). IsLatest (leads m k) (Some p)) ((bytes_eq-Decides g group).0 e) latest) in
        ap (λ b. b && ltb p.0 floor) e ∙ le-ltb p.0 floor most
    reached g p latest false e = ap (λ b. b && ltb p.0 floor) e

    go : (g : List ℕ) (o : Option (ℕ × Candidate)) → IsLatest (leads m g) o → IsLatest (leads n g) o
    go g None latest = λ term. none g term (latest term)
    go g (Some p) latest = (same g p.0 (reached g p latest (bytes_eq g group) refl) ∙ latest.0, λ term above. none g term (latest.1 term above))

pub latest_under : (t : TableView) (m n : BallotMap) (leaders : Leaders) (group : List ℕ) (floor : ℕ) → m ≡ t.ballots → n ≡ map.retain_keys m (λ key. not (drops group floor key))
    → ((led : Option (ℕ × Candidate)) → IsLatest (leads t.ballots group) led → floor ≤ term_of led) → AreLatest m leaders → AreLatest n leaders
latest_under t m n leaders group floor same is decided are = latest_left m n leaders group floor is (λ led of. decided led (subst (λ (l : BallotMap). IsLatest (leads l group) led) same of)) are
