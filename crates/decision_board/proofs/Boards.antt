-- What a board keeps of its copies, of all that was appended, and of the entries that wait.
use Rattle.std.proofs.Common.{ℕ, ◌≡◌, ◌++◌, false, List, [], ◌∷◌, refl, sym, ap, ◌∙◌, subst, fold, append_assoc, MatchResult, Result, Ok, Err, OnOk}
use Rattle.std.specs.FinMap as map
use Rattle.std.specs.Result.{is_err}
use Rattle.std.specs.declared.alloc.AllocError.{AllocError}
use Rattle.std.proofs.lemmas.List.{append-nil}
use Rattle.ring_records.specs.declared.notice.Notice.{Notice}
use Rattle.decision_board.specs.declared.history.Front.{Front}
use Rattle.decision_board.specs.declared.store.Entry.{Entry}
use Rattle.decision_board.specs.declared.store.Store.{Store}
use Rattle.decision_board.specs.Leaders.{LeaderMap, FloorMap, AreOf}
use Rattle.decision_board.specs.Posts.{IsPosted}
use Rattle.decision_board.specs.Stores.{after, GoOn, notices_of, state_of}
use Rattle.decision_board.proofs.Maps.{taken_of, none_of}

-- ---- what a copy becomes

-- what a copy keeps, and the list that it stands for
abbrev StandsFor : LeaderMap × FloorMap × Front → List Notice → Type 0
StandsFor s ns = AreOf s.0 s.1 ns

-- by entries that go on from its list
goes_on : (s : LeaderMap × FloorMap × Front) (es : List Entry) → StandsFor s s.2.mark.notices → GoOn s.2.mark.history s.2.mark.notices es
    → (let t = fold after s es in StandsFor t t.2.mark.notices × (t.2.mark.history ≡ s.2.mark.history) × (t.2.mark.notices ≡ s.2.mark.notices ++ notices_of es))
unfolding GoOn
goes_on s [] are on = (are, refl, sym (append-nil s.2.mark.notices))
goes_on s (e ∷ es) are on =
    let ns = s.2.mark.notices in
    let are' : StandsFor (after s e) e.front.mark.notices = subst (StandsFor (after s e)) (sym on.1) (taken_of (s.0, s.1) ns e.notice are) in
    let on' : GoOn e.front.mark.history e.front.mark.notices es = rw (on.0, on.1) on.2 in
    let rest = goes_on (after s e) es are' on' in
    (rest.0, rest.1 ∙ on.0, rest.2 ∙ (ap (λ w. w ++ notices_of es) on.1 ∙ append_assoc ns (e.notice ∷ []) (notices_of es)))

pub posted_after : (history : ℕ) (x y : Store) (es : List Entry) → IsPosted history x → GoOn history x.front.mark.notices es → state_of y ≡ fold after (state_of x) es
    → IsPosted history y × (y.front.mark.notices ≡ x.front.mark.notices ++ notices_of es)
posted_after history x y es posted on is =
    let all = goes_on (state_of x) es posted.0 (subst (λ b. GoOn b x.front.mark.notices es) (sym posted.1) on) in
    let back = sym is in (
      (
        subst (λ (t : LeaderMap × FloorMap × Front). StandsFor t t.2.mark.notices) back all.0,
        subst (λ (t : LeaderMap × FloorMap × Front). t.2.mark.history ≡ history) back (all.1 ∙ posted.1),
      ),
      subst (λ (t : LeaderMap × FloorMap × Front). t.2.mark.notices ≡ x.front.mark.notices ++ notices_of es) back all.2,
    )

-- by one entry
pub posted_once : (history : ℕ) (x y : Store) (e : Entry) → IsPosted history x → e.front.mark.history ≡ history
    → e.front.mark.notices ≡ x.front.mark.notices ++ e.notice ∷ [] → state_of y ≡ after (state_of x) e → IsPosted history y
unfolding GoOn
posted_once history x y e posted named longer is = (posted_after history x y (e ∷ []) posted (named, longer, tt) is).0

-- a copy that has taken in nothing
pub posted_none : (history : ℕ) (x : Store) → x.leaders ≡ map.empty → x.floors ≡ map.empty → x.front.mark.notices ≡ [] → x.front.mark.history ≡ history → IsPosted history x
posted_none history x none low empty named = (rw (none, low, empty) none_of, named)

-- what a publication ends with: all entries are in, or none
pub shown_values : (history : ℕ) (x y : Store) (es rest : List Entry) → IsPosted history x → GoOn history x.front.mark.notices es → (r : Result (Unit {0}) AllocError)
    → MatchResult r (λ _. (state_of y ≡ fold after (state_of x) es) × (rest ≡ [])) (λ _. (y ≡ x) × (rest ≡ es))
    → MatchResult r (λ _. (y.front.mark.notices ≡ x.front.mark.notices ++ notices_of es) × (rest ≡ [])) (λ _. (y ≡ x) × (rest ≡ es))
shown_values history x y es rest posted on (Ok u) h = ((posted_after history x y es posted on h.0).1, h.1)
shown_values history x y es rest posted on (Err u) h = h

-- ---- what a board keeps

abbrev pub IsRunning : ℕ → Store → List Notice → List Entry → Type 0
IsRunning history x all es = (all ≡ x.front.mark.notices ++ notices_of es) × IsPosted history x × GoOn history x.front.mark.notices es

pub running_shown : (history : ℕ) (x y : Store) (all : List Notice) (es rest : List Entry) → IsRunning history x all es → IsPosted history y → {A B : Type 0} (r : Result A B)
    → MatchResult r (λ _. (y.front.mark.notices ≡ x.front.mark.notices ++ notices_of es) × (rest ≡ [])) (λ _. (y ≡ x) × (rest ≡ es)) → IsRunning history y all rest
unfolding GoOn
running_shown history x y all es rest run posted (Ok u) h =
    let none : GoOn history y.front.mark.notices rest = subst (GoOn history y.front.mark.notices) (sym h.1) tt in
    (run.0 ∙ (sym h.0 ∙ (sym (append-nil y.front.mark.notices) ∙ ap (λ w. y.front.mark.notices ++ notices_of w) (sym h.1))), posted, none)
running_shown history x y all es rest run posted (Err u) h = subst (λ w. IsRunning history w all rest) (sym h.0) (subst (IsRunning history x all) (sym h.1) run)

pub taken : {A B P : Type 0} (r : Result A B) → false ≡ is_err r → OnOk r P → P
taken (Ok a) e h = h
taken (Err b) e h = absurd (cc e)

-- one more entry at the end
GoOn-push : (history : ℕ) (ds : List Notice) (es : List Entry) (e : Entry) → GoOn history ds es → e.front.mark.history ≡ history
    → e.front.mark.notices ≡ (ds ++ notices_of es) ++ e.notice ∷ [] → GoOn history ds (es ++ e ∷ [])
unfolding GoOn
GoOn-push history ds [] e on named longer = (named, longer ∙ ap (λ w. w ++ e.notice ∷ []) (append-nil ds), tt)
GoOn-push history ds (x ∷ es) e on named longer =
    (on.0, on.1, GoOn-push history (ds ++ x.notice ∷ []) es e on.2 named (longer ∙ ap (λ w. w ++ e.notice ∷ []) (sym (append_assoc ds (x.notice ∷ []) (notices_of es)))))

notices_of-push : (es : List Entry) (e : Entry) → notices_of (es ++ e ∷ []) ≡ notices_of es ++ e.notice ∷ []
notices_of-push [] e = refl
notices_of-push (x ∷ es) e = ap (λ w. x.notice ∷ w) (notices_of-push es e)

pub running_push : (history : ℕ) (x : Store) (all : List Notice) (es : List Entry) (e : Entry) → IsRunning history x all es
    → e.front.mark.history ≡ history → e.front.mark.notices ≡ all ++ e.notice ∷ [] → IsRunning history x (all ++ e.notice ∷ []) (es ++ e ∷ [])
running_push history x all es e run named longer =
    let long : all ++ e.notice ∷ [] ≡ x.front.mark.notices ++ notices_of (es ++ e ∷ []) =
    ap (λ w. w ++ e.notice ∷ []) run.0 ∙ (append_assoc x.front.mark.notices (notices_of es) (e.notice ∷ []) ∙ ap (λ w. x.front.mark.notices ++ w) (sym (notices_of-push es e))) in
    (long, run.1, GoOn-push history x.front.mark.notices es e run.2 named (longer ∙ ap (λ w. w ++ e.notice ∷ []) run.0))

pub running_none : (history : ℕ) (x : Store) (all : List Notice) (es : List Entry) → IsPosted history x → all ≡ x.front.mark.notices → es ≡ [] → IsRunning history x all es
unfolding GoOn
running_none history x all es posted same none =
    (same ∙ (sym (append-nil x.front.mark.notices) ∙ ap (λ w. x.front.mark.notices ++ notices_of w) (sym none)), posted, subst (GoOn history x.front.mark.notices) (sym none) tt)
