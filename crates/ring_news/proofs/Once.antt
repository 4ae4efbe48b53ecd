-- The failure of a node is told once at most.
use Rattle.std.proofs.Common.{◌≡◌, ◌≢◌, ℕ, inl, inr, ◌+◌, ◌-◌, ◌<◌, ◌≤◌, ◌==◌, Bool, true, false, ◌⊎◌, List, [], ◌∷◌, length, refl, sym, ◌∙◌, ap, subst, arith, Option, Some, None, position, slice_get, slice_index_or, slice_set, option_map, if◌then◌else◌}
use Rattle.std.specs.List.{cons_option, count_by}
use Rattle.std.specs.Option.{option_or}
use Rattle.std.proofs.lemmas.Grind.{common_steps}
use Rattle.std.proofs.lemmas.Option.{gets, slice_get_cases, unwrap_or-slice_get}
use Rattle.std.proofs.lemmas.Bool.{cases_eq, eqb-true}
use Rattle.std.proofs.lemmas.Bool.Decides.{nat_tests}
use Rattle.std.proofs.lemmas.List.{get_or-set_same, get_or-set_other}
use Rattle.std.proofs.lemmas.List.Quantifiers.{position-Some}
use Rattle.disk_model.specs.declared.system_fault.SystemFault.{SystemFault}
use Rattle.ring_news.specs.declared.book.Book.{Book}
use Rattle.ring_news.specs.declared.failure.Failure.{Failure}
use Rattle.ring_news.specs.declared.failure.Failure.TheVariants.{Absent, Told}
use Rattle.ring_news.specs.declared.news.News.{News}
use Rattle.ring_news.specs.declared.news.News.TheVariants.{Failed, Happened, LeftOut, Look, Ended}
use Rattle.ring_news.specs.Books.{again, count_due, end_due, event_due, failure_at, failure_news, is_due, look_due, news_of, told}
use Rattle.ring_news.specs.Calls.{Call, fail, want, hear, begin_second, end, next, all_news, behind, is_failure_of, news_by}
use Rattle.ring_news.specs.Happenings.{left_out}

-- what is read where one place is written
at-same : (fs : List Failure) (p : ℕ) (v : Failure) → p < length fs → failure_at (slice_set fs p v) p ≡ v
at-same fs p v inside = grind (arith, common_steps, gets, get_or-set_same)

at-other : (fs : List Failure) (p q : ℕ) (v : Failure) → q ≢ p → failure_at (slice_set fs p v) q ≡ failure_at fs q
at-other fs p q v apart = grind (arith, common_steps, gets, get_or-set_other)

-- a failure that was told stands in the list
told_within : (fs : List Failure) (p : ℕ) → failure_at fs p ≡ Told → p < length fs
told_within fs p is_told = grind (arith, common_steps, slice_get_cases)

-- what was told stays so where another one, or it again, is told
set_stays : (fs : List Failure) (p q : ℕ) → failure_at fs p ≡ Told → failure_at (slice_set fs q Told) p ≡ Told
set_stays fs p q is_told = by (cases_eq p q) where
  by : ((p ≡ q) ⊎ (p ≢ q)) → failure_at (slice_set fs q Told) p ≡ Told
  by (inl same) = let inside : p < length fs = told_within fs p is_told in let e : failure_at (slice_set fs p Told) p ≡ Told = at-same fs p Told inside in cc
  by (inr apart) = at-other fs q p Told apart ∙ is_told

-- so does more that is said of any failure
again_stays : (fs : List Failure) (p q : ℕ) (cause : Option SystemFault) → failure_at fs p ≡ Told → failure_at (slice_set fs q (again (failure_at fs q) cause)) p ≡ Told
again_stays fs p q cause is_told = by (cases_eq p q) where
  by : ((p ≡ q) ⊎ (p ≢ q)) → failure_at (slice_set fs q (again (failure_at fs q) cause)) p ≡ Told
  by (inl same) =
      let inside : p < length fs = told_within fs p is_told in
      let e : failure_at (slice_set fs p Told) p ≡ Told = at-same fs p Told inside in
      let there : failure_at fs q ≡ Told = ap (failure_at fs) (sym same) ∙ is_told in
      let written : again (failure_at fs q) cause ≡ Told = ap (λ f. again f cause) there in
      ap (λ f. failure_at (slice_set fs q f) p) written ∙ (ap (λ k. failure_at (slice_set fs k Told) p) (sym same) ∙ e)
  by (inr apart) = at-other fs q p (again (failure_at fs q) cause) apart ∙ is_told

-- it is told that some node has failed, or that this one has
fails : Option News → Bool
fails None = false
fails (Some (Failed node cause)) = true
fails (Some (Happened event)) = false
fails (Some (LeftOut count)) = false
fails (Some Look) = false
fails (Some Ended) = false

names : ℕ → Option News → Bool
names node None = false
names node (Some news) = is_failure_of node news

names-fails : (node : ℕ) (n : Option News) → fails n ≡ false → names node n ≡ false
unfolding fails names
names-fails node None not_so = refl
names-fails node (Some (Failed other cause)) not_so = cc
names-fails node (Some (Happened event)) not_so = refl
names-fails node (Some (LeftOut count)) not_so = refl
names-fails node (Some Look) not_so = refl
names-fails node (Some Ended) not_so = refl

told-fails : (book : Book) (n : Option News) → fails n ≡ false → (told book n).failures ≡ book.failures
unfolding fails
told-fails book None not_so = refl
told-fails book (Some (Failed other cause)) not_so = cc
told-fails book (Some (Happened event)) not_so = refl
told-fails book (Some (LeftOut count)) not_so = refl
told-fails book (Some Look) not_so = refl
told-fails book (Some Ended) not_so = refl

-- what is told where no failure is
abbrev rest : Book → Option News
rest book = option_or (look_due book) (option_or (event_due book) (option_or (count_due book) (end_due book)))

or-fails : (a b : Option News) → fails a ≡ false → fails b ≡ false → fails (option_or a b) ≡ false
or-fails None b not_so other = other
or-fails (Some news) b not_so other = not_so

look-fails : (book : Book) → fails (look_due book) ≡ false
unfolding fails
look-fails book = elim book.has_changed as (λ c. fails (if c then Some Look else None) ≡ false) [ true ↦ refl | false ↦ refl ]

event-fails : (book : Book) → fails (event_due book) ≡ false
unfolding fails
event-fails book = elim (slice_get book.events.waiting 0) as (λ o. fails (option_map Happened o) ≡ false) [ None ↦ refl | Some event ↦ refl ]

count-fails : (book : Book) → fails (count_due book) ≡ false
unfolding fails
count-fails book = elim (left_out book.events.quota) as (λ o. fails (option_map LeftOut o) ≡ false) [ None ↦ refl | Some count ↦ refl ]

end-fails : (book : Book) → fails (end_due book) ≡ false
unfolding fails
end-fails book = elim book.has_ended as (λ c. fails (if c then Some Ended else None) ≡ false) [ true ↦ refl | false ↦ refl ]

rest-fails : (book : Book) → fails (rest book) ≡ false
rest-fails book =
    or-fails (look_due book) (option_or (event_due book) (option_or (count_due book) (end_due book))) (look-fails book)
    (or-fails (event_due book) (option_or (count_due book) (end_due book)) (event-fails book)
    (or-fails (count_due book) (end_due book) (count-fails book) (end-fails book)))

-- what is told next, by the first place whose failure is due
news-at : (book : Book) (o : Option ℕ) → position is_due book.failures ≡ o → news_of book ≡ option_or (option_map (failure_news book.failures) o) (rest book)
news-at book o e = ap (λ (k : Option ℕ). option_or (option_map (failure_news book.failures) k) (rest book)) e

-- the place that is due is not that of a failure that was told
due_apart : (fs : List Failure) (p i : ℕ) → failure_at fs p ≡ Told → position is_due fs ≡ Some i → p ≢ i
due_apart fs p i is_told e = λ same.
    let found : is_due (slice_index_or fs i Absent) ≡ true = (position-Some is_due fs i Absent e).1 in
    let read : slice_index_or fs i Absent ≡ Told = sym (unwrap_or-slice_get fs i Absent) ∙ (ap (failure_at fs) (sym same) ∙ is_told) in
    let told_is_due : is_due Told ≡ true = ap is_due (sym read) ∙ found in
    cc

-- what the next tells leaves told what was
next_stays : (book : Book) (p : ℕ) (o : Option ℕ) → position is_due book.failures ≡ o → failure_at book.failures p ≡ Told → failure_at (told book (news_of book)).failures p ≡ Told
next_stays book p None e is_told =
    ap (λ n. failure_at (told book n).failures p) (news-at book None e) ∙ (ap (λ fs. failure_at fs p) (told-fails book (rest book) (rest-fails book)) ∙ is_told)
next_stays book p (Some i) e is_told =
    ap (λ n. failure_at (told book n).failures p) (news-at book (Some i) e) ∙ set_stays book.failures p (i + 1 - 1) is_told

-- the node of another place
not_next : (node i : ℕ) → node - 1 ≢ i → (node == i + 1) ≡ false
not_next node i apart = by (node == i + 1) refl where
  by : (b : Bool) → (node == i + 1) ≡ b → b ≡ false
  by true same = let e : node ≡ i + 1 = eqb-true node (i + 1) same in let f : node - 1 ≡ i = omega arith in absurd (apart f)
  by false other = refl

-- what was told is not told next
next_other : (book : Book) (node : ℕ) (o : Option ℕ) → position is_due book.failures ≡ o → failure_at book.failures (node - 1) ≡ Told → names node (news_of book) ≡ false
unfolding names
next_other book node None e is_told = ap (names node) (news-at book None e) ∙ names-fails node (rest book) (rest-fails book)
next_other book node (Some i) e is_told =
    let apart : node - 1 ≢ i = due_apart book.failures (node - 1) i is_told e in
    let other : (node == i + 1) ≡ false = not_next node i apart in
    ap (names node) (news-at book (Some i) e) ∙ other

-- what is told next was told then
next_told : (book : Book) (node : ℕ) (o : Option ℕ) → position is_due book.failures ≡ o → names node (news_of book) ≡ true → failure_at (told book (news_of book)).failures (node - 1) ≡ Told
unfolding names
next_told book node None e named =
    let unnamed : names node (news_of book) ≡ false = ap (names node) (news-at book None e) ∙ names-fails node (rest book) (rest-fails book) in cc
next_told book node (Some i) e named =
    let is_node : (node == i + 1) ≡ true = sym (ap (names node) (news-at book (Some i) e)) ∙ named in
    let same : node ≡ i + 1 = eqb-true node (i + 1) is_node in
    let place : i + 1 - 1 ≡ i = omega arith in
    let inside : i < length book.failures = (position-Some is_due book.failures i Absent e).0 in
    let there : failure_at (slice_set book.failures i Told) i ≡ Told = at-same book.failures i Told inside in
    ap (λ n. failure_at (told book n).failures (node - 1)) (news-at book (Some i) e)
    ∙ (ap (λ k. failure_at (slice_set book.failures (i + 1 - 1) Told) (k - 1)) same
    ∙ (ap (λ k. failure_at (slice_set book.failures k Told) k) place ∙ there))

-- each call leaves told what was
call_stays : (book : Book) (call : Call) (p : ℕ) → failure_at book.failures p ≡ Told → failure_at (behind book call).failures p ≡ Told
call_stays book (fail node cause) p is_told = again_stays book.failures p (node - 1) cause is_told
call_stays book (want node wants) p is_told = is_told
call_stays book (hear event) p is_told = is_told
call_stays book begin_second p is_told = is_told
call_stays book end p is_told = is_told
call_stays book next p is_told = next_stays book p (position is_due book.failures) refl is_told

call_other : (book : Book) (call : Call) (node : ℕ) → failure_at book.failures (node - 1) ≡ Told → names node (news_by book call) ≡ false
unfolding names
call_other book (fail n cause) node is_told = refl
call_other book (want n wants) node is_told = refl
call_other book (hear event) node is_told = refl
call_other book begin_second node is_told = refl
call_other book end node is_told = refl
call_other book next node is_told = next_other book node (position is_due book.failures) refl is_told

call_told : (book : Book) (call : Call) (node : ℕ) → names node (news_by book call) ≡ true → failure_at (behind book call).failures (node - 1) ≡ Told
unfolding names
call_told book (fail n cause) node named = cc
call_told book (want n wants) node named = cc
call_told book (hear event) node named = cc
call_told book begin_second node named = cc
call_told book end node named = cc
call_told book next node named = next_told book node (position is_due book.failures) refl named

-- how many are counted of one more
count-not : (node : ℕ) (news : News) (later : List News) → is_failure_of node news ≡ false → count_by (is_failure_of node) (news ∷ later) ≡ count_by (is_failure_of node) later
count-not node news later not_so = grind (arith, common_steps, nat_tests)

count-no : (node : ℕ) (n : Option News) (later : List News) → names node n ≡ false → count_by (is_failure_of node) (cons_option n later) ≡ count_by (is_failure_of node) later
unfolding names
count-no node None later not_so = refl
count-no node (Some news) later not_so = count-not node news later not_so

count-one : (node : ℕ) (n : Option News) (later : List News) → count_by (is_failure_of node) later ≡ 0 → count_by (is_failure_of node) (cons_option n later) ≤ 1
count-one node None later none = omega arith
count-one node (Some news) later none = grind (arith, common_steps, nat_tests)

-- none is told of a node whose failure was told
none_again : (book : Book) (calls : List Call) (node : ℕ) → failure_at book.failures (node - 1) ≡ Told → count_by (is_failure_of node) (all_news book calls) ≡ 0
none_again book [] node is_told = refl
none_again book (call ∷ calls) node is_told =
    count-no node (news_by book call) (all_news (behind book call) calls) (call_other book call node is_told)
    ∙ none_again (behind book call) calls node (call_stays book call (node - 1) is_told)

pub told_once : (book : Book) (calls : List Call) (node : ℕ) → count_by (is_failure_of node) (all_news book calls) ≤ 1
told_once book [] node = omega arith
told_once book (call ∷ calls) node = by (told_once (behind book call) calls node) (names node (news_by book call)) refl where
  by : count_by (is_failure_of node) (all_news (behind book call) calls) ≤ 1 → (b : Bool) → names node (news_by book call) ≡ b → count_by (is_failure_of node) (cons_option (news_by book call) (all_news (behind book call) calls)) ≤ 1
  by later true named = count-one node (news_by book call) (all_news (behind book call) calls) (none_again (behind book call) calls node (call_told book call node named))
  by later false not_so =
      subst (λ (k : ℕ). k ≤ 1) (sym (count-no node (news_by book call) (all_news (behind book call) calls) not_so)) later
