-- Messages that came in released packets were sent, and a reply that names a leader tells of one that is known.
use Rattle.std.proofs.Common.{ℕ, ◌++◌, ◌≡◌, ◌≤◌, List, [], ◌∷◌, Option, Some, None, take, drop, sym, ap, ◌∙◌, subst, inl, inr}
use Rattle.std.specs.Prelude.{slice_get}
use Rattle.std.specs.List.{Contains}
use Rattle.std.proofs.lemmas.List.{append_assoc, take-append-drop}
use Rattle.std.proofs.lemmas.List.Elements.{Contains-append_left, Contains-push}
use Rattle.ring_records.specs.declared.candidate.Candidate.{Candidate}
use Rattle.ring_records.specs.declared.input.Input.{Input}
use Rattle.ring_records.specs.declared.input.Input.TheVariants.{Stand, Take, Acked, Retire}
use Rattle.ring_records.specs.declared.key.Key.{Key}
use Rattle.ring_records.specs.declared.msg.Msg.{Msg}
use Rattle.ring_records.specs.declared.refusal.Refusal.{Refusal}
use Rattle.ring_records.specs.declared.reply.Reply.TheVariants as say
use Rattle.ring_records.specs.declared.request.Request.TheVariants as ask
use Rattle.ring_records.specs.Allowed.{IsAllowed}
use Rattle.ring_records.specs.Objection.{retired}
use Rattle.ring_records.specs.Answer.{Rule, Answer, Answers, unless, reply}
use Rattle.ring_records.specs.Emission.{sent}
use Rattle.ring_records.specs.History.{message_of, taken}
use Rattle.ring_records.specs.Leader.{leader, latest}
use Rattle.ring_records.specs.Lists.{EachAfter}
use Rattle.ring_records.specs.Place.{before}
use Rattle.ring_records.proofs.Growth.{sent-kept}
use Rattle.ring_records.proofs.History.{taken-push}
use Rattle.ring_records.proofs.Leader.{latest-leads}
use Rattle.ring_records.proofs.Lists.{along, none≢some, Contains-option_cases, Contains-slice_get}
use Rattle.ring_records.proofs.OneKey.{none_in}
use Rattle.history_laws.specs.Linked.{AreHanded, AreLinked, IsLeaderIn}

-- ---- a message that was taken stands in a Take, and so it was handed over

of_take : (h : List Input) (x : Input) (m : Msg) → message_of x ≡ Some m → (msg_no : ℕ) × Contains (h ++ x ∷ []) (Take msg_no m)
unfolding message_of
of_take h (Stand key b) m e = none≢some m e
of_take h (Take msg_no t) m e = (msg_no, subst (λ (u : Msg). Contains (h ++ Take msg_no t ∷ []) (Take msg_no u)) (let p : t ≡ m = cc in p) (Contains-push h (Take msg_no t)))
of_take h (Acked upto) m e = none≢some m e
of_take h (Retire group new) m e = none≢some m e

took_start : (m : Msg) → Contains (taken []) m → (msg_no : ℕ) × Contains [] (Take msg_no m)
unfolding taken
took_start m p = none_in m p

took_in : (me n : ℕ) (h : List Input) → EachAfter (IsAllowed me n) [] h → (m : Msg) → Contains (taken h) m → (msg_no : ℕ) × Contains h (Take msg_no m)
took_in me n h each = along (IsAllowed me n) (λ g. (m : Msg) → Contains (taken g) m → (msg_no : ℕ) × Contains g (Take msg_no m))
    (λ g x a f m p. elim (Contains-option_cases (taken g) (message_of x) m (rw taken-push at p)) [
      | inl q ↦ (let r = f m q in (r.0, Contains-append_left g (x ∷ []) (Take r.0 m) r.1))
      | inr e ↦ of_take g x m e
    ]) [] h each took_start

pub links : (n : ℕ) (history : ℕ → List Input) → AreHanded n history → AreLinked n history
links n history f = record {
  lawful = f.lawful;
  named = f.named;
  linked = λ i m low high p.
      let t = took_in i n (history i) (f.lawful i low high) m p in
      let r = f.handed i t.0 m low high t.1 in
      Contains-slice_get (sent (before n i) (history (before n i))) t.0 m
      (subst (λ (h : List Input). slice_get (sent (before n i) h) t.0 ≡ Some m) r.2 (sent-kept (before n i) r.0 r.1 t.0 m r.3));
}

-- ---- a reply that names a leader

tells : (o : Option Refusal) (l : Option Candidate) (c : Candidate) → unless o (say.Leader l) ≡ say.Leader (Some c) → l ≡ Some c
tells None l c e = (let p : l ≡ Some c = cc in p)
tells (Some r) l c e = absurd cc

pub shown_in : (n : ℕ) (history : ℕ → List Input) (i : ℕ) (begun rest : List Input) (key : Key) (c : Candidate)
    → 1 ≤ i → i ≤ n → begun ++ rest ≡ history i → leader i begun key ≡ Some c → IsLeaderIn n history key c
shown_in n history i begun rest key c low high front leads = record { node = i; low = low; high = high; inputs = begun; rest = rest; front = front; leads = leads }

pub replied_in : (n : ℕ) (rule : Rule) (history : ℕ → List Input) (i : ℕ) (begun rest : List Input) (key : Key) (c : Candidate) (a : Answer)
    → 1 ≤ i → i ≤ n → begun ++ rest ≡ history i → Answers i n rule begun (ask.Who key) a → a.reply ≡ say.Leader (Some c) → IsLeaderIn n history key c
unfolding reply
replied_in n rule history i begun rest key c a low high front answers says =
    let upto = take answers.before begun in
    shown_in n history i upto (drop answers.before begun ++ rest) key c low high
    (sym (append_assoc upto (drop answers.before begun) rest) ∙ (ap (λ (l : List Input). l ++ rest) (take-append-drop answers.before begun) ∙ front))
    (tells (retired upto key) (leader i upto key) c (sym (ap (λ (x : Answer). x.reply) answers.same) ∙ says))

told : (o p : Option (ℕ × Candidate)) → say.Latest o ≡ say.Latest p → o ≡ p
told o p e = (let q : o ≡ p = cc in q)

pub latest_in : (n : ℕ) (rule : Rule) (history : ℕ → List Input) (i : ℕ) (begun rest : List Input) (key : Key) (c : Candidate) (a : Answer)
    → 1 ≤ i → i ≤ n → begun ++ rest ≡ history i → Answers i n rule begun (ask.Latest key.group) a → a.reply ≡ say.Latest (Some (key.term, c)) → IsLeaderIn n history key c
unfolding reply
latest_in n rule history i begun rest key c a low high front answers says =
    let upto = take answers.before begun in
    shown_in n history i upto (drop answers.before begun ++ rest) key c low high
    (sym (append_assoc upto (drop answers.before begun) rest) ∙ (ap (λ (l : List Input). l ++ rest) (take-append-drop answers.before begun) ∙ front))
    (latest-leads i upto key.group key.term c (told (latest i upto key.group) (Some (key.term, c)) (sym (ap (λ (x : Answer). x.reply) answers.same) ∙ says)))
