-- Messages that were taken, beside those that were sent.
use Rattle.std.proofs.Common.{ℕ, ◌≡◌, ◌≤◌, ◌+◌, ◌-◌, List, [], ◌∷◌, ◌++◌, length, take, drop, Option, Some, None, refl, sym, ap, ◌∙◌, inl, inr, append-nil, arith}
use Rattle.std.specs.List.{cons_option}
use Rattle.std.specs.Prelude.{slice_get}
use Rattle.ring_records.specs.declared.input.Input.{Input}
use Rattle.ring_records.specs.declared.msg.Msg.{Msg}
use Rattle.ring_records.specs.Emission.{sent}
use Rattle.ring_records.specs.Fitting.{MessagesFit}
use Rattle.ring_records.specs.History.{message_of, taken}
use Rattle.std.proofs.lemmas.List.{length-append}
use Rattle.ring_records.proofs.Lists.{none≢some}
use Rattle.ring_records.proofs.Growth.{slice_get-append, slice_get-behind, slice_get-drop, slice_get-push, taken-append}
use Rattle.ring_records.proofs.History.{taken-push}
use Rattle.ring_records.proofs.Iteration.{IsItem, cut-item, take-item}

-- each of those that were taken, the first of which has number `start`, is one of these, the first of which has number
-- `first`, where it has none below that
abbrev pub AreThose : List Msg → ℕ → ℕ → List Msg → Type 0
AreThose messages first start took = (k : ℕ) (msg : Msg) → slice_get took k ≡ Some msg → first ≤ start + k → slice_get messages (start + k - first) ≡ Some msg

pub none_taken : (length (taken []) ≡ 0) × ((messages : List Msg) (first start : ℕ) → AreThose messages first start (taken []))
unfolding taken
none_taken = (refl, λ messages first start k msg e. none≢some msg e)

module _ (i first start : ℕ) (messages : List Msg) (own behind inputs : List Input) (sent_is : messages ≡ drop first (sent i own)) (start_is : start ≡ length (taken behind)) where
  -- message k of these inputs is number start + k of all
  in_all : (k : ℕ) → slice_get (taken (behind ++ inputs)) (start + k) ≡ slice_get (taken inputs) k
  in_all k =
      ap (λ (l : List Msg). slice_get l (start + k)) (taken-append behind inputs)
      ∙ (ap (λ n. slice_get (taken behind ++ taken inputs) (n + k)) start_is ∙ slice_get-behind (taken behind) (taken inputs) k)

  in_sent : (place : ℕ) → first ≤ place → slice_get messages (place - first) ≡ slice_get (sent i own) place
  in_sent place low =
      let back : first + (place - first) ≡ place = omega arith in
      ap (λ (l : List Msg). slice_get l (place - first)) sent_is ∙ (slice_get-drop (place - first) first (sent i own) ∙ ap (slice_get (sent i own)) back)

  pub fit : AreThose messages first start (taken inputs) → MessagesFit (λ place. (first ≤ place) × (start ≤ place)) i own (behind ++ inputs)
  fit those place msg known took =
      let low = known.0 in
      let above = known.1 in
      let at : start + (place - start) ≡ place = omega arith in
      let here : slice_get (taken inputs) (place - start) ≡ Some msg = sym (in_all (place - start)) ∙ (ap (slice_get (taken (behind ++ inputs))) at ∙ took) in
      let found : slice_get messages (start + (place - start) - first) ≡ Some msg = those (place - start) msg here (omega arith) in
      sym (in_sent place low) ∙ (sym (ap (λ n. slice_get messages (n - first)) at) ∙ found)

  pub those : MessagesFit (λ place. (first ≤ place) × (start ≤ place)) i own (behind ++ inputs) → AreThose messages first start (taken inputs)
  those fits k msg here low = in_sent (start + k) low ∙ fits (start + k) msg (low, omega arith) (in_all k ∙ here)

-- ---- the messages of the first inputs, and one more

module _ (inputs : List Input) (k : ℕ) (x : Input) (item : IsItem inputs k x) where
  more : (o : Option Msg) → message_of x ≡ o → taken (take (k + 1) inputs) ≡ taken (take k inputs) ++ cons_option o []
  more o is = ap taken (take-item inputs k x item) ∙ (taken-push (take k inputs) x ∙ ap (λ (p : Option Msg). taken (take k inputs) ++ cons_option p []) is)

  pub no_more : message_of x ≡ None → taken (take (k + 1) inputs) ≡ taken (take k inputs)
  no_more none = more None none ∙ append-nil (taken (take k inputs))

  pub one_more_taken : (msg : Msg) → message_of x ≡ Some msg → length (taken (take (k + 1) inputs)) ≡ length (taken (take k inputs)) + 1
  one_more_taken msg is = let size = length-append (taken (take k inputs)) (msg ∷ []) in let all = ap length (more (Some msg) is) in omega arith

  -- it stands at the place behind theirs
  pub here : (msg : Msg) → message_of x ≡ Some msg → slice_get (taken inputs) (length (taken (take k inputs))) ≡ Some msg
  here msg is =
      let before = taken (take k inputs) in
      let front : taken (take k inputs ++ x ∷ []) ≡ before ++ msg ∷ [] = taken-push (take k inputs) x ∙ ap (λ (p : Option Msg). before ++ cons_option p []) is in
      let whole : taken inputs ≡ (before ++ msg ∷ []) ++ taken (drop (k + 1) inputs) =
      ap taken (cut-item inputs k x item) ∙ (taken-append (take k inputs ++ x ∷ []) (drop (k + 1) inputs) ∙ ap (λ (l : List Msg). l ++ taken (drop (k + 1) inputs)) front) in
      let last : length before ≡ length before + 0 = omega arith in
      ap (λ (l : List Msg). slice_get l (length before)) whole
      ∙ slice_get-append (before ++ msg ∷ []) (taken (drop (k + 1) inputs)) (length before) msg (ap (slice_get (before ++ msg ∷ [])) last ∙ slice_get-behind before (msg ∷ []) 0)

  pub one_more : (messages : List Msg) (first start : ℕ) (msg : Msg) → message_of x ≡ Some msg
      → (first ≤ start + length (taken (take k inputs)) → slice_get messages (start + length (taken (take k inputs)) - first) ≡ Some msg)
      → AreThose messages first start (taken (take k inputs)) → AreThose messages first start (taken (take (k + 1) inputs))
  one_more messages first start msg is sent so_far place other at low =
      elim (slice_get-push (taken (take k inputs)) msg other place (ap (λ (l : List Msg). slice_get l place) (sym (more (Some msg) is)) ∙ at)) [
        | inl earlier ↦ so_far place other earlier low
        | inr last ↦ (let there = last.0 in
            ap (λ n. slice_get messages (start + n - first)) last.0 ∙ (sent (omega arith) ∙ ap Some last.1))
      ]
