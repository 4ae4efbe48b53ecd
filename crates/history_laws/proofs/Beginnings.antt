-- An answer stays one of a longer history, and of each beginning that has what it rests on.
use Rattle.std.proofs.Common.{ℕ, ◌++◌, ◌≡◌, ◌≤◌, List, length, take, refl, sym, ap, ◌∙◌, arith}
use Rattle.std.proofs.lemmas.List.{length-append, length-take, take-append-le, take-take}
use Rattle.ring_records.specs.declared.input.Input.{Input}
use Rattle.ring_records.specs.declared.request.Request.{Request}
use Rattle.ring_records.specs.Answer.{Rule, Answer, Answers, answer, gained}

module _ (me n : ℕ) (rule : Rule) (h : List Input) (q : Request) (a : Answer) (s : Answers me n rule h q a) where
  counts : a.number ≡ length (take s.before h ++ gained me n rule (take s.before h) q)
  counts = ap (λ (x : Answer). x.number) s.same

  few : a.number ≤ length h
  few =
      let e : a.number ≡ length (take a.number h) = counts ∙ ap length s.front in
      omega (arith, e, length-take a.number h)

  first : s.before ≤ a.number
  first =
      let long = length-append (take s.before h) (gained me n rule (take s.before h) q) in
      omega (arith, counts, long, length-take s.before h, s.within)

  pub longer : (more : List Input) → Answers me n rule (h ++ more) q a
  longer more =
      let cut : take s.before (h ++ more) ≡ take s.before h = take-append-le s.before h more s.within in
      record {
        before = s.before;
        within = omega (arith, s.within, length-append h more);
        same = s.same ∙ ap (λ (g : List Input). answer me n rule g q) (sym cut);
        front = ap (λ (g : List Input). g ++ gained me n rule g q) cut ∙ (s.front ∙ sym (take-append-le a.number h more few));
      }

  -- at the same point, by the same inputs
  pub longer_at : (more : List Input) → (s.before ≡ (longer more).before) × (take s.before h ≡ take (longer more).before (h ++ more))
  unfolding longer
  longer_at more = (refl, sym (take-append-le s.before h more s.within))

  pub shorter : (k : ℕ) → a.number ≤ k → Answers me n rule (take k h) q a
  shorter k enough =
      let cut : take s.before (take k h) ≡ take s.before h = take-take s.before k h (omega (arith, first, enough)) in
      record {
        before = s.before;
        within = omega (arith, s.within, first, enough, length-take k h);
        same = s.same ∙ ap (λ (g : List Input). answer me n rule g q) (sym cut);
        front = ap (λ (g : List Input). g ++ gained me n rule g q) cut ∙ (s.front ∙ sym (take-take a.number k h enough));
      }

  pub shorter_at : (k : ℕ) (enough : a.number ≤ k) → (s.before ≡ (shorter k enough).before) × (take s.before h ≡ take (shorter k enough).before (take k h))
  unfolding shorter
  shorter_at k enough = (refl, sym (take-take s.before k h (omega (arith, first, enough))))
