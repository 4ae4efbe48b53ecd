-- What the content of a board and the leaders that a node knows tell of each other.
use Rattle.std.proofs.Common.{ℕ, ◌≡◌, List, [], ◌∷◌, Some, sym, subst, inl, inr}
use Rattle.std.specs.List.{Contains}
use Rattle.std.proofs.lemmas.List.Elements.{Contains-append_left, Contains-append_cases}
use Rattle.ring_records.specs.declared.decision.Decision.{Decision}
use Rattle.ring_records.specs.declared.input.Input.{Input}
use Rattle.ring_records.specs.declared.key.Key.{Key}
use Rattle.ring_records.specs.declared.notice.Notice.{Notice}
use Rattle.ring_records.specs.declared.notice.Notice.TheVariants.{Decided, Retired}
use Rattle.ring_records.specs.Leader.{leader}
use Rattle.ring_records.specs.Notices.{decided_all}
use Rattle.ring_records.proofs.DecisionNotices.{among-told, told-among}
use Rattle.ring_records.proofs.Leader.{Contains-cons_cases, Contains-nil}
use Rattle.group_commit.specs.Content.{IsContent, retired_all}

-- a decision that is told is among the leaders
none_retired : {C : Type 0} (floors : List Key) (d : Decision) → Contains (retired_all floors) (Decided d) → C
none_retired [] d has = Contains-nil (Decided d) has
none_retired (f ∷ floors) d has = elim (Contains-cons_cases (Retired f.group f.term) (retired_all floors) (Decided d) has) [
  | inl same ↦ absurd cc
  | inr later ↦ none_retired floors d later
]

pub told-leads : (me : ℕ) (h : List Input) (list : List Notice) (d : Decision) → IsContent me h list → Contains list (Decided d) → leader me h d.key ≡ Some d.leader
told-leads me h list d content has = elim (Contains-append_cases (decided_all content.leaders) (retired_all content.floors) (Decided d) (subst (λ l. Contains l (Decided d)) content.is has)) [
  | inl there ↦ content.lead.each d (among-told content.leaders d there)
  | inr there ↦ none_retired content.floors d there
]

pub leads-told : (me : ℕ) (h : List Input) (list : List Notice) (d : Decision) → IsContent me h list → leader me h d.key ≡ Some d.leader → Contains list (Decided d)
leads-told me h list d content leads = subst (λ l. Contains l (Decided d)) (sym content.is)
    (Contains-append_left (decided_all content.leaders) (retired_all content.floors) (Decided d) (told-among content.leaders d (content.lead.all d.key d.leader leads)))
