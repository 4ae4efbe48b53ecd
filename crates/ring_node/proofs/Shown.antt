-- What a node's desk counts and shows, by the node's inputs, for those who hold it.
use Rattle.std.proofs.Common.{arith, ◌≡◌, ℕ, ◌+◌, List, length, length-append, take, ap, ◌∙◌, subst}
use Rattle.ring_records.specs.declared.input.Input.{Input}
use Rattle.ring_records.specs.declared.summary.Summary.{Summary}
use Rattle.ring_records.specs.Emission.{sent}
use Rattle.ring_records.specs.History.{taken, credit}
use Rattle.ring_records.specs.Member.{Member}
use Rattle.ring_records.specs.Summary.{summary}
use Rattle.group_commit.specs.Desk.{DeskKept, known_all, known_durable, seen, shown_all}
use Rattle.group_commit.specs.Past.{IsPast}
use Rattle.group_commit.specs.Since.{IsKnownDesk}
use Rattle.group_commit.proofs.Seen.{all_seen, durable_seen}
use Rattle.ring_node.specs.Held.{IsShownBy}

module _ (m : Member) (inputs : List Input) (durable : ℕ) (desk : DeskKept) (is : IsShownBy m inputs durable desk) where
  summarised : desk.opening.inputs ≡ length is.past
  summarised = ap (λ (s : Summary). s.inputs) is.is.summed

  -- how many inputs there are, those that are summarised among them
  pub all_shown : desk.opening.inputs + length desk.view.state.inputs ≡ length inputs
  all_shown = let first = summarised in let sum = length-append is.past desk.view.state.inputs in let same = ap length is.all in omega arith

  -- and how many of them are durable
  pub durable_shown : desk.opening.inputs + desk.view.state.durable ≡ durable
  durable_shown = let first = summarised in let same = is.count in omega arith

  -- what is said of its whole history, behind each past, is so of these inputs
  pub told_shown : (P : List Input → ℕ → Type 0) → ((past : List Input) → IsPast desk.view.member desk.opening past → P (seen past desk).state.inputs (seen past desk).state.durable) → P inputs durable
  told_shown P told = subst (λ (a : List Input × ℕ). P a.0 a.1) (λ i. (is.all i, is.count i)) (told is.past is.is)

  -- what it knows by all its inputs, and by the durable ones, is what these say
  pub knows_all : IsKnownDesk desk → known_all desk ≡ summary m.node inputs
  knows_all known = all_seen is.past desk is.is known ∙ (λ i. summary (is.member i).node (is.all i))

  pub knows_durable : IsKnownDesk desk → known_durable desk ≡ summary m.node (take durable inputs)
  knows_durable known = durable_seen is.past desk is.is known ∙ (λ i. summary (is.member i).node (take (is.count i) (is.all i)))

  -- and so is what it shows
  pub shows_all : IsKnownDesk desk
      → shown_all desk ≡ record { inputs = length inputs; durable = durable; sent = length (sent m.node inputs); taken = length (taken inputs); credit = credit inputs }
  shows_all known = let knows = knows_all known in λ i. record { inputs = all_shown i; durable = durable_shown i; sent = (knows i).sent; taken = (knows i).taken; credit = (knows i).credit }
