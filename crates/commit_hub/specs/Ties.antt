-- What a hub's tie knows, and what a token of its history names.
use Rattle.std.specs.Prelude.{ℕ, Bool}
use Rattle.gated_journal.specs.Batch.{Numbered}
use Rattle.group_commit.specs.Next.{Durable}

-- which value it is that both halves know, and which list its inputs are
pub record Names : Type 0 where
  pub value : ℕ
  pub history : ℕ

-- What is durable; what flies, from its launch until it lands; whether the hub has failed; and whether it was seen closed with
-- all that it accepted durable, which stays so.
pub record TieView : Type 0 where
  pub durable : Durable
  pub flying : Numbered
  pub failed : Bool
  pub done : Bool
