-- What a desk tells of two histories of one node, the second one longer.
use Rattle.std.specs.Prelude.{ℕ, ◌≡◌, ◌⊎◌, true, List, [], ◌++◌}
use Rattle.ring_records.specs.declared.input.Input.{Input}
use Rattle.ring_records.specs.declared.key.Key.{Key}
use Rattle.ring_records.specs.declared.notice.Notice.{Notice}
use Rattle.ring_records.specs.Allowed.{IsAllowed}
use Rattle.ring_records.specs.History.{is_retired}
use Rattle.ring_records.specs.Lists.{EachAfter}
use Rattle.group_commit.specs.Content.{IsContent}

-- what node me of a ring of n knows by h, and what it knows once more inputs stand behind h, each allowed after those
-- before it
pub record AreLater (me n : ℕ) (h more : List Input) (list longer : List Notice) : Type 0 where
  pub allowed : EachAfter (IsAllowed me n) [] (h ++ more)
  pub before : IsContent me h list
  pub later : IsContent me (h ++ more) longer

-- it holds, or the key is retired
abbrev pub UnlessRetired : List Input → Key → Type 0 → Type 0
UnlessRetired h key P = P ⊎ (is_retired h key ≡ true)
