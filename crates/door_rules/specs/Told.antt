-- What a session stood for, and what its client tells of it.
use Rattle.std.specs.Prelude.{ℕ, List}
use Rattle.ring_records.specs.declared.key.Key.{Key}

-- a key that a session stood for, and the text that its client tells of it, empty where it tells none
pub record Told : Type 0 where
  pub key : Key
  pub text : List ℕ
