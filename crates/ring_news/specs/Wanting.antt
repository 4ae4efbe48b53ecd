-- What a node wants.
use Rattle.std.specs.Prelude.{Bool, true, false, not, ◌||◌}
use Rattle.ring_news.specs.declared.wants.Wants.{Wants}

abbrev pub nothing : Wants
nothing = record { room = false; memory = false; stands = false }

-- something is wanted
abbrev pub are_some : Wants → Bool
are_some wants = (wants.room || wants.memory) || wants.stands

-- one of two is true, and not both
abbrev pub is_other : Bool → Bool → Bool
is_other true b = not b
is_other false b = b

-- what is wanted is not the same
abbrev pub differ : Wants → Wants → Bool
differ a b = (is_other a.room b.room || is_other a.memory b.memory) || is_other a.stands b.stands
