-- What is told of the troubles of a node at one look.
use Rattle.std.specs.Prelude.{ℕ, Bool, true, false, not, ◌||◌, ◌&&◌, Option, Some, None}
use Rattle.log_lines.specs.declared.spell.Spell.{Spell}
use Rattle.log_lines.specs.declared.spell.Turn.{Turn}
use Rattle.log_lines.specs.declared.spell.Turn.TheVariants.{Begins, Ends}
use Rattle.log_lines.specs.Spells.{spell_after, turn_of}
use Rattle.ring_news.specs.declared.troubles.NodeTroubles.{NodeTroubles}
use Rattle.ring_news.specs.declared.troubles.WantsTold.{WantsTold}
use Rattle.ring_news.specs.declared.wants.Wants.{Wants}

abbrev pub nothing_told : WantsTold
nothing_told = record { full = false; memory = false; at_limit = false; well_again = false }

abbrev pub never : Spell
never = record { is_told = false; last = None }

abbrev pub no_troubles : NodeTroubles
no_troubles = record { hang = never; room = never; memory = never; stands = never; has_failed = false }

abbrev pub is_beginning : Option Turn → Bool
is_beginning None = false
is_beginning (Some Begins) = true
is_beginning (Some Ends) = false

abbrev pub is_end : Option Turn → Bool
is_end None = false
is_end (Some Begins) = false
is_end (Some Ends) = true

-- a trouble is told that is there, or is over, at this look
abbrev pub begins_now : Spell → Bool → ℕ → Bool
begins_now spell is_there second = is_beginning (turn_of spell is_there second)

abbrev pub ends_now : Spell → Bool → ℕ → Bool
ends_now spell is_there second = is_end (turn_of spell is_there second)

-- one of its wants was told, and is over at this look
abbrev pub one_ends : NodeTroubles → Wants → ℕ → Bool
one_ends node wants second = (ends_now node.room wants.room second || ends_now node.memory wants.memory second) || ends_now node.stands wants.stands second

-- one of its wants is told as there
abbrev pub is_one_told : NodeTroubles → Bool
is_one_told node = (node.room.is_told || node.memory.is_told) || node.stands.is_told

-- what is known behind a look at what the node wants
abbrev pub looked_at : NodeTroubles → Wants → ℕ → NodeTroubles
looked_at node wants second = record node {
  room = spell_after node.room wants.room second;
  memory = spell_after node.memory wants.memory second;
  stands = spell_after node.stands wants.stands second;
}

-- what is told then: each want that begins to be told, and that the node is well again where one ends and none is told any more
abbrev pub told_of_wants : NodeTroubles → Wants → ℕ → WantsTold
told_of_wants node wants second = record {
  full = begins_now node.room wants.room second;
  memory = begins_now node.memory wants.memory second;
  at_limit = begins_now node.stands wants.stands second;
  well_again = one_ends node wants second && not (is_one_told (looked_at node wants second));
}
