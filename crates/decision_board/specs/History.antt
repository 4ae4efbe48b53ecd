-- The history of a board: all notices that it took in, in order. It only grows, and who may add to it says what it is.
use Rattle.std.specs.Prelude.{ℕ, List}
use Rattle.std.specs.Coded.{Coded, codes}
use base.Fml.{Fml}
use base.Fraction.{full_share}
use base.Growing.{Order, prefixes, latest, at_least}
use Rattle.ring_records.specs.declared.notice.Notice.{Notice}

pub coded_notice : Coded Notice
coded_notice = hlevel codes

pub coded_notices : Coded (List Notice)
coded_notices = hlevel codes

-- lists that are only added to
abbrev pub histories : Order (List Notice)
histories = prefixes coded_notice

-- the history of this name is this, and is added to by who has this
abbrev pub right_owns : ℕ → List Notice → Fml
right_owns history notices = latest histories full_share history notices

-- the history of this name began with these notices once, and does so for good
abbrev pub mark_owns : ℕ → List Notice → Fml
mark_owns history notices = at_least histories history notices
