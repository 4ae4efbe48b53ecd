-- What a ring's program is told next, and what is known behind that.
use Rattle.std.specs.Prelude.{ℕ, ◌+◌, ◌-◌, Bool, true, false, ◌||◌, if◌then◌else◌, List, drop, position, replicate, slice_get, slice_set, Option, Some, None, unwrap_or, option_map}
use Rattle.std.specs.Option.{option_or}
use Rattle.disk_model.specs.declared.system_fault.SystemFault.{SystemFault}
use Rattle.ring_news.specs.declared.book.Book.{Book}
use Rattle.ring_news.specs.declared.failure.Failure.{Failure}
use Rattle.ring_news.specs.declared.failure.Failure.TheVariants.{Absent, Due, Told}
use Rattle.ring_news.specs.declared.news.News.{News}
use Rattle.ring_news.specs.declared.news.News.TheVariants.{Failed, Happened, LeftOut, Look, Ended}
use Rattle.ring_news.specs.declared.wants.Wants.{Wants}
use Rattle.ring_news.specs.Happenings.{left_out, none_yet}
use Rattle.ring_news.specs.Wanting.{differ, nothing}

-- of a ring in which all is well, where all that happens is told or not
abbrev pub calm : Bool → Book
calm is_verbose = record {
  failures = replicate 16 Absent;
  wants = replicate 16 nothing;
  has_changed = false;
  events = none_yet is_verbose;
  has_ended = false;
}

-- the failure is to be told
abbrev pub is_due : Failure → Bool
is_due Absent = false
is_due (Due cause) = true
is_due Told = false

-- what the system answered, of a failure that is to be told
abbrev pub cause_of : Failure → Option SystemFault
cause_of Absent = None
cause_of (Due cause) = cause
cause_of Told = None

-- behind one more word of it: the first cause that is known stays, and what was told
abbrev pub again : Failure → Option SystemFault → Failure
again Absent cause = Due cause
again (Due known) cause = Due (option_or known cause)
again Told cause = Told

-- how it stands with the failure of the node at this place
abbrev pub failure_at : List Failure → ℕ → Failure
failure_at failures at = unwrap_or (slice_get failures at) Absent

-- behind the failure of a node
abbrev pub failing : Book → ℕ → Option SystemFault → Book
failing book node cause = record book { failures = slice_set book.failures (node - 1) (again (failure_at book.failures (node - 1)) cause) }

-- what the node wants
abbrev pub wants_of : Book → ℕ → Wants
wants_of book node = unwrap_or (slice_get book.wants (node - 1)) nothing

-- where the node wants this from now on: something changed where that differs, or before
abbrev pub wanting : Book → ℕ → Wants → Book
wanting book node wants = record book { wants = slice_set book.wants (node - 1) wants; has_changed = book.has_changed || differ (wants_of book node) wants }

-- the failure of the node at this place, the first of all places being that of node 1
abbrev pub failure_news : List Failure → ℕ → News
failure_news failures at = Failed (at + 1) (cause_of (failure_at failures at))

-- what is to be told: of the first node whose failure is to be told
abbrev pub failure_due : Book → Option News
failure_due book = option_map (failure_news book.failures) (position is_due book.failures)

-- that something changed since the last look
abbrev pub look_due : Book → Option News
look_due book = if book.has_changed then Some Look else None

-- the first that waits of what has happened
abbrev pub event_due : Book → Option News
event_due book = option_map Happened (slice_get book.events.waiting 0)

-- how many were left out
abbrev pub count_due : Book → Option News
count_due book = option_map LeftOut (left_out book.events.quota)

-- that no node runs any more
abbrev pub end_due : Book → Option News
end_due book = if book.has_ended then Some Ended else None

-- what is told next: the first of these that is to be told
abbrev pub news_of : Book → Option News
news_of book = option_or (failure_due book) (option_or (look_due book) (option_or (event_due book) (option_or (count_due book) (end_due book))))

-- behind what is told: that is not due any more, and all else stays
abbrev pub told : Book → Option News → Book
told book None = book
told book (Some (Failed node cause)) = record book { failures = slice_set book.failures (node - 1) Told }
told book (Some Look) = record book { has_changed = false }
told book (Some (Happened event)) = record book { events = record book.events { waiting = drop 1 book.events.waiting } }
told book (Some (LeftOut count)) = record book { events = record book.events { quota = record book.events.quota { due = 0 } } }
told book (Some Ended) = book
