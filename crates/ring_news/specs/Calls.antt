-- What is told over any calls of a book.
use Rattle.std.specs.Prelude.{ℕ, ◌==◌, Bool, true, false, List, [], ◌∷◌, Option, None}
use Rattle.std.specs.List.{cons_option}
use Rattle.disk_model.specs.declared.system_fault.SystemFault.{SystemFault}
use Rattle.log_lines.specs.Quotas.{begun}
use Rattle.ring_news.specs.declared.book.Book.{Book}
use Rattle.ring_news.specs.declared.event.Event.{Event}
use Rattle.ring_news.specs.declared.news.News.{News}
use Rattle.ring_news.specs.declared.news.News.TheVariants.{Failed, Happened, LeftOut, Look, Ended}
use Rattle.ring_news.specs.declared.wants.Wants.{Wants}
use Rattle.ring_news.specs.Books.{failing, news_of, told, wanting}
use Rattle.ring_news.specs.Happenings.{heard}

-- a call that changes a book, with what it is given
pub data Call : Type 0 where
  fail : ℕ → Option SystemFault → Call
  want : ℕ → Wants → Call
  hear : Event → Call
  begin_second : Call
  end : Call
  next : Call

-- a second begins
abbrev pub in_next_second : Book → Book
in_next_second book = record book { events = record book.events { quota = begun book.events.quota } }

-- no node runs any more
abbrev pub ended : Book → Book
ended book = record (in_next_second book) { has_ended = true }

-- the book behind a call
abbrev pub behind : Book → Call → Book
behind book (fail node cause) = failing book node cause
behind book (want node wants) = wanting book node wants
behind book (hear event) = record book { events = heard book.events event }
behind book begin_second = in_next_second book
behind book end = ended book
behind book next = told book (news_of book)

-- what a call tells
abbrev pub news_by : Book → Call → Option News
news_by book (fail node cause) = None
news_by book (want node wants) = None
news_by book (hear event) = None
news_by book begin_second = None
news_by book end = None
news_by book next = news_of book

-- all that calls tell which follow one another
abbrev pub all_news : Book → List Call → List News
all_news book [] = []
all_news book (call ∷ calls) = cons_option (news_by book call) (all_news (behind book call) calls)

-- it is told that this node has failed
abbrev pub is_failure_of : ℕ → News → Bool
is_failure_of node (Failed other cause) = node == other
is_failure_of node (Happened event) = false
is_failure_of node (LeftOut count) = false
is_failure_of node Look = false
is_failure_of node Ended = false
