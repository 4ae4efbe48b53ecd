-- Codes of what the chronicle of an inbox lists.
use Rattle.std.specs.Prelude.{◌≡◌, List}
use Rattle.std.specs.Coded.{Coded, codes, Coded-set}
use Rattle.ring_records.specs.declared.request.Request.{Request}
use Rattle.ring_post.specs.declared.chronicle.Entry.{Entry}

pub coded_entries : Coded (List Entry)
coded_entries = hlevel codes

pub coded_requests : Coded (List Request)
coded_requests = hlevel codes

-- such an equation has one proof at most
pub requests-prop : (a b : List Request) → IsProp (a ≡ b)
requests-prop a b = Coded-set coded_requests a b
