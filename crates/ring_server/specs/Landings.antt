-- What is counted of what became durable.
use Rattle.std.specs.Prelude.{Bool, true, false}
use Rattle.ring_records.specs.declared.notice.Notice.{Notice}
use Rattle.ring_records.specs.declared.notice.Notice.TheVariants.{Decided, Retired}

-- it makes a leader known
abbrev pub names_a_leader : Notice → Bool
names_a_leader (Decided decision) = true
names_a_leader (Retired group floor) = false
