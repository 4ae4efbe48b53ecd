-- What the forms of a line are named, and what tells a line's level in each.
use Rattle.std.specs.Prelude.{ℕ, Bool, if◌then◌else◌, List, [], codes, Option, Some, None}
use Rattle.log_lines.specs.declared.form.LogForm.{LogForm}
use Rattle.log_lines.specs.declared.form.LogForm.TheVariants.{Plain, Journal, Time}
use Rattle.log_lines.specs.declared.level.Level.{Level}
use Rattle.log_lines.specs.declared.level.Level.TheVariants.{Error, Warning, Notice, Debug}

-- that which is said, else the journal's where lines go there
abbrev pub form_by : Option LogForm → Bool → LogForm
form_by (Some form) is_journal = form
form_by None is_journal = if is_journal then Journal else Plain

-- its name
abbrev pub form_name : LogForm → List ℕ
form_name Plain = codes "plain"
form_name Journal = codes "journal"
form_name Time = codes "time"

-- what tells the level: a number of syslog between angle brackets, or its word
abbrev pub mark_of : LogForm → Level → List ℕ
mark_of Plain level = []
mark_of Journal Error = codes "<3>"
mark_of Journal Warning = codes "<4>"
mark_of Journal Notice = codes "<6>"
mark_of Journal Debug = codes "<7>"
mark_of Time Error = codes "error "
mark_of Time Warning = codes "warning "
mark_of Time Notice = codes "notice "
mark_of Time Debug = codes "debug "
