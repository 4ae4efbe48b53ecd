-- What a hub's tie knows of its desk, and what the halves of that and the tokens of its history own.
use Rattle.std.specs.Prelude.{ℕ, false, List, []}
use Rattle.std.specs.Coded.{Coded, codes}
use base.Fml.{Fml, fsep, fobs, fauth}
use base.Growing.{Order, prefixes, latest, at_least}
use base.Share.{quarter, three_quarters}
use Rattle.ring_records.specs.declared.input.Input.{Input}
use Rattle.ring_records.specs.Admission.{fresh}
use Rattle.gated_journal.specs.Batch.{Numbered, numbered}
use Rattle.group_commit.specs.Next.{Durable, durable_part}
use Rattle.group_commit.specs.Desk.{DeskKept}
use Rattle.commit_hub.specs.Desks.{flying_part, is_done}
use Rattle.commit_hub.specs.Ties.{Names, TieView}

-- all this of a desk
abbrev pub part_of : DeskKept → TieView
part_of desk = record { durable = durable_part desk; flying = flying_part desk; failed = desk.view.failed; done = is_done desk }

-- ---- the halves: whoever has both may write, and each alone knows what was written last. Of the list of the durable inputs
-- each has a share: with both it is added to, and nothing is ever taken from it.

pub coded_names : Coded Names
coded_names = hlevel codes

pub coded_durable : Coded Durable
coded_durable = hlevel codes

pub coded_flying : Coded Numbered
coded_flying = hlevel codes

pub coded_view : Coded TieView
coded_view = hlevel codes

pub coded_input : Coded Input
coded_input = hlevel codes

pub coded_inputs : Coded (List Input)
coded_inputs = hlevel codes

abbrev pub nothing : TieView
nothing = record { durable = record { base = fresh; inputs = [] }; flying = numbered 0 0 []; failed = false; done = false }

-- lists that are only added to
abbrev pub histories : Order (List Input)
histories = prefixes coded_input

abbrev pub held_owns : Names → TieView → Fml
held_owns names view = fsep (fauth names.value (coded_view.code view)) (latest histories three_quarters names.history view.durable.inputs)

abbrev pub known_owns : Names → TieView → Fml
known_owns names view = fsep (fobs names.value (coded_view.code view)) (latest histories quarter names.history view.durable.inputs)

-- the list began with these inputs when the token was made, and does so for good
abbrev pub begun_owns : ℕ → List Input → Fml
begun_owns history inputs = at_least histories history inputs
