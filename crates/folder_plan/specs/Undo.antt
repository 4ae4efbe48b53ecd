-- Of what steps a plan is put together that takes others back.
use Rattle.std.specs.Prelude.{List, [], ◌∷◌, Option, Some, None, Bool, true, false, if◌then◌else◌}
use Rattle.std.specs.List.{filter_map, list_any}
use Rattle.folder_plan.specs.declared.step.FolderStep.{FolderStep}
use Rattle.folder_plan.specs.declared.step.FolderStep.TheVariants.{Clear, Format, Name, Mark, Unmark, Unname, Sign, Unsign, Sync}

-- what takes back a step that left a file of a node, or of the ring's identity
abbrev pub undone : FolderStep → Option FolderStep
undone (Format i) = Some (Clear i)
undone (Name i) = Some (Unname i)
undone Sign = Some Unsign
undone Unsign = None
undone (Clear i) = None
undone (Unname i) = None
undone Mark = None
undone Unmark = None
undone Sync = None

-- it makes `ring.made`
abbrev pub is_mark : FolderStep → Bool
is_mark Mark = true
is_mark (Format i) = false
is_mark (Name i) = false
is_mark (Clear i) = false
is_mark (Unname i) = false
is_mark Sign = false
is_mark Unsign = false
is_mark Unmark = false
is_mark Sync = false

-- `ring.made` goes first, for good
abbrev pub unmarking : List FolderStep → List FolderStep
unmarking begun = if list_any is_mark begun then Unmark ∷ Sync ∷ [] else []

-- and then the files of nodes, and of the identity
abbrev pub unnaming : List FolderStep → List FolderStep
unnaming begun = filter_map undone begun
