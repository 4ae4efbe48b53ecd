-- The order of the steps in a ring's folder: what has to be done before each, by a look back at those that were.
use Rattle.std.specs.Prelude.{ℕ, ◌≡◌, ◌⊎◌, List, ◌∷◌, ◌++◌}
use Rattle.std.specs.List.{Contains}
use Rattle.folder_plan.specs.declared.step.FolderStep.{FolderStep}
use Rattle.folder_plan.specs.declared.step.FolderStep.TheVariants.{Clear, Format, Name, Mark, Unmark, Unname, Sign, Unsign, Sync}

-- ---- what steps did

-- It was done, and what it did to a name is on the disk: a sync of the folder stands behind it.
pub record IsForGood (steps : List FolderStep) (step : FolderStep) : Type 0 where
  pub first : List FolderStep
  pub rest : List FolderStep
  pub done : steps ≡ first ++ step ∷ rest
  pub synced : Contains rest Sync

-- The new file of node i has all its bytes on the disk, and is still there under its first name.
pub record HasBytes (steps : List FolderStep) (i : ℕ) : Type 0 where
  pub first : List FolderStep
  pub rest : List FolderStep
  pub done : steps ≡ first ++ Format i ∷ rest
  pub kept : Contains rest (Clear i) → ⊥
  pub unnamed : Contains rest (Name i) → ⊥

-- All names of nodes are on the disk, also those of an earlier start: behind some sync of the folder none was given.
pub record HasAllNames (steps : List FolderStep) : Type 0 where
  pub first : List FolderStep
  pub rest : List FolderStep
  pub done : steps ≡ first ++ Sync ∷ rest
  pub none : (i : ℕ) → Contains rest (Name i) → ⊥

-- The ring's identity has all its bytes on the disk, and its name too, and is still there.
pub record HasIdentity (steps : List FolderStep) : Type 0 where
  pub first : List FolderStep
  pub rest : List FolderStep
  pub done : steps ≡ first ++ Sign ∷ rest
  pub synced : Contains rest Sync
  pub kept : Contains rest Unsign → ⊥

-- wherever these steps made `ring.made`, it was taken away for good behind that
abbrev pub IsUnmarked : List FolderStep → Type 0
IsUnmarked steps = (first rest : List FolderStep) → steps ≡ first ++ Mark ∷ rest → IsForGood rest Unmark

-- ---- the order

-- what has to be done before this step: no name comes before its bytes, nor `ring.made` before all names and the ring's
-- identity, and no name comes or goes, nor the identity, while `ring.made` may be there
abbrev pub MayFollow : List FolderStep → FolderStep → Type 0
MayFollow before (Name i) = HasBytes before i × IsUnmarked before
MayFollow before Mark = HasAllNames before × HasIdentity before
MayFollow before (Unname i) = IsUnmarked before
MayFollow before Unsign = IsUnmarked before
MayFollow before Sign = Unit {0}
MayFollow before (Clear i) = Unit {0}
MayFollow before (Format i) = Unit {0}
MayFollow before Unmark = Unit {0}
MayFollow before Sync = Unit {0}

-- behind these steps each step of the plan may be done in its turn
abbrev pub Follows : List FolderStep → List FolderStep → Type 0
Follows before plan = (first rest : List FolderStep) (step : FolderStep) → plan ≡ first ++ step ∷ rest → MayFollow (before ++ first) step

-- ---- what a plan is for

-- it makes the file of node i
abbrev pub IsOfNode : ℕ → FolderStep → Type 0
IsOfNode i step = (step ≡ Clear i) ⊎ ((step ≡ Format i) ⊎ (step ≡ Name i))

-- it takes back one of these steps, or is a sync
abbrev pub TakesBack : List FolderStep → FolderStep → Type 0
TakesBack begun (Clear i) = Contains begun (Format i)
TakesBack begun (Unname i) = Contains begun (Name i)
TakesBack begun Unmark = Contains begun Mark
TakesBack begun Unsign = Contains begun Sign
TakesBack begun Sign = ⊥
TakesBack begun Sync = Unit {0}
TakesBack begun (Format i) = ⊥
TakesBack begun (Name i) = ⊥
TakesBack begun Mark = ⊥

-- all that these steps left goes for good, and nothing else
pub record IsTakenBack (begun plan : List FolderStep) : Type 0 where
  pub mark : Contains begun Mark → IsForGood plan Unmark
  pub nodes : (i : ℕ) → Contains begun (Name i) → IsForGood plan (Unname i)
  pub files : (i : ℕ) → Contains begun (Format i) → IsForGood plan (Clear i)
  pub identity : Contains begun Sign → IsForGood plan Unsign
  pub alone : (step : FolderStep) → Contains plan step → TakesBack begun step
