-- What a copy of the board keeps, and what it becomes.
use Rattle.std.specs.Prelude.{ℕ, ◌≡◌, List, [], ◌∷◌, ◌++◌, map}
use Rattle.ring_records.specs.declared.notice.Notice.{Notice}
use Rattle.decision_board.specs.declared.history.Front.{Front}
use Rattle.decision_board.specs.declared.store.Store.{Store}
use Rattle.decision_board.specs.declared.store.Entry.{Entry}
use Rattle.decision_board.specs.Leaders.{LeaderMap, FloorMap, taken_in}

-- its leaders and its floors, and the beginning of the history that they stand for
abbrev pub state_of : Store → LeaderMap × FloorMap × Front
state_of store = (store.leaders, store.floors, store.front)

abbrev pub after : LeaderMap × FloorMap × Front → Entry → LeaderMap × FloorMap × Front
after state entry = ((taken_in (state.0, state.1) entry.notice).0, (taken_in (state.0, state.1) entry.notice).1, entry.front)

-- The entries go on from the list ds of the history: the front of each is the history that ends with its notice.
unfoldable pub GoOn : ℕ → List Notice → List Entry → Type 0
GoOn history ds [] = Unit {0}
GoOn history ds (e ∷ es) = (e.front.mark.history ≡ history) × (e.front.mark.notices ≡ ds ++ e.notice ∷ []) × GoOn history (ds ++ e.notice ∷ []) es

abbrev pub notices_of : List Entry → List Notice
notices_of es = map (λ e. e.notice) es
