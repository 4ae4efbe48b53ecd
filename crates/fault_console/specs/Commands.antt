-- The commands of a script: the form of each, and what it asks.
use Rattle.std.specs.Prelude.{ℕ, Bool, true, false, ◌||◌, ◌&&◌, List, [], ◌∷◌, length, slice_index, nat_lt, ◌==◌, codes}
use Rattle.std.specs.List.{list_all}
use Rattle.disk_model.specs.declared.memory.Tear.TheVariants.{Old, New, Fill}
use Rattle.line_words.specs.Forms.{Fixed, Number, Name, Form, bid, term}
use Rattle.ring_records.specs.declared.limits.TheConstants.{GREATEST_CAPACITY, LEAST_CAPACITY}
use Rattle.ring_records.specs.declared.key.Key.{Key}
use Rattle.ring_records.specs.declared.request.Request.{Request}
use Rattle.ring_records.specs.declared.request.Request.TheVariants.{Stand, Retire, Who, Latest}
use Rattle.ring_world.specs.declared.event.Event.TheVariants.{Submit, Flush, Deliver, DeliverAll, Credit, Crash, Stop, Checkpoint, StopCheckpoint}
use Rattle.fault_console.specs.declared.commands.ConsoleCommand.{ConsoleCommand}
use Rattle.fault_console.specs.declared.commands.ConsoleCommand.TheVariants as ask
use Rattle.fault_console.specs.declared.commands.RingShape.{RingShape}

-- Lines without a word, and lines whose first byte is '#', print nothing.
abbrev pub is_silent : List ℕ → Bool
is_silent line = (nat_lt 0 (length line) && (slice_index line 0 == 35)) || list_all (λ b. b == 32) line

-- ---- before a ring is made: how it is to be

-- of each node of a ring, in bytes, where none is named
abbrev pub default_capacity : ℕ
default_capacity = 65536

abbrev pub shape : Bool → ℕ → ℕ → RingShape
shape eager nodes capacity = record { nodes = nodes; eager = eager; capacity = capacity }

unfoldable pub shapes : List (Form RingShape)
shapes =
    let ring = Fixed (codes "ring") in
    let nodes = Number 2 16 in
    let eager = Fixed (codes "eager") in
    let lazy = Fixed (codes "lazy") in
    let capacity = Number LEAST_CAPACITY GREATEST_CAPACITY in
    (ring ∷ nodes ∷ [], λ n. shape true n default_capacity)
    ∷ (ring ∷ nodes ∷ eager ∷ [], λ n. shape true n default_capacity)
    ∷ (ring ∷ nodes ∷ lazy ∷ [], λ n. shape false n default_capacity)
    ∷ (ring ∷ nodes ∷ eager ∷ capacity ∷ [], shape true)
    ∷ (ring ∷ nodes ∷ lazy ∷ capacity ∷ [], shape false)
    ∷ []

-- ---- afterwards: what is asked of a ring of so many nodes

abbrev pub requested : ℕ → Request → ConsoleCommand
requested node request = ask.Event (Submit node request)

abbrev pub key : List ℕ → ℕ → Key
key group term = record { group = group; term = term }

unfoldable pub commands : ℕ → List (Form ConsoleCommand)
commands nodes =
    let node = Number 1 nodes in
    let count = Number 0 9999999999 in
    let call = Number 1 4 in
    let checkpoint = Fixed (codes "checkpoint") in
    let checkpoint_call = Number 1 6 in
    (Fixed (codes "stand") ∷ node ∷ Name ∷ term ∷ bid ∷ [], λ i g t b. requested i (Stand (key g t) b))
    ∷ (Fixed (codes "retire") ∷ node ∷ Name ∷ term ∷ [], λ i g f. requested i (Retire g f))
    ∷ (Fixed (codes "who") ∷ node ∷ Name ∷ term ∷ [], λ i g t. requested i (Who (key g t)))
    ∷ (Fixed (codes "latest") ∷ node ∷ Name ∷ [], λ i g. requested i (Latest g))
    ∷ (Fixed (codes "deliver") ∷ Fixed (codes "all") ∷ [], ask.Event DeliverAll)
    ∷ (Fixed (codes "deliver") ∷ node ∷ count ∷ [], λ i no. ask.Event (Deliver i no))
    ∷ (Fixed (codes "credit") ∷ node ∷ count ∷ [], λ i upto. ask.Event (Credit i upto))
    ∷ (Fixed (codes "flush") ∷ node ∷ [], λ i. ask.Event (Flush i))
    ∷ (checkpoint ∷ node ∷ [], λ i. ask.Event (Checkpoint i))
    ∷ (Fixed (codes "crash") ∷ node ∷ [], λ i. ask.Event (Crash i))
    ∷ (Fixed (codes "stop") ∷ node ∷ call ∷ Fixed (codes "old") ∷ [], λ i k. ask.Event (Stop i k Old))
    ∷ (Fixed (codes "stop") ∷ node ∷ call ∷ Fixed (codes "new") ∷ [], λ i k. ask.Event (Stop i k New))
    ∷ (Fixed (codes "stop") ∷ node ∷ call ∷ Fixed (codes "fill") ∷ Number 0 255 ∷ [], λ i k b. ask.Event (Stop i k (Fill b)))
    ∷ (Fixed (codes "stop") ∷ node ∷ checkpoint ∷ checkpoint_call ∷ Fixed (codes "old") ∷ [], λ i k. ask.Event (StopCheckpoint i k Old))
    ∷ (Fixed (codes "stop") ∷ node ∷ checkpoint ∷ checkpoint_call ∷ Fixed (codes "new") ∷ [], λ i k. ask.Event (StopCheckpoint i k New))
    ∷ (Fixed (codes "stop") ∷ node ∷ checkpoint ∷ checkpoint_call ∷ Fixed (codes "fill") ∷ Number 0 255 ∷ [], λ i k b. ask.Event (StopCheckpoint i k (Fill b)))
    ∷ (Fixed (codes "show") ∷ node ∷ [], λ i. ask.Show i)
    ∷ (Fixed (codes "audit") ∷ [], ask.Audit)
    ∷ []
