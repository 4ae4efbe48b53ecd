-- What a target asks, by a look at its bytes.
use Rattle.std.specs.Prelude.{ℕ, ◌==◌, ◌+◌, if◌then◌else◌, List, take, drop, position, codes, Option, Some, None, option_and_then, ok_or, Result, Ok, Err}
use Rattle.std.specs.Str.{bytes_eq}
use Rattle.line_words.specs.Forms.{name_word, number_word}
use Rattle.line_words.specs.Words.{behind}
use Rattle.ring_status.specs.declared.status.Status.{Status}
use Rattle.ring_status.specs.declared.status.Status.TheVariants as status
use Rattle.ring_status.specs.declared.target.Target.{Target}
use Rattle.ring_status.specs.declared.target.Target.TheVariants as ask

-- what stands before the byte, and what stands behind it where it is there
abbrev pub parts : Option ℕ → List ℕ → List ℕ × Option (List ℕ)
parts None text = (text, None)
parts (Some at) text = (take at text, Some (drop (at + 1) text))

unfoldable pub cut_at : ℕ → List ℕ → List ℕ × Option (List ℕ)
cut_at byte text = parts (position (λ b. b == byte) text) text

abbrev pub found : {A E : Type 0} → Result A E → Option A
found (Ok x) = Some x
found (Err e) = None

-- a number from 1 to 16
abbrev pub node_word : List ℕ → Option ℕ
node_word word = found (number_word 1 16 word)

abbrev pub group_word : List ℕ → Option (List ℕ)
group_word word = found (name_word word)

-- `node=I`
abbrev pub node_in : List ℕ → Option ℕ
node_in parameter = option_and_then node_word (behind (codes "node=") parameter)

-- a number from low to high behind this front
abbrev pub number_in : List ℕ → ℕ → ℕ → List ℕ → Option ℕ
number_in front low high parameter = option_and_then (λ word. found (number_word low high word)) (behind front parameter)

-- `above=T`
abbrev pub above_in : List ℕ → Option ℕ
above_in parameter = number_in (codes "above=") 0 999999999 parameter

-- `held=T`
abbrev pub held_in : List ℕ → Option ℕ
held_in parameter = number_in (codes "held=") 0 999999999 parameter

-- `wait=S`
abbrev pub wait_in : List ℕ → Option ℕ
wait_in parameter = number_in (codes "wait=") 0 60 parameter

-- `after=GROUP`
abbrev pub after_in : List ℕ → Option (List ℕ)
after_in parameter = option_and_then group_word (behind (codes "after=") parameter)

-- ---- pages

abbrev pub page_by_one : List ℕ → Option Target
page_by_one parameter = by (node_in parameter) where
  by : Option ℕ → Option Target
  by (Some node) = Some (ask.Leaders node None)
  by None = option_and_then (λ after. Some (ask.Leaders 1 (Some after))) (after_in parameter)

abbrev pub page_by_two : List ℕ → List ℕ → Option Target
page_by_two first second =
    option_and_then (λ node. option_and_then (λ after. Some (ask.Leaders node (Some after))) (after_in second)) (node_in first)

abbrev pub page_by : List ℕ × Option (List ℕ) → Option Target
page_by (only, None) = page_by_one only
page_by (first, Some second) = page_by_two first second

-- those of a query, which has one parameter or two
abbrev pub page_of : Option (List ℕ) → Option Target
page_of None = Some (ask.Leaders 1 None)
page_of (Some query) = page_by (cut_at 38 query)

-- what is waited for so many seconds: the next leader above T, of `above=T`, or the end of that of T, of `held=T`
abbrev pub waited : List ℕ → ℕ → List ℕ → ℕ → Option Target
waited group node first wait = by (above_in first) where
  by : Option ℕ → Option Target
  by (Some above) = Some (ask.NextOf node group above wait)
  by None = option_and_then (λ held. Some (ask.HeldOf node group held wait)) (held_in first)

-- the same of two parameters, the second of which is `wait=S`
abbrev pub next_of : List ℕ → ℕ → List ℕ → List ℕ → Option Target
next_of group node first second = option_and_then (λ wait. waited group node first wait) (wait_in second)

-- the same of a query without its node
abbrev pub next_in : List ℕ → ℕ → List ℕ × Option (List ℕ) → Option Target
next_in group node (only, None) = None
next_in group node (first, Some second) = next_of group node first second

-- of a query of two parameters or more, the first of which may name the node
abbrev pub next_by : List ℕ → List ℕ → List ℕ → Option Target
next_by group first rest = by (node_in first) where
  by : Option ℕ → Option Target
  by (Some node) = next_in group node (cut_at 38 rest)
  by None = next_of group 1 first rest

abbrev pub leader_by : List ℕ → List ℕ × Option (List ℕ) → Option Target
leader_by group (only, None) = option_and_then (λ node. Some (ask.LeaderOf node group)) (node_in only)
leader_by group (first, Some rest) = next_by group first rest

-- what is asked of a group by a query, if there is one
abbrev pub asked_of : List ℕ → Option (List ℕ) → Option Target
asked_of group None = Some (ask.LeaderOf 1 group)
asked_of group (Some query) = leader_by group (cut_at 38 query)

abbrev pub leader_of : List ℕ → Option (List ℕ) → Option Target
leader_of name query = option_and_then (λ group. asked_of group query) (group_word name)

-- the page of a group for people
abbrev pub page_for : List ℕ → Option Target
page_for name = option_and_then (λ group. Some (ask.Group group)) (group_word name)

abbrev pub leader_page : Option (List ℕ) → Option (List ℕ) → Result Target Status
leader_page None query = Err status.NotFound
leader_page (Some name) query = ok_or (leader_of name query) status.BadRequest

-- the page of a group where a name stands behind `/groups/`, and else what a leader's page is
abbrev pub group_page : Option (List ℕ) → Result Target Status → Result Target Status
group_page None otherwise = otherwise
group_page (Some name) otherwise = ok_or (page_for name) status.BadRequest

abbrev pub at_path : List ℕ × Option (List ℕ) → Result Target Status
at_path (path, query) =
    if bytes_eq path (codes "/live") then Ok ask.Live
    else if bytes_eq path (codes "/ready") then Ok ask.Ready
    else if bytes_eq path (codes "/health") then Ok ask.Health
    else if bytes_eq path (codes "/status") then Ok ask.Status
    else if bytes_eq path (codes "/metrics") then Ok ask.Metrics
    else if bytes_eq path (codes "/leaders") then ok_or (page_of query) status.BadRequest
    else if bytes_eq path (codes "/") then Ok ask.Page
    else group_page (behind (codes "/groups/") path) (leader_page (behind (codes "/leaders/") path) query)

-- The path of a target ends at its first `?`, behind which its query stands.
unfoldable pub target_of : List ℕ → Result Target Status
target_of target = at_path (cut_at 63 target)
