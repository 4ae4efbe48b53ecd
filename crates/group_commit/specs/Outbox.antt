-- What an outbox holds, where a node knows s by its durable inputs.
use Rattle.std.specs.Prelude.{ℕ, ◌≡◌, ◌+◌, ◌<◌, ◌≤◌, nat_lt, if◌then◌else◌, List, [], ◌∷◌, None, vec_len, vec_capacity}
use Rattle.std.specs.List.{filter_map}
use Rattle.ring_records.specs.declared.input.Input.{Input}
use Rattle.ring_records.specs.declared.notice.Notice.{Notice}
use Rattle.ring_records.specs.declared.packet.Packet.{Packet}
use Rattle.ring_records.specs.declared.packet.Packet.TheVariants.{Credit}
use Rattle.ring_records.specs.declared.summary.Summary.{Summary}
use Rattle.ring_records.specs.Known.{Objects, stepped, after}
use Rattle.ring_records.specs.Lists.{EachAfter}
use Rattle.neighbour_link.specs.Outlink.{sent_count}
use Rattle.node_core.specs.Brought.{brought}
use Rattle.node_core.specs.declared.effects.Effects.{Effects}
use Rattle.group_commit.specs.declared.landed.Landed.{Landed}
use Rattle.group_commit.specs.declared.outbox.Outbox.{Outbox}
use Rattle.group_commit.specs.declared.released.Released.{Released}

-- ---- what inputs bring

-- nothing is against each of these inputs after those before it, where node me of a ring of n knows s before the first
abbrev pub AreFree : ℕ → ℕ → Summary → List Input → Type 0
AreFree me n s l = EachAfter (λ before x. Objects n (after me s before) x None) [] l

-- what each of the inputs l brings in turn, where node me knows s before the first
unfoldable pub brought_after : ℕ → Summary → List Input → List Effects
brought_after me s [] = []
brought_after me s (x ∷ l) = brought me s x ∷ brought_after me (stepped me s x) l

-- the messages among it
abbrev pub carried : List Effects → List Packet
carried effects = filter_map (λ (e : Effects). e.carry) effects

-- the notices among it
abbrev pub told_in : List Effects → List Notice
told_in effects = filter_map (λ (e : Effects). e.notice) effects

-- one credit of all messages that are taken now, where more are than before
abbrev pub credit_since : ℕ → ℕ → List Packet
credit_since before now = if nat_lt before now then Credit now ∷ [] else []

-- ---- what is kept

-- it has what a node that knows s may release
pub record Keeps (released : Released) (s : Summary) : Type 0 where
  pub credited : released.link.link.credited ≡ s.credit
  pub window : released.link.link.window ≡ s.window
  pub sent : sent_count released.link.link ≡ s.sent
  pub taken : released.taken ≡ s.taken
  -- no more was sent, and no more was taken, than there were inputs
  pub sent_few : s.sent ≤ s.inputs
  pub taken_few : s.taken ≤ s.inputs

-- so many inputs more take no memory
abbrev pub HasRoom : Released → ℕ → Type 0
HasRoom released count = count ≤ released.link.room

-- what so many inputs bring takes no memory
pub record IsReady (landed : Landed) (count : ℕ) : Type 0 where
  pub packets : vec_len landed.packets + (count + 1) ≤ vec_capacity landed.packets
  pub notices : vec_len landed.notices + count ≤ vec_capacity landed.notices
  pub again : vec_len landed.again + count ≤ vec_capacity landed.again

-- nothing landed yet
pub record IsBlank (landed : Landed) : Type 0 where
  pub packets : landed.packets.items ≡ []
  pub notices : landed.notices.items ≡ []
  pub again : landed.again.items ≡ []

-- It has what the durable inputs, by which node me knows s, let it release, and what each input of l brings, which wait
-- behind them. So many of these fly, and land without memory.
pub record Holds (me : ℕ) (outbox : Outbox) (s : Summary) (l : List Input) (flying : ℕ) : Type 0 where
  pub released : Keeps outbox.released s
  pub waiting : outbox.waiting.items ≡ brought_after me s l
  pub room : HasRoom outbox.released flying
  pub blank : IsBlank outbox.landing
  pub ready : 0 < flying → IsReady outbox.landing flying
  pub count : 0 < flying → outbox.landing.count ≡ flying

-- ---- what becomes of it

-- it has what it had, but these effects wait
pub record IsWith (old new : Outbox) (effects : List Effects) : Type 0 where
  pub released : new.released ≡ old.released
  pub waiting : new.waiting.items ≡ effects
  pub landing : new.landing ≡ old.landing

-- it has what it had, and memory for what so many inputs bring, which fly
pub record IsLoaded (old new : Outbox) (flying : ℕ) : Type 0 where
  pub released : (s : Summary) → Keeps old.released s → Keeps new.released s
  pub waiting : new.waiting.items ≡ old.waiting.items
  pub room : HasRoom new.released flying
  pub blank : IsBlank new.landing
  pub ready : IsReady new.landing flying
  pub count : new.landing.count ≡ flying

-- it has what it had, and nothing flies
pub record IsStill (old new : Outbox) : Type 0 where
  pub released : (s : Summary) → Keeps old.released s → Keeps new.released s
  pub waiting : new.waiting.items ≡ old.waiting.items
  pub blank : IsBlank old.landing → IsBlank new.landing
