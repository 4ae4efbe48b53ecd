-- A node that was opened with the summary of a past: what its inputs since are of the whole history.
use Rattle.std.specs.Prelude.{ℕ, ◌≡◌, ◌+◌, List, [], ◌++◌, length}
use Rattle.std.specs.Option.{option_map}
use Rattle.ring_records.specs.declared.base.Base.{Base}
use Rattle.ring_records.specs.declared.input.Input.{Input}
use Rattle.ring_records.specs.declared.summary.Summary.{Summary}
use Rattle.ring_records.specs.Allowed.{IsAllowed}
use Rattle.ring_records.specs.Lists.{EachAfter}
use Rattle.ring_records.specs.Member.{Member}
use Rattle.ring_records.specs.States.{NodeState}
use Rattle.ring_records.specs.Summary.{summary}

-- the summary is that of these inputs, each of which was allowed after those before it
pub record IsPast (m : Member) (opening : Summary) (past : List Input) : Type 0 where
  pub summed : opening ≡ summary m.node past
  pub allowed : EachAfter (IsAllowed m.node m.n) [] past

-- the same area, where so many inputs more are counted before its own
abbrev pub moved : ℕ → Base → Base
moved k b = record b { inputs = k + b.inputs }

-- the state behind the past
abbrev pub shifted : List Input → NodeState → NodeState
shifted past s = record {
  inputs = past ++ s.inputs;
  durable = length past + s.durable;
  flying = length past + s.flying;
  base = moved (length past) s.base;
  checkpoint = option_map (moved (length past)) s.checkpoint;
}
