-- Which input node me of a ring of n may accept after h, room aside.
use Rattle.std.specs.Prelude.{ℕ, false, ◌≡◌, ◌^◌, ◌<◌, ◌≤◌, List, length, None}
use Rattle.ring_records.specs.declared.input.Input.{Input}
use Rattle.ring_records.specs.declared.input.Input.TheVariants.{Stand, Take, Acked, Retire}
use Rattle.ring_records.specs.declared.limits.TheConstants.{STANDS}
use Rattle.ring_records.specs.Emission.{sent}
use Rattle.ring_records.specs.History.{floor, touched, taken, credit, stands}
use Rattle.ring_records.specs.Leader.{leader, latest, term_of}
use Rattle.ring_records.specs.Message.{candidate_of}

-- the rule of the input's own kind
unfoldable pub IsInTurn : ℕ → ℕ → List Input → Input → Type 0
IsInTurn me n h (Stand key bid) = record {
  untouched : touched h key ≡ false;
  not_stale : (term : ℕ) → key.term < term → leader me h (record key { term = term }) ≡ None;
  few_stands : stands h < STANDS;
}
IsInTurn me n h (Take msg_no msg) = record {
  in_ring : (candidate_of msg).node ≤ n;
  next : msg_no ≡ length (taken h);
}
IsInTurn me n h (Acked upto) = record {
  above : credit h < upto;
  sent : upto ≤ length (sent me h);
}
IsInTurn me n h (Retire group new) = record {
  above : floor h group < new;
  decided : new ≤ term_of (latest me h group);
}

-- the input may come after h, whatever there is room for
pub record IsAllowed (me n : ℕ) (h : List Input) (x : Input) : Type 0 where
  pub few : length h < 2 ^ 56
  pub in_turn : IsInTurn me n h x
