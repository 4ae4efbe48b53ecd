-- Why a legal run has one leader for a key: its parts are linked, and linked histories agree.
use Rattle.std.proofs.Common.{ℕ, ◌++◌, ◌≡◌, ◌≢◌, true, List, Some, subst}
use Rattle.std.specs.List.{Contains}
use Rattle.ring_records.specs.declared.candidate.Candidate.{Candidate}
use Rattle.ring_records.specs.declared.input.Input.{Input}
use Rattle.ring_records.specs.declared.input.Input.TheVariants.{Stand}
use Rattle.ring_records.specs.declared.key.Key.{Key}
use Rattle.ring_records.specs.Leader.{first_leader}
use Rattle.ring_records.specs.Order.{is_less}
use Rattle.ring_records.specs.Ring.{IsLegal}
use Rattle.ring_records.specs.Part.{part}
use Rattle.ring_records.proofs.Growth.{first_leader-kept}
use Rattle.ring_records.proofs.History.{leader-shown}
use Rattle.ring_records.proofs.OneKey.{allowed_facts}
use Rattle.ring_records.proofs.Parts.{legal_parts}
use Rattle.history_laws.proofs.Chain as linked
use Rattle.history_laws.proofs.Runs.{runs}
use Rattle.ring_world.specs.Agreement.{IsKnown}

-- c is the first leader that the part of some node shows for the key
abbrev pub IsShown : ℕ → List (ℕ × Input) → Key → Candidate → Type 0
IsShown n run key c = linked.IsShown n (part run) key c

module _ (n : ℕ) (run : List (ℕ × Input)) (key : Key) (c : Candidate) (legal : IsLegal n run) where
  -- a part that shows a leader is that of a node of the ring, for it took a message
  pub shown : (i : ℕ) → first_leader i (part run i) key ≡ Some c → IsShown n run key c
  shown i shows =
      let parts = legal_parts n run legal in
      let t = linked.took i key (part run i) c ((allowed_facts i n key (part run i) (parts.allowed i)).leads c shows) in
      record { node = i; is = parts.takers i t.0 t.1; shows = shows }

  -- what the first inputs of a part show, all of it shows
  pub shown_by : (i : ℕ) (inputs rest : List Input) → inputs ++ rest ≡ part run i → first_leader i inputs key ≡ Some c → IsShown n run key c
  shown_by i inputs rest front shows = shown i (subst (λ (h : List Input). first_leader i h key ≡ Some c) front (first_leader-kept i inputs rest key c shows))

  -- a leader that is known is shown
  pub known_shown : IsKnown run key c → IsShown n run key c
  known_shown k = shown_by k.node k.inputs k.rest k.front (leader-shown k.node k.inputs key c k.leads)

  pub stands : IsShown n run key c → Contains run (c.node, Stand key c.bid)
  stands k = (legal_parts n run legal).in_run c.node (Stand key c.bid) (linked.stands n (part run) key c (runs n run legal) k)

  pub agree : (d : Candidate) → IsShown n run key c → IsShown n run key d → c ≡ d
  agree d j k = linked.agree n (part run) key c d (runs n run legal) j k

  pub greatest : (d : Candidate) → IsShown n run key c → Contains run (d.node, Stand key d.bid) → d ≢ c → is_less d c ≡ true
  greatest d k s ne =
      let parts = legal_parts n run legal in
      let mine = parts.in_part d.node (Stand key d.bid) s in
      linked.greatest n (part run) key c d (runs n run legal) k (parts.in_ring d.node (Stand key d.bid) mine) mine ne
