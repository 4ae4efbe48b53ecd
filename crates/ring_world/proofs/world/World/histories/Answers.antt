use Rattle.std.proofs.Common.{◌≡◌, ⊎_elim, inl, inr, Option, None, OnOk, ap, sym, subst, ◌∙◌}
use Rattle.std.proofs.lemmas.Result.{IfOk-weaker, IfErr-weaker}
use Rattle.ring_records.specs.declared.refusal.Refusal.{Refusal}
use Rattle.ring_audit.specs.Placement.{lists}
use Rattle.ring_world.specs.Dropped.{first_dropped, withheld}
use Rattle.ring_world.specs.Stage.{state_of}
use Rattle.ring_world.specs.Worlds.{IsWorld}
use Rattle.ring_world.proofs.Histories.{world_shape, withheld_is}
use Rattle.ring_world.proofs.world.World.histories.Goals as goal
use Rattle.ring_world.proofs.world.World.histories.Goals.{After-histories}

-- the ring that works is the world
same : (c : After-histories) → c.in-Working.ring ≡ c.args.self.now
same c = ap state_of (sym c.in-Working.is) ∙ c.self.view_is

held_back : (c : After-histories) → withheld c.args.self.now ≡ first_dropped c.in-Working.ring.ring.size c.in-Working.ring.ring.capacity c.in-Working.ring.ring.events
held_back c = ap withheld (sym (same c)) ∙ withheld_is c.in-Working.ring c.histories.ensures.works

pub returns-in-Working-clause-shape : goal.returns-in-Working-clause-shape
returns-in-Working-clause-shape c =
    let here = (goal.at.returns-in-Working-clause-shape c).After-histories in
    let world : IsWorld c.in-Working.ring = subst IsWorld (sym (same here)) (subst IsWorld c.self.view_is c.self.invariant) in
    IfOk-weaker c.histories.result _ _ (λ hs are. world_shape c.in-Working.ring world (lists hs.items) are) c.histories.ensures.lists

pub returns-in-Working-clause-given : goal.returns-in-Working-clause-given
returns-in-Working-clause-given c =
    subst (λ (o : Option Refusal). OnOk c.histories.result (o ≡ None)) (sym (held_back (goal.at.returns-in-Working-clause-given c).After-histories)) c.histories.ensures.given

pub returns-in-Working-clause-refused : goal.returns-in-Working-clause-refused
returns-in-Working-clause-refused c =
    let there = held_back (goal.at.returns-in-Working-clause-refused c).After-histories in
    IfErr-weaker c.histories.result _ _ (λ why cause. ⊎_elim (λ found. inr (there ∙ found)) (λ short. inl short.1) cause) c.histories.ensures.refused

pub returns-in-Working-clause-memory_last : goal.returns-in-Working-clause-memory_last
returns-in-Working-clause-memory_last c =
    let there = held_back (goal.at.returns-in-Working-clause-memory_last c).After-histories in
    IfErr-weaker c.histories.result _ _ (λ why last short. there ∙ last short) c.histories.ensures.memory
