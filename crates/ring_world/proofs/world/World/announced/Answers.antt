use Rattle.std.proofs.Common.{◌≡◌, ap, ◌∙◌, subst}
use Rattle.std.specs.List.{Contains}
use Rattle.ring_records.specs.declared.key.Key.{Key}
use Rattle.ring_world.specs.Announced.{announced}
use Rattle.ring_world.specs.Capacity.{within, all_fresh}
use Rattle.ring_world.specs.Released.{IsAnnounced}
use Rattle.ring_world.specs.State.{State}
use Rattle.ring_world.specs.Worlds.{IsWorld}
use Rattle.ring_world.proofs.Named.{announced_is}
use Rattle.ring_world.proofs.world.World.announced.Goals as goal
use Rattle.ring_world.proofs.world.World.announced.Goals.{In_ok-list}

world : (c : In_ok-list) → IsWorld c.args.self.now
world c = subst IsWorld c.self.view_is c.self.invariant

-- what is listed is what was told
listed : (c : In_ok-list) → c.in_ok-list.list.items ≡ announced c.args.self.now.ring.told
listed c = c.in_ok-list.ensures ∙ (ap announced c.deref.ensures.value ∙ (ap (λ (t : State). announced t.ring.events) c.log-log.ensures ∙ ap announced (world c).told))

pub returns-clause-list : goal.returns-clause-list
returns-clause-list c = listed (goal.at.returns-clause-list c).In_ok-list

pub returns-clause-same : goal.returns-clause-same
returns-clause-same c = λ x y p q e.
    let s = c.args.self.now in
    let here = (goal.at.returns-clause-same c).In_ok-list in
    let first = announced_is s.ring.told x (subst (λ v. Contains v x) (listed here) p) in
    let second = announced_is s.ring.told y (subst (λ v. Contains v y) (listed here) q) in
    c.headline.ensures.same all_fresh s.ring.size (within s.ring.capacity) s.ring.told y.key x.leader y.leader (world here).lawful.each (subst (λ (k : Key). IsAnnounced s.ring.told k x.leader) e first) second

pub returns-clause-stands : goal.returns-clause-stands
returns-clause-stands c = λ x p.
    let s = c.args.self.now in
    let here = (goal.at.returns-clause-stands c).In_ok-list in
    c.headline.ensures.stands all_fresh s.ring.size (within s.ring.capacity) s.ring.told x.key x.leader (world here).lawful.each (announced_is s.ring.told x (subst (λ v. Contains v x) (listed here) p))

pub returns-clause-greatest : goal.returns-clause-greatest
returns-clause-greatest c = λ x d p stands ne.
    let s = c.args.self.now in
    let here = (goal.at.returns-clause-greatest c).In_ok-list in
    c.headline.ensures.greatest all_fresh s.ring.size (within s.ring.capacity) s.ring.told x.key x.leader d (world here).lawful.each (announced_is s.ring.told x (subst (λ v. Contains v x) (listed here) p)) stands ne
