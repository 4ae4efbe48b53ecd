use Rattle.std.proofs.Common.{◌≡◌, [], false, map, sym, subst, ap, ◌∙◌, arith}
use Rattle.ring_world.specs.Shows.{IsSound, held_of}
use Rattle.ring_world.specs.State.{opened}
use Rattle.ring_world.specs.Worlds.{IsWorld, by_log}
use Rattle.ring_world.proofs.Kept.{new_world}
use Rattle.ring_world.proofs.Opened.{fresh_sound, none_held, ring_least, ring_most}
use Rattle.ring_world.proofs.working.Working.new.Goals as goal
use Rattle.ring_world.proofs.working.Working.new.Goals.{After-new}

pub invariant_of-result : goal.invariant_of-result
invariant_of-result c = (
  omega arith,
  subst (λ es. IsSound c.args.size c.args.capacity es c.fill.new.nodes.items) (sym c.new.ensures.items) (fresh_sound c.args.size c.args.capacity c.fill.new.nodes.items c.requires.range c.in_default.ensures.nodes),
)

made : (c : After-new)
    → by_log (record { alloc = c.args.alloc; size = c.args.size; capacity = c.args.capacity; eager = c.args.eager; tickets = 0; events = c.new.result; told = 0 }) false (map held_of c.fill.new.nodes.items) ≡ opened c.args.size c.args.eager c.args.capacity
made c = λ t. record {
  ring = record {
    size = c.args.size;
    capacity = c.args.capacity;
    eager = c.args.eager;
    failed = false;
    events = c.new.ensures.items t;
    told = [];
    held = (ap (map held_of) c.in_default.ensures.nodes ∙ none_held c.args.size c.args.capacity c.args.size) t;
  };
  tickets = 0;
}

pub returns-clause-made : goal.returns-clause-made
returns-clause-made c = made (goal.at.returns-clause-made c).After-new

pub returns-clause-world : goal.returns-clause-world
returns-clause-world c =
    subst IsWorld (sym (made (goal.at.returns-clause-world c).After-new))
    (new_world c.args.size c.args.eager c.args.capacity (ring_least c.args.size c.args.capacity c.requires.range) (ring_most c.args.size c.args.capacity c.requires.range))
