use Rattle.std.proofs.Common.{◌≡◌, ◌-◌, length, ap, ◌∙◌, subst, arith}
use Rattle.ring_records.specs.declared.summary.Summary.{Summary}
use Rattle.ring_records.specs.Allowed.{IsAllowed}
use Rattle.ring_records.specs.Part.{part as part_of}
use Rattle.ring_audit.specs.Placement.{lists}
use Rattle.ring_audit.proofs.Steps.{part_at, history_is, index_in, IsBehind, next_found, next_same, next_carried}
use Rattle.ring_audit.proofs.placing.Placing.next_of.Goals as goal
use Rattle.ring_audit.proofs.placing.Placing.next_of.Goals.{else-carried-via-then-carried+else-allows, else-carried-via-else-carried}

pub returns-then-allows-clause-some : goal.returns-then-allows-clause-some
returns-then-allows-clause-some c =
    let hs = lists c.args.histories.now in
    let p = part_at hs c.args.self.now c.args.node c.at-part.result.now c.requires.placing c.at-part.ensures.low c.requires.inside c.at-part.ensures.value in
    let b : IsBehind hs c.args.self.now.run.items c.args.node c.index-histories-number.result.items c.placed-placed.result c.index.result.now = record {
      whole = history_is c.args.histories.now c.args.node (c.number.result - 1) c.index-histories-number.result (ap (λ k. k - 1) c.number.ensures.value)
          (index_in c.args.histories.now c.args.self.now.n c.args.node c.number.result c.requires.placing.size c.at-part.ensures.low c.requires.inside c.number.ensures.value) c.index-histories-number.is;
      count = c.placed-placed.ensures ∙ ap (λ (k : Summary). k.inputs) p.stands.knows;
      within = omega arith;
      is = c.index.ensures;
    } in
    next_found hs c.args.self.now.n c.args.self.now.run.items c.args.node _ _ c.index.result.now c.requires.placing.size c.at-part.ensures.low c.requires.inside b
    ((c.allows.ensures _ _ _ p.stands).0 c.if-allows.true) (c.is_carried-carried.ensures.0 c.if-carried.true)

pub returns-else-carried-clause-none : goal.returns-else-carried-clause-none
returns-else-carried-clause-none c = λ y next.
    let hs = lists c.args.histories.now in
    let p = part_at hs c.args.self.now c.args.node c.at-part.result.now c.requires.placing c.at-part.ensures.low c.requires.inside c.at-part.ensures.value in
    let b : IsBehind hs c.args.self.now.run.items c.args.node c.index-histories-number.result.items c.placed-placed.result c.index.result.now = record {
      whole = history_is c.args.histories.now c.args.node (c.number.result - 1) c.index-histories-number.result (ap (λ k. k - 1) c.number.ensures.value)
          (index_in c.args.histories.now c.args.self.now.n c.args.node c.number.result c.requires.placing.size c.at-part.ensures.low c.requires.inside c.number.ensures.value) c.index-histories-number.is;
      count = c.placed-placed.ensures ∙ ap (λ (k : Summary). k.inputs) p.stands.knows;
      within = omega arith;
      is = c.index.ensures;
    } in
    let same = next_same hs c.args.self.now.run.items c.args.node _ _ c.index.result.now y b next in
    elim c.else-carried.branch [
      | else-carried-via-then-carried+else-allows w ↦ (let is = (w.allows.ensures _ _ _ p.stands).1 (subst (IsAllowed c.args.node (length hs) (part_of c.args.self.now.run.items c.args.node)) same next.follows.allowed) in
          let isnt = w.if-allows.false in
          absurd cc)
      | else-carried-via-else-carried w ↦ (let size : c.args.self.now.n ≡ length hs = c.requires.placing.size in
          let is = c.is_carried-carried.ensures.1 (next_carried hs c.args.self.now.n c.args.self.now.run.items c.args.node y c.index.result.now size same next) in
          let isnt = w.if-carried.false in
          absurd cc)
    ]
