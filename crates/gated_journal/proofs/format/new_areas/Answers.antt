use Rattle.std.proofs.Common.{ℕ, List, ◌∷◌, ◌++◌, get_or, replicate, sym, ◌∙◌}
use Rattle.std.specs.Int.{w32, w64, to_be_bytes}
use Rattle.ring_records.specs.Member.{member}
use Rattle.gated_journal.proofs.AreaFormatted.{bytes-new_areas}
use Rattle.gated_journal.proofs.format.new_areas.Goals as goal
use Rattle.gated_journal.specs.Reading.{mark}

-- with the bytes of the capacity taken one by one
abbrev spelled : ℕ → ℕ → List ℕ → List ℕ
spelled node n b = mark ++ node ∷ n ∷ get_or b 0 0 ∷ get_or b 1 0 ∷ get_or b 2 0 ∷ get_or b 3 0 ∷ 0 ∷ 0 ∷ 1 ∷ 3 ∷ to_be_bytes w64 1 ++ to_be_bytes w32 42 ++ replicate {A = ℕ} 43 0

pub returns : goal.returns
returns c =
    (λ i. spelled (c.number-node.ensures.value i) c.args.n (c.to_be_bytes-c.ensures i))
    ∙ sym (bytes-new_areas (member c.args.node c.args.n c.args.capacity))
