use Rattle.std.proofs.Common.{ℕ, ap, sym, ◌∙◌}
use Rattle.std.proofs.lemmas.Bool.Decides.{Decides-eqb}
use Rattle.std.specs.FinMap as map
use Rattle.ring_records.specs.KeyOrder.{group_cmp}
use Rattle.ring_records.proofs.floors.Floors.is_empty.Goals as goal

pub returns : goal.returns
returns c =
    let zero = Decides-eqb c.len.result 0 in (
      λ e. map.empty_of_len c.args.self.now (sym c.len.ensures ∙ zero.0 e),
      λ e. zero.1 (c.len.ensures ∙ (ap map.len e ∙ map.len-empty group_cmp ℕ)),
    )
