-- That each fact which a desk keeps of its inputs has one proof at most.
use Rattle.std.specs.Prelude.{◌≡◌, List, Option, Some, None, OnSome, refl}
use Rattle.std.specs.Coded.{Coded, Coded-set, codes}
use Rattle.ring_records.specs.declared.input.Input.{Input}
use Rattle.ring_records.specs.declared.summary.Summary.{Summary}

coded_inputs : Coded (List Input)
coded_inputs = hlevel codes

pub inputs-prop : (a b : List Input) → IsProp (a ≡ b)
inputs-prop a b = Coded-set coded_inputs a b

pub behind-prop : (mark : Option Summary) (a b : List Input) → IsProp (OnSome mark (a ≡ b))
behind-prop None a b p q = refl
behind-prop (Some known) a b p q = inputs-prop a b p q
