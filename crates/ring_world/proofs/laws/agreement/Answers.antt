use Rattle.ring_world.proofs.Chain.{known_shown, agree, stands, greatest}
use Rattle.ring_world.proofs.laws.agreement.Goals as goal

pub returns-clause-same : goal.returns-clause-same
returns-clause-same c = λ n run key c d legal j k. agree n run key c legal d (known_shown n run key c legal j) (known_shown n run key d legal k)

pub returns-clause-stands : goal.returns-clause-stands
returns-clause-stands c = λ n run key c legal k. stands n run key c legal (known_shown n run key c legal k)

pub returns-clause-greatest : goal.returns-clause-greatest
returns-clause-greatest c = λ n run key c d legal k stood other. greatest n run key c legal d (known_shown n run key c legal k) stood other
