use Rattle.history_laws.proofs.Chain.{known_shown, agree, stands, greatest}
use Rattle.history_laws.proofs.agreement_of_histories.Goals as goal

pub returns-clause-same : goal.returns-clause-same
returns-clause-same c = λ n history key c d fits j k. agree n history key c d fits (known_shown n history key c j) (known_shown n history key d k)

pub returns-clause-stands : goal.returns-clause-stands
returns-clause-stands c = λ n history key c fits k. stands n history key c fits (known_shown n history key c k)

pub returns-clause-greatest : goal.returns-clause-greatest
returns-clause-greatest c = λ n history key c d fits k low high stood other. greatest n history key c d fits (known_shown n history key c k) (record { low = low; high = high }) stood other
