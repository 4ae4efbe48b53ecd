use Rattle.history_laws.proofs.Chain.{known_shown, agree, stands, greatest}
use Rattle.history_laws.proofs.Handed.{links}
use Rattle.ring_service.proofs.Leaders.{handed, histories, named_leads}
use Rattle.ring_service.proofs.laws.one_leader.Goals as goal

pub returns-clause-same : goal.returns-clause-same
returns-clause-same c = λ n lives key a b are from j k.
    let h = histories n lives are in
    agree n h key a b (links n h (handed n lives are from)) (known_shown n h key a (named_leads n lives are key a j)) (known_shown n h key b (named_leads n lives are key b k))

pub returns-clause-stands : goal.returns-clause-stands
returns-clause-stands c = λ n lives key a are from k.
    let h = histories n lives are in
    stands n h key a (links n h (handed n lives are from)) (known_shown n h key a (named_leads n lives are key a k))

pub returns-clause-greatest : goal.returns-clause-greatest
returns-clause-greatest c = λ n lives key a b are from k low high stood other.
    let h = histories n lives are in
    greatest n h key a b (links n h (handed n lives are from)) (known_shown n h key a (named_leads n lives are key a k)) (record { low = low; high = high }) stood other
