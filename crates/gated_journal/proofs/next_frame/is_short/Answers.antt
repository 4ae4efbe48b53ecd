use Rattle.std.proofs.Common.{◌≡◌, inl, inr, arith}
use Rattle.std.proofs.lemmas.Bool.{ltb-true, ltb-false}
use Rattle.gated_journal.specs.Reading.{number_at}
use Rattle.gated_journal.proofs.Heads.{count_at, size_at}
use Rattle.gated_journal.proofs.Shorts.{enough}
use Rattle.gated_journal.proofs.next_frame.is_short.Goals as goal

pub returns-then-tail-lt6-clause-yes : goal.returns-then-tail-lt6-clause-yes
returns-then-tail-lt6-clause-yes c = λ e. inl (omega (arith, c.if-tail-lt6.true))

pub returns-clause-yes : goal.returns-clause-yes
returns-clause-yes c = λ e.
    let tail = c.args.tail.now in
    let count : number_at 2 0 tail ≡ c.from_be_bytes-count.result = omega (arith, c.from_be_bytes-count.ensures) in
    let size : number_at 4 2 tail ≡ c.from_be_bytes-size.result = omega (arith, c.from_be_bytes-size.ensures) in
    inr (omega (arith, count, c.if-count-gt-BATCH_INPUTS.false), (omega (arith, count, size, c.if-size-count.false), omega (arith, size, ltb-true _ _ e, c.if-tail-lt6.false)))

pub returns-clause-no : goal.returns-clause-no
returns-clause-no c = λ e.
    let tail = c.args.tail.now in
    let size : size_at tail ≡ c.from_be_bytes-size.result = omega (arith, c.from_be_bytes-size.ensures) in
    enough tail (omega (arith, c.if-tail-lt6.false)) (λ few low short. omega (arith, short, size, ltb-false _ _ e, c.if-tail-lt6.false))

pub returns-then-count-gt-BATCH_INPUTS-clause-no : goal.returns-then-count-gt-BATCH_INPUTS-clause-no
returns-then-count-gt-BATCH_INPUTS-clause-no c = λ e.
    let tail = c.args.tail.now in
    let count : count_at tail ≡ c.from_be_bytes-count.result = omega (arith, c.from_be_bytes-count.ensures) in
    enough tail (omega (arith, c.if-tail-lt6.false)) (λ few low short. omega (arith, few, count, c.if-count-gt-BATCH_INPUTS.true))

pub returns-then-size-count-clause-no : goal.returns-then-size-count-clause-no
returns-then-size-count-clause-no c = λ e.
    let tail = c.args.tail.now in
    let count : count_at tail ≡ c.from_be_bytes-count.result = omega (arith, c.from_be_bytes-count.ensures) in
    let size : size_at tail ≡ c.from_be_bytes-size.result = omega (arith, c.from_be_bytes-size.ensures) in
    enough tail (omega (arith, c.if-tail-lt6.false)) (λ few low short. omega (arith, low, count, size, c.if-size-count.true))
