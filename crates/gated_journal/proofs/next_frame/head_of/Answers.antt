use Rattle.std.proofs.Common.{◌≡◌, ◌+◌, ◌-◌, ◌≤◌, ℕ, length, take, drop, subst, arith}
use Rattle.gated_journal.specs.NextFrame.{HasHead}
use Rattle.gated_journal.proofs.Heads.{count_at, size_at, head}
use Rattle.gated_journal.proofs.next_frame.head_of.Goals as goal

pub returns : goal.returns
returns c =
    let tail = c.args.tail.now in
    let count : count_at tail ≡ c.from_be_bytes-count.result = omega (arith, c.from_be_bytes-count.ensures) in
    let size : size_at tail ≡ 6 + c.from_be_bytes-size.result - 6 = omega (arith, c.from_be_bytes-size.ensures) in
    let long : 6 ≤ length tail = omega (arith, c.if-tail-lt6.false) in
    let found = head tail (λ i. omega (arith, c.type_inv.tail i)) long (omega (arith, count, c.if-count-eq0.false)) (omega (arith, count, c.if-count-gt-BATCH_INPUTS.false)) (omega (arith, size, c.if-tail-size.false)) in
    subst (λ (n : ℕ). HasHead tail n (take (6 + c.from_be_bytes-size.result - 6) (drop 6 tail))) count (subst (λ (n : ℕ). HasHead tail (count_at tail) (take n (drop 6 tail))) size found)
