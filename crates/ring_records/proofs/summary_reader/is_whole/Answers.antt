use Rattle.std.proofs.Common.{sym, ◌∙◌, subst, arith}
use Rattle.std.specs.Prelude.{Bool, List, Decides, ◌≡◌}
use Rattle.ring_records.specs.declared.key.Key.{Key}
use Rattle.ring_records.specs.declared.key_state.KeyState.{KeyState}
use Rattle.ring_records.specs.declared.snapshot_read.Counts.{Counts}
use Rattle.ring_records.specs.SnapshotPart.{shown}
use Rattle.ring_records.specs.SnapshotRead.{AreFitting}
use Rattle.ring_records.proofs.SnapshotParts.{few_states, few_messages, few_floors, sound_part, whole_window_of}
use Rattle.ring_records.proofs.summary_reader.is_whole.Goals as goal

pub returns-then-len-from : goal.returns-then-len-from
returns-then-len-from c = λ n read.
    let p = shown c.args.parts.now in
    few_states c.args.layout n c.args.counts.now p.states p.messages p.count p.floors read (omega (arith, c.if-len-from.true, c.from.ensures, c.len.ensures, c.args.parts.now.states.ok.0))

pub returns-then-len-counts : goal.returns-then-len-counts
returns-then-len-counts c = λ n read.
    let p = shown c.args.parts.now in
    few_messages c.args.layout n c.args.counts.now p.states p.messages p.count p.floors read (λ less. omega (arith, less, c.if-len-from.false, c.from.ensures, c.len.ensures, c.args.parts.now.states.ok.0)) (omega (arith, c.if-len-counts.true, c.len-2.ensures, c.args.parts.now.messages.ok.0))

pub returns-then-is_floor_left : goal.returns-then-is_floor_left
returns-then-is_floor_left c = λ n read.
    let p = shown c.args.parts.now in
    few_floors c.args.layout n c.args.counts.now p.states p.messages p.count p.floors read
    (whole_window_of c.args.layout n c.args.counts.now p read (λ less. omega (arith, less, c.if-len-from.false, c.from.ensures, c.len.ensures, c.args.parts.now.states.ok.0)) (λ less. omega (arith, less, c.if-len-counts.false, c.len-2.ensures, c.args.parts.now.messages.ok.0)))
    (sym c.is_floor_left.ensures ∙ c.if-is_floor_left.true)

-- what is judged is what was taken
of_these : (k : Counts) (b : Bool) (states xs : List KeyState) (floors ys : List Key) → xs ≡ states → ys ≡ floors → Decides b (AreFitting k xs ys) → Decides b (AreFitting k states floors)
of_these k b states xs floors ys same alike d = subst (λ (l : List KeyState). Decides b (AreFitting k l floors)) same (subst (λ (l : List Key). Decides b (AreFitting k xs l)) alike d)

pub returns : goal.returns
returns c = λ n read.
    let p = shown c.args.parts.now in
    sound_part c.args.layout n c.are_fitting.result c.args.counts.now p.states p.messages p.count p.floors read
    (whole_window_of c.args.layout n c.args.counts.now p read (λ less. omega (arith, less, c.if-len-from.false, c.from.ensures, c.len.ensures, c.args.parts.now.states.ok.0)) (λ less. omega (arith, less, c.if-len-counts.false, c.len-2.ensures, c.args.parts.now.messages.ok.0)))
    (sym c.is_floor_left.ensures ∙ c.if-is_floor_left.false) (of_these c.args.counts.now c.are_fitting.result p.states c.deref.result.now p.floors c.deref-2.result.now c.deref.ensures.value c.deref-2.ensures.value c.are_fitting.ensures)
