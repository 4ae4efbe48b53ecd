use Rattle.std.proofs.Common.{List, ◌≡◌, subst, sym, ◌∙◌, arith, inr, refl}
use Rattle.ring_records.specs.declared.key_state.KeyState.{KeyState}
use Rattle.ring_records.specs.declared.key.Key.{Key}
use Rattle.ring_records.specs.declared.msg.Msg.{Msg}
use Rattle.ring_records.specs.declared.snapshot_read.Counts.{Counts}
use Rattle.ring_records.specs.Snapshot.{Spells}
use Rattle.ring_records.specs.SnapshotRead.{AreFitting}
use Rattle.ring_records.proofs.SnapshotWhole.{read-spelled, unfit-spelled, broken-spelled}
use Rattle.ring_records.proofs.snapshot_read.read_parts.Goals as goal

of_these : (k : Counts) (states xs : List KeyState) (floors ys : List Key) → states ≡ xs → floors ≡ ys → AreFitting k states floors → AreFitting k xs ys
of_these k states xs floors ys same alike fits = subst (λ (l : List KeyState). AreFitting k l ys) same (subst (λ (l : List Key). AreFitting k states l) alike fits)

pub returns-in-Err-clause-broken : goal.returns-in-Err-clause-broken
returns-in-Err-clause-broken c = broken-spelled c.args.layout c.args.n c.args.bytes.now c.in-Err.refusal _ c.requires.newer refl c.in-Err.ensures.broken

pub returns-then-not-are_fitting-clause-broken : goal.returns-then-not-are_fitting-clause-broken
returns-then-not-are_fitting-clause-broken c =
    let k = c.in-Ok.parts.0 in
    inr (
      refl,
      λ s spells. unfit-spelled c.args.layout c.args.n c.args.bytes.now k c.in-Ok.parts.1.items c.in-Ok.parts.2.items c.in-Ok.parts.3.items c.requires.newer c.in-Ok.ensures.found
          (λ fits. absurd (cc (sym c.if-not-are_fitting.true ∙ c.are_fitting.ensures.1 (of_these k _ _ _ _ (sym c.deref.ensures.value) (sym c.deref-2.ensures.value) fits)))) s spells,
    )

pub returns-clause-found : goal.returns-clause-found
returns-clause-found c =
    let k = c.in-Ok.parts.0 in
    let states : List KeyState = c.in-Ok.parts.1.items in
    let msgs : List Msg = c.in-Ok.parts.2.items in
    let floors : List Key = c.in-Ok.parts.3.items in
    let fits : AreFitting k states floors = of_these k _ _ _ _ c.deref.ensures.value c.deref-2.ensures.value (c.are_fitting.ensures.0 c.if-not-are_fitting.false) in
    subst (λ s. Spells c.args.layout c.args.n c.args.bytes.now s)
    (λ i. record { inputs = k.inputs; taken = k.taken; credit = k.credit; sent = k.sent; stands = k.stands; keys = sym c.from_sorted.ensures i; window = sym c.from_vec.ensures i; floors = sym c.from_sorted-2.ensures i })
    (read-spelled c.args.layout c.args.n c.args.bytes.now k states msgs floors c.requires.newer (λ i. omega (arith, c.type_inv.bytes i)) c.in-Ok.ensures.found fits)
