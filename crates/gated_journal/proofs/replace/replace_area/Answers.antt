use Rattle.std.proofs.Common.{◌+◌, ◌≤◌, length, inl, ap, arith}
use Rattle.disk_model.proofs.Moments.{weaken, joins}
use Rattle.ring_records.specs.Admission.{newest}
use Rattle.ring_records.specs.Snapshot.{snapshot_len}
use Rattle.gated_journal.specs.AreaWritten.{ReadsAtOneOf}
use Rattle.gated_journal.specs.Reading.{fresh_area}
use Rattle.gated_journal.proofs.AreaStaged.{length-new_area}
use Rattle.gated_journal.proofs.Results.{on_ok}
use Rattle.gated_journal.proofs.replace.replace_area.Goals as goal

pub returns-in_err-write_area-clause-any_moment : goal.returns-in_err-write_area-clause-any_moment
returns-in_err-write_area-clause-any_moment g c = λ header old start offset gate_at epoch s is may bytes_are.
    let fits : length c.args.bytes.now ≤ 14 + header.capacity = omega (arith, ap length bytes_are, length-new_area newest epoch s, may.fits) in
    weaken g.D.Device.clock g.D.Device.left_since c.args.device.now c.write_area.new.device _ (ReadsAtOneOf header old start c.args.other offset gate_at (fresh_area newest epoch s) (c.args.other + 14 + snapshot_len newest s))
    (λ image read. inl read) (c.write_area.ensures.any_moment header old start offset gate_at is may.reads may.gate fits)

pub returns-clause-any_moment : goal.returns-clause-any_moment
returns-clause-any_moment g c = λ header old start offset gate_at epoch s is may bytes_are.
    let d = c.args.device.now in
    let mid = c.write_area.new.device in
    let fits : length c.args.bytes.now ≤ 14 + header.capacity = omega (arith, ap length bytes_are, length-new_area newest epoch s, may.fits) in
    let P = ReadsAtOneOf header old start c.args.other offset gate_at (fresh_area newest epoch s) (c.args.other + 14 + snapshot_len newest s) in
    let first = weaken g.D.Device.clock g.D.Device.left_since d mid _ P (λ image read. inl read) (c.write_area.ensures.any_moment header old start offset gate_at is may.reads may.gate fits) in
    let reads = c.in_ok-write_area.ensures.done header old start offset gate_at may.reads may.gate fits in
    let stage = c.in_ok-write_area.ensures.staged header.n epoch s bytes_are may.small (omega (arith, may.fits, may.reads.head.to)) may.spells in
    joins g.D.Device.clock g.D.Device.left_since d mid c.open_area.new.device P first
    (c.open_area.ensures.any_moment header old (fresh_area newest epoch s) start offset gate_at (c.args.other + 14 + snapshot_len newest s) c.in_ok-write_area.ensures.synced reads stage (omega (arith, may.fits)) may.newer)

pub returns-clause-done : goal.returns-clause-done
returns-clause-done g c =
    on_ok c.open_area.result _ _ (λ done header old start offset gate_at epoch s may bytes_are.
    let fits : length c.args.bytes.now ≤ 14 + header.capacity = omega (arith, ap length bytes_are, length-new_area newest epoch s, may.fits) in
    let reads = c.in_ok-write_area.ensures.done header old start offset gate_at may.reads may.gate fits in
    let stage = c.in_ok-write_area.ensures.staged header.n epoch s bytes_are may.small (omega (arith, may.fits, may.reads.head.to)) may.spells in
    done header old (fresh_area newest epoch s) start offset gate_at (c.args.other + 14 + snapshot_len newest s) reads stage (omega (arith, may.fits)) may.newer) c.open_area.ensures.done
