use Rattle.std.proofs.Common.{◌+◌, ◌≤◌, inl, inr, ⊎_elim, length, ap, arith}
use Rattle.disk_model.specs.Buffer.{disk_of}
use Rattle.disk_model.specs.declared.history.History.{History}
use Rattle.disk_model.proofs.Ranges.{torn_more, torn_written, puts_torn}
use Rattle.disk_model.proofs.Images.{used_fits, still_blank, puts}
use Rattle.disk_model.proofs.Moments.{elapses_write}
use Rattle.disk_model.proofs.buffer.BufferDevice.write_at.Goals as goal

pub invariant_of-self : goal.invariant_of-self
invariant_of-self c =
    let buffer = c.args.self.now in
    let written = c.with_write-self.ensures in
    record {
      fits = buffer.fits;
      blank = buffer.blank;
      torn = torn_written buffer.history.stable _ buffer.history.ranges _ c.args.off (length c.args.bytes.now) _ (ap (λ (h : History). h.stable) written) (ap (λ (h : History). h.ranges) written)
          (torn_more _ _ _ _ _ buffer.torn);
    }

pub returns-in_err-at-clause-time : goal.returns-in_err-at-clause-time
returns-in_err-at-clause-time c =
    let written = c.with_write-self.ensures in
    elapses_write c.args.self.now.history.past c.with_write-self.result.past (disk_of c.args.self.now) _ c.args.off (length c.args.bytes.now)
    (ap (λ (h : History). h.past) written) (ap (λ (h : History). h.stable) written) (ap (λ (h : History). h.ranges) written)

pub invariant_of-self-2 : goal.invariant_of-self-2
invariant_of-self-2 c =
    let buffer = c.args.self.now in
    let written = c.with_write-self.ensures in
    let fits : c.in_ok-at.at + length c.args.bytes.now ≤ length buffer.bytes.items = omega (arith, c.in_ok-at.ensures.ok.1) in
    let put = puts buffer.bytes.items buffer.size c.in_ok-at.at c.args.bytes.now fits buffer.fits buffer.blank c.end_with-self.result
    c.overwrite.new.bytes.items c.end_with-self.ensures.some c.end_with-self.ensures.none c.overwrite.ensures c.args.off c.in_ok-at.ensures.ok.0 in
    record {
      fits = used_fits buffer.bytes.items buffer.size c.in_ok-at.at c.args.bytes.now fits buffer.fits buffer.blank c.end_with-self.result
          c.overwrite.new.bytes.items c.end_with-self.ensures.some c.end_with-self.ensures.none c.overwrite.ensures;
      blank = still_blank buffer.bytes.items buffer.size c.in_ok-at.at c.args.bytes.now fits buffer.fits buffer.blank
          c.end_with-self.result c.overwrite.new.bytes.items c.end_with-self.ensures.some c.end_with-self.ensures.none c.overwrite.ensures;
      torn = torn_written buffer.history.stable _ buffer.history.ranges _ c.args.off (length c.args.bytes.now) _ (ap (λ (h : History). h.stable) written) (ap (λ (h : History). h.ranges) written)
          (puts_torn _ _ _ _ _ _ buffer.torn put);
    }

pub returns-clause-written : goal.returns-clause-written
returns-clause-written c =
    let buffer = c.args.self.now in
    let fits : c.in_ok-at.at + length c.args.bytes.now ≤ length buffer.bytes.items = omega (arith, c.in_ok-at.ensures.ok.1) in
    puts buffer.bytes.items buffer.size c.in_ok-at.at c.args.bytes.now fits buffer.fits buffer.blank c.end_with-self.result
    c.overwrite.new.bytes.items c.end_with-self.ensures.some c.end_with-self.ensures.none c.overwrite.ensures c.args.off c.in_ok-at.ensures.ok.0

pub returns-clause-time : goal.returns-clause-time
returns-clause-time c =
    let written = c.with_write-self.ensures in
    elapses_write c.args.self.now.history.past c.with_write-self.result.past (disk_of c.args.self.now) _ c.args.off (length c.args.bytes.now)
    (ap (λ (h : History). h.past) written) (ap (λ (h : History). h.stable) written) (ap (λ (h : History). h.ranges) written)

pub returns-clause-elsewhere : goal.returns-clause-elsewhere
returns-clause-elsewhere c =
    let buffer = c.args.self.now in
    let fits : c.in_ok-at.at + length c.args.bytes.now ≤ length buffer.bytes.items = omega (arith, c.in_ok-at.ensures.ok.1) in
    let put = puts buffer.bytes.items buffer.size c.in_ok-at.at c.args.bytes.now fits buffer.fits buffer.blank c.end_with-self.result
    c.overwrite.new.bytes.items c.end_with-self.ensures.some c.end_with-self.ensures.none c.overwrite.ensures c.args.off c.in_ok-at.ensures.ok.0 in
    λ i out. put.others i (⊎_elim (λ below. inl below) (λ above. inr (omega (arith, above, fits, c.in_ok-at.ensures.ok.0))) out)
