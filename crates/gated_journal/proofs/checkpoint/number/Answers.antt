use Rattle.std.proofs.Common.{◌≡◌, length, sym, ◌∙◌, ap}
use Rattle.std.proofs.lemmas.List.{length-set}
use Rattle.ring_records.specs.Admission.{newest}
use Rattle.gated_journal.proofs.AreaStaged.{numbered}
use Rattle.gated_journal.proofs.checkpoint.number.Goals as goal

pub returns : goal.returns
returns c = λ base bytes_are.
    let bytes = c.args.bytes.now.items in
    let n_is : c.args.bytes.now.len ≡ length bytes = sym c.deref_mut.ensures.len ∙ ap length c.deref_mut.ensures.value ∙ length-set bytes 0 newest in
    numbered base c.args.epoch bytes c.deref_mut.result.now c.copy_from_slice.new.self _ c.args.bytes.now.len bytes_are n_is c.deref_mut.ensures.value (c.copy_from_slice.ensures.after ∙ c.to_be_bytes.ensures)
