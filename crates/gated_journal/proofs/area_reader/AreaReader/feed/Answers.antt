use Rattle.std.proofs.Common.{◌≡◌, ◌++◌, ℕ, List, length, inr, sym, ◌∙◌, ap, subst, arith, length-append}
use Rattle.gated_journal.specs.declared.joined.Joined.{Joined}
use Rattle.gated_journal.specs.Found.{IsReader}
use Rattle.gated_journal.specs.Pieces.{Pieces, IsAreaDamaged, IsPieceDamaged}
use Rattle.gated_journal.proofs.Told.{is_more, is_done, is_damaged, not_memory, each_err, done_read, done_base, for_good, low, not_whole, area_front}
use Rattle.gated_journal.proofs.area_reader.AreaReader.feed.Goals as goal

pub told-requires : goal.told-requires
told-requires c =
    let r = c.self.inside in
    let now = c.in-Ok.ensures.reads r.fed.bytes c.self.invariant in
    record {
      small = λ at is. omega (arith, low r.layout c.read_on.new.found c.read_on.new.rest.items (r.fed.bytes ++ c.args.piece.now) now at is, length-append r.fed.bytes c.args.piece.now, c.requires.within, ap (λ (p : Pieces). p.offset) c.self.view_is, ap (λ (p : Pieces). length p.bytes) c.self.view_is);
    }

pub returns-in-Ok-clause-kept : goal.returns-in-Ok-clause-kept
returns-in-Ok-clause-kept c = λ e. not_memory c.self.inside.offset c.read_on.new.found.stage (sym c.told.ensures ∙ e)

pub returns-in-Ok-clause-more : goal.returns-in-Ok-clause-more
returns-in-Ok-clause-more c = λ e.
    let r = c.self.inside in
    let found = c.read_on.new.found in
    let rest = c.read_on.new.rest.items in
    let now = c.in-Ok.ensures.reads r.fed.bytes c.self.invariant in
    let bytes : r.fed.bytes ++ c.args.piece.now ≡ c.with_piece-self-inside.result.bytes = sym (ap (λ (j : Joined). j.bytes) c.with_piece-self-inside.ensures) in
    let joined = subst (λ (l : List ℕ). IsReader r.layout found rest l) bytes now in
    not_whole r.layout found rest c.with_piece-self-inside.result.bytes joined (is_more r.offset found.stage (sym c.told.ensures ∙ e))

pub returns-in-Ok-clause-done : goal.returns-in-Ok-clause-done
returns-in-Ok-clause-done c = λ e.
    let r = c.self.inside in
    let found = c.read_on.new.found in
    let rest = c.read_on.new.rest.items in
    let now = c.in-Ok.ensures.reads r.fed.bytes c.self.invariant in
    let bytes : r.fed.bytes ++ c.args.piece.now ≡ c.with_piece-self-inside.result.bytes = sym (ap (λ (j : Joined). j.bytes) c.with_piece-self-inside.ensures) in
    let all = c.with_piece-self-inside.result.bytes in
    let joined = subst (λ (l : List ℕ). IsReader r.layout found rest l) bytes now in
    let is = is_done r.offset found.stage (sym c.told.ensures ∙ e) in
    let base = done_base r.layout found rest all joined is in
    (base.0, (found.inputs.items, (found.at, λ more. done_read r.layout found rest all joined is base.0 base.1 more)))

pub returns-in-Ok-clause-front : goal.returns-in-Ok-clause-front
returns-in-Ok-clause-front c = λ e.
    let r = c.self.inside in
    let found = c.read_on.new.found in
    let rest = c.read_on.new.rest.items in
    let now = c.in-Ok.ensures.reads r.fed.bytes c.self.invariant in
    let all = c.with_piece-self-inside.result.bytes in
    let bytes : r.fed.bytes ++ c.args.piece.now ≡ all = sym (ap (λ (j : Joined). j.bytes) c.with_piece-self-inside.ensures) in
    let joined = subst (λ (l : List ℕ). IsReader r.layout found rest l) bytes now in
    (length rest, area_front r.layout found rest all joined (is_more r.offset found.stage (sym c.told.ensures ∙ e)))

pub returns-in-Ok-clause-damaged : goal.returns-in-Ok-clause-damaged
returns-in-Ok-clause-damaged c =
    let r = c.self.inside in
    let found = c.read_on.new.found in
    let now = c.in-Ok.ensures.reads r.fed.bytes c.self.invariant in
    let piece = c.args.piece.now in
    each_err c.told.result _
    (λ e is.
    let d = is_damaged r.offset found.stage e (sym c.told.ensures ∙ is) in
    inr (subst (λ (p : Pieces). IsPieceDamaged p piece e) c.self.view_is
    (record {
      at = d.0;
      is = d.1.1;
      damaged = λ more. subst (λ (k : ℕ). IsAreaDamaged r.layout k ((r.fed.bytes ++ piece) ++ more) d.0) c.read_on.ensures.n (for_good r.layout found c.read_on.new.rest.items (r.fed.bytes ++ piece) now d.0 d.1.0 more);
    })))
