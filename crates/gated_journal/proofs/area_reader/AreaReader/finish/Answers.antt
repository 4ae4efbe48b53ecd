use Rattle.std.proofs.Common.{◌≡◌, ◌+◌, ◌++◌, ℕ, List, Err, IfOk, IfErr, sym, ◌∙◌, ap, subst}
use Rattle.ring_records.specs.declared.refusal.Refusal.{Refusal}
use Rattle.ring_records.specs.declared.refusal.Refusal.TheVariants.{Damaged}
use Rattle.gated_journal.specs.Pieces.{Pieces, IsAreaRead, IsAreaDamaged}
use Rattle.gated_journal.proofs.Results.{on_value, on_err}
use Rattle.gated_journal.proofs.Told.{is_done, is_damaged}
use Rattle.gated_journal.proofs.area_reader.AreaReader.finish.Goals as goal

pub returns-clause-reads : goal.returns-clause-reads
returns-clause-reads c =
    let r = c.self.inside in
    subst (λ (p : Pieces). IfOk c.end.result (λ read. (gate_at : ℕ) × ((read.2 ≡ p.offset + gate_at) × ((more : List ℕ) → IsAreaRead p.layout p.n (p.bytes ++ more) read.0 read.1.items gate_at)))) c.self.view_is
    (on_value c.end.result _ _ (λ read p. let found = p r.layout r.rest.items r.fed.bytes c.self.invariant in (r.found.at, found)) c.end.ensures.reads)

pub returns-clause-broken : goal.returns-clause-broken
returns-clause-broken c =
    let r = c.self.inside in
    subst (λ (p : Pieces). IfErr c.end.result (λ e. (at : ℕ) × ((e ≡ Damaged (p.offset + at)) × IsAreaDamaged p.layout p.n p.bytes at))) c.self.view_is
    (on_err c.end.result _ _ (λ e p. p r.layout r.rest.items r.fed.bytes c.self.invariant) c.end.ensures.broken)

pub returns-clause-done : goal.returns-clause-done
returns-clause-done c = λ e.
    let r = c.self.inside in
    c.end.ensures.done r.layout r.rest.items r.fed.bytes c.self.invariant (is_done r.offset r.found.stage (ap (λ (p : Pieces). p.answer) c.self.view_is ∙ e))

pub returns-clause-again : goal.returns-clause-again
returns-clause-again c = λ e is.
    let r = c.self.inside in
    let d = is_damaged r.offset r.found.stage e (ap (λ (p : Pieces). p.answer) c.self.view_is ∙ is) in
    c.end.ensures.again d.0 d.1.0 ∙ ap (λ (x : Refusal). Err x) (sym d.1.1)
