use Rattle.std.proofs.Common.{◌≡◌, ℕ, length, sym, ◌∙◌, ap, subst, arith}
use Rattle.gated_journal.specs.Pieces.{Pieces, IsAreaFront}
use Rattle.gated_journal.proofs.Told.{is_more, is_open, area_front, rest_few}
use Rattle.gated_journal.proofs.area_reader.AreaReader.kept_len.Goals as goal

pub returns-clause-front : goal.returns-clause-front
returns-clause-front c = λ e.
    let r = c.self.inside in
    let going = is_more r.offset r.found.stage (ap (λ (p : Pieces). p.answer) c.self.view_is ∙ e) in
    let same : length r.rest.items ≡ c.len.result = omega (arith, c.len.ensures) in
    subst (λ (p : Pieces). IsAreaFront p.layout p.n p.bytes c.len.result) c.self.view_is
    (subst (λ (k : ℕ). IsAreaFront r.layout r.found.snapshot.n r.fed.bytes k) same (area_front r.layout r.found r.rest.items r.fed.bytes c.self.invariant going))

pub returns-clause-none : goal.returns-clause-none
returns-clause-none c = λ other.
    let r = c.self.inside in
    let none = c.self.invariant.none (λ going. other (sym (ap (λ (p : Pieces). p.answer) c.self.view_is) ∙ is_open r.offset r.found.stage going)) in
    omega (arith, c.len.ensures, ap length none)

pub returns-clause-few : goal.returns-clause-few
returns-clause-few c =
    let r = c.self.inside in
    omega (arith, c.len.ensures, rest_few r.layout r.found r.rest.items r.fed.bytes c.self.invariant)
