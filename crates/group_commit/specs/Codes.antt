-- By what code a proof tells the values of desks apart.
use Rattle.std.specs.Prelude.{ℕ, refl}
use Rattle.std.specs.Coded.{Coded, code_by, coded×, coded_ℕ, codes}
use Rattle.ring_records.specs.declared.summary.Summary.{Summary}
use Rattle.ring_records.specs.Codes.{coded_summary}
use Rattle.group_commit.specs.Desk.{DeskView, DeskKept}

pub coded_view : Coded DeskView
coded_view = hlevel codes

abbrev pub coded_desk : Coded DeskKept
coded_desk = code_by (Summary × (DeskView × ℕ)) (coded× coded_summary (coded× coded_view coded_ℕ)) (λ d. (d.opening, (d.view, d.gone))) (λ p. record { opening = p.0; view = p.1.0; gone = p.1.1 }) (λ _. refl)
