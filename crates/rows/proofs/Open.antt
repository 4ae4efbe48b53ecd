-- Tickets that are open.
use Rattle.std.proofs.Common.{arith, ◌≡◌, ◌≢◌, ◌∙◌, sym, ap, ℕ, ◌+◌, ◌<◌, List, [], ◌∷◌, ◌++◌}
use Rattle.std.specs.Map.{lookup}
use Rattle.std.specs.Prelude.{nat_eq}
use Rattle.ring_records.specs.Answer.{Answered}
use Rattle.group_commit.specs.Desk.{DeskView, ended, kept_at, IsHere}
use Rattle.group_commit.specs.Ticket.{TicketView}
use Rattle.group_commit.proofs.Numbers.{kept_without, kept_before}
use Rattle.rows.specs.Tickets.{IsLater}

-- a ticket stays open where the desk is later and keeps what it kept for it
pub still_here : (old new : DeskView) (ticket : TicketView) (kept : Answered) → IsLater old new → kept_at new ticket.own ≡ kept_at old ticket.own → IsHere old ticket kept → IsHere new ticket kept
still_here old new ticket kept later same here = record {
  node = here.node ∙ sym (ap (λ m. m.node) later.member);
  run = here.run ∙ sym later.run;
  own = same ∙ here.own;
  question = here.question;
}

-- what is kept for the earlier tickets while one is given and ends
pub kept_over : (old given later new : DeskView) (a : Answered) (own number : ℕ) → given.tickets ≡ old.tickets ++ (old.issued, a) ∷ [] → given.issued ≡ old.issued + 1
    → ((k : ℕ) → k < given.issued → kept_at later k ≡ kept_at given k) → kept_at new own ≡ kept_at (ended number later) own → number ≡ old.issued → own < old.issued → kept_at new own ≡ kept_at old own
kept_over old given later new a own number tickets issued earlier last number_is below =
    let apart : own ≢ number = λ e. omega (arith, e, number_is, below) in
    let other : own ≢ old.issued = λ e. omega (arith, e, below) in
    last ∙ kept_without own number later.tickets apart ∙ earlier own (omega (arith, issued, below))
    ∙ ap (λ (ts : List (ℕ × Answered)). lookup (nat_eq own) ts) tickets ∙ kept_before own old.issued a old.tickets other
