-- That the run of WorkedRetire is legal, and what node 1 says at its end.
use Rattle.std.proofs.Common.{◌≡◌, Bool, true, false, cond, ltb, [], ◌∷◌, Option, Some, None, refl, lit<, lit≤}
use Rattle.std.specs.Prelude.{codes}
use Rattle.ring_records.specs.declared.candidate.Candidate.{Candidate}
use Rattle.ring_records.specs.declared.input.Input.TheVariants.{Stand, Retire}
use Rattle.ring_records.specs.declared.msg.Msg.TheVariants.{Token, Elected}
use Rattle.ring_records.specs.declared.refusal.Refusal.TheVariants as refused
use Rattle.ring_records.specs.declared.reply.Reply.TheVariants as say
use Rattle.ring_records.specs.declared.request.Request.TheVariants as ask
use Rattle.ring_records.specs.Admission.{fresh, cost, used, shortage}
use Rattle.ring_records.specs.Answering.{refusal, reply}
use Rattle.ring_records.specs.Allowed.{IsInTurn}
use Rattle.ring_records.specs.Objection.{retired, already, is_touched, stale, too_many, objection}
use Rattle.ring_records.specs.Answer as by_rule
use Rattle.ring_records.specs.Emission.{passed_on, is_below, emit, sent}
use Rattle.ring_records.specs.History.{floor_for, floor, is_retired, names, is_named, touched, bid_for, first_stand, stood, message_of, taken, is_live_stand, stands}
use Rattle.ring_records.specs.Leader.{is_bid, makes_leader, first_leader, leader, with_term, term_led, greater_term, latest}
use Rattle.ring_records.specs.Lists.{first, found_after, EachAfter}
use Rattle.ring_records.specs.Order.{is_less, is_key}
use Rattle.ring_records.specs.Place.{before, after}
use Rattle.ring_records.specs.Ring.{IsCarried, IsLegal}
use Rattle.ring_records.specs.Part.{item_at, part}
use Rattle.ring_records.proofs.Admission.{objection-allowed}
use Rattle.ring_records.specs.WorkedRetire.{red, alone, retired_relay}

nothing : (b : Bool) → ◌≡◌ {A = Option Candidate} (cond b None None) None
nothing true = refl
nothing false = refl

pub relay_legal : IsLegal 2 retired_relay
unfolding objection retired is_touched already stale too_many IsLegal EachAfter IsInTurn IsCarried floor_for floor is_retired names is_named touched bid_for first_stand stood message_of taken is_live_stand stands is_below is_less is_key passed_on emit sent is_bid makes_leader first_leader leader first found_after before after item_at part latest term_led with_term greater_term
relay_legal = (
  record { first = lit≤ tt; last = lit≤ tt; carried = tt; allowed = record { few = lit< tt; in_turn = record { untouched = refl; not_stale = λ term less. nothing (ltb term 0); few_stands = lit< tt } } },
  (
    record { first = lit≤ tt; last = lit≤ tt; carried = refl; allowed = record { few = lit< tt; in_turn = record { in_ring = lit≤ tt; next = refl } } },
    (
      record { first = lit≤ tt; last = lit≤ tt; carried = refl; allowed = record { few = lit< tt; in_turn = record { in_ring = lit≤ tt; next = refl } } },
      (
        record { first = lit≤ tt; last = lit≤ tt; carried = tt; allowed = record { few = lit< tt; in_turn = record { above = lit< tt; decided = lit≤ tt } } },
        (
          record { first = lit≤ tt; last = lit≤ tt; carried = tt; allowed = objection-allowed 2 2 _ (Stand (red 4) 7) refl },
          (
            record { first = lit≤ tt; last = lit≤ tt; carried = refl; allowed = record { few = lit< tt; in_turn = record { in_ring = lit≤ tt; next = refl } } },
            tt,
          ),
        ),
      ),
    ),
  ),
)

pub relay_sent : sent 1 (part retired_relay 1) ≡ Token (red 9) alone ∷ Elected (red 9) alone ∷ []
unfolding objection by_rule.refusal shortage too_many retired is_touched already stale cost used by_rule.reply floor_for floor is_retired names is_named touched bid_for first_stand stood message_of taken is_live_stand stands is_below is_less is_key passed_on emit sent is_bid makes_leader first_leader leader first found_after before after item_at part latest term_led with_term greater_term
relay_sent = refl

pub relay_stand : refusal 1 2 65536 fresh (part retired_relay 1) (Stand (red 8) 5) ≡ Some (refused.Retired 9)
unfolding objection by_rule.refusal shortage too_many retired is_touched already stale cost used by_rule.reply floor_for floor is_retired names is_named touched bid_for first_stand stood message_of taken is_live_stand stands is_below is_less is_key passed_on emit sent is_bid makes_leader first_leader leader first found_after before after item_at part latest term_led with_term greater_term
relay_stand = refl

pub relay_same : refusal 1 2 65536 fresh (part retired_relay 1) (Retire (codes "red") 9) ≡ Some (refused.Retired 9)
unfolding objection by_rule.refusal shortage too_many retired is_touched already stale cost used by_rule.reply floor_for floor is_retired names is_named touched bid_for first_stand stood message_of taken is_live_stand stands is_below is_less is_key passed_on emit sent is_bid makes_leader first_leader leader first found_after before after item_at part latest term_led with_term greater_term
relay_same = refl

pub relay_above : refusal 1 2 65536 fresh (part retired_relay 1) (Retire (codes "red") 10) ≡ Some refused.Undecided
unfolding objection by_rule.refusal shortage too_many retired is_touched already stale cost used by_rule.reply floor_for floor is_retired names is_named touched bid_for first_stand stood message_of taken is_live_stand stands is_below is_less is_key passed_on emit sent is_bid makes_leader first_leader leader first found_after before after item_at part latest term_led with_term greater_term
relay_above = refl

pub relay_who : reply 1 2 65536 fresh (part retired_relay 1) (ask.Who (red 4)) ≡ say.Refused (refused.Retired 9)
unfolding objection by_rule.refusal shortage too_many retired is_touched already stale cost used by_rule.reply floor_for floor is_retired names is_named touched bid_for first_stand stood message_of taken is_live_stand stands is_below is_less is_key passed_on emit sent is_bid makes_leader first_leader leader first found_after before after item_at part latest term_led with_term greater_term
relay_who = refl

pub relay_leads : reply 1 2 65536 fresh (part retired_relay 1) (ask.Who (red 9)) ≡ say.Leader (Some alone)
unfolding objection by_rule.refusal shortage too_many retired is_touched already stale cost used by_rule.reply floor_for floor is_retired names is_named touched bid_for first_stand stood message_of taken is_live_stand stands is_below is_less is_key passed_on emit sent is_bid makes_leader first_leader leader first found_after before after item_at part latest term_led with_term greater_term
relay_leads = refl
