-- That the worked run is legal, and who leads at its end.
use Rattle.std.proofs.Common.{◌≡◌, Bool, true, false, cond, ltb, Option, Some, None, refl, lit<, lit≤}
use Rattle.ring_records.specs.declared.candidate.Candidate.{Candidate}
use Rattle.ring_records.specs.Allowed.{IsInTurn}
use Rattle.ring_records.specs.Emission.{is_below, passed_on, emit, sent}
use Rattle.ring_records.specs.History.{floor_for, floor, is_retired, names, is_named, touched, bid_for, first_stand, stood, message_of, taken, is_live_stand, stands}
use Rattle.ring_records.specs.Leader.{is_bid, makes_leader, first_leader, leader}
use Rattle.ring_records.specs.Lists.{first, found_after, EachAfter}
use Rattle.ring_records.specs.Order.{is_less, is_key}
use Rattle.ring_records.specs.Place.{before, after}
use Rattle.ring_records.specs.Ring.{IsCarried, IsLegal}
use Rattle.ring_records.specs.Part.{item_at, part}
use Rattle.ring_records.specs.WorkedRun.{red_5, winner, first_election}

pub leads_at_1 : leader 1 (part first_election 1) red_5 ≡ Some winner
unfolding leader floor floor_for is_retired first_leader makes_leader first found_after is_key is_bid first_stand bid_for item_at part
leads_at_1 = refl

pub leads_at_2 : leader 2 (part first_election 2) red_5 ≡ Some winner
unfolding leader floor floor_for is_retired first_leader makes_leader first found_after is_key is_bid first_stand bid_for item_at part
leads_at_2 = refl

pub leads_at_3 : leader 3 (part first_election 3) red_5 ≡ Some winner
unfolding leader floor floor_for is_retired first_leader makes_leader first found_after is_key is_bid first_stand bid_for item_at part
leads_at_3 = refl

-- no leader is known where none was shown, whichever keys are retired
nothing : (b : Bool) → ◌≡◌ {A = Option Candidate} (cond b None None) None
nothing true = refl
nothing false = refl

pub legal : IsLegal 3 first_election
unfolding IsLegal EachAfter IsInTurn IsCarried floor_for floor is_retired names is_named touched bid_for first_stand stood message_of taken is_live_stand stands is_below is_less is_key passed_on emit sent is_bid makes_leader first_leader leader first found_after before after item_at part
legal = (
  record {
    first = lit≤ tt;
    last = lit≤ tt;
    carried = tt;
    allowed = record { few = lit< tt; in_turn = record { untouched = refl; not_stale = λ term less. nothing (ltb term 0); few_stands = lit< tt } };
  },
  (
    record {
      first = lit≤ tt;
      last = lit≤ tt;
      carried = tt;
      allowed = record { few = lit< tt; in_turn = record { untouched = refl; not_stale = λ term less. nothing (ltb term 0); few_stands = lit< tt } };
    },
    (
      record {
        first = lit≤ tt;
        last = lit≤ tt;
        carried = tt;
        allowed = record { few = lit< tt; in_turn = record { untouched = refl; not_stale = λ term less. nothing (ltb term 0); few_stands = lit< tt } };
      },
      (
        record {
          first = lit≤ tt;
          last = lit≤ tt;
          carried = refl;
          allowed = record { few = lit< tt; in_turn = record { in_ring = lit≤ tt; next = refl } };
        },
        (
          record {
            first = lit≤ tt;
            last = lit≤ tt;
            carried = refl;
            allowed = record { few = lit< tt; in_turn = record { in_ring = lit≤ tt; next = refl } };
          },
          (
            record {
              first = lit≤ tt;
              last = lit≤ tt;
              carried = refl;
              allowed = record { few = lit< tt; in_turn = record { in_ring = lit≤ tt; next = refl } };
            },
            (
              record {
                first = lit≤ tt;
                last = lit≤ tt;
                carried = refl;
                allowed = record { few = lit< tt; in_turn = record { in_ring = lit≤ tt; next = refl } };
              },
              (
                record {
                  first = lit≤ tt;
                  last = lit≤ tt;
                  carried = refl;
                  allowed = record { few = lit< tt; in_turn = record { in_ring = lit≤ tt; next = refl } };
                },
                (
                  record {
                    first = lit≤ tt;
                    last = lit≤ tt;
                    carried = refl;
                    allowed = record { few = lit< tt; in_turn = record { in_ring = lit≤ tt; next = refl } };
                  },
                  (
                    record {
                      first = lit≤ tt;
                      last = lit≤ tt;
                      carried = refl;
                      allowed = record { few = lit< tt; in_turn = record { in_ring = lit≤ tt; next = refl } };
                    },
                    (
                      record {
                        first = lit≤ tt;
                        last = lit≤ tt;
                        carried = refl;
                        allowed = record { few = lit< tt; in_turn = record { in_ring = lit≤ tt; next = refl } };
                      },
                      (
                        record {
                          first = lit≤ tt;
                          last = lit≤ tt;
                          carried = refl;
                          allowed = record { few = lit< tt; in_turn = record { in_ring = lit≤ tt; next = refl } };
                        },
                        tt,
                      ),
                    ),
                  ),
                ),
              ),
            ),
          ),
        ),
      ),
    ),
  ),
)
