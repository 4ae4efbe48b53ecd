-- That the worked schedules are schedules, and what becomes durable in them.
use Rattle.std.proofs.Common.{◌≡◌, ℕ, zero, suc, ◌≤◌, Bool, true, false, List, [], Some, refl, sym, ap, subst, ◌∙◌, lit<, lit≤, arith}
use Rattle.std.specs.Prelude.{nat_eq, if◌then◌else◌}
use Rattle.ring_records.specs.declared.base.Base.{Base}
use Rattle.ring_records.specs.declared.reply.Reply.TheVariants as say
use Rattle.ring_records.specs.declared.request.Request.TheVariants as ask
use Rattle.ring_records.specs.Admission.{fresh, cost, used, is_retire, no_room, shortage, snapshot_len, newest}
use Rattle.ring_records.specs.Answering.{refusal, gained, reply}
use Rattle.ring_records.specs.Objection.{retired, already, is_touched, stale, out_of_turn, too_many, objection}
use Rattle.ring_records.specs.Answer.{input_of}
use Rattle.ring_records.specs.Answer as by_rule
use Rattle.ring_records.specs.Emission.{is_below, passed_on, emit, sent}
use Rattle.ring_records.specs.History.{floor_for, floor, is_retired, names, is_named, touched, bid_for, first_stand, stood, message_of, taken, upto_of, credit, is_live_stand, stands}
use Rattle.ring_records.specs.Leader.{is_bid, makes_leader, first_leader, leader, with_term, term_led, greater_term, latest}
use Rattle.ring_records.specs.Lists.{first, found_after, joined_after, EachAfter}
use Rattle.ring_records.specs.Order.{is_less, is_key}
use Rattle.ring_records.specs.Place.{before, after}
use Rattle.ring_records.specs.Part.{item_at, part}
use Rattle.ring_records.specs.WorkedRetire as relay
use Rattle.ring_records.specs.WorkedRetire.{retired_relay}
use Rattle.ring_records.specs.WorkedRun.{red_5, winner, first_election}
use Rattle.ring_records.proofs.Snapshots.{length-empty}
use Rattle.ring_audit.specs.Placement.{IsWhole}
use Rattle.ring_node.specs.declared.flight.Flight.{Flight}
use Rattle.ring_node.specs.declared.flight.Flight.TheVariants.{Batch, Checkpoint}
use Rattle.ring_world.specs.Agreement.{IsDrained, IsRetiredNowhere}
use Rattle.ring_world.specs.Committed.{made_durable, committed_by}
use Rattle.ring_world.specs.Capacity.{committed, process, state_after, all_fresh}
use Rattle.ring_world.specs.Acts.{act, IsReleasable, May, MayHappen}
use Rattle.ring_world.specs.Events.{Action, Replied, Shown}
use Rattle.ring_world.specs.CapacitySchedule.{IsSchedule}
use Rattle.ring_world.specs.Schedules.{Rests, IsDelivered}
use Rattle.ring_world.specs.Histories.{histories}
use Rattle.ring_world.specs.Released.{named_by, named, IsAnnounced}
use Rattle.ring_world.specs.Ring.{launch}
use Rattle.ring_world.specs.Start.{IsFormatted}
use Rattle.ring_world.specs.WorkedSchedule.{election_events, alone, crash_events, crash_run, retire_events, three_layouts, layout_events, layout_run}
use Rattle.ring_world.specs.Events as happening
use Rattle.ring_world.specs.Schedules as by_room
use Rattle.ring_world.specs.Committed as ended
use Rattle.ring_world.proofs.Histories.{whole_histories}
use Rattle.ring_world.proofs.Lawful.{fresh-formatted}

-- ---- from bases whose bytes are numbers

-- what the first area of a new node stands for
counted : Base
counted = record { layout = 3; epoch = 1; inputs = 0; bytes = 42 }

fresh_is : fresh ≡ counted
unfolding counted
fresh_is = λ i. record { layout = 3; epoch = 1; inputs = 0; bytes = length-empty newest (omega arith) i }

all_counted : ℕ → Base
all_counted i = counted

same_start : all_fresh ≡ all_counted
unfolding all_counted
same_start = λ k i. fresh_is k

scheduled : (n capacity : ℕ) (events : List (ℕ × Action)) → EachAfter (MayHappen all_counted n capacity) [] events → IsSchedule all_fresh n capacity events
scheduled n capacity events all = record {
  formatted = fresh-formatted;
  each = subst (λ (start : ℕ → Base). EachAfter (MayHappen start n capacity) [] events) (sym same_start) all;
}

made : (n capacity : ℕ) (events : List (ℕ × Action)) → committed all_fresh n capacity events ≡ committed all_counted n capacity events
made n capacity events = ap (λ (start : ℕ → Base). committed start n capacity events) same_start

-- what each of three versions formatted
layout_formatted : (i : ℕ) → IsFormatted (three_layouts i)
unfolding snapshot_len
layout_formatted i = among (nat_eq i 1) (nat_eq i 2)
  where
    among : (is_first is_second : Bool) → IsFormatted (if is_first
        then record { layout = 1; epoch = 0; inputs = 0; bytes = 0 }
        else (if is_second then record { layout = 2; epoch = 1; inputs = 0; bytes = 38 } else record { layout = 3; epoch = 1; inputs = 0; bytes = 42 }))
    among true b = record { least = lit≤ tt; most = lit≤ tt; is = refl }
    among false true = record { least = lit≤ tt; most = lit≤ tt; is = λ i. record { layout = 2; epoch = 1; inputs = 0; bytes = sym (length-empty 2 (omega arith)) i } }
    among false false = record { least = lit≤ tt; most = lit≤ tt; is = λ i. record { layout = 3; epoch = 1; inputs = 0; bytes = sym (length-empty 3 (omega arith)) i } }

-- ---- the schedules

election_durable : committed all_counted 3 65536 election_events ≡ first_election
unfolding counted all_counted happening.process ended.committed committed_by made_durable before after happening.act part item_at found_after first joined_after by_rule.gained input_of by_rule.reply by_rule.refusal objection shortage no_room is_touched already stale out_of_turn too_many latest term_led with_term greater_term used cost retired is_retire floor_for floor is_retired names is_named touched bid_for first_stand stood message_of taken upto_of credit is_live_stand stands is_below is_less is_key is_bid makes_leader first_leader leader passed_on emit sent
election_durable = refl

pub election_committed : committed all_fresh 3 65536 election_events ≡ first_election
election_committed = made 3 65536 election_events ∙ election_durable

election_each : EachAfter (MayHappen all_counted 3 65536) [] election_events
unfolding counted all_counted happening.process EachAfter by_room.May IsDelivered by_room.IsReleasable Rests before after happening.act part item_at found_after first joined_after by_rule.gained input_of by_rule.reply by_rule.refusal objection shortage no_room is_touched already stale out_of_turn too_many latest term_led with_term greater_term used cost retired is_retire floor_for floor is_retired names is_named touched bid_for first_stand stood message_of taken upto_of credit is_live_stand stands is_below is_less is_key is_bid makes_leader first_leader leader passed_on emit sent
election_each =
    (record { first = lit≤ tt; last = lit≤ tt; may = tt }, (record { first = lit≤ tt; last = lit≤ tt; may = refl }, (record { first = lit≤ tt; last = lit≤ tt; may = refl }, (record { first = lit≤ tt; last = lit≤ tt; may = ((0, lit< tt, refl), lit≤ tt) }, (record { first = lit≤ tt; last = lit≤ tt; may = tt }, (record { first = lit≤ tt; last = lit≤ tt; may = refl }, (record { first = lit≤ tt; last = lit≤ tt; may = refl }, (record { first = lit≤ tt; last = lit≤ tt; may = ((0, lit< tt, refl), lit≤ tt) }, (record { first = lit≤ tt; last = lit≤ tt; may = tt }, (record { first = lit≤ tt; last = lit≤ tt; may = refl }, (record { first = lit≤ tt; last = lit≤ tt; may = refl }, (record { first = lit≤ tt; last = lit≤ tt; may = ((0, lit< tt, refl), lit≤ tt) }, (record { first = lit≤ tt; last = lit≤ tt; may = record { number = 1; durable = lit≤ tt; rests = refl } }, (record { first = lit≤ tt; last = lit≤ tt; may = (12, lit< tt, refl) }, (record { first = lit≤ tt; last = lit≤ tt; may = refl }, (record { first = lit≤ tt; last = lit≤ tt; may = refl }, (record { first = lit≤ tt; last = lit≤ tt; may = ((1, lit< tt, refl), lit≤ tt) }, (record { first = lit≤ tt; last = lit≤ tt; may = record { number = 1; durable = lit≤ tt; rests = refl } }, (record { first = lit≤ tt; last = lit≤ tt; may = (17, lit< tt, refl) }, (record { first = lit≤ tt; last = lit≤ tt; may = refl }, (record { first = lit≤ tt; last = lit≤ tt; may = refl }, (record { first = lit≤ tt; last = lit≤ tt; may = ((1, lit< tt, refl), lit≤ tt) }, (record { first = lit≤ tt; last = lit≤ tt; may = record { number = 1; durable = lit≤ tt; rests = refl } }, (record { first = lit≤ tt; last = lit≤ tt; may = (22, lit< tt, refl) }, (record { first = lit≤ tt; last = lit≤ tt; may = refl }, (record { first = lit≤ tt; last = lit≤ tt; may = refl }, (record { first = lit≤ tt; last = lit≤ tt; may = ((1, lit< tt, refl), lit≤ tt) }, (record { first = lit≤ tt; last = lit≤ tt; may = record { number = 2; durable = lit≤ tt; rests = refl } }, (record { first = lit≤ tt; last = lit≤ tt; may = (27, lit< tt, refl) }, (record { first = lit≤ tt; last = lit≤ tt; may = refl }, (record { first = lit≤ tt; last = lit≤ tt; may = refl }, (record { first = lit≤ tt; last = lit≤ tt; may = ((2, lit< tt, refl), lit≤ tt) }, (record { first = lit≤ tt; last = lit≤ tt; may = record { number = 2; durable = lit≤ tt; rests = refl } }, (record { first = lit≤ tt; last = lit≤ tt; may = (32, lit< tt, refl) }, (record { first = lit≤ tt; last = lit≤ tt; may = refl }, (record { first = lit≤ tt; last = lit≤ tt; may = refl }, (record { first = lit≤ tt; last = lit≤ tt; may = ((2, lit< tt, refl), lit≤ tt) }, (record { first = lit≤ tt; last = lit≤ tt; may = record { number = 3; durable = lit≤ tt; rests = refl } }, (record { first = lit≤ tt; last = lit≤ tt; may = (37, lit< tt, refl) }, (record { first = lit≤ tt; last = lit≤ tt; may = refl }, (record { first = lit≤ tt; last = lit≤ tt; may = refl }, (record { first = lit≤ tt; last = lit≤ tt; may = ((3, lit< tt, refl), lit≤ tt) }, (record { first = lit≤ tt; last = lit≤ tt; may = record { number = 4; durable = lit≤ tt; rests = refl } }, (record { first = lit≤ tt; last = lit≤ tt; may = (42, lit< tt, refl) }, (record { first = lit≤ tt; last = lit≤ tt; may = refl }, (record { first = lit≤ tt; last = lit≤ tt; may = refl }, (record { first = lit≤ tt; last = lit≤ tt; may = ((2, lit< tt, refl), lit≤ tt) }, (record { first = lit≤ tt; last = lit≤ tt; may = record { number = 3; durable = lit≤ tt; rests = refl } }, (record { first = lit≤ tt; last = lit≤ tt; may = (47, lit< tt, refl) }, (record { first = lit≤ tt; last = lit≤ tt; may = refl }, (record { first = lit≤ tt; last = lit≤ tt; may = refl }, (record { first = lit≤ tt; last = lit≤ tt; may = ((3, lit< tt, refl), lit≤ tt) }, (record { first = lit≤ tt; last = lit≤ tt; may = record { number = 4; durable = lit≤ tt; rests = refl } }, (record { first = lit≤ tt; last = lit≤ tt; may = (52, lit< tt, refl) }, (record { first = lit≤ tt; last = lit≤ tt; may = refl }, (record { first = lit≤ tt; last = lit≤ tt; may = refl }, (record { first = lit≤ tt; last = lit≤ tt; may = ((4, lit< tt, refl), lit≤ tt) }, (record { first = lit≤ tt; last = lit≤ tt; may = tt }, (record { first = lit≤ tt; last = lit≤ tt; may = ((4, lit< tt, refl), lit≤ tt) }, (record { first = lit≤ tt; last = lit≤ tt; may = tt }, (record { first = lit≤ tt; last = lit≤ tt; may = ((5, lit< tt, refl), lit≤ tt) }, (record { first = lit≤ tt; last = lit≤ tt; may = tt }, (record { first = lit≤ tt; last = lit≤ tt; may = ((3, lit< tt, refl), lit≤ tt) }, (record { first = lit≤ tt; last = lit≤ tt; may = record { number = 3; durable = lit≤ tt; rests = refl } }, tt))))))))))))))))))))))))))))))))))))))))))))))))))))))))))))))))

pub election_schedule : IsSchedule all_fresh 3 65536 election_events
election_schedule = scheduled 3 65536 election_events election_each

pub election_announced : IsAnnounced election_events red_5 winner
unfolding named
election_announced = record { node = 3; thing = Shown red_5 winner; released = (63, lit< tt, refl); names = refl }

-- each message that was sent in it was taken, and no term retired
pub election_drained : IsDrained 3 first_election
unfolding IsDrained after part item_at found_after first_stand first joined_after floor_for floor is_retired names is_named touched bid_for stood message_of taken is_live_stand is_below is_less is_key is_bid makes_leader first_leader leader passed_on emit sent
election_drained zero msg low high p = absurd (omega arith)
election_drained (suc zero) msg low high p = p
election_drained (suc (suc zero)) msg low high p = p
election_drained (suc (suc (suc zero))) msg low high p = p
election_drained (suc (suc (suc (suc i)))) msg low high p = absurd (omega arith)

pub election_live : IsRetiredNowhere 3 first_election red_5
unfolding IsRetiredNowhere part item_at floor_for floor is_retired is_named is_key
election_live zero low high = absurd (omega arith)
election_live (suc zero) low high = refl
election_live (suc (suc zero)) low high = refl
election_live (suc (suc (suc zero))) low high = refl
election_live (suc (suc (suc (suc i)))) low high = absurd (omega arith)

-- with batches, and with checkpoints
crash_durable : (flight : Flight) → committed all_counted 2 4096 (crash_events (launch flight)) ≡ crash_run
unfolding counted all_counted happening.process ended.committed committed_by made_durable before after happening.act part item_at found_after first joined_after by_rule.gained input_of by_rule.reply by_rule.refusal objection shortage no_room is_touched already stale out_of_turn too_many latest term_led with_term greater_term used cost retired is_retire floor_for floor is_retired names is_named touched bid_for first_stand stood message_of taken upto_of credit is_live_stand stands is_below is_less is_key is_bid makes_leader first_leader leader passed_on emit sent
crash_durable Batch = refl
crash_durable Checkpoint = refl

pub crash_committed : (flight : Flight) → committed all_fresh 2 4096 (crash_events (launch flight)) ≡ crash_run
crash_committed flight = made 2 4096 (crash_events (launch flight)) ∙ crash_durable flight

crash_each : (flight : Flight) → EachAfter (MayHappen all_counted 2 4096) [] (crash_events (launch flight))
unfolding counted all_counted happening.process EachAfter by_room.May IsDelivered by_room.IsReleasable Rests before after happening.act part item_at found_after first joined_after by_rule.gained input_of by_rule.reply by_rule.refusal objection shortage no_room is_touched already stale out_of_turn too_many latest term_led with_term greater_term used cost retired is_retire floor_for floor is_retired names is_named touched bid_for first_stand stood message_of taken upto_of credit is_live_stand stands is_below is_less is_key is_bid makes_leader first_leader leader passed_on emit sent
crash_each Batch = (record { first = lit≤ tt; last = lit≤ tt; may = tt }, (record { first = lit≤ tt; last = lit≤ tt; may = refl }, (record { first = lit≤ tt; last = lit≤ tt; may = refl }, (record { first = lit≤ tt; last = lit≤ tt; may = ((0, lit< tt, refl), lit≤ tt) }, (record { first = lit≤ tt; last = lit≤ tt; may = record { number = 1; durable = lit≤ tt; rests = refl } }, (record { first = lit≤ tt; last = lit≤ tt; may = (4, lit< tt, refl) }, (record { first = lit≤ tt; last = lit≤ tt; may = refl }, (record { first = lit≤ tt; last = lit≤ tt; may = tt }, (record { first = lit≤ tt; last = lit≤ tt; may = (4, lit< tt, refl) }, (record { first = lit≤ tt; last = lit≤ tt; may = refl }, (record { first = lit≤ tt; last = lit≤ tt; may = tt }, (record { first = lit≤ tt; last = lit≤ tt; may = record { number = 1; durable = lit≤ tt; rests = refl } }, (record { first = lit≤ tt; last = lit≤ tt; may = (11, lit< tt, refl) }, (record { first = lit≤ tt; last = lit≤ tt; may = refl }, (record { first = lit≤ tt; last = lit≤ tt; may = refl }, (record { first = lit≤ tt; last = lit≤ tt; may = ((1, lit< tt, refl), lit≤ tt) }, (record { first = lit≤ tt; last = lit≤ tt; may = tt }, (record { first = lit≤ tt; last = lit≤ tt; may = ((2, lit< tt, refl), lit≤ tt) }, tt))))))))))))))))))
crash_each Checkpoint = (record { first = lit≤ tt; last = lit≤ tt; may = tt }, (record { first = lit≤ tt; last = lit≤ tt; may = refl }, (record { first = lit≤ tt; last = lit≤ tt; may = refl }, (record { first = lit≤ tt; last = lit≤ tt; may = ((0, lit< tt, refl), lit≤ tt) }, (record { first = lit≤ tt; last = lit≤ tt; may = record { number = 1; durable = lit≤ tt; rests = refl } }, (record { first = lit≤ tt; last = lit≤ tt; may = (4, lit< tt, refl) }, (record { first = lit≤ tt; last = lit≤ tt; may = (refl, record { least = lit≤ tt; most = lit≤ tt }) }, (record { first = lit≤ tt; last = lit≤ tt; may = tt }, (record { first = lit≤ tt; last = lit≤ tt; may = (4, lit< tt, refl) }, (record { first = lit≤ tt; last = lit≤ tt; may = (refl, record { least = lit≤ tt; most = lit≤ tt }) }, (record { first = lit≤ tt; last = lit≤ tt; may = tt }, (record { first = lit≤ tt; last = lit≤ tt; may = record { number = 1; durable = lit≤ tt; rests = refl } }, (record { first = lit≤ tt; last = lit≤ tt; may = (11, lit< tt, refl) }, (record { first = lit≤ tt; last = lit≤ tt; may = refl }, (record { first = lit≤ tt; last = lit≤ tt; may = refl }, (record { first = lit≤ tt; last = lit≤ tt; may = ((1, lit< tt, refl), lit≤ tt) }, (record { first = lit≤ tt; last = lit≤ tt; may = tt }, (record { first = lit≤ tt; last = lit≤ tt; may = ((2, lit< tt, refl), lit≤ tt) }, tt))))))))))))))))))

pub crash_schedule : (flight : Flight) → IsSchedule all_fresh 2 4096 (crash_events (launch flight))
crash_schedule flight = scheduled 2 4096 (crash_events (launch flight)) (crash_each flight)

pub crash_announced : (begin : Action) → IsAnnounced (crash_events begin) red_5 alone
unfolding named named_by
crash_announced begin = record { node = 1; thing = Replied (record { question = ask.Who red_5; answer = record { reply = say.Leader (Some alone); number = 2 } }); released = (17, lit< tt, refl); names = refl }

-- with a Retire
retire_durable : committed all_counted 2 4096 retire_events ≡ retired_relay
unfolding counted all_counted happening.process ended.committed committed_by made_durable before after happening.act part item_at found_after first joined_after by_rule.gained input_of by_rule.reply by_rule.refusal objection shortage no_room is_touched already stale out_of_turn too_many latest term_led with_term greater_term used cost retired is_retire floor_for floor is_retired names is_named touched bid_for first_stand stood message_of taken upto_of credit is_live_stand stands is_below is_less is_key is_bid makes_leader first_leader leader passed_on emit sent
retire_durable = refl

pub retire_committed : committed all_fresh 2 4096 retire_events ≡ retired_relay
retire_committed = made 2 4096 retire_events ∙ retire_durable

retire_each : EachAfter (MayHappen all_counted 2 4096) [] retire_events
unfolding counted all_counted happening.process EachAfter by_room.May IsDelivered by_room.IsReleasable Rests before after happening.act part item_at found_after first joined_after by_rule.gained input_of by_rule.reply by_rule.refusal objection shortage no_room is_touched already stale out_of_turn too_many latest term_led with_term greater_term used cost retired is_retire floor_for floor is_retired names is_named touched bid_for first_stand stood message_of taken upto_of credit is_live_stand stands is_below is_less is_key is_bid makes_leader first_leader leader passed_on emit sent
retire_each = (record { first = lit≤ tt; last = lit≤ tt; may = tt }, (record { first = lit≤ tt; last = lit≤ tt; may = refl }, (record { first = lit≤ tt; last = lit≤ tt; may = refl }, (record { first = lit≤ tt; last = lit≤ tt; may = ((0, lit< tt, refl), lit≤ tt) }, (record { first = lit≤ tt; last = lit≤ tt; may = record { number = 1; durable = lit≤ tt; rests = refl } }, (record { first = lit≤ tt; last = lit≤ tt; may = (4, lit< tt, refl) }, (record { first = lit≤ tt; last = lit≤ tt; may = refl }, (record { first = lit≤ tt; last = lit≤ tt; may = refl }, (record { first = lit≤ tt; last = lit≤ tt; may = ((0, lit< tt, refl), lit≤ tt) }, (record { first = lit≤ tt; last = lit≤ tt; may = record { number = 1; durable = lit≤ tt; rests = refl } }, (record { first = lit≤ tt; last = lit≤ tt; may = (9, lit< tt, refl) }, (record { first = lit≤ tt; last = lit≤ tt; may = refl }, (record { first = lit≤ tt; last = lit≤ tt; may = refl }, (record { first = lit≤ tt; last = lit≤ tt; may = ((1, lit< tt, refl), lit≤ tt) }, (record { first = lit≤ tt; last = lit≤ tt; may = tt }, (record { first = lit≤ tt; last = lit≤ tt; may = refl }, (record { first = lit≤ tt; last = lit≤ tt; may = refl }, (record { first = lit≤ tt; last = lit≤ tt; may = ((2, lit< tt, refl), lit≤ tt) }, (record { first = lit≤ tt; last = lit≤ tt; may = tt }, (record { first = lit≤ tt; last = lit≤ tt; may = refl }, (record { first = lit≤ tt; last = lit≤ tt; may = refl }, (record { first = lit≤ tt; last = lit≤ tt; may = ((1, lit< tt, refl), lit≤ tt) }, (record { first = lit≤ tt; last = lit≤ tt; may = record { number = 2; durable = lit≤ tt; rests = refl } }, (record { first = lit≤ tt; last = lit≤ tt; may = (22, lit< tt, refl) }, (record { first = lit≤ tt; last = lit≤ tt; may = refl }, (record { first = lit≤ tt; last = lit≤ tt; may = refl }, (record { first = lit≤ tt; last = lit≤ tt; may = ((3, lit< tt, refl), lit≤ tt) }, (record { first = lit≤ tt; last = lit≤ tt; may = tt }, (record { first = lit≤ tt; last = lit≤ tt; may = ((4, lit< tt, refl), lit≤ tt) }, (record { first = lit≤ tt; last = lit≤ tt; may = tt }, (record { first = lit≤ tt; last = lit≤ tt; may = ((5, lit< tt, refl), lit≤ tt) }, tt)))))))))))))))))))))))))))))))

pub retire_schedule : IsSchedule all_fresh 2 4096 retire_events
retire_schedule = scheduled 2 4096 retire_events retire_each

pub retire_announced : IsAnnounced retire_events (relay.red 9) relay.alone
unfolding named named_by
retire_announced = record { node = 1; thing = Replied (record { question = ask.Who (relay.red 9); answer = record { reply = say.Leader (Some relay.alone); number = 4 } }); released = (28, lit< tt, refl); names = refl }

-- from three layouts
pub layout_committed : committed three_layouts 3 4096 layout_events ≡ layout_run
unfolding happening.process ended.committed committed_by made_durable before after happening.act part item_at found_after first joined_after by_rule.gained input_of by_rule.reply by_rule.refusal objection shortage no_room is_touched already stale out_of_turn too_many latest term_led with_term greater_term used cost retired is_retire floor_for floor is_retired names is_named touched bid_for first_stand stood message_of taken upto_of credit is_live_stand stands is_below is_less is_key is_bid makes_leader first_leader leader passed_on emit sent
layout_committed = refl

layout_each : EachAfter (MayHappen three_layouts 3 4096) [] layout_events
unfolding happening.process EachAfter by_room.May IsDelivered by_room.IsReleasable Rests before after happening.act part item_at found_after first joined_after by_rule.gained input_of by_rule.reply by_rule.refusal objection shortage no_room is_touched already stale out_of_turn too_many latest term_led with_term greater_term used cost retired is_retire floor_for floor is_retired names is_named touched bid_for first_stand stood message_of taken upto_of credit is_live_stand stands is_below is_less is_key is_bid makes_leader first_leader leader passed_on emit sent
layout_each = (record { first = lit≤ tt; last = lit≤ tt; may = tt }, (record { first = lit≤ tt; last = lit≤ tt; may = refl }, (record { first = lit≤ tt; last = lit≤ tt; may = refl }, (record { first = lit≤ tt; last = lit≤ tt; may = ((0, lit< tt, refl), lit≤ tt) }, (record { first = lit≤ tt; last = lit≤ tt; may = record { number = 1; durable = lit≤ tt; rests = refl } }, (record { first = lit≤ tt; last = lit≤ tt; may = (4, lit< tt, refl) }, (record { first = lit≤ tt; last = lit≤ tt; may = refl }, (record { first = lit≤ tt; last = lit≤ tt; may = refl }, (record { first = lit≤ tt; last = lit≤ tt; may = ((0, lit< tt, refl), lit≤ tt) }, (record { first = lit≤ tt; last = lit≤ tt; may = record { number = 1; durable = lit≤ tt; rests = refl } }, (record { first = lit≤ tt; last = lit≤ tt; may = (9, lit< tt, refl) }, (record { first = lit≤ tt; last = lit≤ tt; may = refl }, (record { first = lit≤ tt; last = lit≤ tt; may = refl }, (record { first = lit≤ tt; last = lit≤ tt; may = ((0, lit< tt, refl), lit≤ tt) }, (record { first = lit≤ tt; last = lit≤ tt; may = record { number = 1; durable = lit≤ tt; rests = refl } }, (record { first = lit≤ tt; last = lit≤ tt; may = (14, lit< tt, refl) }, (record { first = lit≤ tt; last = lit≤ tt; may = refl }, (record { first = lit≤ tt; last = lit≤ tt; may = refl }, (record { first = lit≤ tt; last = lit≤ tt; may = ((1, lit< tt, refl), lit≤ tt) }, (record { first = lit≤ tt; last = lit≤ tt; may = record { number = 2; durable = lit≤ tt; rests = refl } }, (record { first = lit≤ tt; last = lit≤ tt; may = (19, lit< tt, refl) }, (record { first = lit≤ tt; last = lit≤ tt; may = refl }, (record { first = lit≤ tt; last = lit≤ tt; may = refl }, (record { first = lit≤ tt; last = lit≤ tt; may = ((1, lit< tt, refl), lit≤ tt) }, (record { first = lit≤ tt; last = lit≤ tt; may = record { number = 2; durable = lit≤ tt; rests = refl } }, (record { first = lit≤ tt; last = lit≤ tt; may = (24, lit< tt, refl) }, (record { first = lit≤ tt; last = lit≤ tt; may = refl }, (record { first = lit≤ tt; last = lit≤ tt; may = refl }, (record { first = lit≤ tt; last = lit≤ tt; may = ((1, lit< tt, refl), lit≤ tt) }, (record { first = lit≤ tt; last = lit≤ tt; may = record { number = 2; durable = lit≤ tt; rests = refl } }, (record { first = lit≤ tt; last = lit≤ tt; may = (29, lit< tt, refl) }, (record { first = lit≤ tt; last = lit≤ tt; may = (refl, record { least = lit≤ tt; most = lit≤ tt }) }, (record { first = lit≤ tt; last = lit≤ tt; may = tt }, (record { first = lit≤ tt; last = lit≤ tt; may = (29, lit< tt, refl) }, (record { first = lit≤ tt; last = lit≤ tt; may = (refl, record { least = lit≤ tt; most = lit≤ tt }) }, (record { first = lit≤ tt; last = lit≤ tt; may = tt }, (record { first = lit≤ tt; last = lit≤ tt; may = (refl, record { least = lit≤ tt; most = lit≤ tt }) }, (record { first = lit≤ tt; last = lit≤ tt; may = tt }, (record { first = lit≤ tt; last = lit≤ tt; may = tt }, (record { first = lit≤ tt; last = lit≤ tt; may = ((0, lit< tt, refl), lit≤ tt) }, (record { first = lit≤ tt; last = lit≤ tt; may = tt }, (record { first = lit≤ tt; last = lit≤ tt; may = ((2, lit< tt, refl), lit≤ tt) }, (record { first = lit≤ tt; last = lit≤ tt; may = tt }, (record { first = lit≤ tt; last = lit≤ tt; may = ((2, lit< tt, refl), lit≤ tt) }, tt))))))))))))))))))))))))))))))))))))))))))))

pub layout_schedule : IsSchedule three_layouts 3 4096 layout_events
layout_schedule = record { formatted = layout_formatted; each = layout_each }

pub layout_announced : IsAnnounced layout_events red_5 alone
unfolding named named_by
layout_announced = record { node = 1; thing = Replied (record { question = ask.Who red_5; answer = record { reply = say.Leader (Some alone); number = 3 } }); released = (39, lit< tt, refl); names = refl }

-- at its end each node knows the leader
pub layout_decides : (i : ℕ) → 1 ≤ i → i ≤ 3 → leader i (part layout_run i) red_5 ≡ Some alone
unfolding part item_at found_after first floor_for floor is_retired is_named bid_for first_stand stood is_key is_bid makes_leader first_leader leader
layout_decides zero low high = absurd (omega arith)
layout_decides (suc zero) low high = refl
layout_decides (suc (suc zero)) low high = refl
layout_decides (suc (suc (suc zero))) low high = refl
layout_decides (suc (suc (suc (suc i)))) low high = absurd (omega arith)

-- the journal of node 1 is of the newest layout there
pub layout_renewed : (state_after three_layouts 3 4096 layout_events 1).base.layout ≡ newest
unfolding happening.process before after happening.act part item_at found_after first joined_after by_rule.gained input_of by_rule.reply by_rule.refusal objection shortage no_room is_touched already stale out_of_turn too_many latest term_led with_term greater_term used cost retired is_retire floor_for floor is_retired names is_named touched bid_for first_stand stood message_of taken upto_of credit is_live_stand stands is_below is_less is_key is_bid makes_leader first_leader leader passed_on emit sent
layout_renewed = refl

pub layout_whole : IsWhole (histories three_layouts 3 4096 layout_events) layout_run
layout_whole = subst (IsWhole (histories three_layouts 3 4096 layout_events)) layout_committed (whole_histories three_layouts 3 4096 layout_events layout_schedule)
