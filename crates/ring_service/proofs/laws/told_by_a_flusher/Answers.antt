use Rattle.ring_records.specs.States.{left_by}
use Rattle.std.proofs.Common.{◌++◌, subst}
use Rattle.std.specs.List.{Contains}
use Rattle.ring_records.specs.declared.packet.Packet.{Packet}
use Rattle.std.specs.Prelude.{List}
use Rattle.ring_records.proofs.Resting.{window-rests}
use Rattle.ring_service.proofs.Begun.{answers_stay, begins_behind, begins_cut, known_sooner, packet_stays}
use Rattle.ring_service.proofs.laws.told_by_a_flusher.Goals as goal

pub returns-clause-rounds : goal.returns-clause-rounds
returns-clause-rounds g c = begins_behind g.V.Device g.A.NodeLedger.member g.A.NodeLedger.opening g.met.V.Device.only_now

pub returns-clause-cut : goal.returns-clause-cut
returns-clause-cut g c = begins_cut g.V.Device g.A.NodeLedger.member g.A.NodeLedger.opening

pub returns-clause-sooner : goal.returns-clause-sooner
returns-clause-sooner g c = known_sooner

pub returns-clause-reply : goal.returns-clause-reply
returns-clause-reply g c = λ past begun image keep given left answer.
    answers_stay g.A.NodeLedger.member past begun (left_by keep left.state).inputs given (left.begins keep) answer

pub returns-clause-window : goal.returns-clause-window
returns-clause-window g c = λ past begun image keep list packet left shown here.
    packet_stays g.A.NodeLedger.member.node (past ++ begun) (left_by keep left.state).inputs packet (left.begins keep)
    (window-rests g.A.NodeLedger.member.node (past ++ begun) packet (subst (λ (l : List Packet). Contains l packet) shown.packets here))
