use Rattle.ring_node.specs.declared.flight.Flight.TheVariants.{Batch, Checkpoint}
use Rattle.ring_records.specs.Admission.{newest}
use Rattle.ring_world.specs.Events.{Launch, LaunchAll}
use Rattle.ring_world.proofs.WorkedSchedule.{election_committed, election_schedule, election_announced, election_drained, election_live, crash_committed, crash_schedule, crash_announced, retire_schedule, retire_committed, retire_announced, layout_schedule, layout_committed, layout_announced, layout_decides, layout_renewed, layout_whole}
use Rattle.ring_world.proofs.laws.worked.worked_schedules.Goals as goal

pub returns : goal.returns
returns c = record {
  election = election_schedule;
  election_durable = election_committed;
  election_announced = election_announced;
  drained = election_drained;
  live = election_live;
  crashes = crash_schedule Batch;
  crashes_durable = crash_committed Batch;
  crashes_announced = crash_announced Launch;
  checkpoints = crash_schedule Checkpoint;
  checkpoints_durable = crash_committed Checkpoint;
  checkpoints_announced = crash_announced (LaunchAll newest);
  retire = retire_schedule;
  retire_durable = retire_committed;
  retire_announced = retire_announced;
  layouts = layout_schedule;
  layouts_durable = layout_committed;
  layouts_announced = layout_announced;
  layouts_decide = layout_decides;
  layouts_renewed = layout_renewed;
  layouts_whole = layout_whole;
}
