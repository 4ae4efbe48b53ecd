use Rattle.std.proofs.Common.{◌≡◌, ◌≤◌, ◌+◌, length, take}
use Rattle.ring_records.specs.History.{taken}
use Rattle.ring_start.proofs.Messages.{AreThose}
use Rattle.ring_start.proofs.look_over.are_those.Given as goal

-- the messages of the inputs before this one are those that were sent
abbrev pub invariant-loop-input : goal.invariant-loop-input
invariant-loop-input l = record {
  place : l.place ≡ l.taken + length (taken (take l.input-index l.inputs));
  few : l.place ≤ l.taken + l.input-index;
  those : AreThose l.messages l.first l.taken (taken (take l.input-index l.inputs));
}
