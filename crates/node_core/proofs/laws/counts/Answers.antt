use Rattle.std.proofs.Common.{ap}
use Rattle.ring_records.specs.declared.room.Room.{Room}
use Rattle.ring_records.specs.declared.summary.Summary.{Summary}
use Rattle.node_core.proofs.laws.counts.Goals as goal

pub returns : goal.returns
returns c = record {
  inputs = λ core base h s. ap (λ (k : Summary). k.inputs) s.knows;
  sent = λ core base h s. ap (λ (k : Summary). k.sent) s.knows;
  taken = λ core base h s. ap (λ (k : Summary). k.taken) s.knows;
  credit = λ core base h s. ap (λ (k : Summary). k.credit) s.knows;
  window = λ core base h s. ap (λ (k : Summary). k.window) s.knows;
  stands = λ core base h s. ap (λ (k : Summary). k.stands) s.knows;
  floors = λ core base h s. ap (λ (k : Summary). k.floors) s.knows;
  used = λ core base h s. ap (λ (r : Room). r.taken) s.room;
}
