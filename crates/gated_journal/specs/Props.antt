-- That each fact of a batch has one proof at most.
use Rattle.std.specs.Prelude.{ℕ, List, [], ◌∷◌}
use Rattle.std.specs.Coded.{Coded-set, coded_bool, coded_list, coded_ℕ, le_prop, Unit-prop, ×_prop}
use Rattle.ring_records.specs.declared.candidate.Candidate.{Candidate}
use Rattle.ring_records.specs.declared.input.Input.{Input}
use Rattle.ring_records.specs.declared.input.Input.TheVariants.{Stand, Take, Acked, Retire}
use Rattle.ring_records.specs.declared.key.Key.{Key}
use Rattle.ring_records.specs.Message.{key_of, candidate_of}
use Rattle.ring_records.specs.Record.{IsKeyInRange, IsCandidateInRange, HasRecord}
use Rattle.gated_journal.specs.Frames.{Suits, HaveRecords, IsBatch}
use Rattle.gated_journal.specs.AreaWritten.{IsFrame}

pub key_prop : (key : Key) → IsProp (IsKeyInRange key)
key_prop key p q i = record { name = Coded-set coded_bool _ _ p.name q.name i; from = le_prop p.from q.from i; to = le_prop p.to q.to i }

pub candidate_prop : (c : Candidate) → IsProp (IsCandidateInRange c)
candidate_prop c p q i = record { bid = le_prop p.bid q.bid i; from = le_prop p.from q.from i; to = le_prop p.to q.to i }

pub HasRecord-prop : (x : Input) → IsProp (HasRecord x)
unfolding HasRecord
HasRecord-prop (Stand key bid) p q i = (key_prop key p.0 q.0 i, le_prop p.1 q.1 i)
HasRecord-prop (Take msg_no msg) p q i = (le_prop p.0 q.0 i, key_prop (key_of msg) p.1 q.1 i, candidate_prop (candidate_of msg) p.2 q.2 i)
HasRecord-prop (Acked upto) p q i = le_prop p q i
HasRecord-prop (Retire group new) p q i = key_prop (record { group = group; term = new }) p q i

pub Suits-prop : (layout : ℕ) (x : Input) → IsProp (Suits layout x)
Suits-prop layout (Stand key bid) = Unit-prop
Suits-prop layout (Take msg_no msg) = Unit-prop
Suits-prop layout (Acked upto) = Unit-prop
Suits-prop layout (Retire group new) = Coded-set coded_bool _ _

pub HaveRecords-prop : (layout : ℕ) (inputs : List Input) → IsProp (HaveRecords layout inputs)
HaveRecords-prop layout [] = Unit-prop
HaveRecords-prop layout (x ∷ inputs) = ×_prop (×_prop (HasRecord-prop x) (Suits-prop layout x)) (HaveRecords-prop layout inputs)

pub IsBatch-prop : (layout : ℕ) (inputs : List Input) → IsProp (IsBatch layout inputs)
IsBatch-prop layout inputs p q i = record { some = le_prop p.some q.some i; few = le_prop p.few q.few i; have = HaveRecords-prop layout inputs p.have q.have i }

pub IsFrame-prop : (layout : ℕ) (inputs : List Input) (bytes : List ℕ) → IsProp (IsFrame layout inputs bytes)
IsFrame-prop layout inputs bytes p q i = record { is_batch = IsBatch-prop layout inputs p.is_batch q.is_batch i; bytes_are = Coded-set (coded_list coded_ℕ) _ _ p.bytes_are q.bytes_are i }
