-- That what a flusher keeps to has one proof at most.
use Rattle.std.specs.Prelude.{◌≡◌, ℕ, Bool, false}
use Rattle.std.specs.Coded.{Coded-set, coded_ℕ}
use Rattle.ring_records.specs.declared.summary.Summary.{Summary}
use Rattle.ring_records.specs.Member.{Member}
use Rattle.group_commit.specs.Next.{Durable}
use Rattle.ring_service.specs.Rounds.{HasKnown}

pub HasKnown-prop : (ended : Bool) (m : Member) (opening : Summary) (known : Durable) (len room layout epoch : ℕ) → IsProp (ended ≡ false → HasKnown m opening known len room layout epoch)
HasKnown-prop ended m opening known len room layout epoch p q i = λ works. record {
  count = Coded-set coded_ℕ _ _ (p works).count (q works).count i;
  left = Coded-set coded_ℕ _ _ (p works).left (q works).left i;
  form = Coded-set coded_ℕ _ _ (p works).form (q works).form i;
  area = Coded-set coded_ℕ _ _ (p works).area (q works).area i;
}
