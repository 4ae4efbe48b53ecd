use Rattle.std.proofs.Common.{◌≡◌, refl, ◌∙◌}
use Rattle.ring_records.specs.declared.msg.Msg.{Msg}
use Rattle.ring_records.specs.declared.msg.Msg.TheVariants.{Token, Elected}
use Rattle.ring_records.specs.contracts.msg.MsgPartialEq as derived
use Rattle.ring_records.specs.Order.{is_key}
use Rattle.ring_world.specs.Ring.{is_candidate, is_msg}
use Rattle.ring_world.proofs.working.is_same.Goals as goal

same : (a b : Msg) → (derived.TheImpl.eq-value).it a b ≡ is_msg a b
unfolding is_key is_candidate is_msg
same (Token k c) (Token l d) = refl
same (Token k c) (Elected l d) = refl
same (Elected k c) (Token l d) = refl
same (Elected k c) (Elected l d) = refl

pub returns : goal.returns
returns c = c.eq.ensures ∙ same c.args.a.now c.args.b.now
