use Rattle.std.proofs.Common.{◌++◌, [], Option, OnOk, sym, subst}
use Rattle.std.specs.List.{cons_option}
use Rattle.std.specs.Option.{option_map}
use Rattle.ring_records.specs.declared.input.Input.{Input}
use Rattle.node_core.specs.Brought.{brought}
use Rattle.group_commit.specs.Outbox.{IsWith}
use Rattle.group_commit.proofs.desk.parts.accept.Goals as goal

pub returns-in-Some-clause-waits : goal.returns-in-Some-clause-waits
returns-in-Some-clause-waits c =
    subst (λ (o : Option Input). OnOk c.accept_one.result (IsWith c.args.outbox.now c.accept_one.new.outbox (c.args.outbox.now.waiting.items ++ cons_option (option_map (brought c.args.core.now.me c.args.core.now.known) o) [])))
    (sym c.in-Some.is) c.accept_one.ensures.waits
