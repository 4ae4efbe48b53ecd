use Rattle.std.proofs.Common.{List, sym, subst}
use Rattle.ring_records.specs.declared.input.Input.{Input}
use Rattle.group_commit.specs.Next.{durable_part}
use Rattle.group_commit.proofs.Seen.{lawful_desk}
use Rattle.commit_hub.specs.Told.{IsWindow}
use Rattle.commit_hub.proofs.Batches.{is_window, named}
use Rattle.commit_hub.proofs.locked.Locked.window.Goals as goal

pub returns-clause-lawful : goal.returns-clause-lawful
returns-clause-lawful g c =
    let old = c.args.self.now in
    let desk = old.shared.desk in
    let list = c.in_ok-list.list.items in
    subst (λ (since : List Input). IsWindow g.A.NodeLedger.member g.A.NodeLedger.opening since list) (sym c.tell.ensures.begun)
    (named (λ m opening. IsWindow m opening (durable_part desk).inputs list) desk _ _ old.of old.opening (is_window list desk (lawful_desk desk c.in_ok-list.ensures.known) c.in_ok-list.ensures.packets))
