use Rattle.decision_board.proofs.Next.{next_same}
use Rattle.decision_board.proofs.store.Store.next.Goals as goal

pub returns : goal.returns
returns c = next_same c.args.self.now.leaders c.args.self.now.floors c.args.self.now.front.mark.notices c.args.after c.next.result c.requires c.next.ensures
