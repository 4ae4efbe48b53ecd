use Rattle.decision_board.proofs.Maps.{latest_of}
use Rattle.decision_board.proofs.store.Store.latest.Goals as goal

pub returns : goal.returns
returns c = latest_of c.args.self.now.leaders c.args.self.now.floors c.args.self.now.front.mark.notices c.args.group.now c.latest.result c.requires c.latest.ensures
