use Rattle.std.proofs.Common.{rules, ◌≡◌, true, is_ok}
use Rattle.group_commit.proofs.Opening.{on_ok, when_err}
use Rattle.group_commit.proofs.Settling.{still_loaded}
use Rattle.group_commit.proofs.desk.parts.prepare.Goals as goal

pub returns-clause-err : goal.returns-clause-err
returns-clause-err c =
    let loaded : is_ok c.load.result ≡ true = search rules in
    when_err c.new.result (still_loaded _ _ _ (on_ok c.load.result loaded c.load.ensures.loaded))
