use Rattle.std.specs.Prelude.{◌+◌, length}
use Rattle.ring_start.specs.Fits.{kept_by}
use Rattle.ring_server.proofs.ring.one_node.Given as goal

-- the ledger is named by its page, and what it names by the desk

abbrev pub ghosts-serve_node-A-Ledger : goal.ghosts-serve_node-A-Ledger
ghosts-serve_node-A-Ledger g a = record { name = a.site.blanks.accepted.name; parts = a.site.blanks.accepted.parts }

abbrev pub ghosts-serve_node-A-NodeLedger : goal.ghosts-serve_node-A-NodeLedger
ghosts-serve_node-A-NodeLedger g a = record {
  member = (kept_by a.site.opened).view.member;
  opening = (kept_by a.site.opened).opening;
  opened = (kept_by a.site.opened).opening.inputs + length (kept_by a.site.opened).view.state.inputs;
  tied = a.site.blanks.held.name;
}

-- the history of the board is the one that was begun for it

abbrev pub ghosts-serve_node-J-Naming : goal.ghosts-serve_node-J-Naming
ghosts-serve_node-J-Naming g a = record { history = a.site.history }
