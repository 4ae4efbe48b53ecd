use Rattle.std.specs.Prelude.{◌+◌, length}
use Rattle.service_tests.proofs.hubs.plays.Given as goal

-- the ledger is named by its page, and what it names by the desk

abbrev pub ghosts-on_hub-A-Ledger : goal.ghosts-on_hub-A-Ledger
ghosts-on_hub-A-Ledger g a = record { name = a.blanks.accepted.name; parts = a.blanks.accepted.parts }

abbrev pub ghosts-on_hub-A-NodeLedger : goal.ghosts-on_hub-A-NodeLedger
ghosts-on_hub-A-NodeLedger g a = record { member = a.desk.view.member; opening = a.desk.opening; opened = a.desk.opening.inputs + length a.desk.view.state.inputs; tied = a.blanks.held.name }

-- the history of the board is the one that was begun for it

abbrev pub ghosts-on_hub-J-Naming : goal.ghosts-on_hub-J-Naming
ghosts-on_hub-J-Naming g a = record { history = a.opened }
