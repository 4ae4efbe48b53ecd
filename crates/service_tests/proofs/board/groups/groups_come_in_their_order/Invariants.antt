use Rattle.service_tests.proofs.board.groups.groups_come_in_their_order.Given as goal

-- the history that was just begun
abbrev pub ghosts-read_behind : goal.ghosts-read_behind
ghosts-read_behind g a = record { history = a.opened }
