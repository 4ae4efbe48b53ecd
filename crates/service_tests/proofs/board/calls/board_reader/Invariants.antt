use Rattle.service_tests.proofs.board.calls.board_reader.Given as goal

-- the history that was just begun
abbrev pub ghosts-read_around : goal.ghosts-read_around
ghosts-read_around g a = record { history = a.opened }
