use Rattle.service_tests.proofs.board.retired.board_retires.Given as goal

-- the history that was just begun
abbrev pub ghosts-play_all : goal.ghosts-play_all
ghosts-play_all g a = record { history = a.opened }
