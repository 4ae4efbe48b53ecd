use Rattle.service_tests.proofs.board.growths.refused_growths.Given as goal

-- the history that was just begun
abbrev pub ghosts-grow_all : goal.ghosts-grow_all
ghosts-grow_all g a = record { history = a.opened }
