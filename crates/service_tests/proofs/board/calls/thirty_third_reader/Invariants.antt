use Rattle.service_tests.proofs.board.calls.thirty_third_reader.Given as goal

-- the history that was just begun
abbrev pub ghosts-fill_places : goal.ghosts-fill_places
ghosts-fill_places g a = record { history = a.opened }
