use Rattle.service_tests.proofs.board.calls.first_decisions_and_latest_terms.Given as goal

-- the history that was just begun
abbrev pub ghosts-read_all : goal.ghosts-read_all
ghosts-read_all g a = record { history = a.opened }
