use Rattle.service_tests.proofs.board.threads.board_reader_in_a_thread.Given as goal

-- the history that was just begun
abbrev pub ghosts-publish_beside : goal.ghosts-publish_beside
ghosts-publish_beside g a = record { history = a.opened }
