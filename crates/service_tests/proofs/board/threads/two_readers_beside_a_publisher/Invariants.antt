use Rattle.service_tests.proofs.board.threads.two_readers_beside_a_publisher.Given as goal

-- the history that was just begun
abbrev pub ghosts-read_in_two_threads : goal.ghosts-read_in_two_threads
ghosts-read_in_two_threads g a = record { history = a.opened }
