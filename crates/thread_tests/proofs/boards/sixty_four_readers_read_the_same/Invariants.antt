use Rattle.thread_tests.proofs.boards.sixty_four_readers_read_the_same.Given as goal

abbrev pub ghosts-are_reading : goal.ghosts-are_reading
ghosts-are_reading g a = record { board = a.blank }
