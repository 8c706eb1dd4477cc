use Rattle.thread_tests.proofs.boards.a_reader_reads_what_was_published_last.Given as goal

abbrev pub ghosts-rows_are_read : goal.ghosts-rows_are_read
ghosts-rows_are_read g a = record { board = a.blank }
