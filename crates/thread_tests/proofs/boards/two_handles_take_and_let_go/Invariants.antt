use Rattle.thread_tests.proofs.boards.two_handles_take_and_let_go.Given as goal

abbrev pub ghosts-are_held : goal.ghosts-are_held
ghosts-are_held a = record { table = a.fresh }
