use Rattle.script_runner.proofs.laws.crashes_of_a_run_leave_prefixes.Goals as goal

pub returns : goal.returns
returns g c = λ names body text old new left ran none since.
    c.crashes_leave_prefixes.ensures old.recorder new.recorder left
    (c.lines_go_as_one_call.ensures names body text old new ran) none since
