use Rattle.std.proofs.Common.{◌∙◌, sym}
use Rattle.script_runner.specs.CallLaws.{on_error}
use Rattle.script_runner.proofs.SeatRunSteps.{fails_memory, fails_unclosed, fails_unplayed, is_run}
use Rattle.script_runner.proofs.seat_run.run_on.Goals as goal

pub returns-in_err-works-clause-faults : goal.returns-in_err-works-clause-faults
returns-in_err-works-clause-faults g c =
    on_error c.from_residual-in_err-works.result c.from_residual-in_err-works.ensures.1
    (λ fault is. fails_memory c.args.script.now fault is)

pub returns-in_err-works-2-clause-faults : goal.returns-in_err-works-2-clause-faults
returns-in_err-works-2-clause-faults g c =
    on_error c.from_residual-in_err-works-2.result c.from_residual-in_err-works-2.ensures.1
    (λ fault is. fails_unplayed _ _ c.args.script.now c.in_err-works-2.field-0.0 fault
    c.requires.fits c.in_err-works-2.ensures.refused is)

pub returns-in_err-seats-clause-faults : goal.returns-in_err-seats-clause-faults
returns-in_err-seats-clause-faults g c =
    on_error c.from_residual-in_err-seats.result c.from_residual-in_err-seats.ensures.1
    (λ fault is. fails_memory c.args.script.now fault is)

pub returns-in_err-closed-clause-faults : goal.returns-in_err-closed-clause-faults
returns-in_err-closed-clause-faults g c =
    let parts = c.in_ok-seats.ensures in
    on_error c.from_residual-in_err-closed.result c.from_residual-in_err-closed.ensures.1
    (λ fault is. fails_unclosed _ _ _ _ _ c.args.script.now c.args.log
    c.in_ok-works-2.works.items _ _ _ c.in_err-closed.field-0.0 fault
    (record {
      fits = c.requires.fits;
      begun = c.requires.begun;
      on = c.requires.ground;
      seats = sym c.requires.ledger.2 ∙ c.requires.ledger.1;
      blank = c.requires.log;
    })
    c.in_ok-works-2.ensures.played parts.seats
    parts.tallies parts.receipts c.in_err-closed.ensures.refused is)

pub returns-clause-ran : goal.returns-clause-ran
returns-clause-ran g c =
    let parts = c.in_ok-seats.field-0 in
    let left = c.ran_of.ensures in
    is_run _ _ _ _ _ c.args.script.now c.args.log c.in_ok-works-2.works.items parts.seats.items _
    parts.receipts.items c.in_ok-closed.closed _ _ _
    (record {
      fits = c.requires.fits;
      begun = c.requires.begun;
      on = c.requires.ground;
      seats = sym c.requires.ledger.2 ∙ c.requires.ledger.1;
      blank = c.requires.log;
    })
    c.requires.some c.requires.script.room c.in_ok-works-2.ensures.played
    c.in_ok-seats.ensures.seats (left.tallies ∙ c.in_ok-seats.ensures.tallies)
    c.in_ok-seats.ensures.receipts c.in_ok-closed.ensures.closed left.status left.lies
    (rw left.disk)
