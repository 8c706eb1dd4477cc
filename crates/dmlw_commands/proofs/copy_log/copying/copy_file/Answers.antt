use Rattle.std.proofs.Common.{◌∙◌, refl, subst, sym}
use Rattle.refusals.specs.Errors.{IsFileError}
use Rattle.script_runner.specs.CallLaws.{keeps_same}
use Rattle.dmlw_files.specs.Files.{image_of}
use Rattle.dmlw_commands.specs.Makings.{taken, unmade, unprinted, unwritten}
use Rattle.dmlw_commands.specs.LogCopies.{FailsCopy, copied_line}
use Rattle.dmlw_commands.proofs.CommandEnds.{asks_for, file_told, makes_none}
use Rattle.dmlw_commands.proofs.copy_log.copying.copy_file.Goals as goal

pub returns-then-is_same-clause-did : goal.returns-then-is_same-clause-did
returns-then-is_same-clause-did g c = λ err. record {
  came = (
    taken c.from.ensures (c.is_same.ensures.held c.if-is_same.true) (keeps_same _) refl,
    λ name. refl,
  );
  apart = λ named. refl;
}

pub returns-in_err-count-clause-did : goal.returns-in_err-count-clause-did
returns-in_err-count-clause-did g c = λ err.
    let contents = g.F.Files.contents c.args.files.now in
    let made = c.in_err-count.ensures in
    makes_none _ _ _ _ _ c.from_residual.result c.from_residual.ensures.1
    (λ fault is. unmade (
      subst (FailsCopy (contents c.args.names.log.now) c.args.sectors) (sym is)
          made.fails,
      keeps_same _,
    ) made.unwritten) made.kept (λ named. made.unwritten)

pub returns-in_err-print_count-clause-did : goal.returns-in_err-print_count-clause-did
returns-in_err-print_count-clause-did g c = λ err.
    let made = c.in_ok-count.ensures in
    let count = c.in_ok-count.field-0.count in
    makes_none _ _ _ _ _ c.from_residual-in_err-print_count.result
    c.from_residual-in_err-print_count.ensures.1
    (λ fault is. unprinted (subst IsFileError (sym is) c.in_err-print_count.ensures.fails) count
    (copied_line count) (image_of c.in_ok-count.field-0.disk) (made.copied, refl) made.unwritten)
    made.kept (λ named. made.unwritten)

pub returns-in_err-write-clause-did : goal.returns-in_err-write-clause-did
returns-in_err-write-clause-did g c = λ err.
    let made = c.in_ok-count.ensures in
    let count = c.in_ok-count.field-0.count in
    makes_none _ _ _ _ _ c.from_residual-in_err-write.result c.from_residual-in_err-write.ensures.1
    (λ fault is. unwritten (subst IsFileError (sym is) (file_told c.in_err-write.field-0.0)) count
    (asks_for _ _ _ _ _ _ (copied_line count) (image_of c.in_ok-count.field-0.disk)
    (made.copied, refl) c.in_ok-print_count.ensures.printed made.unwritten
    c.write.ensures.writes))
    (λ name. c.in_err-write.ensures.kept name ∙ made.kept name)
    (λ named. absurd (cc (c.is_same.ensures.named named)))

pub returns-clause-did : goal.returns-clause-did
returns-clause-did g c = λ err.
    let made = c.in_ok-count.ensures in
    let count = c.in_ok-count.field-0.count in
    record {
      came = record {
        asks = asks_for _ _ _ _ _ _ (copied_line count) (image_of c.in_ok-count.field-0.disk)
            (made.copied, refl) c.in_ok-print_count.ensures.printed made.unwritten
            c.write.ensures.writes;
        held = c.in_ok-write.ensures.holds;
      };
      apart = λ named. absurd (cc (c.is_same.ensures.named named));
    }
