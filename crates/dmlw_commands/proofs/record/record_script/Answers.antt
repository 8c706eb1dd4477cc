use Rattle.std.proofs.Common.{◌∙◌, subst, sym}
use Rattle.refusals.specs.Errors.{IsFileError}
use Rattle.dmlw_files.specs.Files.{MatchesContents, image_of}
use Rattle.dmlw_commands.specs.Makings.{unmade, unwritten}
use Rattle.dmlw_commands.specs.Records.{FailsRecording, file, of_recorder}
use Rattle.dmlw_commands.proofs.CommandEnds.{asks_for, file_told, makes_none}
use Rattle.dmlw_commands.proofs.record.record_script.Goals as goal

pub returns-in_err-text-clause-did : goal.returns-in_err-text-clause-did
returns-in_err-text-clause-did g c = λ err.
    let text = c.in_err-text.ensures in
    makes_none _ _ _ _ _ c.from_residual.result c.from_residual.ensures.1
    (λ fault is. unmade (file fault (subst IsFileError (sym is) text.faults)) text.unwritten)
    text.kept (λ named. text.unwritten)

pub returns-in_err-disk-clause-did : goal.returns-in_err-disk-clause-did
returns-in_err-disk-clause-did g c = λ err.
    let text = c.in_ok-text.ensures in
    let contents = g.F.Files.contents c.args.files.now c.args.script.now in
    let is = subst (MatchesContents contents) (sym c.deref.ensures.value) text.contents in
    makes_none _ _ _ _ _ c.from_residual-in_err-disk.result
    c.from_residual-in_err-disk.ensures.1
    (λ fault same. unmade (subst (FailsRecording of_recorder contents _ _) (sym same)
    (c.in_err-disk.ensures.faults contents is)) text.unwritten)
    text.kept (λ named. text.unwritten)

pub returns-in_err-write-clause-did : goal.returns-in_err-write-clause-did
returns-in_err-write-clause-did g c = λ err.
    let text = c.in_ok-text.ensures in
    let contents = g.F.Files.contents c.args.files.now c.args.script.now in
    let is = subst (MatchesContents contents) (sym c.deref.ensures.value) text.contents in
    let made = c.in_ok-disk.ensures.printed contents is in
    makes_none _ _ _ _ _ c.from_residual-in_err-write.result
    c.from_residual-in_err-write.ensures.1
    (λ fault same. unwritten (subst IsFileError (sym same) (file_told c.in_err-write.field-0.0))
    c.in_ok-disk.field-0.status
    (asks_for _ _ _ _ _ _ made.0 (image_of c.in_ok-disk.field-0.disk) made.1 made.2
    text.unwritten c.write.ensures.writes))
    (λ name. c.in_err-write.ensures.kept name ∙ text.kept name)
    (λ named. absurd (cc (text.same named)))

pub returns-clause-did : goal.returns-clause-did
returns-clause-did g c = λ err.
    let text = c.in_ok-text.ensures in
    let contents = g.F.Files.contents c.args.files.now c.args.script.now in
    let is = subst (MatchesContents contents) (sym c.deref.ensures.value) text.contents in
    let made = c.in_ok-disk.ensures.printed contents is in
    record {
      came = record {
        asks = asks_for _ _ _ _ _ _ made.0 (image_of c.in_ok-disk.field-0.disk) made.1 made.2
            text.unwritten c.write.ensures.writes;
        held = c.in_ok-write.ensures.holds;
      };
      apart = λ named. absurd (cc (text.same named));
    }
