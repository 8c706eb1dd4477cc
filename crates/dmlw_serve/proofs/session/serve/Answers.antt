use Rattle.std.proofs.Common.{◌≡◌, ◌∙◌, inl, inr, refl, subst, sym, List, Option}
use Rattle.std.proofs.lemmas.Result.{on_err_weaker}
use Rattle.script_runner.specs.CallLaws.{on_error}
use Rattle.dmlw_files.specs.Files.{Write, image_of, with_write}
use Rattle.layer_table.specs.Layers.{disk_of}
use Rattle.pending.specs.CoreState.{IsSound}
use Rattle.recorder.specs.Calls.{core_of}
use Rattle.script_runner.specs.DiskRun.{DiskRecorder}
use Rattle.dmlw_serve.specs.Serves.{FailsServing}
use Rattle.dmlw_serve.proofs.Sessions.{both, both_failed, if_failed, leaves}
use Rattle.dmlw_serve.proofs.session.serve.Goals as goal

pub returns-in_err-server-clause-served : goal.returns-in_err-server-clause-served
returns-in_err-server-clause-served g c = if_failed _ c.from_residual.result c.from_residual.ensures.0

pub returns-in_err-server-clause-faults : goal.returns-in_err-server-clause-faults
returns-in_err-server-clause-faults g c =
    on_error c.from_residual.result c.from_residual.ensures.1
    (λ fault is. inl (
      subst (FailsServing _ _ _) (sym is) c.in_err-server.ensures.faults,
      refl,
      refl,
      c.in_err-server.ensures.unwritten,
    ))

pub returns-clause-served : goal.returns-clause-served
returns-clause-served g c =
    let begun = c.in_ok-server.ensures.begun in
    let ended = c.serve-end.new.server in
    let sound = subst (λ (r : DiskRecorder). IsSound (core_of r)) c.recorder.ensures
    c.recorders_are_sound.ensures.core in
    let before = c.in_ok-server.ensures.unwritten in
    both c.finish.result c.finish.ensures.reports c.finish.ensures.written
    (λ served reports written. (
      begun.0,
      begun.1,
      image_of (disk_of ended.recorder.store.device),
      begun.2,
      begun.3,
      record {
        script = begun.4.0;
        spelled = begun.4.1;
        head = begun.4.2;
        begun = c.in_ok-server.server;
        begins = begun.4.3;
        leaves = leaves begun.4.0 begun.1 c.in_ok-server.server ended served _ _ _ _ _ begun.4.3
            reports c.serve-end.ensures.goes c.serve-end.ensures.session
            c.serve-end.ensures.broke_off c.serve-end.ensures.closes
            (λ honest left may. c.crashed_logs_replay_to_what_could_be.ensures.between ended.recorder
            left honest may)
            (λ on closed placed honest. c.closed_logs_are_whole.ensures ended.recorder sound on
            closed placed honest);
      },
      written,
      subst (λ (writes : Option (List Write)). g.F.Files.writes c.finish.new.files
          ≡ with_write writes c.args.names.log.now (image_of (disk_of ended.recorder.store.device)))
          before c.finish.ensures.asks,
    ))

pub returns-clause-faults : goal.returns-clause-faults
returns-clause-faults g c =
    let begun = c.in_ok-server.ensures.begun in
    let ended = c.serve-end.new.server in
    let sound = subst (λ (r : DiskRecorder). IsSound (core_of r)) c.recorder.ensures
    c.recorders_are_sound.ensures.core in
    let before = c.in_ok-server.ensures.unwritten in
    both_failed c.finish.result c.finish.ensures.faults c.finish.ensures.unreported
    (λ fault is told. inr (
      is,
      (
        told.0,
        record {
          text = begun.0;
          content = begun.1;
          image = image_of (disk_of ended.recorder.store.device);
          spelled = begun.2;
          held = begun.3;
          leaves = record {
            script = begun.4.0;
            spelled = begun.4.1;
            head = begun.4.2;
            begun = c.in_ok-server.server;
            begins = begun.4.3;
            leaves = leaves begun.4.0 begun.1 c.in_ok-server.server ended told.0 _ _ _ _ _ begun.4.3
                told.1 c.serve-end.ensures.goes c.serve-end.ensures.session
                c.serve-end.ensures.broke_off c.serve-end.ensures.closes
                (λ honest left may. c.crashed_logs_replay_to_what_could_be.ensures.between
                ended.recorder left honest may)
                (λ on closed placed honest. c.closed_logs_are_whole.ensures ended.recorder sound
                on closed placed honest);
          };
          asked = subst (λ (writes : Option (List Write)). g.F.Files.writes c.finish.new.files
              ≡ with_write writes c.args.names.log.now (image_of (disk_of ended.recorder.store.device)))
              before c.finish.ensures.asks;
        },
      ),
    ))

pub returns-clause-kept : goal.returns-clause-kept
returns-clause-kept g c =
    on_err_weaker c.finish.result
    (λ kept name. kept name ∙ c.in_ok-server.ensures.kept name) c.finish.ensures.kept
