use Rattle.std.proofs.Common.{◌≡◌, ◌∙◌, ap, refl, subst, sym}
use Rattle.sector_disk.specs.declared.disk.SectorDisk.{SectorDisk}
use Rattle.layer_table.specs.declared.stack.Stack.{Stack}
use Rattle.layer_table.specs.Layers.{disk_of, stack_shown}
use Rattle.dmlw_files.specs.Files.{MatchesContents, image_of, with_write}
use Rattle.log_format.specs.LogOf.{status_of}
use Rattle.log_store.specs.Calls.{store_of}
use Rattle.log_store.specs.Store.{store_entries}
use Rattle.recorder.specs.Calls.{core_of}
use Rattle.script_runner.specs.CallLaws.{on_error}
use Rattle.script_runner.specs.DiskRun.{DiskRecorder, IsCounted}
use Rattle.dmlw_serve.proofs.session.finish.Goals as goal

pub returns-clause-reports : goal.returns-clause-reports
returns-clause-reports g c =
    let says = c.status-status.ensures in
    let parts = c.into_parts-recorder.ensures in
    let log = c.into_device-log.ensures ∙ ap (λ (r : DiskRecorder). r.store.device) parts.recorder in
    let lies = c.lies-2.ensures ∙ ap (λ (s : Stack). (stack_shown s).lies) log in
    let told : (stack_shown c.args.server.recorder.store.device).lies ≡ 0 → c.status-status.result
    ≡ status_of (core_of c.args.server.recorder).sector_bytes
    (store_entries (store_of c.args.server.recorder.store)) c.args.server.recorder.end =
    subst (λ (r : DiskRecorder). (stack_shown r.store.device).lies ≡ 0 → c.status-status.result
    ≡ status_of (core_of r).sector_bytes (store_entries (store_of r.store)) r.end) parts.recorder
    says.status in
    record {
      end = refl;
      counted =
          subst (λ (r : DiskRecorder). IsCounted c.status-status.result r) parts.recorder
          (record { entries = says.counts; end = says.end; none = says.none; last = says.last });
      data_lies = c.lies.ensures ∙ ap (λ (s : Stack). (stack_shown s).lies) parts.device;
      log_lies = lies;
      tells = λ none. told (sym lies ∙ none);
    }

pub returns-clause-written : goal.returns-clause-written
returns-clause-written g c =
    let parts = c.into_parts-recorder.ensures in
    let log = c.into_device-log.ensures ∙ ap (λ (r : DiskRecorder). r.store.device) parts.recorder in
    subst (λ (disk : SectorDisk). MatchesContents
    (g.F.Files.contents c.write.new.self c.args.name.now) (image_of disk))
    (c.into_disk.ensures ∙ ap disk_of log) c.in_ok-write.ensures.holds

pub returns-clause-asks : goal.returns-clause-asks
returns-clause-asks g c =
    let parts = c.into_parts-recorder.ensures in
    let log = c.into_device-log.ensures ∙ ap (λ (r : DiskRecorder). r.store.device) parts.recorder in
    subst (λ (disk : SectorDisk). g.F.Files.writes c.write.new.self
    ≡ with_write (g.F.Files.writes c.args.files.now) c.args.name.now (image_of disk))
    (c.into_disk.ensures ∙ ap disk_of log) c.in_ok-write.ensures.writes

pub returns-in_err-write-clause-asks : goal.returns-in_err-write-clause-asks
returns-in_err-write-clause-asks g c =
    let parts = c.into_parts-recorder.ensures in
    let log = c.into_device-log.ensures ∙ ap (λ (r : DiskRecorder). r.store.device) parts.recorder in
    subst (λ (disk : SectorDisk). g.F.Files.writes c.write.new.self
    ≡ with_write (g.F.Files.writes c.args.files.now) c.args.name.now (image_of disk))
    (c.into_disk.ensures ∙ ap disk_of log) c.in_err-write.ensures.writes

pub returns-in_err-write-clause-unreported : goal.returns-in_err-write-clause-unreported
returns-in_err-write-clause-unreported g c =
    let says = c.status-status.ensures in
    let parts = c.into_parts-recorder.ensures in
    let log = c.into_device-log.ensures ∙ ap (λ (r : DiskRecorder). r.store.device) parts.recorder in
    let lies = c.lies-2.ensures ∙ ap (λ (s : Stack). (stack_shown s).lies) log in
    let told : (stack_shown c.args.server.recorder.store.device).lies ≡ 0 → c.status-status.result
    ≡ status_of (core_of c.args.server.recorder).sector_bytes
    (store_entries (store_of c.args.server.recorder.store)) c.args.server.recorder.end =
    subst (λ (r : DiskRecorder). (stack_shown r.store.device).lies ≡ 0 → c.status-status.result
    ≡ status_of (core_of r).sector_bytes (store_entries (store_of r.store)) r.end) parts.recorder
    says.status in
    on_error c.from_residual.result c.from_residual.ensures.1
    (λ fault is. (
      record {
        status = c.status-status.result;
        lies = record { data_disk = c.lies.result; log_disk = c.lies-2.result };
        end = c.args.end;
      },
      record {
        end = refl;
        counted =
            subst (λ (r : DiskRecorder). IsCounted c.status-status.result r) parts.recorder
            (record { entries = says.counts; end = says.end; none = says.none; last = says.last });
        data_lies = c.lies.ensures ∙ ap (λ (s : Stack). (stack_shown s).lies) parts.device;
        log_lies = lies;
        tells = λ none. told (sym lies ∙ none);
      },
    ))
