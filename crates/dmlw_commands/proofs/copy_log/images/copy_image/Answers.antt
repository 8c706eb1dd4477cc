use Rattle.std.proofs.Common.{inl, refl, subst, sym}
use Rattle.script_runner.specs.CallLaws.{on_error}
use Rattle.sector_disk.specs.declared.disk.SectorDisk.{SectorDisk}
use Rattle.sector_disk.specs.DiskView.{shown_of}
use Rattle.sector_disk.specs.CandidateLaws.{disk_lawful}
use Rattle.log_reader.specs.Reader.{reader_of}
use Rattle.log_store.specs.Calls.{store_of}
use Rattle.dmlw_commands.specs.LogCopies.{FailsOnImage, IsCopiedOn, stopped}
use Rattle.dmlw_commands.proofs.CopyOnDisks.{content_whole, copied_on, fails_to_open, image_left}
use Rattle.dmlw_commands.proofs.CopyOnDisks.{log_fits, stopped_on}
use Rattle.dmlw_commands.proofs.ImageLog.{never_failed}
use Rattle.dmlw_commands.proofs.copy_log.images.copy_image.Goals as goal

pub returns-in_err-reader-clause-fails : goal.returns-in_err-reader-clause-fails
returns-in_err-reader-clause-fails c =
    on_error c.from_residual.result c.from_residual.ensures.1
    (λ stop is. fails_to_open _ _ c.in_err-reader.field-0.0 stop c.in_err-reader.ensures.refused is)

pub returns-in_err-store-clause-fails : goal.returns-in_err-store-clause-fails
returns-in_err-store-clause-fails c =
    on_error c.from_residual-in_err-store.result c.from_residual-in_err-store.ensures.1
    (λ stop is. fails_to_open _ _ c.in_err-store.field-0.0 stop
    (inl c.in_err-store.ensures.memory) is)

pub copy_log-requires : goal.copy_log-requires
copy_log-requires c =
    log_fits c.args.log c.args.sectors (reader_of c.in_ok-reader.reader)
    (store_of c.in_ok-store.store) c.in_ok-reader.ensures.opened
    c.in_ok-store.ensures.begun

pub returns-in-Ok-clause-copied : goal.returns-in-Ok-clause-copied
returns-in-Ok-clause-copied c =
    let reader = c.in_ok-reader.reader in
    let store = c.copy_log.new.store in
    image_left c.args.log c.args.sectors c.in-Ok.count c.into_device-disk.result
    c.requires.least
    (subst (λ (disk : SectorDisk). IsCopiedOn c.args.log c.in-Ok.count c.args.sectors
    (shown_of disk)) (sym c.into_device-disk.ensures)
    (copied_on c.args.log c.args.sectors c.in-Ok.count (reader_of reader)
    (store_of c.in_ok-store.store) (store_of store) c.requires.log
    c.in_ok-reader.ensures.opened c.in_ok-store.ensures.begun
    (content_whole (shown_of reader.device) (disk_lawful reader.device)) refl
    (disk_lawful store.device).current c.in-Ok.ensures.goes c.in-Ok.ensures.copies
    c.in-Ok.ensures.all c.in-Ok.ensures.whole))

pub returns-clause-fails : goal.returns-clause-fails
returns-clause-fails c =
    let reader = c.in_ok-reader.reader in
    let last = c.copy_log.new.log in
    let begun = c.in_ok-store.store in
    let store = c.copy_log.new.store in
    subst (FailsOnImage c.args.log c.args.sectors) (sym c.stopped.ensures)
    (stopped c.in-Err.fault
    (stopped_on c.args.log c.args.sectors c.in-Err.fault (reader_of reader) (reader_of last)
    (store_of begun) (store_of store) c.requires.log
    c.in_ok-reader.ensures.opened c.in_ok-store.ensures.begun
    (content_whole (shown_of reader.device) (disk_lawful reader.device))
    (never_failed (shown_of reader.device) (shown_of last.device) refl refl)
    (never_failed (shown_of begun.device) (shown_of store.device) refl refl) store.kept
    refl c.in-Err.ensures.goes c.in-Err.ensures.copies c.in-Err.ensures.stops))
