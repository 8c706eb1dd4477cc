use Rattle.std.proofs.Common.{◌∙◌, ap, refl}
use Rattle.log_reader.specs.Reader.{reader_of}
use Rattle.refusals.specs.Errors.{refused_by}
use Rattle.sector_disk.specs.DiskView.{shown_of}
use Rattle.dmlw_commands.proofs.ImageLog.{never_failed, opened_on, unopened_on}
use Rattle.dmlw_commands.proofs.opened.open_image.Goals as goal

pub returns-in-Ok-clause-opened : goal.returns-in-Ok-clause-opened
returns-in-Ok-clause-opened c =
    opened_on c.args.image (shown_of c.in_ok-disk.disk)
    (reader_of c.in-Ok.reader) c.in_ok-disk.ensures c.in-Ok.ensures.begins.0
    c.in-Ok.ensures.begins.1
    c.in-Ok.ensures.super_block c.in-Ok.ensures.undisturbed
    (c.crashes_leave_whole_sectors.ensures.content c.in-Ok.reader.device)

pub returns-in-Err-clause-refused : goal.returns-in-Err-clause-refused
returns-in-Err-clause-refused c =
    let v = shown_of c.in_ok-disk.disk in
    let w = shown_of c.in-Err._disk in
    unopened_on c.args.image v w c.in-Err.error c.from-in-Err.result c.requires
    c.in_ok-disk.ensures (never_failed v w refl refl)
    c.in-Err.ensures.refused (c.from-in-Err.ensures ∙ ap refused_by c.from.ensures)
