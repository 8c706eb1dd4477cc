use Rattle.std.proofs.Common.{◌≡◌, ◌∙◌, Err, true, false, refl, sym, ap}
use Rattle.log_reader.specs.Reader.{reader_of}
use Rattle.refusals.specs.Errors.{refused_by}
use Rattle.dmlw_commands.proofs.ImageLog.{gives_found, gives_refused, never_failed}
use Rattle.dmlw_commands.proofs.opened.next_of_image.Goals as goal

pub returns-in-Ok-clause-gives : goal.returns-in-Ok-clause-gives
returns-in-Ok-clause-gives c =
    λ es fault reading.
    gives_found es fault (reader_of c.args.reader.now)
    (reader_of c.next_head.new.self) c.in-Ok.found
    (c.in-Ok.ensures.gives es fault reading) c.in-Ok.ensures.goes_on

pub returns-in-Err-clause-gives : goal.returns-in-Err-clause-gives
returns-in-Err-clause-gives c =
    λ es fault reading.
    let old = reader_of c.args.reader.now in
    let new = reader_of c.next_head.new.self in
    gives_refused es fault old new c.in-Err.error c.from-in-Err.result
    (c.in-Err.ensures.gives es fault reading) (never_failed old.device new.device refl refl)
    (λ is. true_false (sym (c.in-Err.ensures.after_refusal.0 (ap Err is)) ∙ c.requires))
    (λ is. c.in-Err.ensures.device (ap Err is))
    (c.from-in-Err.ensures ∙ ap refused_by c.from.ensures)
  where
    true_false : true ≡ false → ⊥
    true_false e = cc
