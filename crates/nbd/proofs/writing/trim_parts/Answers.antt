use Rattle.std.proofs.Common.{subst}
use Rattle.std.specs.Prelude.{Result}
use Rattle.nbd.specs.declared.fault.RequestFault.{RequestFault}
use Rattle.nbd.specs.Requests.{GiveInTurn}
use Rattle.nbd.proofs.Parts.{trims_all, trims_failed}
use Rattle.nbd.proofs.writing.trim_parts.Goals as goal

pub returns-in-Ok-clause-trims : goal.returns-in-Ok-clause-trims
returns-in-Ok-clause-trims g c =
    let parts = c.discard_parts.ensures.discards in
    trims_all c.args.now c.args.fua c.args.range parts.0 c.flush_if.result c.args.server.now
    c.discard_parts.new.server c.flush_if.new.server parts.1
    (subst (λ (r : Result Unit RequestFault). GiveInTurn c.args.now parts.0 r c.args.server.now
    c.discard_parts.new.server) c.in-Ok.is parts.2)
    c.flush_if.ensures.gives c.flush_if.ensures.none

pub returns-in-Err-clause-trims : goal.returns-in-Err-clause-trims
returns-in-Err-clause-trims g c =
    let parts = c.discard_parts.ensures.discards in
    trims_failed c.args.now c.args.fua c.args.range parts.0 c.in-Err.fault c.args.server.now
    c.discard_parts.new.server parts.1
    (subst (λ (r : Result Unit RequestFault). GiveInTurn c.args.now parts.0 r c.args.server.now
    c.discard_parts.new.server) c.in-Err.is parts.2)
