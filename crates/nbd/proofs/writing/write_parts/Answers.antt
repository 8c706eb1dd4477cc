use Rattle.nbd.proofs.Parts.{give_more}
use Rattle.nbd.proofs.Breaks.{breaks_turn}
use Rattle.std.specs.Prelude.{Err, Ok}
use Rattle.std.proofs.Common.{◌+◌, arith, false, subst}
use Rattle.std.specs.Prelude.{Result}
use Rattle.bio.specs.declared.request.Bio.TheVariants as bios
use Rattle.nbd.specs.declared.fault.RequestFault.{RequestFault}
use Rattle.nbd.specs.Serving.{GivesResult}
use Rattle.nbd.proofs.Parts.{ok_left, written_all, written_failed, written_more, written_none}
use Rattle.nbd.proofs.writing.write_parts.Goals as goal

pub loop-done-init : goal.loop-done-init
loop-done-init g c =
    written_none c.args.now c.args.fua c.args.range (g.I.Read.remaining c.args.input.now)
    c.args.server.now (c.servers_go_as_one.ensures.none c.args.server.now)

pub overflow_add-part : goal.overflow_add-part
overflow_add-part g c =
    let few = c.loop-done.invariant.few in
    let within = c.requires.within in
    let small = (g.met.D.BlockDev.lawful c.args.server.now.disk).few_sectors in
    omega (arith, few, within, small)

pub returns-in-Err-clause-writes : goal.returns-in-Err-clause-writes
returns-in-Err-clause-writes g c =
    let wrote = c.in_ok-fault.ensures.writes in
    let dropped = c.in_ok-skip.ensures.skipped in
    written_failed c.args.now c.args.fua c.args.range c.loop-done.done c.min.result
    (g.I.Read.remaining c.args.input.now) (g.I.Read.remaining c.loop-done.input)
    (g.I.Read.remaining c.write_part.new.input) c.args.server.now c.loop-done.server
    c.write_part.new.server c.requires c.loop-done.invariant c.min.ensures wrote.0 wrote.1 wrote.2
    c.in-Err.fault (g.I.Read.remaining c.skip.new.input) dropped.0
    (subst (λ (r : Result Unit RequestFault). GivesResult c.args.now
    (bios.Write (c.args.range.first + c.loop-done.done) wrote.0 false c.args.fua false) r
    c.loop-done.server c.write_part.new.server) c.in-Err.is wrote.3)
    dropped.1 dropped.2

pub returns-in-Err-clause-goes : goal.returns-in-Err-clause-goes
returns-in-Err-clause-goes g c =
    c.servers_go_as_one.ensures.two _ _ _ c.loop-done.invariant.frame c.write_part.ensures.goes

pub loop-done-preserved : goal.loop-done-preserved
loop-done-preserved g c =
    let wrote = c.in_ok-fault.ensures.writes in
    written_more c.args.now c.args.fua c.args.range c.loop-done.done c.min.result
    (g.I.Read.remaining c.args.input.now) (g.I.Read.remaining c.loop-done.input)
    (g.I.Read.remaining c.write_part.new.input) c.args.server.now c.loop-done.server
    c.write_part.new.server c.requires c.loop-done.invariant c.min.ensures wrote.0 wrote.1 wrote.2
    (c.servers_go_as_one.ensures.two _ _ _ c.loop-done.invariant.frame c.write_part.ensures.goes)
    (subst (λ (r : Result Unit RequestFault). GivesResult c.args.now
    (bios.Write (c.args.range.first + c.loop-done.done) wrote.0 false c.args.fua false) r
    c.loop-done.server c.write_part.new.server)
    (ok_left c.in_ok-fault.field-0 c.in_default.not-Err) wrote.3)

pub returns-clause-writes : goal.returns-clause-writes
returns-clause-writes g c =
    written_all c.args.now c.args.fua c.args.range c.loop-done.done
    (g.I.Read.remaining c.args.input.now) (g.I.Read.remaining c.loop-done.input) c.args.server.now
    c.loop-done.server c.loop-done.invariant c.loop-done-test.false

pub returns-in_err-fault-clause-breaks : goal.returns-in_err-fault-clause-breaks
returns-in_err-fault-clause-breaks g c =
    rw c.in_err-fault.ensures.kept (breaks_turn c.args.now c.loop-done.invariant.parts (Ok tt)
    c.args.server.now c.loop-done.server c.loop-done.invariant.give)

pub returns-in_err-skip-clause-breaks : goal.returns-in_err-skip-clause-breaks
returns-in_err-skip-clause-breaks g c =
    let wrote = c.in_ok-fault.ensures.writes in
    breaks_turn c.args.now _ (Err c.in-Err.fault) c.args.server.now c.write_part.new.server
    (give_more c.args.now c.loop-done.invariant.parts
    (bios.Write (c.args.range.first + c.loop-done.done) wrote.0 false c.args.fua false)
    (Err c.in-Err.fault) c.args.server.now c.loop-done.server c.write_part.new.server
    c.loop-done.invariant.give
    (subst (λ (r : Result Unit RequestFault). GivesResult c.args.now
    (bios.Write (c.args.range.first + c.loop-done.done) wrote.0 false c.args.fua false) r
    c.loop-done.server c.write_part.new.server) c.in-Err.is wrote.3))

pub returns-in-Err-clause-breaks : goal.returns-in-Err-clause-breaks
returns-in-Err-clause-breaks g c =
    let wrote = c.in_ok-fault.ensures.writes in
    breaks_turn c.args.now _ (Err c.in-Err.fault) c.args.server.now c.write_part.new.server
    (give_more c.args.now c.loop-done.invariant.parts
    (bios.Write (c.args.range.first + c.loop-done.done) wrote.0 false c.args.fua false)
    (Err c.in-Err.fault) c.args.server.now c.loop-done.server c.write_part.new.server
    c.loop-done.invariant.give
    (subst (λ (r : Result Unit RequestFault). GivesResult c.args.now
    (bios.Write (c.args.range.first + c.loop-done.done) wrote.0 false c.args.fua false) r
    c.loop-done.server c.write_part.new.server) c.in-Err.is wrote.3))

pub returns-clause-breaks : goal.returns-clause-breaks
returns-clause-breaks g c =
    breaks_turn c.args.now c.loop-done.invariant.parts (Ok tt) c.args.server.now
    c.loop-done.server c.loop-done.invariant.give
