use Rattle.nbd.proofs.Breaks.{breaks_gives, breaks_none, breaks_reads, breaks_trims}
use Rattle.nbd.specs.Wire.{has_fua_flag}
use Rattle.nbd.specs.Requests.{range_on}
use Rattle.bio.specs.declared.request.Bio.TheVariants as bios
use Rattle.std.proofs.Common.{◌∙◌, refl, sym}
use Rattle.std.specs.Prelude.{Err}
use Rattle.nbd.specs.declared.fault.RequestFault.TheVariants as faults
use Rattle.nbd.specs.declared.wire.RequestKind.TheVariants as commands
use Rattle.nbd.specs.Wire.{command_of}
use Rattle.nbd.proofs.Plays.{read_answered, replied}
use Rattle.nbd.proofs.session.answer.Goals as goal

pub returns-in-Read-clause-answers : goal.returns-in-Read-clause-answers
returns-in-Read-clause-answers g c =
    read_answered c.answer_read.result (command_of c.args.header.now.kind) c.args.now
    c.args.header.now (g.I.Read.remaining c.args.input.now) (g.O.Write.contents c.args.output.now)
    (g.O.Write.contents c.answer_read.new.output) c.args.server.now c.answer_read.new.server
    (sym c.command.ensures ∙ c.in-Read.is) c.answer_read.ensures.answers

pub returns-in-Flush-clause-answers : goal.returns-in-Flush-clause-answers
returns-in-Flush-clause-answers g c =
    replied c.reply.result (command_of c.args.header.now.kind) commands.Flush c.args.now
    c.args.header.now (g.I.Read.remaining c.args.input.now) (g.O.Write.contents c.args.output.now)
    (g.O.Write.contents c.reply.new.output) c.args.server.now c.flush-done.new.server
    c.flush-done.result (sym c.command.ensures ∙ c.in-Flush.is)
    (refl, (c.flush-done.result, c.flush-done.ensures.gives, refl)) c.reply.ensures.sends

pub returns-in-Trim-clause-answers : goal.returns-in-Trim-clause-answers
returns-in-Trim-clause-answers g c =
    replied c.reply-in-Trim.result (command_of c.args.header.now.kind) commands.Trim c.args.now
    c.args.header.now (g.I.Read.remaining c.args.input.now) (g.O.Write.contents c.args.output.now)
    (g.O.Write.contents c.reply-in-Trim.new.output) c.args.server.now c.trim-done.new.server
    c.trim-done.result (sym c.command.ensures ∙ c.in-Trim.is)
    (refl, (c.trim-done.result, c.trim-done.ensures.trims, refl)) c.reply-in-Trim.ensures.sends

pub returns-in-Other-clause-answers : goal.returns-in-Other-clause-answers
returns-in-Other-clause-answers g c =
    replied c.reply-in-Other.result (command_of c.args.header.now.kind) commands.Other c.args.now
    c.args.header.now (g.I.Read.remaining c.args.input.now) (g.O.Write.contents c.args.output.now)
    (g.O.Write.contents c.reply-in-Other.new.output) c.args.server.now c.args.server.now
    (Err faults.Invalid) (sym c.command.ensures ∙ c.in-Other.is) (refl, refl, refl)
    c.reply-in-Other.ensures.sends

pub returns-in-Read-clause-breaks : goal.returns-in-Read-clause-breaks
returns-in-Read-clause-breaks g c = breaks_reads _ _ c.answer_read.ensures.only

pub returns-in-Flush-clause-breaks : goal.returns-in-Flush-clause-breaks
returns-in-Flush-clause-breaks g c =
    breaks_gives c.args.now bios.Flush c.flush-done.result c.args.server.now
    c.flush-done.new.server c.flush-done.ensures.gives

pub returns-in-Trim-clause-breaks : goal.returns-in-Trim-clause-breaks
returns-in-Trim-clause-breaks g c =
    breaks_trims (range_on c.args.server.now c.args.header.now) c.args.now
    (has_fua_flag c.args.header.now) c.trim-done.result c.args.server.now c.trim-done.new.server
    c.trim-done.ensures.trims

pub returns-in-Other-clause-breaks : goal.returns-in-Other-clause-breaks
returns-in-Other-clause-breaks g c = breaks_none c.args.server.now

pub returns-in-Disconnect-clause-breaks : goal.returns-in-Disconnect-clause-breaks
returns-in-Disconnect-clause-breaks g c = breaks_none c.args.server.now

pub returns-in-Read-clause-ended : goal.returns-in-Read-clause-ended
returns-in-Read-clause-ended g c = λ e. absurd (c.answer_read.ensures.not_ended e)

pub returns-in-Flush-clause-ended : goal.returns-in-Flush-clause-ended
returns-in-Flush-clause-ended g c = λ e. absurd (c.reply.ensures.not_ended e)

pub returns-in-Trim-clause-ended : goal.returns-in-Trim-clause-ended
returns-in-Trim-clause-ended g c = λ e. absurd (c.reply-in-Trim.ensures.not_ended e)

pub returns-in-Other-clause-ended : goal.returns-in-Other-clause-ended
returns-in-Other-clause-ended g c = λ e. absurd (c.reply-in-Other.ensures.not_ended e)
