use Rattle.nbd.proofs.Breaks.{breaks_none}
use Rattle.nbd.proofs.Plays.{served_after}
use Rattle.nbd.proofs.session.serve_next.Goals as goal

pub returns-in-Ok-clause-serves : goal.returns-in-Ok-clause-serves
returns-in-Ok-clause-serves g c =
    served_after c.serve_request.result c.take-filled.new.buffer
    (g.I.Read.remaining c.args.input.now) (g.I.Read.remaining c.take-filled.new.input)
    (g.I.Read.remaining c.serve_request.new.input) (g.O.Write.contents c.args.output.now)
    (g.O.Write.contents c.serve_request.new.output) c.args.server.now c.note_marks.new.server
    c.serve_request.new.server c.in-Ok.ensures.filled c.note_marks.ensures.plays
    c.serve_request.ensures.serves

pub returns-in-Ok-clause-breaks : goal.returns-in-Ok-clause-breaks
returns-in-Ok-clause-breaks g c = (
  c.note_marks.new.server,
  c.note_marks.ensures.plays,
  c.serve_request.ensures.breaks,
)

pub returns-in-Err-clause-breaks : goal.returns-in-Err-clause-breaks
returns-in-Err-clause-breaks g c = (
  c.note_marks.new.server,
  c.note_marks.ensures.plays,
  breaks_none c.note_marks.new.server,
)
