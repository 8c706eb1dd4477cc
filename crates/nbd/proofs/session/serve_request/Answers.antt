use Rattle.std.proofs.Common.{◌∙◌, [], sym}
use Rattle.std.proofs.KnownBytes.{Appends-nil, Consumes-nil}
use Rattle.nbd.proofs.Plays.{disconnects_now, plays_request}
use Rattle.nbd.proofs.session.serve_request.Goals as goal

pub returns-in-Disconnect-clause-serves : goal.returns-in-Disconnect-clause-serves
returns-in-Disconnect-clause-serves g c = (
  [],
  [],
  Consumes-nil (g.I.Read.remaining c.args.input.now),
  Appends-nil (g.O.Write.contents c.args.output.now),
  (λ e. absurd (cc e)),
  (λ e. disconnects_now c.args.bytes.now c.in-Some.header c.args.server.now c.requires
      (sym c.read_header.ensures ∙ c.in-Some.is) (sym c.command.ensures ∙ c.in-Disconnect.is)),
)

pub returns : goal.returns
returns g c =
    let done = c.in_ok-answer.ensures.answers in
    record {
      serves = (
        done.0,
        done.1,
        done.2,
        done.3,
        (λ e. plays_request c.args.bytes.now done.0 done.1 c.now.result c.in-Some.header
            c.args.server.now c.answer.new.server c.requires
            (sym c.read_header.ensures ∙ c.in-Some.is) done.4),
        (λ e. absurd (cc e)),
      );
      breaks = c.answer.ensures.breaks;
      ended = λ e. absurd (cc e);
      goes = c.answer.ensures.goes;
    }
