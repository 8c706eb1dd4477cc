use Rattle.nbd.proofs.Breaks.{breaks_none, broke_off, if_err}
use Rattle.std.proofs.Common.{◌++◌, []}
use Rattle.std.proofs.KnownBytes.{Appends-nil, Appends-trans, Consumes-nil, Consumes-trans}
use Rattle.nbd.proofs.Plays.{disconnects_later, plays_both, plays_none}
use Rattle.nbd.proofs.session.transmit.Goals as goal

pub loop-init : goal.loop-init
loop-init g c = (
  c.servers_go_as_one.ensures.none c.args.server.now,
  (
    [],
    [],
    Consumes-nil (g.I.Read.remaining c.args.input.now),
    Appends-nil (g.O.Write.contents c.args.output.now),
    plays_none c.args.server.now,
  ),
)

pub returns-then-not-goes_on-clause-disconnected : goal.returns-then-not-goes_on-clause-disconnected
returns-then-not-goes_on-clause-disconnected g c =
    let before = c.loop.invariant.1 in
    let last = c.in_ok-goes_on.ensures.serves in (
      before.0 ++ last.0,
      before.1 ++ last.1,
      Consumes-trans (g.I.Read.remaining c.args.input.now) (g.I.Read.remaining c.loop.input)
          (g.I.Read.remaining c.serve_next.new.input) before.0 last.0 before.2 last.2,
      Appends-trans (g.O.Write.contents c.args.output.now) (g.O.Write.contents c.loop.output)
          (g.O.Write.contents c.serve_next.new.output) before.1 last.1 before.3 last.3,
      disconnects_later before.0 before.1 last.0 last.1 c.args.server.now c.loop.server
          c.serve_next.new.server before.4 (last.5 c.if-not-goes_on.true),
    )

pub loop-preserved : goal.loop-preserved
loop-preserved g c =
    let before = c.loop.invariant.1 in
    let last = c.in_ok-goes_on.ensures.serves in (
      c.servers_go_as_one.ensures.two _ _ _ c.loop.invariant.0 c.serve_next.ensures.goes,
      (
        before.0 ++ last.0,
        before.1 ++ last.1,
        Consumes-trans (g.I.Read.remaining c.args.input.now) (g.I.Read.remaining c.loop.input)
            (g.I.Read.remaining c.serve_next.new.input) before.0 last.0 before.2 last.2,
        Appends-trans (g.O.Write.contents c.args.output.now) (g.O.Write.contents c.loop.output)
            (g.O.Write.contents c.serve_next.new.output) before.1 last.1 before.3 last.3,
        plays_both before.0 before.1 last.0 last.1 c.args.server.now c.loop.server
            c.serve_next.new.server before.4 (last.4 c.if-not-goes_on.false),
      ),
    )

pub returns-in_err-goes_on-clause-broke_off : goal.returns-in_err-goes_on-clause-broke_off
returns-in_err-goes_on-clause-broke_off g c =
    let before = c.loop.invariant.1 in
    let last = c.serve_next.ensures.breaks in
    if_err c.from_residual.result _
    (broke_off (g.I.Read.remaining c.args.input.now) (g.I.Read.remaining c.loop.input)
    (g.O.Write.contents c.args.output.now) (g.O.Write.contents c.loop.output) before.0 before.1
    c.args.server.now c.loop.server last.0 c.serve_next.new.server before.2 before.3 before.4
    last.1 last.2)

pub returns-clause-broke_off : goal.returns-clause-broke_off
returns-clause-broke_off g c =
    let before = c.loop.invariant.1 in
    broke_off (g.I.Read.remaining c.args.input.now) (g.I.Read.remaining c.loop.input)
    (g.O.Write.contents c.args.output.now) (g.O.Write.contents c.loop.output) before.0 before.1
    c.args.server.now c.loop.server c.loop.server c.loop.server before.2 before.3 before.4
    (plays_none c.loop.server) (breaks_none c.loop.server)
