use Rattle.nbd.proofs.serving.serve.Goals as goal

pub returns-in-Ok-clause-session : goal.returns-in-Ok-clause-session
returns-in-Ok-clause-session g c = λ e.
    let played = c.play-how.ensures.plays (cc e) in (
      played.0,
      played.1,
      played.2,
      played.3,
      (c.now-now.result, c.play-how.new.server, played.4, c.in-Ok.ensures.ends),
    )

pub returns-in-Ok-clause-closes : goal.returns-in-Ok-clause-closes
returns-in-Ok-clause-closes g c = (
  c.now-now.result,
  c.play-how.new.server,
  c.play-how.ensures.goes,
  c.in-Ok.ensures.ends,
)

pub returns-in-Ok-clause-goes : goal.returns-in-Ok-clause-goes
returns-in-Ok-clause-goes g c =
    c.servers_go_as_one.ensures.two _ _ _ c.play-how.ensures.goes c.close.ensures.goes

pub returns-in-Ok-clause-broke_off : goal.returns-in-Ok-clause-broke_off
returns-in-Ok-clause-broke_off g c = λ end e. (
  c.now-now.result,
  c.play-how.new.server,
  c.play-how.ensures.breaks end (cc e),
  c.in-Ok.ensures.ends,
)
