use Rattle.std.proofs.Common.{◌∙◌}
use Rattle.nbd.proofs.server.Server.mark.Goals as goal

pub returns-clause-notes : goal.returns-clause-notes
returns-clause-notes g c =
    record {
      timed = c.set_now.new.self;
      times = c.set_now.ensures.times;
      noted = c.put_mark.new.self;
      notes = c.put_mark.ensures.marks;
      empties = c.drain.ensures.drains;
      device = c.drain.ensures.device ∙ c.put_mark.ensures.device ∙ c.set_now.ensures.device;
    }

pub returns-clause-goes : goal.returns-clause-goes
returns-clause-goes g c =
    c.servers_go_as_one.ensures.two _ _ _ c.set_now.ensures.goes
    (c.servers_go_as_one.ensures.two _ _ _ c.put_mark.ensures.goes c.drain.ensures.goes)
