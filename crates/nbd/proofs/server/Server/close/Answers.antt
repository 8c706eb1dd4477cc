use Rattle.std.proofs.Common.{◌∙◌}
use Rattle.nbd.proofs.server.Server.close.Goals as goal

pub returns-clause-ends : goal.returns-clause-ends
returns-clause-ends g c =
    record {
      timed = c.set_now.new.self;
      times = c.set_now.ensures.times;
      closed = c.put_close.new.self;
      closes = c.in_ok-put_close.ensures.closes;
      empties = c.drain.ensures.drains;
      device = c.drain.ensures.device ∙ c.put_close.ensures.device ∙ c.set_now.ensures.device;
    }

pub returns-clause-goes : goal.returns-clause-goes
returns-clause-goes g c =
    c.servers_go_as_one.ensures.two _ _ _ c.set_now.ensures.goes
    (c.servers_go_as_one.ensures.two _ _ _ c.put_close.ensures.goes c.drain.ensures.goes)
