use Rattle.std.proofs.Common.{◌∙◌, inl, inr, subst}
use Rattle.std.specs.Prelude.{Result}
use Rattle.nbd.specs.declared.fault.RequestFault.{RequestFault}
use Rattle.nbd.specs.Serving.{CarriesOut}
use Rattle.nbd.proofs.Frames.{gives_confirmed}
use Rattle.nbd.proofs.server.Server.record.Goals as goal

pub returns-in-Ok-done-clause-gives : goal.returns-in-Ok-done-clause-gives
returns-in-Ok-done-clause-gives g c =
    gives_confirmed c.args.now c.args.bio c.in-Ok.id c.has_fua.result c.confirm.result _ _
    (record {
      timed = c.set_now.new.self;
      times = c.set_now.ensures.times;
      before = c.set_now.ensures.device;
      submitted = c.submit.new.self;
      submits = c.in-Ok.ensures.submits;
      waits = c.submit.ensures.device;
      done = c.carry_out-done.new.self;
      carries_out = subst (λ (r : Result Unit RequestFault). CarriesOut c.args.now c.args.bio c.in-Ok.id r
          c.submit.new.self c.carry_out-done.new.self) c.in-Ok-done.is
          c.carry_out-done.ensures.does;
      empties = c.drain.ensures.drains;
      after = c.drain.ensures.device;
    })
    c.has_fua.ensures c.confirm.ensures.sure c.confirm.ensures.unsure

pub returns-in-Ok-done-clause-goes : goal.returns-in-Ok-done-clause-goes
returns-in-Ok-done-clause-goes g c =
    c.servers_go_as_one.ensures.two _ _ _ c.set_now.ensures.goes
    (c.servers_go_as_one.ensures.two _ _ _ c.submit.ensures.goes
    (c.servers_go_as_one.ensures.two _ _ _ c.carry_out-done.ensures.goes c.drain.ensures.goes))

pub returns-in-Ok-clause-gives : goal.returns-in-Ok-clause-gives
returns-in-Ok-clause-gives g c =
    inl (
      c.in-Ok.id,
      record {
        timed = c.set_now.new.self;
        times = c.set_now.ensures.times;
        before = c.set_now.ensures.device;
        submitted = c.submit.new.self;
        submits = c.in-Ok.ensures.submits;
        waits = c.submit.ensures.device;
        done = c.carry_out-done.new.self;
        carries_out = subst (λ (r : Result Unit RequestFault). CarriesOut c.args.now c.args.bio c.in-Ok.id
            r c.submit.new.self c.carry_out-done.new.self) c.in-Err-done.is
            c.carry_out-done.ensures.does;
        empties = c.drain.ensures.drains;
        after = c.drain.ensures.device;
      },
    )

pub returns-in-Ok-clause-goes : goal.returns-in-Ok-clause-goes
returns-in-Ok-clause-goes g c =
    c.servers_go_as_one.ensures.two _ _ _ c.set_now.ensures.goes
    (c.servers_go_as_one.ensures.two _ _ _ c.submit.ensures.goes
    (c.servers_go_as_one.ensures.two _ _ _ c.carry_out-done.ensures.goes c.drain.ensures.goes))

pub returns-clause-gives : goal.returns-clause-gives
returns-clause-gives g c =
    inr (inl (
      record {
        timed = c.set_now.new.self;
        times = c.set_now.ensures.times;
        short = c.in-Err.ensures.short.1;
        device = c.submit.ensures.device ∙ c.set_now.ensures.device;
      },
      c.in-Err.ensures.short.0,
    ))
