use Rattle.std.proofs.Common.{◌≡◌, Some, refl, rules, []}
use Rattle.std.specs.Prelude.{slice_get}
use Rattle.script_runner.specs.declared.request.Request.TheVariants as requests
use Rattle.script_runner.proofs.LineSteps.{stands_at}
use Rattle.script_runner.proofs.running.Running.complete.Goals as goal

pub returns-in-NotAsked-clause-runs : goal.returns-in-NotAsked-clause-runs
returns-in-NotAsked-clause-runs g c =
    let here : slice_get c.args.self.now.requests.items c.args.request ≡ Some requests.NotAsked =
    stands_at c.args.self.now.requests.items c.args.request c.index.result.now requests.NotAsked
    c.requires.submitted c.index.ensures c.in-NotAsked.is in (
      [],
      record {
        does = rw here (record { device = refl; kept = refl; prints = refl }, refl, refl);
        time = refl;
        log_time = refl;
        goes = c.several_calls_go_as_one.ensures.none c.args.self.now.recorder;
      },
      search rules,
    )
