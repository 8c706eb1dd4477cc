use Rattle.std.proofs.Common.{refl}
use Rattle.dmlw.proofs.executing.perform.Goals as goal

pub returns-in-Formats : goal.returns-in-Formats
returns-in-Formats g c =
    let page = c.print_page.ensures c.args.session.now.explains in
    rw c.in-Formats.is (record {
      done = page.done;
      did = record { printed = page.printed; unwritten = refl; kept = λ name. refl };
      tells = page.tells;
    })
