use Rattle.std.proofs.Common.{◌≡◌, inr, refl}
use Rattle.shared.specs.Close.{IfForeign}
use Rattle.shared.specs.declared.closing.Unclosed.{Unclosed}
use Rattle.shared.specs.declared.closing.Unclosed.TheVariants.{Foreign}
use Rattle.script_runner.proofs.seat_run.close.Goals as goal

of_foreign : {A B : Type 0} (unclosed : Unclosed A B) (back : B) (P : B → Type 0)
    → unclosed ≡ Foreign back → IfForeign unclosed P → P back
of_foreign unclosed back P is told = rw is at told

pub returns-clause-refused : goal.returns-clause-refused
returns-clause-refused g c =
    let foreign = c.in-Err-Foreign in
    inr (
      refl,
      record {
        closed = foreign.field-0-0.closed;
        mismatch = of_foreign foreign.field-0 foreign.field-0-0 _ foreign.field-0-is
            foreign.ensures.foreign;
      },
    )
