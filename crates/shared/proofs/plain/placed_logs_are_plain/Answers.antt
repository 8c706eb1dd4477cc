use Rattle.shared.proofs.PlainCrash.{leaves_plain}
use Rattle.shared.proofs.plain.placed_logs_are_plain.Goals as goal

pub returns : goal.returns
returns c =
    leaves_plain c.lists_are_plain.ensures c.logs_are_plain.ensures.plain
    c.prefixes_could_be_held.ensures
