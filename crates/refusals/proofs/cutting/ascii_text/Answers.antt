use Rattle.std.proofs.lemmas.Str.{IsUtf8-from_ascii}
use Rattle.refusals.proofs.WordLemmas.{unwrapped}
use Rattle.refusals.proofs.cutting.ascii_text.Goals as goal

pub returns : goal.returns
returns c =
    let utf8 = IsUtf8-from_ascii c.args.bytes.now c.requires in
    unwrapped _ _ c.args.bytes.now _ c.from_utf8.result c.unwrap_or_default.result utf8
    c.from_utf8.ensures.cases c.unwrap_or_default.ensures
