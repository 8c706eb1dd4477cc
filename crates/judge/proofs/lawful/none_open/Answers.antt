use Rattle.std.proofs.Common.{ℕ, not, length, ap, sym, ◌∙◌}
use Rattle.bio.specs.Events.{is_open_at}
use Rattle.bio.specs.PlaceLaws.{not_all}
use Rattle.judge.proofs.lawful.none_open.Goals as goal

pub returns-then-is_open_at : goal.returns-then-is_open_at
returns-then-is_open_at c =
    let events = c.args.events.now in
    not_all (λ (k : ℕ). not (is_open_at events k)) (length events) c.loop-id.id c.loop-id-test.true
    (ap not (sym c.is_open_at.ensures ∙ c.if-is_open_at.true))
