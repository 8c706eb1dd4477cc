use Rattle.std.proofs.Common.{◌&&◌, ap, sym, ◌∙◌}
use Rattle.bio.specs.Events.{is_open_at}
use Rattle.judge.proofs.lawful.can_follow.Goals as goal

pub returns-then-has_no_close : goal.returns-then-has_no_close
returns-then-has_no_close c =
    let events = c.args.events.now in
    c.is_open_at.ensures
    ∙ (ap (is_open_at events) c.place.ensures
    ∙ (sym (ap (λ b. b && is_open_at events c.in-Complete.id)
    (sym c.has_no_close.ensures ∙ c.if-has_no_close.true))
    ∙ sym (rw c.in-Complete.is)))
