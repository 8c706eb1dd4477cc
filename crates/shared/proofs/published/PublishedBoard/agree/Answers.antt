use Rattle.shared.proofs.PublishedStatus.{published_begins}
use Rattle.shared.proofs.published.PublishedBoard.agree.Goals as goal

pub returns-clause-seen : goal.returns-clause-seen
returns-clause-seen g c bytes placed published =
    published_begins bytes placed _ _ c.agree.ensures.begins
    (rw c.self.view_is published)
