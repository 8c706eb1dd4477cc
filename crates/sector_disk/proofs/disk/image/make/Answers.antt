use Rattle.sector_disk.proofs.NewPast.{begins_made}
use Rattle.sector_disk.proofs.disk.image.make.Goals as goal

pub returns : goal.returns
returns c =
    let pushed = c.in_ok-push.ensures in
    begins_made c.sectors-sectors.result _ c.push.new.self.items c.new-calls.result.items _ _
    pushed.items c.new-calls.ensures.items
    c.new-2.ensures.items c.sectors-sectors.ensures
