use Rattle.std.proofs.Common.{ap, arith, inl, inr}
use Rattle.bio.specs.Content.{Content, writes}
use Rattle.sector_disk.specs.inside.Storage.{content_at}
use Rattle.sector_disk.proofs.RamLaw.{content_same, goes_from, lands_from, ram_goes}
use Rattle.sector_disk.proofs.disk.ram.RamDisk.write_part.Goals as goal

pub returns-in_err-put_piece-clause-goes : goal.returns-in_err-put_piece-clause-goes
returns-in_err-put_piece-clause-goes c =
    let old = c.args.self.now in
    let same = c.in_err-put_piece.ensures.err in
    let is = content_same old.calls.items c.put_piece.new.calls.items old.newest.items
    c.put_piece.new.newest.items same.0 same.1 in
    ram_goes (writes c.args.first c.args.part.now) old.sectors
    (content_at old.calls.items old.newest.items) _ old.faults old.faults (omega arith)
    (λ sector. inl (ap (λ (c : Content). c sector) is))

pub returns-then-branch-clause-goes : goal.returns-then-branch-clause-goes
returns-then-branch-clause-goes c =
    let old = c.args.self.now in
    let done = c.in_ok-put_piece.ensures.done c.if-branch.true in
    ram_goes (writes c.args.first c.args.part.now) old.sectors
    (content_at old.calls.items old.newest.items) _ old.faults old.faults (omega arith)
    (λ sector. inr (done sector))

pub returns-in_err-from_slice-clause-goes : goal.returns-in_err-from_slice-clause-goes
returns-in_err-from_slice-clause-goes c =
    let old = c.args.self.now in
    let same = c.in_ok-put_piece.ensures.other c.if-branch.false in
    let is = content_same old.calls.items c.put_piece.new.calls.items old.newest.items
    c.put_piece.new.newest.items same.0 same.1 in
    ram_goes (writes c.args.first c.args.part.now) old.sectors
    (content_at old.calls.items old.newest.items) _ old.faults old.faults (omega arith)
    (λ sector. inl (ap (λ (c : Content). c sector) is))

pub returns-clause-goes : goal.returns-clause-goes
returns-clause-goes c =
    let old = c.args.self.now in
    let same = c.in_ok-put_piece.ensures.other c.if-branch.false in
    let is = content_same old.calls.items c.put_piece.new.calls.items old.newest.items
    c.put_piece.new.newest.items same.0 same.1 in
    goes_from c.args.first _ c.args.part.now old.sectors old.faults _ _ _ c.in_ok-from_slice.ensures
    is c.put.ensures.goes

pub returns-clause-lands : goal.returns-clause-lands
returns-clause-lands c =
    let old = c.args.self.now in
    let same = c.in_ok-put_piece.ensures.other c.if-branch.false in
    let is = content_same old.calls.items c.put_piece.new.calls.items old.newest.items
    c.put_piece.new.newest.items same.0 same.1 in
    lands_from c.args.first _ c.args.part.now old.sectors old.faults _ _ _ c.put.result
    c.in_ok-from_slice.ensures is
    c.put.ensures.lands
