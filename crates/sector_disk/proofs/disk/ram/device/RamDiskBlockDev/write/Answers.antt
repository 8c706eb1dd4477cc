use Rattle.std.proofs.Common.{◌+◌, ◌-◌, ◌/◌, ◌∙◌, arith, drop, rules}
use Rattle.std.proofs.lemmas.List.{length-drop, length-take}
use Rattle.bio.specs.Content.{nothing, writes}
use Rattle.blockdev.specs.JoinLaws.{goes_cut, goes_part, nothing-part}
use Rattle.sector_disk.specs.RamView.{ram_view}
use Rattle.sector_disk.proofs.RamLaw.{does_all, does_some, written_all, written_fails, written_first, written_next}
use Rattle.sector_disk.proofs.disk.ram.device.RamDiskBlockDev.write.Goals as goal

pub returns-then-fua-clause-goes : goal.returns-then-fua-clause-goes
returns-then-fua-clause-goes c =
    let patch = writes c.args.first c.args.bytes.now in
    goes_part nothing patch (ram_view c.args.self.now) (ram_view c.fail.new.self)
    (nothing-part patch) c.fail.ensures.goes

pub loop-done-init : goal.loop-done-init
loop-done-init c = written_first c.args.first c.args.bytes.now (ram_view c.args.self.now)

pub write_part-requires : goal.write_part-requires
write_part-requires c =
    let size = c.loop-done.invariant.goes.size in
    let done = c.loop-done.invariant.whole in
    let within = c.requires.within in
    omega (
      arith,
      length-take (c.loop-done.done + c.min-count.result - c.loop-done.done)
          (drop c.loop-done.done c.args.bytes.now),
      length-drop c.loop-done.done c.args.bytes.now,
    )

pub returns-in_err-write_part-clause-goes : goal.returns-in_err-write_part-clause-goes
returns-in_err-write_part-clause-goes c =
    written_fails c.args.first c.loop-done.done c.min-count.result _ c.args.bytes.now
    (ram_view c.args.self.now) (ram_view c.loop-done.self) (ram_view c.write_part.new.self)
    (omega arith) (omega arith) (omega arith) c.loop-done.invariant c.write_part.ensures.goes

pub loop-done-preserved : goal.loop-done-preserved
loop-done-preserved c =
    written_next c.args.first c.loop-done.done c.min-count.result _ c.args.bytes.now
    (ram_view c.args.self.now) (ram_view c.loop-done.self) (ram_view c.write_part.new.self)
    (omega arith) (omega arith) (omega arith) c.loop-done.invariant c.write_part.ensures.goes
    c.in_ok-write_part.ensures.lands c.write_part.ensures.faults

pub returns-clause-goes : goal.returns-clause-goes
returns-clause-goes c =
    goes_cut (c.args.first + c.loop-done.done / 512) (writes c.args.first c.args.bytes.now)
    (ram_view c.args.self.now) (ram_view c.loop-done.self) c.loop-done.invariant.goes

pub returns-clause-lands : goal.returns-clause-lands
returns-clause-lands c = λ no_lie.
    rw c.if-fua.false (written_all c.args.first c.loop-done.done c.args.bytes.now
    (ram_view c.args.self.now) (ram_view c.loop-done.self) c.loop-done.invariant
    c.loop-done-test.false)

pub returns-in_err-write_part-clause-does : goal.returns-in_err-write_part-clause-does
returns-in_err-write_part-clause-does c =
    does_some c.args.self.now c.write_part.new.self c.args.first c.args.now c.args.bytes.now
    c.args.fua c.from_residual.result c.if-fua.false (search rules)
    (returns-in_err-write_part-clause-goes c)
    (c.write_part.ensures.faults ∙ c.loop-done.invariant.faults)

pub returns-clause-does : goal.returns-clause-does
returns-clause-does c =
    does_all c.args.self.now c.loop-done.self c.args.first c.args.now c.args.bytes.now
    c.args.fua c.if-fua.false (written_all c.args.first c.loop-done.done c.args.bytes.now
    (ram_view c.args.self.now) (ram_view c.loop-done.self) c.loop-done.invariant
    c.loop-done-test.false) c.loop-done.invariant.faults
