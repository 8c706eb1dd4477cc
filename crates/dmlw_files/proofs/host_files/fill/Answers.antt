use Rattle.std.proofs.Common.{◌≡◌, ◌∙◌, ◌+◌, ◌++◌, ap, rules, subst, sym, take, List, ℕ}
use Rattle.std.proofs.Math.Seq.{take-append-add}
use Rattle.std.specs.Io.KnownBytes.{Consumes}
use Rattle.dmlw_files.proofs.Ranges.{consumed_more}
use Rattle.dmlw_files.proofs.host_files.fill.Goals as goal

pub loop-count-preserved : goal.loop-count-preserved
loop-count-preserved g c =
    let count = c.loop-count.count in
    let read = c.in_ok-read.read in
    let front = c.split_at_mut-room.result.0.now in
    let buf = c.read.new.buf in
    let split = c.split_at_mut-room.ensures in
    let same : take count c.loop-count.buffer ++ take read buf ≡ take (count + read) (front ++ buf) =
    ap (λ (xs : List ℕ). xs ++ take read buf) (sym split.front)
    ∙ sym (take-append-add front buf read)
    ∙ ap (λ (n : ℕ). take (n + read) (front ++ buf)) split.front_len in (
      search rules,
      subst (Consumes (g.R.Read.remaining c.args.reader.now) (g.R.Read.remaining c.read.new.self))
          same
          (consumed_more _ _ _ _ _ c.loop-count.invariant.1 c.in_ok-read.ensures.bytes.0),
    )
