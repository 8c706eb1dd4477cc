use Rattle.std.proofs.Common.{◌∙◌, arith, refl}
use Rattle.clap.specs.Simple.{app_of_fields}
use Rattle.dmlw.proofs.PlainWords.{begun, one_argument}
use Rattle.dmlw.proofs.program.command_of.Goals as goal

pub loop-word-init : goal.loop-word-init
loop-word-init c = record {
  own = grind (arith, c.about-command.ensures, c.new.ensures.local);
  reads = grind (arith, begun, app_of_fields);
}

pub loop-word-preserved : goal.loop-word-preserved
loop-word-preserved c =
    let adds = c.in_ok-command.ensures in
    record {
      own = adds.globals ∙ rw (c.argument.ensures.own, c.loop-word.invariant.own) refl;
      reads = one_argument (λ argument. argument.0.now) _ _ _ c.words-words.result.arguments.now
          c.loop-word.word-index _ (omega arith) (adds.shape c.argument.ensures.own) c.argument.ensures.rule
          ∙ c.loop-word.invariant.reads;
    }
