use Rattle.std.proofs.Common.{◌∙◌, sym}
use Rattle.dmlw_script.specs.declared.command.Command.TheVariants as commands
use Rattle.dmlw_script.proofs.DraftLemmas.{flags_end, time_push}
use Rattle.dmlw_script.proofs.draft.BodyReader.end.Goals as goal

pub returns-clause-draft : goal.returns-clause-draft
returns-clause-draft c = record {
  flags =
      rw (c.in_ok-push.ensures.items)
      (flags_end _ _ _ c.args.request c.requires.within c.requires.draft.flags);
  in_time =
      rw (c.in_ok-push.ensures.items)
      (c.requires.draft.in_time
      ∙ sym (time_push 0 c.args.self.now.commands.items (commands.Complete c.args.request)));
}
