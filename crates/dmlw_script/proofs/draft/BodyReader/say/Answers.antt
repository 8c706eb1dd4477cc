use Rattle.std.proofs.Common.{◌∙◌, sym}
use Rattle.dmlw_script.proofs.DraftLemmas.{flags_say, time_push}
use Rattle.dmlw_script.proofs.draft.BodyReader.say.Goals as goal

pub returns-clause-draft : goal.returns-clause-draft
returns-clause-draft c =
    let command = c.args.command in
    record {
      flags =
          rw (c.in_ok-push.ensures.items)
          (flags_say _ _ _ command c.requires.no_end c.requires.draft.flags);
      in_time = rw (c.in_ok-push.ensures.items)
          (c.time_after-time.ensures ∙ rw c.requires.draft.in_time (sym (time_push 0
          c.args.self.now.commands.items command)));
    }
