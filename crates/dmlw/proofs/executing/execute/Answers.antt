use Rattle.std.proofs.Common.{◌∙◌}
use Rattle.dmlw.proofs.Ends.{ends_task, task_tells}
use Rattle.dmlw.proofs.executing.execute.Goals as goal

pub returns-in-Ok-clause-told : goal.returns-in-Ok-clause-told
returns-in-Ok-clause-told g c = λ off.
    task_tells c.read_words-task.result _ _ _ c.perform.result c.perform.ensures
    (c.has_explain-session.ensures ∙ off)

pub returns-in-Err-clause-told : goal.returns-in-Err-clause-told
returns-in-Err-clause-told g c = λ off.
    task_tells c.unread-task.result _ _ _ c.perform-in-Err.result c.perform-in-Err.ensures
    (c.has_explain-session.ensures ∙ off)

pub returns-in-Ok-clause-command : goal.returns-in-Ok-clause-command
returns-in-Ok-clause-command g c =
    ends_task c.read_words-task.result _ _ _ c.perform.result c.perform.ensures

pub returns-in-Err-clause-command : goal.returns-in-Err-clause-command
returns-in-Err-clause-command g c =
    ends_task c.unread-task.result _ _ _ c.perform-in-Err.result c.perform-in-Err.ensures
