use Rattle.std.proofs.Common.{◌≡◌, ◌∙◌, List, [], Result, Ok, ap, refl, subst, sym, ℕ}
use Rattle.blockdev.specs.declared.message.MessageError.{MessageError}
use Rattle.dmlw_script.specs.declared.command.DiskName.{DiskName}
use Rattle.script_runner.specs.declared.step_error.StepError.TheVariants.{AtLine}
use Rattle.script_runner.specs.Lines.{RefusesMessage, SendsToLayer}
use Rattle.script_runner.specs.Lines.{answering}
use Rattle.script_runner.proofs.running.Running.message.Goals.{in-Data, in-Log}
use Rattle.script_runner.proofs.running.Running.message.Goals as goal

pub invariant_of-self : goal.invariant_of-self
invariant_of-self g c = record {
  fits =
      rw c.message-answer.ensures.same.size c.args.self.now.fits;
}

pub invariant_of-self-in-Log : goal.invariant_of-self-in-Log
invariant_of-self-in-Log g c = record { fits = c.args.self.now.fits }

pub returns-in-Ok-clause-tells : goal.returns-in-Ok-clause-tells
returns-in-Ok-clause-tells g c =
    let m = answering g.D.Message.answers g.L.Message.answers in
    let run = c.args.self.now in
    let text : c.ascii_text-text.result.now ≡ c.args.text.now =
    c.ascii_text-text.ensures ∙ c.as_slice.ensures in
    elim c.match-over.branch [
      | in-Data w ↦
          let taken =
          subst (λ (answer : Result (Unit {0}) MessageError). g.D.Message.answers run.disk
          c.args.layer c.ascii_text-text.result.now answer w.message-answer.new.self)
          (sym w.answer-is ∙ c.in-Ok.is) w.message-answer.ensures.answers in
          subst (λ (over : DiskName). SendsToLayer m over c.args.layer c.args.text.now [] run
          c.match-over.self) (sym w.in-Data.is)
          (rw w.self-is (record {
            log = refl;
            kept = refl;
            short = refl;
            takes = subst (λ (asked :
                List ℕ). g.D.Message.answers run.disk c.args.layer asked (Ok tt)
                w.message-answer.new.self) text taken;
            unchanged = w.message-answer.ensures.same;
            prints = refl;
          }))
      | in-Log w ↦
          let told = w.message-answer-in-Log.ensures in
          let last = w.message-answer-in-Log.new.self in
          let taken =
          subst (λ (answer : Result (Unit {0}) MessageError). g.L.Message.answers
          run.recorder.store.device c.args.layer c.ascii_text-text.result.now answer
          last.store.device)
          (sym w.answer-is ∙ c.in-Ok.is) told.answers in
          subst (λ (over : DiskName). SendsToLayer m over c.args.layer c.args.text.now [] run
          c.match-over.self) (sym w.in-Log.is)
          (rw w.self-is (record {
            keeps = record { device = refl; kept = refl; prints = refl };
            short = refl;
            takes = subst (λ (asked : List ℕ). g.L.Message.answers
                run.recorder.store.device c.args.layer asked (Ok tt) last.store.device) text taken;
            unchanged = told.device;
            core = rw told.core;
            end = told.end;
            store = told.same;
            log_time = told.time;
          }))
    ]

pub returns-in-Ok-clause-goes : goal.returns-in-Ok-clause-goes
returns-in-Ok-clause-goes g c = elim c.match-over.branch [
  | in-Data w ↦
      rw w.self-is (c.several_calls_go_as_one.ensures.none c.args.self.now.recorder)
  | in-Log w ↦
      rw w.self-is w.message-answer-in-Log.ensures.goes
]

pub returns-in-Err-clause-goes : goal.returns-in-Err-clause-goes
returns-in-Err-clause-goes g c = elim c.match-over.branch [
  | in-Data w ↦
      rw w.self-is (c.several_calls_go_as_one.ensures.none c.args.self.now.recorder)
  | in-Log w ↦
      rw w.self-is w.message-answer-in-Log.ensures.goes
]

pub returns-in-Err-clause-refused : goal.returns-in-Err-clause-refused
returns-in-Err-clause-refused g c =
    let m = answering g.D.Message.answers g.L.Message.answers in
    let run = c.args.self.now in
    let error = c.in-Err.error in
    let text : c.ascii_text-text.result.now ≡ c.args.text.now =
    c.ascii_text-text.ensures ∙ c.as_slice.ensures in
    let refused : RefusesMessage m c.args.over c.args.layer c.args.text.now error run =
    elim c.match-over.branch [
      | in-Data w ↦
          let last = w.message-answer.new.self in
          let taken =
          subst (λ (answer : Result (Unit {0}) MessageError). g.D.Message.answers run.disk
          c.args.layer c.ascii_text-text.result.now answer last)
          (sym w.answer-is ∙ c.in-Err.is) w.message-answer.ensures.answers in
          subst (λ (over : DiskName). RefusesMessage m over c.args.layer c.args.text.now error run)
          (sym w.in-Data.is) (
            last,
            rw (← text) taken,
          )
      | in-Log w ↦
          let last = w.message-answer-in-Log.new.self.store.device in
          let taken =
          subst (λ (answer : Result (Unit {0}) MessageError). g.L.Message.answers
          run.recorder.store.device c.args.layer c.ascii_text-text.result.now answer last)
          (sym w.answer-is ∙ c.in-Err.is) w.message-answer-in-Log.ensures.answers in
          subst (λ (over : DiskName). RefusesMessage m over c.args.layer c.args.text.now error run)
          (sym w.in-Log.is) (
            last,
            rw (← text) taken,
          )
    ] in (error, ap AtLine c.from.ensures, refused)

pub returns-in-Ok-clause-keeps : goal.returns-in-Ok-clause-keeps
returns-in-Ok-clause-keeps g c = elim c.match-over.branch [
  | in-Data w ↦
      rw w.self-is (record {
        time = refl;
        log_time = refl;
        size =
            w.message-answer.ensures.same.size;
        count = refl;
      })
  | in-Log w ↦
      rw w.self-is (record {
        time = refl;
        log_time = w.message-answer-in-Log.ensures.time;
        size = refl;
        count = refl;
      })
]

pub returns-in-Err-clause-keeps : goal.returns-in-Err-clause-keeps
returns-in-Err-clause-keeps g c = elim c.match-over.branch [
  | in-Data w ↦
      rw w.self-is (record {
        time = refl;
        log_time = refl;
        size =
            w.message-answer.ensures.same.size;
        count = refl;
      })
  | in-Log w ↦
      rw w.self-is (record {
        time = refl;
        log_time = w.message-answer-in-Log.ensures.time;
        size = refl;
        count = refl;
      })
]
