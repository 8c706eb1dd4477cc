use Rattle.std.proofs.Common.{◌≡◌, ◌⊎◌, ◌&&◌, ℕ, ◌∙◌, Bool, Err, IfErr, IfOk, Ok, Result}
use Rattle.std.proofs.Common.{true, false, ap, inl, inr, not, refl, subst, sym}
use Rattle.std.proofs.lemmas.Bool.{and_parts}
use Rattle.std.specs.List.{list_all, list_any}
use Rattle.bio.specs.Events.{all_aligned, is_lawful}
use Rattle.bio.specs.RequestLaws.{lawful_parts}
use Rattle.bio.specs.Requests.{bytes_of}
use Rattle.dmlw_script.specs.Plans.{top_of}
use Rattle.pending.specs.CoreState.{CoreState}
use Rattle.script_runner.specs.CallLaws.{on_error}
use Rattle.script_runner.specs.DiskRun.{DiskRecorder, FailsRehearsal, is_memory_stop}
use Rattle.script_runner.specs.Submissions.{is_asked}
use Rattle.script_runner.proofs.LawfulRuns.{run_lawful}
use Rattle.script_runner.proofs.LineSteps.{if_failed}
use Rattle.script_runner.proofs.rehearsing.events_of_run.Goals as goal
use Rattle.recorder.specs.Calls.{core_of}

pub returns-in_err-played-clause-rehearsed : goal.returns-in_err-played-clause-rehearsed
returns-in_err-played-clause-rehearsed c =
    if_failed _ c.from_residual.result c.from_residual.ensures.0

pub returns-in_err-played-clause-lawful : goal.returns-in_err-played-clause-lawful
returns-in_err-played-clause-lawful c = if_failed _ c.from_residual.result c.from_residual.ensures.0

pub returns-in_err-played-clause-aligned : goal.returns-in_err-played-clause-aligned
returns-in_err-played-clause-aligned c =
    if_failed _ c.from_residual.result c.from_residual.ensures.0

pub returns-in_err-played-clause-faults : goal.returns-in_err-played-clause-faults
returns-in_err-played-clause-faults c =
    on_error c.from_residual.result c.from_residual.ensures.1
    (λ fault is. subst (FailsRehearsal _ _) (sym is) (inl c.in_err-played.ensures.faults))

of_kept : {A E : Type 0} (r : Result A E) (P : A → Type 0) (made : A) (ample : Bool)
    → IfOk r (λ it. (it ≡ made) × (ample ≡ true)) → (ample ≡ true → P made) → IfOk r P
of_kept (Ok it) P made ample is gives = subst P (sym is.0) (gives is.1)
of_kept (Err error) P made ample is gives = tt

is_off : (b : Bool) → not b ≡ true → b ≡ false
is_off false is = refl
is_off true is = absurd (cc)

ran_out : (short asked stopped : Bool) → ((not short && asked) && not stopped) ≡ false
    → (short ≡ true) ⊎ ((asked ≡ false) ⊎ (stopped ≡ true))
ran_out true asked stopped is = inl refl
ran_out false false stopped is = inr (inl refl)
ran_out false true true is = inr (inr refl)
ran_out false true false is = absurd (cc)

of_refused : {A E : Type 0} (r : Result A E) (P Q : E → Type 0) → IfErr r P
    → ((error : E) → P error → Q error) → IfErr r Q
of_refused (Ok it) P Q is gives = tt
of_refused (Err error) P Q is gives = gives error is

pub returns-clause-faults : goal.returns-clause-faults
returns-clause-faults c =
    let played = c.in_ok-played.ensures.played in
    let events : c.events.result.now ≡ (core_of played.last.recorder).events =
    c.events.ensures.events ∙ rw played.left in
    of_refused c.kept_if.result _ _ c.kept_if.ensures.refused (λ fault is.
    inr (
      record {
        start = played.start;
        starts = played.starts;
        text = played.text;
        last = played.last;
        ran = played.ran;
        short =
            ran_out played.last.short (list_all is_asked played.last.requests.items) _
            (rw (← played.found, ← events) (sym c.had_memory-ample.ensures ∙ is.1));
      },
      is.0,
    ))

pub returns-clause-rehearsed : goal.returns-clause-rehearsed
returns-clause-rehearsed c =
    let played = c.in_ok-played.ensures.played in
    of_kept c.kept_if.result _ _ _ c.kept_if.ensures.kept (λ found.
    let both = and_parts c.in_ok-played.played.ample _ (sym c.had_memory-ample.ensures ∙ found) in
    let all = and_parts (not played.last.short) _ (sym played.found ∙ both.0) in
    record {
      start = played.start;
      starts = played.starts;
      text = played.text;
      last = played.last;
      ran = played.ran;
      recorded = rw played.left;
      short = is_off played.last.short all.0;
      asked = all.1;
      ample = ap (list_any is_memory_stop) (sym c.events.ensures.events) ∙ is_off _ both.1;
    })

pub returns-clause-lawful : goal.returns-clause-lawful
returns-clause-lawful c =
    let script = c.args.script.now in
    let played = c.in_ok-played.ensures.played in
    let well_formed =
    rw played.left at c.events.ensures.core.well_formed in
    of_kept c.kept_if.result _ _ _ c.kept_if.ensures.kept (λ found.
    subst (λ (r : DiskRecorder). is_lawful (top_of script.data_disk) (core_of r).events ≡ true)
    (sym played.left)
    (run_lawful script played.text played.start played.last c.scripts_are_plans.ensures
    played.starts played.ran well_formed))

pub returns-clause-aligned : goal.returns-clause-aligned
returns-clause-aligned c =
    let script = c.args.script.now in
    let played = c.in_ok-played.ensures.played in
    let recorded = c.in_ok-played.played.recorder in
    let goes =
    c.lines_go_as_one_call.ensures script.names script.commands played.text played.start
    played.last played.ran in
    let kept = ap (λ (r : DiskRecorder). (core_of r).sector_bytes) played.left in
    let bytes : (core_of recorded).sector_bytes ≡ bytes_of script.log_size =
    kept ∙ goes.sector_bytes ∙ ap (λ (core : CoreState). core.sector_bytes)
    played.starts.log_disk.begun.core in
    of_kept c.kept_if.result _ _ _ c.kept_if.ensures.kept (λ found.
    subst (λ (size : ℕ). all_aligned size (core_of recorded).events ≡ true) bytes
    (lawful_parts (core_of recorded).sector_bytes 1048576
    (core_of recorded).events c.events.ensures.sound.lawful).1)
