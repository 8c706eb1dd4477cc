-- Proves what the lines of a script do one after another, as a `StepsLead` of steps.
use Rattle.std.proofs.Common.{drop, length, slice_index_or, take, add-one, ap, refl, arith, sym}
use Rattle.std.proofs.Common.{subst, ◌≡◌, ◌∙◌, ℕ, suc, ◌+◌, ◌<◌, Option, inl, inr, List, [], ◌∷◌}
use Rattle.std.proofs.Common.{◌++◌, append_assoc}
use Rattle.std.proofs.lemmas.List.{append-nil, length-take, take-append-drop}
use Rattle.std.proofs.lemmas.List.Sums.{sum_by-append}
use Rattle.std.proofs.Math.Seq.{drop-cons, take-suc}
use Rattle.refusals.specs.declared.refusal.Refusal.{Refusal}
use Rattle.refusals.specs.declared.run_error.RunError.{RunError}
use Rattle.refusals.specs.declared.run_error.RunError.TheVariants.{Refused}
use Rattle.bio.specs.Requests.{bytes_of}
use Rattle.blockdev.specs.declared.device.BlockDev.{Ghosts}
use Rattle.blockdev.specs.Messages.{message_refusal}
use Rattle.recorder.specs.Calls.{core_of}
use Rattle.dmlw_script.specs.declared.command.Command.{Command}
use Rattle.dmlw_script.specs.declared.command.Command.TheVariants as commands
use Rattle.dmlw_script.specs.declared.script_id.ScriptId.{ScriptId}
use Rattle.dmlw_script.specs.Words.{command_line}
use Rattle.dmlw_script.specs.Plans.{submissions, head_count, top_of, CanFollow, HasName, IsPlan}
use Rattle.dmlw_script.specs.Plans.{ScriptValue}
use Rattle.script_runner.specs.CallLaws.{appends_kept, appends_twice}
use Rattle.script_runner.specs.declared.running.Running.{Running}
use Rattle.script_runner.specs.declared.step_error.StepError.TheVariants.{AtLine, Whole}
use Rattle.script_runner.specs.Lines.{Answering, EndsSubmitted, FitsDevice, HasScriptText}
use Rattle.script_runner.specs.Lines.{PrintsLine, RunsLine, StopsLine, submission_count}
use Rattle.script_runner.specs.Runs.{StepsLead, EndsRun, PrintsLines, close, file, message}

pub chain_snoc : {C S : Type 0} (Step : C → List ℕ → S → S → Type 0) (cs : List C) (c : C)
    (text more : List ℕ) (old mid new : S)
    → StepsLead Step cs text old mid → Step c more mid new
    → StepsLead Step (cs ++ c ∷ []) (text ++ more) old new
chain_snoc {S = S} Step [] c text more old mid new before step = (
  new,
  more,
  [],
  ap (λ (t : List ℕ). t ++ more) before.0 ∙ sym (append-nil more),
  from_start before.1,
  (refl, refl),
)
  where
    from_start : mid ≡ old → Step c more old new
    from_start same = rw (← same) step
chain_snoc Step (first ∷ cs) c text more old mid new before step = (
  before.0,
  before.1,
  before.2 ++ more,
  ap (λ (t : List ℕ). t ++ more) before.3 ∙ append_assoc before.1 before.2 more,
  before.4,
  chain_snoc Step cs c before.2 more before.0 mid new before.5 step,
)

-- Each command may follow the commands before it.
abbrev pub IsOrderlyScript : ScriptValue → Type 0
IsOrderlyScript plan =
    (before : List Command) (command : Command) (rest : List Command)
    → plan.commands ≡ before ++ command ∷ rest
    → CanFollow (bytes_of plan.log_size) (top_of plan.data_disk) before command

-- After `place` commands have run, `command` is the next one.
pub record ComesNext (plan : ScriptValue) (place : ℕ) (command : Command) : Type 0 where
  pub rest : List Command
  pub split : plan.commands ≡ take place plan.commands ++ command ∷ rest
  pub comes : CanFollow (bytes_of plan.log_size) (top_of plan.data_disk)
      (take place plan.commands) command

pub command_next : (plan : ScriptValue) (items : List Command) (place : ℕ) (other : Command)
    → items ≡ plan.commands → IsOrderlyScript plan → place < length items
    → ComesNext plan place (slice_index_or items place other)
command_next plan items place other same orderly within =
    subst (λ (body : List Command). place < length body
    → ComesNext plan place (slice_index_or body place other)) (sym same) here within
  where
    here : place < length plan.commands
        → ComesNext plan place (slice_index_or plan.commands place other)
    here inside =
        grind (
          arith,
          slice_index_or plan.commands place other,
          take place plan.commands,
          drop
              (suc place) plan.commands,
          take-append-drop place plan.commands,
          drop-cons plan.commands
              place other inside,
        )

pub next_fits : (bytes sectors : ℕ) (before : List Command) (command : Command)
    → CanFollow bytes sectors before command → FitsDevice bytes sectors command
next_fits bytes sectors before (commands.Submit submission) comes = comes.0
next_fits bytes sectors before (commands.Complete request) comes = tt
next_fits bytes sectors before (commands.Step step) comes = comes.0

pub next_text : (bytes sectors : ℕ) (before : List Command) (command : Command)
    → CanFollow bytes sectors before command → HasScriptText command
next_text bytes sectors before (commands.Submit submission) comes = tt
next_text bytes sectors before (commands.Complete request) comes = tt
next_text bytes sectors before (commands.Step step) comes = comes.1

pub next_submitted : (bytes sectors : ℕ) (before : List Command) (command : Command)
    → CanFollow bytes sectors before command
    → EndsSubmitted (submissions before) command
next_submitted bytes sectors before (commands.Submit submission) comes = tt
next_submitted bytes sectors before (commands.Complete request) comes = comes.0
next_submitted bytes sectors before (commands.Step step) comes = tt

submissions_cons : (command : Command) (body : List Command)
    → submissions (command ∷ body) ≡ submission_count command + submissions body
submissions_cons command body =
    sum_by-append submission_count (command ∷ []) body ∙ ap (λ (n : ℕ). n + submissions body) (omega arith)

submissions_push : (front : List Command) (command : Command)
    → submissions (front ++ command ∷ []) ≡ submissions front + submission_count command
submissions_push front command = grind (arith, sum_by-append)

pub next_named : (plan : ScriptValue) (place : ℕ) (command : Command) → IsPlan plan
    → ComesNext plan place command
    → HasName (length plan.names) (submissions (take place plan.commands)) command
next_named plan place (commands.Submit submission) is next =
    grind (
      arith,
      sum_by-append submission_count (take place plan.commands) (commands.Submit submission ∷
          next.rest),
      submissions_cons (commands.Submit submission) next.rest,
    )
next_named plan place (commands.Complete request) is next = grind (arith, sum_by-append, take)
next_named plan place (commands.Step step) is next = tt

pub one_more : (P : List Command → Type 0) (items body : List Command) (place : ℕ) (other : Command)
    → items ≡ body → place < length items
    → P (take place body ++ slice_index_or items place other ∷ []) → P (take (place + 1) body)
one_more P items body place other same within holds =
    subst P (sym (rw (add-one place) (subst (λ (cs : List Command). place < length cs → take (suc
    place) body ≡ take place body ++ slice_index_or cs place other ∷ []) (sym same) (take-suc
    body place other) within))) holds

pub lines_more : {D L : Type 0} {d : Ghosts D} {l : Ghosts L} (m : Answering D L)
    (names : List ScriptId) (front : List Command) (command : Command)
    (before mid after : Option (List ℕ))
    (start now new : Running D L d l) → PrintsLines m names front before mid start now
    → PrintsLine m names command mid after now new
    → PrintsLines m names (front ++ command ∷ []) before after start new
lines_more m names front command before mid after start now new ran line = (
  ran.0 ++ line.0,
  chain_snoc (RunsLine m names) front command ran.0 line.0 start now new ran.1 line.1,
  appends_twice before mid after ran.0 line.0 ran.2 line.2,
)

pub lines_more_of : {D L : Type 0} {d : Ghosts D} {l : Ghosts L} (m : Answering D L)
    (plan : ScriptValue) (items : List Command) (names : List ScriptId) (place : ℕ)
    (other : Command)
    (before mid after : Option (List ℕ)) (start now new : Running D L d l) → items ≡ plan.commands
    → place < length items → names ≡ plan.names
    → PrintsLines m plan.names (take place plan.commands) before mid start now
    → PrintsLine m names (slice_index_or items place other) mid after now new
    → PrintsLines m plan.names (take (place + 1) plan.commands) before after start new
lines_more_of m plan items names place other before mid after start now new same within named ran
    line =
    one_more (λ (body : List Command). PrintsLines m plan.names body before after start new) items
    plan.commands place other same within
    (lines_more m plan.names (take place plan.commands)
    (slice_index_or items place other) before mid after start now new ran
    (rw (← named) line))

pub count_more : (front : List Command) (command : Command) (old new : ℕ) → old ≡ submissions front
    → new ≡ old + submission_count command
    → new ≡ submissions (front ++ command ∷ [])
count_more front command old new counted more =
    more ∙ ap (λ (n : ℕ). n + submission_count command) counted ∙ sym (submissions_push front command)

pub count_more_of : (plan : ScriptValue) (items : List Command) (place old new : ℕ)
    (other : Command) → items ≡ plan.commands → place < length items
    → old ≡ submissions (take place plan.commands)
    → new ≡ old + submission_count (slice_index_or items place other)
    → new ≡ submissions (take (place + 1) plan.commands)
count_more_of plan items place old new other same within counted more =
    one_more (λ (body : List Command). new
    ≡ submissions body) items plan.commands place other same within
    (count_more (take place plan.commands) (slice_index_or items place other) old new counted more)

pub bytes_more : {D L : Type 0} {d : Ghosts D} {l : Ghosts L} (m : Answering D L)
    (names : List ScriptId) (command : Command) (before after : Option (List ℕ))
    (old new : Running D L d l) {bytes : ℕ}
    → PrintsLine m names command before after old new → (core_of old.recorder).sector_bytes ≡ bytes
    → (core_of new.recorder).sector_bytes ≡ bytes
bytes_more m names command before after old new line had =
    let ran = line.1 in ran.goes.sector_bytes ∙ had

pub next_line_fits : (plan : ScriptValue) (items : List Command) (place bytes sectors : ℕ)
    (other : Command) → items ≡ plan.commands → IsOrderlyScript plan → place < length items
    → bytes ≡ bytes_of plan.log_size → sectors ≡ top_of plan.data_disk
    → FitsDevice bytes sectors (slice_index_or items place other)
next_line_fits plan items place bytes sectors other same orderly within log_size size =
    let next = command_next plan items place other same orderly within in
    subst (λ (n : ℕ). FitsDevice bytes n (slice_index_or items place other)) (sym size)
    (subst (λ (n : ℕ). FitsDevice n (top_of plan.data_disk) (slice_index_or items place other))
    (sym log_size)
    (next_fits (bytes_of plan.log_size) (top_of plan.data_disk) (take place plan.commands)
    (slice_index_or items place other) next.comes))

pub next_line_text : (plan : ScriptValue) (items : List Command) (place : ℕ) (other : Command)
    → items ≡ plan.commands → IsOrderlyScript plan → place < length items
    → HasScriptText (slice_index_or items place other)
next_line_text plan items place other same orderly within =
    grind (arith, command_next plan items place other same orderly within, next_text)

pub next_line_submitted : (plan : ScriptValue) (items : List Command) (place requests : ℕ)
    (other : Command) → items ≡ plan.commands → IsOrderlyScript plan → place < length items
    → requests ≡ submissions (take place plan.commands)
    → EndsSubmitted requests (slice_index_or items place other)
next_line_submitted plan items place requests other same orderly within counted =
    let next = command_next plan items place other same orderly within in
    subst (λ (n : ℕ). EndsSubmitted n (slice_index_or items place other)) (sym counted)
    (next_submitted (bytes_of plan.log_size) (top_of plan.data_disk) (take place plan.commands)
    (slice_index_or items place other) next.comes)

pub next_line_named : (plan : ScriptValue) (items : List Command) (names : List ScriptId)
    (place requests : ℕ) (other : Command) → items ≡ plan.commands → IsPlan plan
    → IsOrderlyScript plan → place < length items → names ≡ plan.names
    → requests ≡ submissions (take place plan.commands)
    → HasName (length names) requests (slice_index_or items place other)
next_line_named plan items names place requests other same is orderly within named counted =
    let next = command_next plan items place other same orderly within in
    subst (λ (n : ℕ). HasName (length names) n (slice_index_or items place other)) (sym counted)
    (subst (λ (ids : List ScriptId). HasName (length ids) (submissions (take place plan.commands))
    (slice_index_or items place other)) (sym named)
    (next_named plan place (slice_index_or items place other) is next))

pub stops_whole : {D L : Type 0} {d : Ghosts D} {l : Ghosts L} (m : Answering D L) (text : List ℕ)
    (plan : ScriptValue) (command : Command) (before mid after : Option (List ℕ)) (fault : RunError)
    (start now : Running D L d l) → StopsLine m command mid after now (Whole fault)
    → EndsRun m text plan before after start fault
stops_whole m text plan command before mid after fault start now (inl is) = file fault is
stops_whole m text plan command before mid after fault start now (inr (inl stops)) =
    absurd (let never = stops.stops in cc)
stops_whole m text plan command before mid after fault start now (inr (inr stops)) =
    absurd (let never = stops.stops in cc)

pub stops_at_line : {D L : Type 0} {d : Ghosts D} {l : Ghosts L} (m : Answering D L) (text : List ℕ)
    (plan : ScriptValue) (place : ℕ) (line : Option ℕ) (command : Command)
    (before mid after : Option (List ℕ))
    (refusal : Refusal) (start now : Running D L d l) → ComesNext plan place command
    → place ≡ length (take place plan.commands)
    → line ≡ command_line text (head_count plan + place)
    → PrintsLines m plan.names (take place plan.commands) before mid start now
    → StopsLine m command mid after now (AtLine refusal)
    → EndsRun m text plan before after start (Refused (record { line = line; refusal = refusal }))
stops_at_line m text plan place line command before mid after refusal start now next here named ran
    (inl never) = absurd never
stops_at_line m text plan place line command before mid after refusal start now next here named ran
    (inr (inl stops)) =
    let told = stops.stops in
    let same : stops.refusal ≡ refusal = cc in
    subst (λ (at : Option ℕ). EndsRun m text plan before after start
    (Refused (record { line = at; refusal = refusal }))) (sym named)
    (subst (λ (r : Refusal). EndsRun m text plan before after start
    (Refused (record { line = command_line text (head_count plan + place); refusal = r }))) same
    (close place stops.refusal ran.0 (record {
      before = take place plan.commands;
      rest = next.rest;
      split =
          grind (arith, next.split, stops.is_close);
      place_is = here;
      mid = now;
      last = stops.last;
      ran = ran.1;
      refused = stops.closes;
    }) (appends_kept before mid after ran.0 ran.2 stops.printed)))
stops_at_line m text plan place line command before mid after refusal start now next here named ran
    (inr (inr stops)) =
    let told = stops.stops in
    let same : message_refusal stops.error ≡ refusal = cc in
    subst (λ (at : Option ℕ). EndsRun m text plan before after start
    (Refused (record { line = at; refusal = refusal }))) (sym named)
    (subst (λ (r : Refusal). EndsRun m text plan before after start
    (Refused (record { line = command_line text (head_count plan + place); refusal = r }))) same
    (message place stops.error ran.0 (record {
      before = take place plan.commands;
      rest = next.rest;
      over = stops.over;
      layer = stops.layer;
      asked = stops.asked;
      split =
          grind (arith, next.split, stops.is_message);
      place_is = here;
      mid = now;
      ran = ran.1;
      refused = stops.refused;
    }) (appends_kept before mid after ran.0 ran.2 stops.printed)))

pub of_item : (P : Command → Type 0) (items : List Command) (place : ℕ) (command : Command)
    → command ≡ slice_index_or items place command
    → P (slice_index_or items place command) → P command
of_item P items place command is holds = subst P (sym is) holds

pub of_place : (P : Command → Type 0) (items : List Command) (place : ℕ) (command : Command)
    → command ≡ slice_index_or items place command
    → P command → P (slice_index_or items place command)
of_place P items place command is holds = subst P is holds

pub lines_run : (items body : List Command) (place : ℕ) → items ≡ body → place < length items
    → place ≡ length (take place body)
lines_run items body place same within = grind (arith, length, length-take)
