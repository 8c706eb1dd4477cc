-- Questions about an image, and their answers. `judge` answers whether a power failure could leave
-- the image on a script's data disk, and `path` answers how.
use Rattle.std.specs.Prelude.{◌/◌, true, List, ◌++◌, Option, Some, Result, Ok, Err, codes, length}
use Rattle.std.specs.Prelude.{replicate, take, ◌≡◌, ◌⊎◌, ◌<◌, ◌≤◌, ◌*◌, ℕ}
use Rattle.std.specs.Io.KnownBytes.{Appends, Keeps}
use Rattle.std.specs.List.{flat_map}
use Rattle.refusals.specs.declared.refusal.Refusal.{Refusal}
use Rattle.refusals.specs.declared.refusal.Refusal.TheVariants as refusals
use Rattle.refusals.specs.declared.run_error.RunError.{RunError}
use Rattle.refusals.specs.declared.run_error.RunError.TheVariants.{Refused}
use Rattle.refusals.specs.Errors.{IsFileError, memory_error, refused_by}
use Rattle.bio.specs.Content.{AgreeBelow, Content, sector_of}
use Rattle.bio.specs.declared.event.CoreEvent.{CoreEvent}
use Rattle.bio.specs.Events.{all_aligned, is_lawful}
use Rattle.bio.specs.Requests.{bytes_of}
use Rattle.log_format.specs.Replay.{replay}
use Rattle.judge.specs.declared.verdict.Verdict.{Verdict}
use Rattle.judge.specs.declared.verdict.Verdict.TheVariants as verdicts
use Rattle.judge.specs.Verdicts.{IsVerdict, verdict_text}
use Rattle.world.specs.declared.reaching.Finding.{Finding}
use Rattle.world.specs.declared.reaching.Finding.TheVariants.{Run, RuledOut}
use Rattle.world.specs.declared.step.Step.{Step}
use Rattle.world.specs.Machine.{IsFinding}
use Rattle.world.specs.Texts.{step_text}
use Rattle.pending.specs.CompletionList.{BelongsTo, completion_list, dm_log_writes, entries_of}
use Rattle.pending.specs.CompletionList.{last_moment}
use Rattle.dmlw_script.specs.FirstFault.{IsFirstFault}
use Rattle.dmlw_script.specs.Grammar.{IsTextOf}
use Rattle.dmlw_script.specs.Words.{lines_of}
use Rattle.dmlw_script.specs.Plans.{ScriptValue, top_of}
use Rattle.script_runner.specs.DiskRun.{FailsRehearsal, IsRehearsed}
use Rattle.dmlw_files.specs.Files.{FileHoldsImage, IsImage, FileIsWithin, MatchesContents}
use Rattle.dmlw_commands.specs.declared.exit.Exit.{Exit}
use Rattle.dmlw_commands.specs.declared.exit.Exit.TheVariants as exits
use Rattle.dmlw_commands.specs.Ends.{exit_of}
use Rattle.dmlw_commands.specs.Records.{IsNoScript, of_recorder}
use Rattle.dmlw_commands.specs.Seen.{Effect, OnlyReads}

-- The content of an image of `count` zero bytes.
abbrev pub blank : ℕ → Content
blank count = sector_of (replicate count 0)

-- The moment isn't past the last moment of `events`, and the image has exactly the device's size.
abbrev pub CanJudge : ℕ → List CoreEvent → ℕ → List ℕ → Type 0
CanJudge sectors events moment image =
    (moment ≤ last_moment events) × (length image ≡ 512 * sectors)

-- The moment is past the last moment of `events`, or the image hasn't the device's size.
abbrev pub CannotJudge : ℕ → List CoreEvent → ℕ → List ℕ → Type 0
CannotJudge sectors events moment image =
    (last_moment events < moment) ⊎ (length image ≡ 512 * sectors → ⊥)

-- A kind of answer.
-- - `says`: what it claims, given the sector count, the events, the first content and the image's
--   content.
-- - `printed`: what is printed.
-- - `ends`: how it ends the command.
pub record Meaning (A : Type 0) : Type 1 where
  pub says : ℕ → List CoreEvent → Content → Content → A → Type 0
  pub printed : A → List ℕ
  pub ends : A → Exit

-- `answer` holds for `image` after the first `moment` events of the script `plan`, on a data disk
-- of zeroes.
--
-- A rehearsal of `plan` has the events `events`. They are lawful for a device with the size of the
-- data disk's top. Each request is aligned to the log's sectors.
pub record IsAnswered {A : Type 0} (meaning : Meaning A) (plan : ScriptValue) (moment : ℕ)
    (image : List ℕ) (answer : A) : Type 0 where
  pub events : List CoreEvent
  pub rehearsed : IsRehearsed plan events
  pub lawful : is_lawful (top_of plan.data_disk) events ≡ true
  pub aligned : all_aligned (bytes_of plan.log_size) events ≡ true
  pub can_judge : CanJudge (top_of plan.data_disk) events moment image
  pub holds : meaning.says (top_of plan.data_disk) (take moment events) (blank (length image))
      (sector_of image) answer

-- A question: the contents of the script's file and of the image's file, if known, and the moment.
pub record Question : Type 0 where
  pub script : Option (List ℕ)
  pub image : Option (List ℕ)
  pub moment : ℕ

-- The question if the files are known to hold `text` and `image`.
abbrev pub question : List ℕ → List ℕ → ℕ → Question
question text image moment = record { script = Some text; image = Some image; moment = moment }

-- The script's file holds `text` and the image's file holds `image`, if their contents are known.
-- `image` is an image.
pub record AreRead (asked : Question) (text image : List ℕ) : Type 0 where
  pub script_holds : MatchesContents asked.script text
  pub image_holds : MatchesContents asked.image image
  pub whole : IsImage image

-- There is an answer: the script's file holds the text of a script, and `answer` is that script's
-- answer about the image.
pub record HasAnswer {A : Type 0} (meaning : Meaning A) (asked : Question)
    (answer : A) : Type 0 where
  pub text : List ℕ
  pub image : List ℕ
  pub read : AreRead asked text image
  pub plan : ScriptValue
  pub spelled : IsTextOf text plan
  pub judged : IsAnswered meaning plan asked.moment image answer

-- It is known that the script's file has at most 4 MiB, and that the image's file holds an image.
abbrev pub AreUsable : Question → Type 0
AreUsable asked = FileIsWithin 4194304 asked.script × FileHoldsImage asked.image

-- Why there is no answer.
-- - `file`: a file can't be read, is too long, or holds no image; or memory ran out. If both files
--   are known to be usable, the fault is that memory ran out.
-- - `text`: the text isn't a script; the fault names its first faulty line.
-- - `run`: the script's rehearsal fails.
-- - `moment`: the moment is past the last one, or the image hasn't the device's size.
pub data HasNoVerdict (asked : Question) : RunError → Type 0 where
  file : (fault : RunError) → IsFileError fault → (AreUsable asked → fault ≡ memory_error)
      → HasNoVerdict asked fault
  text : (bytes image : List ℕ) (line : ℕ) (refusal : Refusal) → AreRead asked bytes image
      → IsNoScript of_recorder bytes
      → IsFirstFault (lines_of bytes) line refusal
      → HasNoVerdict asked (Refused (record { line = Some line; refusal = refusal }))
  run : (bytes image : List ℕ) (plan : ScriptValue) (fault : RunError) → AreRead asked bytes image
      → IsTextOf bytes plan
      → FailsRehearsal bytes plan fault → HasNoVerdict asked fault
  moment : (bytes image : List ℕ) (plan : ScriptValue) (events : List CoreEvent)
      → AreRead asked bytes image → IsTextOf bytes plan
      → IsRehearsed plan events → CannotJudge (top_of plan.data_disk) events asked.moment image
      → HasNoVerdict asked (refused_by refusals.BadMoment)

-- The result of a question, and what the output got. If the result is Ok, it is the answer, and the
-- answer was printed. If it is a fault, there is no answer and nothing was printed, or there is an
-- answer but printing it failed.
abbrev pub ReturnsAnswer : {A : Type 0} → Meaning A → Question → Option (List ℕ) → Option (List ℕ)
    → Result A RunError → Type 0
ReturnsAnswer meaning asked before after (Ok answer) =
    HasAnswer meaning asked answer × Appends before after (meaning.printed answer)
ReturnsAnswer {A = A} meaning asked before after (Err fault) =
    (HasNoVerdict asked fault × Keeps before after)
    ⊎ (IsFileError fault × (answer : A) × HasAnswer meaning asked answer)

-- The exit of a question with this result: that of its answer, or of its fault.
abbrev pub exit_answered : {A : Type 0} → Meaning A → Result A RunError → Exit
exit_answered meaning (Ok answer) = meaning.ends answer
exit_answered meaning (Err fault) = exit_of fault

-- The question about the script in the file `script` and the image in the file `image`, after
-- `count` events.
abbrev pub question_of : (List ℕ → Option (List ℕ)) → List ℕ → ℕ → List ℕ → Question
question_of files script count image =
    record { script = files script; image = files image; moment = count }

-- What `judge` and `path` do: they answer the question about the files `script` and `image`. They
-- only read files.
abbrev pub AnswersOf : {A : Type 0} → Meaning A → List ℕ → ℕ → List ℕ → Effect A
AnswersOf meaning script count image =
    OnlyReads (λ files. ReturnsAnswer meaning (question_of files script count image))

-- The line that `judge` prints.
abbrev pub verdict_line : Verdict → List ℕ
verdict_line verdict = verdict_text verdict ++ codes "\n"

-- The exit of `judge`: `Done` for yes, `RuledOut` for no.
abbrev pub exit_by_verdict : Verdict → Exit
exit_by_verdict verdicts.Yes = exits.Done
exit_by_verdict (verdicts.No sector by) = exits.RuledOut

-- The kind of answer that `judge` gives.
abbrev pub verdict_meaning : Meaning Verdict
verdict_meaning = record { says = IsVerdict; printed = verdict_line; ends = exit_by_verdict }

-- `verdict` is the verdict on `image` after the first `count` events of the script `plan`, on a
-- disk of zeroes.
abbrev pub IsJudged : ScriptValue → ℕ → List ℕ → Verdict → Type 0
IsJudged plan count image verdict = IsAnswered verdict_meaning plan count image verdict

-- There is a verdict: the script's file holds the text of a script, and `verdict` is that script's
-- verdict on the image.
abbrev pub HasVerdict : Question → Verdict → Type 0
HasVerdict asked verdict = HasAnswer verdict_meaning asked verdict

-- Images that result from replaying a prefix of a script's log.

-- The content of an image of `bytes` zeroes after a replay of the first `count` entries of the log
-- of `events`. The log has sectors of `size` bytes.
abbrev pub replayed_first : ℕ → List CoreEvent → ℕ → ℕ → Content
replayed_first size events count bytes =
    replay size (entries_of (take count (completion_list (dm_log_writes size) events)))
    (blank bytes)

-- The first `count` entries of the log of `events` belong to `moment` (`BelongsTo`). `moment` isn't
-- past the last moment of `events`.
pub record BeginsLog (size : ℕ) (events : List CoreEvent) (until count : ℕ) : Type 0 where
  pub safe : until ≤ last_moment events
  pub belongs : BelongsTo (dm_log_writes size) events until count

-- `image` holds what the first `count` entries of the log of `events` leave of zeroes, and these
-- entries belong to `moment`.
pub record IsReplayedTo (size : ℕ) (events : List CoreEvent) (until count : ℕ)
    (image : List ℕ) : Type 0 where
  pub begins : BeginsLog size events until count
  pub content : AgreeBelow (length image / 512) (replayed_first size events count (length image))
      (sector_of image)

-- What `path` answers: a machine run that leaves the image, or what rules the image out.

-- The verdict that a finding implies: yes if it is a run, otherwise no with the same cause.
abbrev pub verdict_of : Finding → Verdict
verdict_of (Run steps) = verdicts.Yes
verdict_of (RuledOut sector by) = verdicts.No sector by

-- The line that `path` prints for a step.
abbrev pub step_line : Step → List ℕ
step_line step = step_text step ++ codes "\n"

-- What `path` prints: a line for each step of the run, in order, or the line of the verdict no.
abbrev pub finding_text : Finding → List ℕ
finding_text (Run steps) = flat_map step_line steps.items
finding_text (RuledOut sector by) = verdict_line (verdicts.No sector by)

-- The exit of `path`: `Done` for a run, `RuledOut` if there is none.
abbrev pub exit_by_finding : Finding → Exit
exit_by_finding (Run steps) = exits.Done
exit_by_finding (RuledOut sector by) = exits.RuledOut

-- The kind of answer that `path` gives.
abbrev pub finding_meaning : Meaning Finding
finding_meaning = record { says = IsFinding; printed = finding_text; ends = exit_by_finding }

-- `finding` is the finding about `image` after the first `moment` events of the script `plan`, on a
-- disk of zeroes.
abbrev pub IsFound : ScriptValue → ℕ → List ℕ → Finding → Type 0
IsFound plan upto image finding = IsAnswered finding_meaning plan upto image finding
