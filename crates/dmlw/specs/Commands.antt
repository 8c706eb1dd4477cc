-- The commands: their names and arguments, the task for which each asks, and how each task ends.
use Rattle.std.specs.Prelude.{Bool, List, None, Option, Some, [], codes, false, if◌then◌else◌}
use Rattle.std.specs.Prelude.{is_some, nat_eq, true, ℕ, ◌++◌, ◌∷◌, ◌≡◌, ◌≤◌}
use Rattle.clap.specs.Words.{Row, Text, first_of, kind_of}
use Rattle.std.specs.Cmp.Lexicographic.{pointwise}
use Rattle.std.specs.List.{AllByRecursion}
use Rattle.dmlw.specs.declared.program.Name.{Name}
use Rattle.clap.specs.declared.error.kind.ErrorKind.TheVariants.{OutOfMemory}
use Rattle.std.specs.Io.KnownBytes.{Appends}
use Rattle.refusals.specs.Words.{IsNumber, is_number}
use Rattle.replay.specs.declared.replaying.Upto.{Upto}
use Rattle.dmlw_files.specs.Files.{KeepsFiles}
use Rattle.dmlw_commands.specs.declared.ending.Ended.{Ended}
use Rattle.dmlw_commands.specs.declared.exit.Exit.TheVariants.{Usage}
use Rattle.dmlw_commands.specs.Ends.{EndsAsCommand, exit_after, exit_by}
use Rattle.dmlw_commands.specs.Judgements.{AnswersOf, exit_answered, finding_meaning}
use Rattle.dmlw_commands.specs.Judgements.{verdict_meaning}
use Rattle.dmlw_commands.specs.Lists.{ListsImage, ShowsLog, ShowsStatus}
use Rattle.dmlw_commands.specs.LogCopies.{Copies}
use Rattle.dmlw_commands.specs.Records.{RecordsScript, of_recorder, of_seats}
use Rattle.dmlw_commands.specs.Replays.{IsNoWhat, IsWhat, ReplaysLog}
use Rattle.dmlw_commands.specs.Seen.{OnlyReads, Seen}
use Rattle.dmlw.specs.declared.task.BadWord.{BadWord}
use Rattle.dmlw.specs.declared.task.Task.{Task}
use Rattle.dmlw.specs.Endings.{EndsText, PrintsPage}
use Rattle.dmlw.specs.declared.program.Name.TheVariants as names
use Rattle.dmlw.specs.declared.task.BadWord.TheVariants as bad_words
use Rattle.dmlw.specs.declared.task.Task.TheVariants as tasks

-- Both words are the same.
abbrev pub is_same : List ℕ → List ℕ → Bool
is_same = pointwise nat_eq

-- The word that names a command on the command line.
abbrev pub name_text : Name → List ℕ
name_text names.Record = codes "record"
name_text names.Run = codes "run"
name_text names.List = codes "list"
name_text names.Status = codes "status"
name_text names.Replay = codes "replay"
name_text names.Copy = codes "copy"
name_text names.Judge = codes "judge"
name_text names.Path = codes "path"

-- All commands, in the order in which the help lists them.
abbrev pub all_names : List Name
all_names = names.Record ∷ names.Run ∷ names.List ∷ names.Status ∷ names.Replay ∷ names.Copy
    ∷ names.Judge ∷ names.Path ∷ []

-- `name` if `word` is that command's name, otherwise `other`.
abbrev pub named_or : Name → List ℕ → Option Name → Option Name
named_or name word other = if is_same word (name_text name) then Some name else other

-- The first of these commands whose name is the word; None if none of them has this name.
abbrev pub first_named : List ℕ → List Name → Option Name
first_named word [] = None
first_named word (name ∷ others) = named_or name word (first_named word others)

-- The command whose name is the word; None if no command has this name.
abbrev pub name_of : List ℕ → Option Name
name_of word = first_named word all_names

-- The arguments of a command, in their order.
abbrev pub arguments : Name → List Text
arguments names.Record = codes "SCRIPT" ∷ codes "LOG" ∷ []
arguments names.Run = codes "SCRIPT" ∷ codes "LOG" ∷ []
arguments names.List = codes "LOG" ∷ []
arguments names.Status = codes "LOG" ∷ []
arguments names.Replay = codes "LOG" ∷ codes "FIRST" ∷ codes "OUT" ∷ codes "WHAT" ∷ []
arguments names.Copy = codes "LOG" ∷ codes "OUT" ∷ codes "SECTORS" ∷ []
arguments names.Judge = codes "SCRIPT" ∷ codes "M" ∷ codes "IMAGE" ∷ []
arguments names.Path = codes "SCRIPT" ∷ codes "M" ∷ codes "IMAGE" ∷ []

-- The rows have a word for each argument of the command.
abbrev pub HasWords : Name → List Row → Type 0
HasWords name rows =
    AllByRecursion (λ argument. is_some (first_of argument rows) ≡ true) (arguments name)

-- `word` was entered for `argument`.
abbrev pub FitsArgument : List Row → Text → Text → Type 0
FitsArgument rows argument word = first_of argument rows ≡ Some word

-- `word` is a number, and its value `count` is from 8 to 1,048,576.
pub record IsSectorCount (word : List ℕ) (count : ℕ) : Type 0 where
  pub number : IsNumber word count
  pub least : 8 ≤ count
  pub most : count ≤ 1048576

-- The command `name` with the words in `rows` asks for this task. If the word for WHAT, SECTORS or
-- M has a wrong form, the task reports this. `Show` is the task if memory ran out while the words
-- were parsed.
abbrev pub AsksBy : Name → List Row → Task → Type 0
AsksBy names.Record rows (tasks.Record script log) =
    FitsArgument rows (codes "SCRIPT") script.now × FitsArgument rows (codes "LOG") log.now
AsksBy names.Run rows (tasks.Run script log) =
    FitsArgument rows (codes "SCRIPT") script.now × FitsArgument rows (codes "LOG") log.now
AsksBy names.List rows (tasks.List log) = FitsArgument rows (codes "LOG") log.now
AsksBy names.Status rows (tasks.Status log) = FitsArgument rows (codes "LOG") log.now
AsksBy names.Replay rows (tasks.Replay files upto) =
    FitsArgument rows (codes "LOG") files.log.now × FitsArgument rows (codes "FIRST") files.first.now
    × FitsArgument rows (codes "OUT") files.out.now × (what : Text) × FitsArgument rows (codes "WHAT") what
    × IsWhat what upto
AsksBy names.Replay rows (tasks.HasBadWord bad_words.What what) =
    FitsArgument rows (codes "WHAT") what.now × IsNoWhat what.now
AsksBy names.Copy rows (tasks.Copy files sectors) =
    FitsArgument rows (codes "LOG") files.log.now × FitsArgument rows (codes "OUT") files.out.now
    × (word : Text) × FitsArgument rows (codes "SECTORS") word × IsSectorCount word sectors
AsksBy names.Copy rows (tasks.HasBadWord bad_words.Sectors word) =
    FitsArgument rows (codes "SECTORS") word.now × ((sectors : ℕ) → IsSectorCount word.now sectors → ⊥)
AsksBy names.Judge rows (tasks.Judge script moment image) =
    FitsArgument rows (codes "SCRIPT") script.now × FitsArgument rows (codes "IMAGE") image.now
    × (m : Text) × FitsArgument rows (codes "M") m × IsNumber m moment
AsksBy names.Judge rows (tasks.HasBadWord bad_words.Moment m) =
    FitsArgument rows (codes "M") m.now × (is_number m.now ≡ false)
AsksBy names.Path rows (tasks.Path script moment image) =
    FitsArgument rows (codes "SCRIPT") script.now × FitsArgument rows (codes "IMAGE") image.now
    × (m : Text) × FitsArgument rows (codes "M") m × IsNumber m moment
AsksBy names.Path rows (tasks.HasBadWord bad_words.Moment m) =
    FitsArgument rows (codes "M") m.now × (is_number m.now ≡ false)
AsksBy name rows (tasks.Show error) = kind_of error ≡ OutOfMemory
AsksBy name rows task = ⊥

-- The word `what` names the last entry of a replay, and the replay up to this entry ends with
-- `ended`. The names `log`, `first` and `out` are those of its files.
abbrev pub EndsReplayingUpTo : List ℕ → List ℕ → List ℕ → List ℕ → Bool → Seen → Seen → Ended → Type 0
EndsReplayingUpTo what log first out explains old new ended =
    (upto : Upto) × IsWhat what upto
    × EndsAsCommand (ReplaysLog log first out upto) exit_by explains old new ended

-- The end of the message about a word with a wrong form: the argument's name, its allowed forms,
-- and the command that prints help.
abbrev pub allowed_forms : BadWord → List ℕ
allowed_forms bad_words.What =
    codes
    "'<WHAT>'\n  [possible values: entries:<n> with n below 2^64, mark:<text>, flush]\n\nFor more information, try 'dmlw help replay'."
allowed_forms bad_words.Sectors =
    codes
    "'<SECTORS>'\n  [possible values: a number from 8 to 1048576]\n\nFor more information, try 'dmlw help copy'."
allowed_forms bad_words.Moment =
    codes
    "'<M>'\n  [possible values: a number of 1 to 20 digits, below 2^64]\n\nFor more information, try 'dmlw help judge'."

-- The message about `word`, which has a wrong form.
abbrev pub bad_word_text : BadWord → List ℕ → List ℕ
bad_word_text flaw word =
    codes "error: invalid value '" ++ (word ++ (codes "' for " ++ (allowed_forms flaw ++ codes "\n")))

-- How a command line ends if `word` has a wrong form. The exit is `Usage`, and the error stream
-- gets `bad_word_text`. Nothing is printed on the output. No file write is asked for, and each file
-- holds what it held.
pub record EndsBadWord (flaw : BadWord) (word : List ℕ) (explains : Bool) (old new : Seen)
    (ended : Ended) : Type 0 where
  pub unwritten : new.writes ≡ old.writes
  pub kept : KeepsFiles old.files new.files
  pub usage : ended.exit ≡ Usage
  pub silent : new.out ≡ old.out
  pub told : ended.err_taken ≡ true → Appends old.err new.err (bad_word_text flaw word)

-- How a task ends. The arguments after the task: whether `--explain` was given, what was seen
-- before and after the task, and the task's end.
abbrev pub EndsTask : Task → Bool → Seen → Seen → Ended → Type 0
EndsTask (tasks.Record script log) explains old new ended =
    EndsAsCommand (RecordsScript of_recorder script.now log.now) exit_after explains old new ended
EndsTask (tasks.Run script log) explains old new ended =
    EndsAsCommand (RecordsScript of_seats script.now log.now) exit_after explains old new ended
EndsTask (tasks.List log) explains old new ended =
    EndsAsCommand (ShowsLog ListsImage log.now) exit_by explains old new ended
EndsTask (tasks.Status log) explains old new ended =
    EndsAsCommand (ShowsLog ShowsStatus log.now) exit_by explains old new ended
EndsTask (tasks.Replay files upto) explains old new ended =
    EndsAsCommand (ReplaysLog files.log.now files.first.now files.out.now upto) exit_by explains old new ended
EndsTask (tasks.Copy files sectors) explains old new ended =
    EndsAsCommand (Copies files.log.now files.out.now sectors) exit_by explains old new ended
EndsTask (tasks.Judge script moment image) explains old new ended =
    EndsAsCommand (AnswersOf verdict_meaning script.now moment image.now) (exit_answered verdict_meaning) explains old new ended
EndsTask (tasks.Path script moment image) explains old new ended =
    EndsAsCommand (AnswersOf finding_meaning script.now moment image.now) (exit_answered finding_meaning) explains old new ended
EndsTask (tasks.Formats page) explains old new ended =
    EndsAsCommand (OnlyReads (λ files. PrintsPage page.now)) exit_by explains old new ended
EndsTask (tasks.Show error) explains old new ended =
    EndsText (kind_of error) explains old new ended
EndsTask (tasks.HasBadWord flaw word) explains old new ended =
    EndsBadWord flaw word.now explains old new ended
