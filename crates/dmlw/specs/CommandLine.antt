-- Command lines: how clap parses them, for which task each asks, and what it does.
-- The contracts in `command_line` use these definitions.
use Rattle.std.specs.Prelude.{Bool, List, Option, Some, [], codes, false, fold, not, true}
use Rattle.std.specs.Prelude.{ℕ, ◌&&◌, ◌==◌, ◌∷◌, ◌≡◌}
use Rattle.clap.specs.declared.builder.command.Command.{Command}
use Rattle.clap.specs.declared.builder.command.Command.TheViews.{out-Command as fields_of}
use Rattle.clap.specs.Simple.{on_top}
use Rattle.clap.specs.Words.{App, IsAmong, Row, Rule, Text, app_of, fault_of, kind_of, new_app}
use Rattle.clap.specs.Words.{new_rule, subcommand_of, with_rule, with_subcommand}
use Rattle.std.specs.List.{filter, list_any}
use Rattle.dmlw.specs.declared.program.Name.{Name}
use Rattle.clap.specs.declared.error.kind.ErrorKind.{ErrorKind}
use Rattle.clap.specs.declared.error.kind.ErrorKind.TheVariants.{MissingRequiredArgument}
use Rattle.clap.specs.declared.error.kind.ErrorKind.TheVariants.{OutOfMemory}
use Rattle.dmlw_commands.specs.declared.ending.Ended.{Ended}
use Rattle.dmlw_commands.specs.Seen.{Seen}
use Rattle.dmlw.specs.declared.task.Task.{Task}
use Rattle.dmlw.specs.Commands.{AsksBy, EndsTask, HasWords, all_names, arguments, is_same}
use Rattle.dmlw.specs.Commands.{name_text}
use Rattle.dmlw.specs.declared.task.Task.TheVariants as tasks

-- The word doesn't begin with a hyphen.
abbrev pub is_positional : List ℕ → Bool
is_positional [] = true
is_positional (x ∷ xs) = not (x == 45)

-- The command line with the command `name` and its words `words`.
abbrev pub command_words : List ℕ → Name → List (List ℕ) → List (List ℕ)
command_words program name words = program ∷ name_text name ∷ words

-- The word is `--explain`.
abbrev pub is_explain : List ℕ → Bool
is_explain word = is_same word (codes "--explain")

-- `--explain` is among the words after the program's name.
abbrev pub has_explain : List (List ℕ) → Bool
has_explain [] = false
has_explain (program ∷ words) = list_any is_explain words

-- The command line without the words `--explain`. The program's name stays.
abbrev pub without_explain : List (List ℕ) → List (List ℕ)
without_explain [] = []
without_explain (program ∷ words) = program ∷ filter (λ word. not (is_explain word)) words

-- The command line is `help formats`.
abbrev pub is_formats : List (List ℕ) → Bool
is_formats (program ∷ first ∷ second ∷ []) =
    is_same first (codes "help") && is_same second (codes "formats")
is_formats _ = false

-- A required argument with the name `name`.
abbrev pub needed : Text → Rule
needed name = record (new_rule name) { required = true }

-- `app` with these required arguments.
abbrev pub with_arguments : App → List Text → App
with_arguments = fold (λ app argument. with_rule app (needed argument))

-- The command `name` as clap parses it: each of its arguments is required.
abbrev pub command_app : Name → App
command_app name = with_arguments (new_app (name_text name)) (arguments name)

-- The program without its commands, as clap parses it.
abbrev pub bare_app : App
bare_app =
    on_top (λ top. record top {
      has_version = true;
      subcommand_required = true;
      arg_required_else_help = true;
    }) (new_app (codes "dmlw"))

-- The program as clap parses it.
abbrev pub program_app : App
program_app = fold (λ app name. with_subcommand app (command_app name).top) bare_app all_names

-- clap parses `command` as `app` says, and `command` has no global argument.
pub record IsCommandOf (app : App) (command : Command) : Type 0 where
  pub reads : app_of command ≡ app
  pub own : (fields_of command).has_globals ≡ false

-- An entered command: the command's name, and the words after the name, each with its argument.
abbrev pub EnteredCommand : Type 0
EnteredCommand = Text × List Row

-- clap finds no fault in `words`, and `words` enter the command `entered`.
pub record EntersCommand (words : List Text) (entered : EnteredCommand) : Type 0 where
  pub faultless : fault_of program_app words ≡ []
  pub enters : subcommand_of program_app words ≡ Some entered

-- The command `entered` is one of the program's, and asks for `task`.
abbrev pub AsksForTask : EnteredCommand → Task → Type 0
AsksForTask entered task = (name : Name) × (entered.0 ≡ name_text name) × AsksBy name entered.1 task

-- `found` is an entered command, and this command asks for `task`.
abbrev pub IsAskedBy : Option EnteredCommand → Task → Type 0
IsAskedBy found task = (entered : EnteredCommand) × (found ≡ Some entered) × AsksForTask entered task

-- The command `entered` is one of the program's, and each of its arguments has a word.
abbrev pub IsComplete : EnteredCommand → Type 0
IsComplete entered = (name : Name) × (entered.0 ≡ name_text name) × HasWords name entered.1

-- clap finds no fault in `words`, and `words` ask for `task`.
abbrev pub IsAsked : List Text → Task → Type 0
IsAsked words task =
    (fault_of program_app words ≡ []) × IsAskedBy (subcommand_of program_app words) task

-- Why `words` ask for no task, and the kind of clap's error.
-- - `memory`: memory ran out while `words` were parsed.
-- - `fault`: clap finds a fault of this kind.
-- - `missing`: clap finds no fault, but `words` enter no command with all its words.
pub data IsUntasked (words : List Text) (kind : ErrorKind) : Type 0 where
  memory : kind ≡ OutOfMemory → IsUntasked words kind
  fault : IsAmong kind (fault_of program_app words) → IsUntasked words kind
  missing : fault_of program_app words ≡ []
      → ((entered : EnteredCommand) → EntersCommand words entered → IsComplete entered → ⊥)
      → kind ≡ MissingRequiredArgument → IsUntasked words kind

-- The task of `words` if clap parses them: the task that `words` ask for, or `Show` if they ask for
-- none.
abbrev pub IsReadByClap : List Text → Task → Type 0
IsReadByClap words (tasks.Show error) = IsUntasked words (kind_of error)
IsReadByClap words task = IsAsked words task

-- The task is to print the page of the formats, or `Show` if memory ran out while the command line
-- was parsed.
abbrev pub IsFormats : Task → Type 0
IsFormats (tasks.Formats page) = Unit {0}
IsFormats (tasks.Show error) = kind_of error ≡ OutOfMemory
IsFormats task = ⊥

-- The first argument says whether `words` are `help formats`. If they are, the task is to print the
-- formats (`IsFormats`), otherwise what clap parses (`IsReadByClap`).
abbrev pub ReadsTaskAs : Bool → List Text → Task → Type 0
ReadsTaskAs true words task = IsFormats task
ReadsTaskAs false words task = IsReadByClap words task

-- The task of `words`. `help formats` asks for the page of the formats; clap parses all other
-- words.
abbrev pub ReadsTask : List Text → Task → Type 0
ReadsTask words task = ReadsTaskAs (is_formats words) words task

-- What a command line does. Its words without `--explain` are read as `task`, and `task` ends as
-- `EndsTask` says. It explains itself if `--explain` is among the words.
pub record DoesWords (words : List (List ℕ)) (old new : Seen) (ended : Ended) : Type 0 where
  pub task : Task
  pub read : ReadsTask (without_explain words) task
  pub ends : EndsTask task (has_explain words) old new ended
