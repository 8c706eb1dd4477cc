-- Proves that a script's canonical text is a text of the script, for both kinds of scripts.
use Rattle.std.proofs.Common.{refl, ◌∙◌, sym, subst, arith, append_assoc, not, ◌&&◌, List, []}
use Rattle.std.proofs.Common.{◌∷◌, ◌++◌, length, Option, Some, None, Ok, ◌≡◌, ◌≢◌, ℕ, ◌+◌, ◌^◌, ◌<◌}
use Rattle.std.proofs.Common.{◌≤◌, true, false}
use Rattle.std.specs.Prelude.{◌==◌, flat_map, map, nat_lt}
use Rattle.std.proofs.lemmas.Bool.Decides.{nat_tests}
use Rattle.std.proofs.lemmas.List.Elements.{All-from_recursion}
use Rattle.std.specs.List.{AllByRecursion}
use Rattle.bio.specs.declared.request.SectorSize.{SectorSize}
use Rattle.bio.specs.declared.request.SectorSize.TheVariants as sizes
use Rattle.bio.specs.Requests.{bytes_of}
use Rattle.layer_table.specs.declared.layer_spec.LayerSpec.{LayerSpec}
use Rattle.layer_table.specs.TableLines.{is_printable, layer_text, printed_again, printed_plain}
use Rattle.layer_table.specs.TableLines.{IsLayerSpec}
use Rattle.dmlw_script.proofs.BodyLaws.{count_after_command-is, submissions-cons, submissions-push}
use Rattle.dmlw_script.proofs.HeadLaws.{disk_small, layer_specs, top_small}
use Rattle.dmlw_script.proofs.Spelling.{text_good, text_has, Fits, FitsFields, FitsWord, IsLineText}
use Rattle.dmlw_script.proofs.ReaderLaws.{one_script, all_append, all_map, tells_said, LinesMean}
use Rattle.dmlw_script.proofs.WordLaws.{all_weaker, cut_alone, cut_word, first_line, lacks}
use Rattle.dmlw_script.proofs.LineParserLaws.{said_kept, step_fits, submission_fits}
use Rattle.dmlw_script.proofs.RunLaws.{run_said_kept, runner}
use Rattle.dmlw_script.specs.declared.command.Command.{Command}
use Rattle.dmlw_script.specs.declared.command.Command.TheVariants as commands
use Rattle.dmlw_script.specs.declared.command.Submission.{Submission}
use Rattle.dmlw_script.specs.declared.command.DiskName.{DiskName}
use Rattle.dmlw_script.specs.declared.command.DiskName.TheVariants as disks
use Rattle.dmlw_script.specs.declared.line.BodyLine.TheVariants as body_lines
use Rattle.dmlw_script.specs.declared.line.HeadLine.TheVariants as head_lines
use Rattle.dmlw_script.specs.declared.run_line.RunLine.{RunLine}
use Rattle.dmlw_script.specs.declared.run_line.RunLine.TheVariants as run_lines
use Rattle.dmlw_script.specs.declared.script_id.ScriptId.{ScriptId}
use Rattle.dmlw_script.specs.declared.run_line.RunCall.{RunCall}
use Rattle.dmlw_script.specs.declared.run_line.RunCall.TheVariants as calls
use Rattle.dmlw_script.specs.declared.run_line.SeatCall.{SeatCall}
use Rattle.dmlw_script.specs.Fields.{all_of, call_fields, run_fields, IsLineWith, fields_text, Fields}
use Rattle.dmlw_script.specs.Fields.{Given, fields_of, head_fields, layer_word, number}
use Rattle.dmlw_script.specs.Grammar.{IsRunText, IsTextOf, canonical_text, run_text}
use Rattle.dmlw_script.specs.LineMeaning.{LineMeaning}
use Rattle.dmlw_script.specs.LineMeaning as parsed_lines
use Rattle.dmlw_script.specs.Words.{script_id, IsUnbroken, with_line_feeds, is_line_byte}
use Rattle.dmlw_script.specs.Words.{is_skipped, lines_of}
use Rattle.dmlw_script.specs.Plans.{IsName, IsWellFormed, IsPlan, ScriptValue, submissions, top_of}
use Rattle.dmlw_script.specs.Plans.{with_ending, Disk, IsDisk, ArePicks, CanFollow}
use Rattle.dmlw_script.specs.Plans.{count_after_command, head_of, layer_line, line_at}
use Rattle.dmlw_script.specs.Plans.{lines_after_head, lines_of_body, lines_of_script, name_at}
use Rattle.dmlw_script.specs.RunPlans.{RunPlan, IsAllowed as SeatCanStand, FitsLine as CallFits}
use Rattle.dmlw_script.specs.RunPlans.{IsRunPlan, call_answer, data_layer, lines_of_run, log_layer}
use Rattle.dmlw_script.specs.RunPlans.{run_head}

line_not_feed : (b : ℕ) → is_line_byte b ≡ true → not (b == 10) ≡ true
line_not_feed b good = grind (arith, nat_tests)

line_plain : (b : ℕ) → is_line_byte b ≡ true → (nat_lt 0 b && nat_lt b 128) ≡ true
line_plain b good = grind (arith, nat_tests)

-- The canonical line of `s` has the fields of `s`, and each of its bytes may be in a line.
pub record IsWrittenAs {A : Type 0} (fields : A → Fields) (s : A) : Type 0 where
  pub says : IsLineWith (fields_text (fields s)) (fields s)
  pub good : IsLineText (fields_text (fields s))

pub written_as : {A : Type 0} (fields : A → Fields) (s : A) → FitsFields (fields s)
    → IsWrittenAs fields s
written_as fields s fits =
    record { says = text_has (fields s) fits; good = text_good (fields s) fits }

abbrev pub IsWritten : LineMeaning → Type 0
IsWritten s = IsWrittenAs fields_of s

written : (s : LineMeaning) → FitsFields (fields_of s) → IsWritten s
written s fits = written_as fields_of s fits

pub data_fits : (n : ℕ) → n < 2 ^ 64 → FitsFields (head_fields (head_lines.Data n))
data_fits n low = record { first = (refl, refl); others = (low, tt) }

pub log_fits : (n : ℕ) (size : SectorSize) → n < 2 ^ 64
    → FitsFields (head_fields (head_lines.Log n size))
log_fits n sizes.B512 low = record { first = (refl, refl); others = (low, tt) }
log_fits n sizes.B4096 low = record { first = (refl, refl); others = (low, ((refl, refl), tt)) }

picks_fit : (picks : List ℕ) → AllByRecursion (λ pick. pick < 2 ^ 64) picks
    → Fits (map number picks)
picks_fit [] low = tt
picks_fit (pick ∷ picks) low = (low.0, picks_fit picks low.1)

ending_written : (ending : Option (List ℕ)) (ss : List LineMeaning) → ArePicks ending
    → AllByRecursion IsWritten ss → AllByRecursion IsWritten (with_ending ending ss)
ending_written None ss picks lines = lines
ending_written (Some picks) ss low lines =
    all_append IsWritten ss (parsed_lines.Crash picks ∷ []) lines (
      written (parsed_lines.Crash picks)
          (record { first = (refl, refl); others = picks_fit picks low }),
      tt,
    )

line_printable : (b : ℕ) → is_printable b ≡ true → is_line_byte b ≡ true
line_printable b good = grind (arith, nat_tests)

pub layer_fits : (over : DiskName) (spec : LayerSpec) → IsLayerSpec spec
    → FitsFields (head_fields (head_lines.Layer over (Ok spec)))
layer_fits over spec is = record {
  first = fits_word over;
  others = record {
    good = all_weaker _ _ line_printable (layer_text spec) (printed_plain spec is);
    asks = printed_again spec is;
  };
}
  where
    fits_word : (name : DiskName) → FitsWord (Given (layer_word name))
    fits_word disks.Data = (refl, refl)
    fits_word disks.Log = (refl, refl)

head_written : (d l : Disk) (size : SectorSize) → IsDisk d → IsDisk l
    → AllByRecursion IsWritten (head_of d l size)
head_written d l size is_data is_log = (
  written _ (data_fits d.sectors (omega (arith, disk_small d is_data))),
  (
    written _ (log_fits l.sectors size (omega (arith, disk_small l is_log))),
    all_append IsWritten (map (layer_line disks.Data) d.layers)
        (map (layer_line disks.Log) l.layers)
        (all_map IsLayerSpec IsWritten (layer_line disks.Data)
        (λ spec is. written _ (layer_fits disks.Data spec is)) d.layers
        (layer_specs d.sectors d.layers is_data.stand))
        (all_map IsLayerSpec IsWritten (layer_line disks.Log)
        (λ spec is. written _ (layer_fits disks.Log spec is)) l.layers
        (layer_specs l.sectors l.layers is_log.stand)),
  ),
)

id_at : (names : List ScriptId) (request : ℕ) → AllByRecursion IsName names → request < length names
    → IsName (name_at names request)
id_at names request ids inside = All-from_recursion IsName names ids request (script_id []) inside

submission_id : (names : List ScriptId) (n : ℕ) (body : List Command) (submission : Submission)
    → AllByRecursion IsName names
    → length names ≡ n + submissions (commands.Submit submission ∷ body) → IsName (name_at names n)
submission_id names n body submission ids numbered =
    id_at names n ids (omega (arith, numbered, submissions-cons (commands.Submit submission) body))

command_written : (bytes sectors : ℕ) (names : List ScriptId) (done : List Command)
    (command : Command) (rest : List Command) → sectors ≤ 1048576 → AllByRecursion IsName names
    → length names ≡ submissions done + submissions (command ∷ rest)
    → CanFollow bytes sectors done command
    → IsWritten (parsed_lines.Body (line_at names (submissions done) command))
command_written bytes sectors names done (commands.Submit submission) rest small ids numbered may =
    let fits = submission_fits bytes sectors submission small may.0 may.1 in
    let id = submission_id names (submissions done) rest submission ids numbered in
    written _ (record { first = fits.0; others = (id, fits.1) })
command_written bytes sectors names done (commands.Complete request) rest small ids numbered may =
    let id = id_at names request ids (omega (arith, numbered, may.0)) in
    written _ (record { first = (refl, refl); others = (id, tt) })
command_written bytes sectors names done (commands.Step it) rest small ids numbered may =
    written (parsed_lines.Body (body_lines.Step it)) (step_fits bytes sectors it small may.0 may.1)

body_written : (bytes sectors : ℕ) (names : List ScriptId) (n : ℕ) (done body : List Command)
    → sectors ≤ 1048576 → AllByRecursion IsName names → n ≡ submissions done
    → length names ≡ n + submissions body →
    IsWellFormed bytes sectors done body → AllByRecursion IsWritten (lines_of_body names n body)
body_written bytes sectors names n done [] small ids counted numbered well_formed = tt
body_written bytes sectors names n done (command ∷ body) small ids counted numbered well_formed =
    let count = count_after_command-is n command in (
      rw counted (command_written bytes sectors names done command body small ids (numbered ∙ rw
          counted) well_formed.0),
      body_written bytes sectors names (count_after_command n command)
          (done ++ command ∷ []) body small ids
          (count ∙ sym (submissions-push done command ∙ omega (arith, counted)))
          (omega (arith, numbered, count, submissions-cons command body)) well_formed.1,
    )

pub plan_written : (plan : ScriptValue) → IsPlan plan
    → AllByRecursion IsWritten (lines_of_script plan)
plan_written plan is =
    let d = plan.data_disk in
    let l = plan.log_disk in
    let is_data : IsDisk d = is.data_disk in
    let small : top_of d ≤ 1048576 =
    top_small d.sectors d.layers is_data.stand (disk_small d is_data) in
    all_append IsWritten (head_of d l plan.log_size) (lines_after_head plan)
    (head_written d l plan.log_size is_data is.log_disk)
    (ending_written plan.ending (lines_of_body plan.names 0 plan.commands) is.picks
    (body_written (bytes_of plan.log_size)
    (top_of d) plan.names 0 [] plan.commands small is.ids refl
    (is.numbered ∙ omega arith) is.well_formed))

fed_line : (line rest : List ℕ) → lacks 10 line ≡ true
    → lines_of (line ++ 10 ∷ rest) ≡ line ∷ lines_of rest
fed_line [] rest lack = refl
fed_line (b ∷ line) rest lack =
    grind (arith, cut_word 10 (b ∷ line) (Some rest) lack, first_line b (line ++ 10 ∷ rest))

-- The parameter `kept` says that a line with a meaning is never skipped.
pub written_text : {A : Type 0} (fields : A → Fields)
    (kept : (line : List ℕ) (s : A) → IsLineWith line (fields s) → is_skipped line ≡ false)
    (ss : List A) → AllByRecursion (IsWrittenAs fields) ss
    → LinesMean (λ line s. IsLineWith line (fields s))
    (lines_of (flat_map (λ s. fields_text (fields s) ++ 10 ∷ []) ss)) ss
written_text fields kept [] lines = record { plain = tt; says = tt }
written_text fields kept (s ∷ ss) lines =
    grind (
      arith,
      written_text fields kept ss lines.1,
      append_assoc,
      fed_line,
      all_weaker,
      line_not_feed,
      tells_said,
      line_plain,
    )

pub spelling_spells : (plan : ScriptValue) → IsPlan plan → IsTextOf (canonical_text plan) plan
spelling_spells plan is =
    let lines = written_text fields_of said_kept (lines_of_script plan) (plan_written plan is) in
    record { plain = lines.plain; says = lines.says; script = is }

fed_last : (line : List ℕ) → IsUnbroken line → line ≢ [] → lines_of line ≡ line ∷ []
fed_last [] whole some = absurd (some refl)
fed_last (b ∷ line) whole some = grind (arith, cut_alone, first_line)

pub ended_lines : (lines : List (List ℕ)) → AllByRecursion IsUnbroken lines
    → lines_of (with_line_feeds lines) ≡ lines
ended_lines [] whole = refl
ended_lines (line ∷ lines) whole =
    grind (arith, ended_lines lines whole.1, append_assoc, fed_line)

pub ended_but_last : (lines : List (List ℕ)) (last : List ℕ) → AllByRecursion IsUnbroken lines
    → IsUnbroken last → last ≢ [] → lines_of (with_line_feeds lines ++ last) ≡ lines ++ last ∷ []
ended_but_last [] last whole unbroken some = fed_last last unbroken some
ended_but_last (line ∷ lines) last whole unbroken some =
    grind (arith, ended_but_last lines last whole.1 unbroken some, append_assoc, fed_line)

abbrev IsRunWritten : RunLine → Type 0
IsRunWritten said = IsWrittenAs run_fields said

run_written_as : (said : RunLine) → FitsFields (run_fields said) → IsRunWritten said
run_written_as said fits = written_as run_fields said fits

call_fits : (bytes sectors : ℕ) (call : RunCall) → sectors ≤ 1048576
    → call_answer bytes sectors call ≡ Ok tt → CallFits call → Fits (all_of (call_fields call))
call_fits bytes sectors (calls.Submit submission) small passes fits = grind (arith, submission_fits)
call_fits bytes sectors (calls.Mark text) small passes good = ((refl, refl), good)

seat_call_written : (bytes sectors seats : ℕ) (said : SeatCall) → sectors ≤ 1048576 → seats ≤ 64
    → SeatCanStand bytes sectors seats said
    → IsRunWritten (run_lines.Body said)
seat_call_written bytes sectors seats said small few stands =
    let below : said.seat < seats = stands.seat in
    run_written_as (run_lines.Body said) (record {
      first = omega (arith, below, few);
      others = call_fits bytes sectors said.call small stands.tested stands.spelled;
    })

run_head_written : (plan : RunPlan) → IsRunPlan plan → AllByRecursion IsRunWritten (run_head plan)
run_head_written plan is =
    let few : plan.seats ≤ 64 = is.few_seats in
    let is_data : IsDisk plan.data_disk = is.data_disk in
    let is_log : IsDisk plan.log_disk = is.log_disk in
    let layers =
    all_append IsRunWritten (map data_layer plan.data_disk.layers)
    (map log_layer plan.log_disk.layers)
    (all_map IsLayerSpec IsRunWritten data_layer
    (λ spec is. run_written_as _ (layer_fits disks.Data spec is))
    plan.data_disk.layers (layer_specs plan.data_disk.sectors plan.data_disk.layers is_data.stand))
    (all_map IsLayerSpec IsRunWritten log_layer
    (λ spec is. run_written_as _ (layer_fits disks.Log spec is))
    plan.log_disk.layers (layer_specs plan.log_disk.sectors plan.log_disk.layers is_log.stand)) in
    let first =
    run_written_as _ (data_fits plan.data_disk.sectors
    (omega (arith, disk_small plan.data_disk is_data))) in
    let second =
    run_written_as _ (log_fits plan.log_disk.sectors plan.log_size
    (omega (arith, disk_small plan.log_disk is_log))) in
    let low : plan.seats < 2 ^ 64 = omega (arith, few) in
    let third =
    run_written_as (run_lines.Seats plan.seats)
    (record { first = (refl, refl); others = (low, tt) }) in
    (first, (second, (third, layers)))

run_written : (plan : RunPlan) → IsRunPlan plan → AllByRecursion IsRunWritten (lines_of_run plan)
run_written plan is =
    let is_data : IsDisk plan.data_disk = is.data_disk in
    let small : top_of plan.data_disk ≤ 1048576 =
    top_small plan.data_disk.sectors plan.data_disk.layers is_data.stand
    (disk_small plan.data_disk is_data) in
    all_append IsRunWritten (run_head plan) (map run_lines.Body plan.calls)
    (run_head_written plan is)
    (all_map (SeatCanStand (bytes_of plan.log_size) (top_of plan.data_disk) plan.seats) IsRunWritten
    run_lines.Body (λ said stands. seat_call_written (bytes_of plan.log_size)
    (top_of plan.data_disk) plan.seats said small is.few_seats stands) plan.calls is.calls)

pub run_text_is : (plan : RunPlan) → IsRunPlan plan → IsRunText (run_text plan) plan
run_text_is plan is =
    let written =
    written_text run_fields run_said_kept (lines_of_run plan) (run_written plan is) in
    record { plain = written.plain; says = written.says; script = is }

pub one_run_script_of : (text : List ℕ) (plan other : RunPlan) → IsRunText text plan
    → IsRunText text other → plan ≡ other
one_run_script_of text plan other is again =
    one_script runner (lines_of text) plan other is again

pub same_from_run_text : (plan other : RunPlan) → IsRunPlan plan → IsRunPlan other
    → run_text plan ≡ run_text other → plan ≡ other
same_from_run_text plan other is_plan is_other same =
    one_run_script_of (run_text plan) plan other (run_text_is plan is_plan)
    (subst (λ (text : List ℕ). IsRunText text other) (sym same) (run_text_is other is_other))
