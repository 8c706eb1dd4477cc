-- Proves how every command ends, and how `record` and `run` end.
-- The end is reported after the command's work, so what the work did must still hold then.
use Rattle.std.proofs.Common.{arith, ◌++◌, append_assoc, append-nil, refl, slice_get, subst}
use Rattle.std.proofs.Common.{sym, take, ◌≡◌, ◌∙◌, ◌⊎◌, ℕ, zero, suc, ◌+◌, Bool, List, [], ◌∷◌}
use Rattle.std.proofs.Common.{None, Option, Some, Result, Ok, Err, ap, inl, inr, length}
use Rattle.std.specs.Io.KnownBytes.{Appends, Keeps}
use Rattle.std.specs.Result.{IsErrAnd}
use Rattle.refusals.specs.declared.run_error.Fault.{Fault}
use Rattle.refusals.specs.declared.run_error.RunError.{RunError}
use Rattle.refusals.specs.declared.run_error.RunError.TheVariants.{Refused as RefusedBy}
use Rattle.refusals.specs.Errors.{IsFileError, refused_by}
use Rattle.bio.specs.declared.outcome.Status.{Status}
use Rattle.dmlw_script.specs.Language.{memory_fault}
use Rattle.dmlw_script.specs.Words.{lines_of}
use Rattle.dmlw_script.specs.Plans.{ScriptValue}
use Rattle.dmlw_script.specs.RunPlans.{RunPlan}
use Rattle.script_runner.specs.CallLaws.{appends_kept, appends_twice, keeps_same, keeps_twice}
use Rattle.script_runner.specs.declared.recording.Lies.{Lies}
use Rattle.script_runner.specs.declared.tally.Tally.{Tally}
use Rattle.script_runner.specs.DiskRun.{DiskRun, FailsOnDisks, IsRecorded, file as no_file}
use Rattle.script_runner.specs.DiskRun.{run as no_run, unmade as unmade_log, stack_answering}
use Rattle.script_runner.specs.Runs.{EndsRun, close, file as by_file, message}
use Rattle.script_runner.specs.SeatRuns.{FailsRun, RunsSeats}
use Rattle.dmlw_files.specs.declared.files.FileError.{FileError}
use Rattle.dmlw_files.specs.declared.files.FileError.TheVariants as errors
use Rattle.dmlw_files.specs.Files.{KeepsFiles, MatchesContents, Write, file_refusal}
use Rattle.dmlw_files.specs.Files.{with_write}
use Rattle.dmlw_commands.specs.declared.ending.Ended.{Ended}
use Rattle.dmlw_commands.specs.declared.exit.Exit.{Exit}
use Rattle.dmlw_commands.specs.declared.exit.Exit.TheVariants.{Done, Refused}
use Rattle.dmlw_commands.specs.Ends.{EndsAsCommand, ErrStream, ReportsLine, err_stream, exit_by, exit_of}
use Rattle.dmlw_commands.specs.Ends.{fault_line, reported_line}
use Rattle.dmlw_commands.specs.Makings.{AsksToWrite, FailsMaking, IsMade, MakesImage, Making, taken, unmade}
use Rattle.dmlw_commands.specs.Makings.{unprinted, unwritten}
use Rattle.dmlw_commands.specs.Records.{FailsRecording, ScriptKind, PrintsLog, end_lines, file}
use Rattle.dmlw_commands.specs.Records.{of_recorder, of_seats, run as ran, seat_line, seat_lines}
use Rattle.dmlw_commands.specs.Records.{text as unread}
use Rattle.dmlw_commands.specs.Seen.{OnlyReads, Printing, Seen}

-- If the output only keeps what it holds, what `prints` says still holds for the later output.
abbrev pub IsKept : {T : Type 0} → Printing T → Type 0
IsKept {T = T} prints =
    (old mid new : Option (List ℕ)) (done : Result T RunError) → prints old mid done
    → Keeps mid new → prints old new done

pub reads_end : {T : Type 0} (prints : (List ℕ → Option (List ℕ)) → Printing T)
    (exits : Result T RunError → Exit) (explains : Bool) (old new : Seen) (mid : Option (List ℕ))
    (done : Result T RunError) (ended : Ended)
    → ((files : List ℕ → Option (List ℕ)) → IsKept (prints files))
    → prints old.files old.out mid done → Keeps mid new.out → new.writes ≡ old.writes
    → KeepsFiles old.files new.files
    → ReportsLine (err_stream explains old.err new.err) (exits done) (reported_line done) ended
    → EndsAsCommand (OnlyReads prints) exits explains old new ended
reads_end prints exits explains old new mid done ended stable printed later same kept tells =
    record {
      done = done;
      did = record {
        printed = stable old.files old.out mid new.out done printed later;
        unwritten = same;
        kept = kept;
      };
      tells = tells;
    }

pub record Stays (mid new : Seen) : Type 0 where
  pub files : KeepsFiles mid.files new.files
  pub writes : new.writes ≡ mid.writes
  pub out : Keeps mid.out new.out

-- As `IsKept`, for the reason why no image is made.
abbrev pub IsSteady : (Option (List ℕ) → Option (List ℕ) → RunError → Type 0) → Type 0
IsSteady fails =
    (old mid new : Option (List ℕ)) (fault : RunError) → fails old mid fault → Keeps mid new
    → fails old new fault

pub keeping_steady : (P : RunError → Type 0) → IsSteady (λ old new fault. P fault × Keeps old new)
keeping_steady P old mid new fault (fails, none) kept = (fails, keeps_twice old mid new none kept)

abbrev pub asks_for : {T : Type 0} (making : Making T) (name : List ℕ) (old new : Seen)
    (writes : Option (List Write)) (result : T) (lines image : List ℕ)
    → making.makes result lines image → Appends old.out new.out lines → writes ≡ old.writes
    → new.writes ≡ with_write writes name image → AsksToWrite making name old new result
asks_for making name old new writes result lines image made printed same asked = record {
  lines = lines;
  image = image;
  made = made;
  printed = printed;
  asked = grind (arith, asked, same);
}

pub makes_none : {T : Type 0} (making : (List ℕ → Option (List ℕ)) → Making T)
    (read name : List ℕ) (old new : Seen) {Q : RunError → Type 0} (r : Result T RunError)
    → IsErrAnd r Q
    → ((fault : RunError) → Q fault → FailsMaking (making old.files) read name old new fault)
    → KeepsFiles old.files new.files → (read ≡ name → new.writes ≡ old.writes)
    → MakesImage making read name old new r
makes_none making read name old new (Ok result) fails why kept apart = absurd fails
makes_none making read name old new (Err fault) fails why kept apart =
    record { came = (why fault fails, kept); apart = apart }

abbrev asks_kept : {T : Type 0} (making : Making T) (name : List ℕ) (old mid new : Seen) (result : T)
    → AsksToWrite making name old mid result → Stays mid new → AsksToWrite making name old new result
asks_kept making name old mid new result asks stays = record {
  lines = asks.lines;
  image = asks.image;
  made = asks.made;
  printed = appends_kept old.out mid.out new.out asks.lines asks.printed stays.out;
  asked = stays.writes ∙ asks.asked;
}

fails_kept : {T : Type 0} (making : Making T) → IsSteady making.fails → (read name : List ℕ)
    (old mid new : Seen) (fault : RunError) → FailsMaking making read name old mid fault
    → Stays mid new → FailsMaking making read name old new fault
fails_kept making steady read name old mid new fault (unmade fails same) stays =
    unmade (steady old.out mid.out new.out fault fails stays.out) (stays.writes ∙ same)
fails_kept making steady read name old mid new fault (taken is one none same) stays =
    taken is one (keeps_twice old.out mid.out new.out none stays.out) (stays.writes ∙ same)
fails_kept making steady read name old mid new fault
    (unprinted is result lines image made same) stays =
    unprinted is result lines image made (stays.writes ∙ same)
fails_kept making steady read name old mid new fault (unwritten is result asks) stays =
    unwritten is result (asks_kept making name old mid new result asks stays)

makes_kept : {T : Type 0} (making : (List ℕ → Option (List ℕ)) → Making T)
    → ((files : List ℕ → Option (List ℕ)) → IsSteady (making files).fails) → (read name : List ℕ)
    (old mid new : Seen) (done : Result T RunError) → MakesImage making read name old mid done
    → Stays mid new → MakesImage making read name old new done
makes_kept making steady read name old mid new (Ok result) makes stays =
    let made : IsMade (making old.files) name old mid result = makes.came in
    record {
      came = record {
        asks = asks_kept (making old.files) name old mid new result made.asks stays;
        held = rw (stays.files name) made.held;
      };
      apart = λ is. stays.writes ∙ makes.apart is;
    }
makes_kept making steady read name old mid new (Err fault) makes stays = record {
  came = (
    fails_kept (making old.files) (steady old.files) read name old mid new fault makes.came.0 stays,
    λ file. stays.files file ∙ makes.came.1 file,
  );
  apart = λ is. stays.writes ∙ makes.apart is;
}

pub makes_end : {T : Type 0} (making : (List ℕ → Option (List ℕ)) → Making T)
    (exits : Result T RunError → Exit) (explains : Bool) (read name : List ℕ) (old mid new : Seen)
    (done : Result T RunError) (ended : Ended)
    → ((files : List ℕ → Option (List ℕ)) → IsSteady (making files).fails)
    → MakesImage making read name old mid done → Stays mid new
    → ReportsLine (err_stream explains old.err new.err) (exits done) (reported_line done) ended
    → EndsAsCommand (MakesImage making read name) exits explains old new ended
makes_end making exits explains read name old mid new done ended steady makes stays tells = record {
  done = done;
  did = makes_kept making steady read name old mid new done makes stays;
  tells = tells;
}

pub fault_told : {T : Type 0} (t : ErrStream) (exits : Result T RunError → Exit)
    (done : Result T RunError) (fault : RunError) (ended : Ended) → done ≡ Err fault
    → ReportsLine t (exits done) (reported_line done) ended
    → ReportsLine t (exits (Err fault)) (fault_line fault) ended
fault_told {T = T} t exits done fault ended is told =
    rw is at told

pub file_refused : (fault : RunError) → IsFileError fault → exit_of fault ≡ Refused
file_refused fault (inl is) = ap exit_of is
file_refused fault (inr is) = ap exit_of is

pub done_or_refused : {T : Type 0} (making : (List ℕ → Option (List ℕ)) → Making T)
    (read name : List ℕ) (old new : Seen) (done : Result T RunError) (exit : Exit)
    → ((fault : RunError) → (making old.files).fails old.out new.out fault
    → exit_of fault ≡ Refused)
    → MakesImage making read name old new done → exit ≡ exit_by done
    → (exit ≡ Done) ⊎ (exit ≡ Refused)
done_or_refused making read name old new (Ok result) exit refused makes is = inl is
done_or_refused making read name old new (Err fault) exit refused makes is =
    inr (is ∙ by_fault fault refused makes.came.0)
  where
    by_fault : (fault : RunError)
        → ((fault : RunError) → (making old.files).fails old.out new.out fault
        → exit_of fault ≡ Refused)
        → FailsMaking (making old.files) read name old new fault → exit_of fault ≡ Refused
    by_fault fault refused (unmade fails same) = refused fault fails
    by_fault fault refused (taken is one none same) = ap exit_of is
    by_fault fault refused (unprinted is result lines image made same) = file_refused fault is
    by_fault fault refused (unwritten is result asks) = file_refused fault is

run_kept : (text : List ℕ) (script : ScriptValue) (old mid new : Option (List ℕ))
    (start : DiskRun) (fault : RunError)
    → EndsRun stack_answering text script old mid start fault
    → Keeps mid new → EndsRun stack_answering text script old new start fault
run_kept text script old mid new start fault (by_file f is) kept = by_file f is
run_kept text script old mid new start fault (close place refusal printed is output) kept =
    close place refusal printed is (appends_kept old mid new printed output kept)
run_kept text script old mid new start fault (message place error printed is output) kept =
    message place error printed is (appends_kept old mid new printed output kept)

pub disks_kept : (text : List ℕ) (script : ScriptValue) → IsSteady (FailsOnDisks text script)
disks_kept text script old mid new fault (no_file f is) kept = no_file f is
disks_kept text script old mid new fault (unmade_log f is none) kept =
    unmade_log f is (keeps_twice old mid new none kept)
disks_kept text script old mid new fault (no_run start f starts ends) kept =
    no_run start f starts (run_kept text script old mid new start f ends kept)

pub seats_kept : (text : List ℕ) (script : RunPlan) → IsSteady (of_seats.fails text script)
seats_kept text script = keeping_steady (FailsRun script)

pub failure_kept : {S : Type 0} (kind : ScriptKind S)
    → ((text : List ℕ) (script : S) → IsSteady (kind.fails text script))
    → (contents : Option (List ℕ)) → IsSteady (FailsRecording kind contents)
failure_kept kind steady contents old mid new fault (file f is) kept = file f is
failure_kept kind steady contents old mid new fault
    (unread bytes line refusal read none first before) kept =
    unread bytes line refusal read none first (keeps_twice old mid new before kept)
failure_kept kind steady contents old mid new fault (ran bytes script f read spells ends) kept =
    ran bytes script f read spells (steady bytes script old mid new f ends kept)

pub file_told : (error : FileError) → IsFileError (refused_by (file_refusal error))
file_told errors.Unusable = inl refl
file_told errors.Memory = inr refl

-- `IsFaultAt` is what the script's reader proves about the line of its error.
pub fails_unread : {S : Type 0} (kind : ScriptKind S) (contents out : Option (List ℕ)) (text : List ℕ)
    (error : Fault) (fault : RunError) (IsFaultAt : Option ℕ → Type 0)
    → ((line : ℕ) → IsFaultAt (Some line)
    → kind.is_first_fault (lines_of text) line error.refusal)
    → (IsFaultAt None → error ≡ memory_fault)
    → MatchesContents contents text → IsFaultAt error.line
    → ((script : S) → kind.spells text script → error ≡ memory_fault)
    → fault ≡ RefusedBy error → FailsRecording kind contents out out fault
fails_unread kind contents out text error fault IsFaultAt at none is wrong only same =
    subst (FailsRecording kind contents out out) (sym same) (by_line error.line refl wrong)
  where
    by_line : (line : Option ℕ) → error.line ≡ line → IsFaultAt line
        → FailsRecording kind contents out out
        (RefusedBy (record { line = line; refusal = error.refusal }))
    by_line None here memory =
        file _ (inr (grind (arith, none memory)))
    by_line (Some number) here first = unread text number error.refusal is
        (λ script spells. let memory = only script spells in
        absurd (cc (ap (λ (e : Fault). e.line) memory, here))) (at number first) (keeps_same out)

pub fails_run : {S : Type 0} (kind : ScriptKind S) (contents before after : Option (List ℕ))
    (text : List ℕ) (script : S) (fault again : RunError) → MatchesContents contents text
    → kind.spells text script → kind.fails text script before after fault → again ≡ fault
    → FailsRecording kind contents before after again
fails_run kind contents before after text script fault again is spells ends same =
    subst (FailsRecording kind contents before after) (sym same)
    (ran text script fault is spells ends)

pub fails_by_file : {S : Type 0} (kind : ScriptKind S) (contents before after : Option (List ℕ))
    (told fault : RunError) → IsFileError told → fault ≡ told
    → FailsRecording kind contents before after fault
fails_by_file kind contents before after told fault is same =
    file fault (subst IsFileError (sym same) is)

pub log_printed : (contents : Option (List ℕ)) (text : List ℕ) (script : ScriptValue)
    (before mid after : Option (List ℕ)) (status : Status) (lies : Lies) (image : List ℕ)
    → MatchesContents contents text → of_recorder.spells text script
    → (lines : List ℕ) × IsRecorded script lines status lies image × Appends before mid lines
    → Appends mid after (end_lines status lies)
    → PrintsLog of_recorder contents status image before after
log_printed contents text script before mid after status lies image is spells
    (lines, recorded, first) second = (
      lines ++ end_lines status lies,
      record {
        text = text;
        script = script;
        read = is;
        spelled = spells;
        ran = record { ran = lines; lies = lies; recorded = recorded; output = refl };
      },
      appends_twice before mid after lines (end_lines status lies) first second,
    )

pub run_printed : (contents : Option (List ℕ)) (text : List ℕ) (script : RunPlan)
    (before mid after : Option (List ℕ)) (shown tallies : List Tally) (status : Status)
    (lies : Lies) (image : List ℕ)
    → MatchesContents contents text → of_seats.spells text script
    → RunsSeats script tallies status lies image → shown ≡ tallies
    → Appends before mid (seat_lines 0 shown) → Appends mid after (end_lines status lies)
    → PrintsLog of_seats contents status image before after
run_printed contents text script before mid after shown tallies status lies image is spells run same
    first second = grind (
      arith,
      appends_twice before mid after (seat_lines 0 tallies) (end_lines
          status lies) (rw (← same) first) second,
    )

lines_more : (from : ℕ) (tallies : List Tally) (tally : Tally) (number : ℕ)
    → number ≡ from + length tallies
    → seat_lines from (tallies ++ tally ∷ []) ≡ seat_lines from tallies ++ seat_line number tally
lines_more from [] tally number is =
    append-nil (seat_line from tally) ∙ ap (λ (n : ℕ). seat_line n tally)
    (let same : from ≡ number = omega (arith, is) in same)
lines_more from (first ∷ tallies) tally number is =
    ap (λ (rest : List ℕ). seat_line from first ++ rest)
    (lines_more (suc from) tallies tally number (omega (arith, is)))
    ∙ sym (append_assoc (seat_line from first) (seat_lines (suc from) tallies)
    (seat_line number tally))

take_next : (xs : List Tally) (n : ℕ) (x : Tally) → slice_get xs n ≡ Some x
    → take (suc n) xs ≡ take n xs ++ x ∷ []
take_next [] n x there = absurd (cc)
take_next (y ∷ ys) zero x there = ap (λ (z : Tally). z ∷ []) (cc)
take_next (y ∷ ys) (suc n) x there = ap (λ (zs : List Tally). y ∷ zs) (take_next ys n x there)

take_long : (xs : List Tally) (n : ℕ) (x : Tally) → slice_get xs n ≡ Some x → n ≡ length (take n xs)
take_long [] n x there = absurd (cc)
take_long (y ∷ ys) zero x there = refl
take_long (y ∷ ys) (suc n) x there = ap suc (take_long ys n x there)

pub prints_next : (tallies : List Tally) (number next : ℕ) (tally : Tally)
    (before between after : Option (List ℕ)) → next ≡ suc number
    → slice_get tallies number ≡ Some tally
    → Appends before between (seat_lines 0 (take number tallies))
    → Appends between after (seat_line number tally)
    → Appends before after (seat_lines 0 (take next tallies))
prints_next tallies number next tally before between after is there first second =
    let long = take_long tallies number tally there in
    let more = lines_more 0 (take number tallies) tally number (omega (arith, long)) in
    subst (Appends before after)
    (sym (ap (λ (n : ℕ). seat_lines 0 (take n tallies)) is
    ∙ ap (seat_lines 0) (take_next tallies number tally there) ∙ more))
    (appends_twice before between after _ _ first second)
