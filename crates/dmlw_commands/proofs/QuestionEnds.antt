-- Proves the results of questions about an image, and that replayed prefixes are judged possible.
use Rattle.std.proofs.Common.{◌/◌, ◌<◌, ◌⊎◌, ℕ, suc, Bool, ◌*◌, true, false, Option, IsTrue, Some}
use Rattle.std.proofs.Common.{None, List, arith, Result, Ok, Err, ◌≤◌, IfErr, IfOk, ap, inl, inr}
use Rattle.std.proofs.Common.{length, refl, subst, sym, ◌≡◌, ◌∙◌}
use Rattle.std.specs.Prelude.{IsOk, get_or, slice_get, take, unwrap_or}
use Rattle.std.proofs.lemmas.Bool.{and_parts}
use Rattle.std.proofs.lemmas.List.{take_all}
use Rattle.std.proofs.lemmas.Option.{slice_get-get_or, slice_get_within}
use Rattle.std.specs.Io.KnownBytes.{Appends, Keeps}
use Rattle.std.specs.Result.{IsErrAnd}
use Rattle.refusals.specs.declared.refusal.Refusal.TheVariants as refusals
use Rattle.refusals.specs.declared.run_error.Fault.{Fault}
use Rattle.refusals.specs.declared.run_error.RunError.{RunError}
use Rattle.refusals.specs.declared.run_error.RunError.TheVariants.{Refused}
use Rattle.refusals.specs.Errors.{IsFileError, memory_error, refused_by}
use Rattle.bio.specs.Content.{Content, sector_of}
use Rattle.bio.specs.declared.event.CoreEvent.{CoreEvent}
use Rattle.bio.specs.Events.{all_aligned, is_lawful, is_stop, is_well_formed}
use Rattle.bio.specs.PlaceLaws.{first_below-none, is_first_below}
use Rattle.bio.specs.Places.{first_below}
use Rattle.bio.specs.Possible.{Possible, PossibleAt, has_kept, is_replaced, values_at}
use Rattle.bio.specs.Requests.{bytes_of}
use Rattle.log_format.specs.AlignmentLaws.{right_size}
use Rattle.log_format.specs.Entries.{is_sector_size}
use Rattle.log_format.specs.Replay.{replay}
use Rattle.judge.specs.declared.verdict.Verdict.{Verdict}
use Rattle.judge.specs.declared.verdict.Verdict.TheVariants.{Yes, No}
use Rattle.judge.specs.Verdicts.{IsVerdict}
use Rattle.world.specs.declared.reaching.Finding.{Finding}
use Rattle.world.specs.declared.reaching.Finding.TheVariants.{Run, RuledOut}
use Rattle.world.specs.Machine.{IsFinding, IsReachable}
use Rattle.pending.specs.CompletionList.{BelongsTo, completion_list, dm_log_writes, entries_of}
use Rattle.pending.specs.CompletionList.{last_moment}
use Rattle.dmlw_script.specs.FirstFault.{IsFaultOf}
use Rattle.dmlw_script.specs.Language.{memory_fault}
use Rattle.dmlw_script.specs.Grammar.{IsTextOf}
use Rattle.dmlw_script.specs.Plans.{ScriptValue, top_of}
use Rattle.script_runner.specs.CallLaws.{keeps_same, keeps_twice, appends_kept}
use Rattle.script_runner.specs.DiskRun.{FailsRehearsal, IsRehearsed}
use Rattle.dmlw_files.specs.declared.files.FileError.{FileError}
use Rattle.dmlw_files.specs.declared.files.FileError.TheVariants as errors
use Rattle.dmlw_files.specs.Files.{IsImage, FileIsWithin, MatchesContents, file_refusal, image_read}
use Rattle.dmlw_commands.proofs.CommandEnds.{IsKept, file_told}
use Rattle.dmlw_commands.specs.Judgements.{ReturnsAnswer, BeginsLog, CanJudge, CannotJudge, HasAnswer}
use Rattle.dmlw_commands.specs.Judgements.{HasNoVerdict, HasVerdict, IsFound, IsJudged}
use Rattle.dmlw_commands.specs.Judgements.{IsReplayedTo, Meaning, Question, blank, file}
use Rattle.dmlw_commands.specs.Judgements.{moment as no_moment, question, replayed_first}
use Rattle.dmlw_commands.specs.Judgements.{run as no_run, text as unread, verdict_of}

pub judged_by : {A : Type 0} (meaning : Meaning A) (text image : List ℕ) (asked sectors : ℕ)
    (plan : ScriptValue) (events : List CoreEvent) (r : Result A RunError) → IsImage image
    → IsTextOf text plan
    → IsRehearsed plan events → is_lawful (top_of plan.data_disk) events ≡ true
    → all_aligned (bytes_of plan.log_size) events ≡ true → sectors ≡ top_of plan.data_disk
    → IfOk r (λ answer. CanJudge sectors events asked image
    × meaning.says sectors (take asked events) (blank (length image)) (sector_of image) answer)
    → IfOk r (HasAnswer meaning (question text image asked))
judged_by meaning text image asked sectors plan events (Err fault) whole spelled rehearsed lawful
    aligned same judged = tt
judged_by meaning text image asked sectors plan events
    (Ok answer) whole spelled rehearsed lawful aligned same judged = grind arith

pub faulted_by : {A : Type 0} (text image : List ℕ) (asked sectors : ℕ) (plan : ScriptValue)
    (events : List CoreEvent) (r : Result A RunError) → IsImage image → IsTextOf text plan
    → IsRehearsed plan events → sectors ≡ top_of plan.data_disk
    → IfErr r (λ fault. (fault ≡ memory_error)
    ⊎ ((fault ≡ refused_by refusals.BadMoment) × CannotJudge sectors events asked image))
    → IfErr r (HasNoVerdict (question text image asked))
faulted_by text image asked sectors plan events (Ok answer) whole spelled rehearsed same fails = tt
faulted_by text image asked sectors plan events (Err fault) whole spelled rehearsed same
    (inl memory) = file fault (inr memory) (λ usable. memory)
faulted_by text image asked sectors plan events (Err fault) whole spelled rehearsed same
    (inr (is, cannot)) =
    subst (HasNoVerdict (question text image asked)) (sym is)
    (no_moment text image plan events
    (record { script_holds = refl; image_holds = refl; whole = whole }) spelled rehearsed
    (rw (← same) cannot))

pub failed_run : (text image : List ℕ) (asked : ℕ) (plan : ScriptValue) (fault again : RunError)
    → IsImage image → IsTextOf text plan → FailsRehearsal text plan fault
    → again ≡ fault → HasNoVerdict (question text image asked) again
failed_run text image asked plan fault again whole spelled fails same =
    subst (HasNoVerdict (question text image asked)) (sym same)
    (no_run text image plan fault
    (record { script_holds = refl; image_holds = refl; whole = whole }) spelled fails)

pub failed_text : (text image : List ℕ) (asked : ℕ) (error : Fault) (fault : RunError)
    → IsImage image → IsFaultOf text error error.line
    → ((plan : ScriptValue) → IsTextOf text plan → error ≡ memory_fault) → fault ≡ Refused error
    → HasNoVerdict (question text image asked) fault
failed_text text image asked error fault whole wrong only output =
    subst (HasNoVerdict (question text image asked)) (sym output) (by_line error.line refl wrong)
  where
    by_line : (line : Option ℕ) → error.line ≡ line → IsFaultOf text error line
        → HasNoVerdict (question text image asked)
        (Refused (record { line = line; refusal = error.refusal }))
    by_line None here memory =
        grind (arith, file)
    by_line (Some number) here first =
        unread text image number error.refusal
        (record { script_holds = refl; image_holds = refl; whole = whole })
        (λ plan spells. let memory = only plan spells in
        absurd (cc (ap (λ (e : Fault). e.line) memory, here))) first

pub failed_file : (asked : Question) (error : FileError) (fault : RunError)
    → (FileIsWithin 4194304 asked.script → error ≡ errors.Memory)
    → fault ≡ refused_by (file_refusal error) → HasNoVerdict asked fault
failed_file asked error fault readable is = grind (arith, file, file_told)

match_some : (contents : Option (List ℕ)) (bytes known : List ℕ) → MatchesContents contents bytes
    → known ≡ bytes → MatchesContents contents known
match_some contents bytes known is same = subst (MatchesContents contents) (sym same) is

pub answer_of_files : {A : Type 0} (meaning : Meaning A) (asked : Question) (text image : List ℕ)
    (answer : A) → MatchesContents asked.script text
    → MatchesContents asked.image image
    → HasAnswer meaning (question text image asked.moment) answer → HasAnswer meaning asked answer
answer_of_files meaning asked text image answer script bytes has = record {
  text = has.text;
  image = has.image;
  read = record {
    script_holds = match_some asked.script text has.text script has.read.script_holds;
    image_holds = match_some asked.image image has.image bytes has.read.image_holds;
    whole = has.read.whole;
  };
  plan = has.plan;
  spelled = has.spelled;
  judged = has.judged;
}

within_read : (file : Option (List ℕ)) (text : List ℕ) → FileIsWithin 4194304 file
    → MatchesContents file text → length text ≤ 4194304
within_read None text few is = absurd few
within_read (Some known) text few is = rw is few

pub fault_of_files : (asked : Question) (text image : List ℕ) (fault : RunError)
    → MatchesContents asked.script text → MatchesContents asked.image image
    → HasNoVerdict (question text image asked.moment) fault → HasNoVerdict asked fault
fault_of_files asked text image fault script bytes (file f is readable) =
    grind (arith, file, within_read, image_read)
fault_of_files asked text image fault script bytes
    (unread known seen line refusal read none first) =
    unread known seen line refusal (record {
      script_holds = match_some asked.script text known script read.script_holds;
      image_holds = match_some asked.image image seen bytes read.image_holds;
      whole = read.whole;
    }) none first
fault_of_files asked text image fault script bytes (no_run known seen plan f read spelled fails) =
    no_run known seen plan f (record {
      script_holds = match_some asked.script text known script read.script_holds;
      image_holds = match_some asked.image image seen bytes read.image_holds;
      whole = read.whole;
    }) spelled fails
fault_of_files asked text image fault script bytes
    (no_moment known seen plan events read spelled rehearsed cannot) =
    no_moment known seen plan events (record {
      script_holds = match_some asked.script text known script read.script_holds;
      image_holds = match_some asked.image image seen bytes read.image_holds;
      whole = read.whole;
    }) spelled rehearsed cannot

pub answered_files : {A : Type 0} (meaning : Meaning A) (asked : Question) (text image : List ℕ)
    (before after : Option (List ℕ)) (answered done : Result A RunError)
    → MatchesContents asked.script text → MatchesContents asked.image image
    → IfOk answered (HasAnswer meaning (question text image asked.moment))
    → IfErr answered (HasNoVerdict (question text image asked.moment))
    → IfOk done (λ answer. (answered ≡ Ok answer) × Appends before after (meaning.printed answer))
    → IfErr done (λ fault. (IsFileError fault × IsOk answered)
    ⊎ ((answered ≡ Err fault) × Keeps before after))
    → ReturnsAnswer meaning asked before after done
answered_files {A = A} meaning asked text image before after answered (Ok answer) script bytes has
    none printed fails = grind (arith, answer_of_files)
answered_files meaning asked text image before after (Ok answer) (Err fault) script bytes has none
    printed (inl is) =
    inr (is.0, answer, answer_of_files meaning asked text image answer script bytes has)
answered_files meaning asked text image before after (Err other) (Err fault) script bytes has none
    printed (inl is) = let never = is.1 in absurd (cc)
answered_files {A = A} meaning asked text image before after answered (Err fault) script bytes has
    none printed (inr (same, kept)) =
    grind (arith, fault_of_files)

pub answered_none : {A : Type 0} (meaning : Meaning A) (asked : Question) (known : Option (List ℕ))
    {Q : RunError → Type 0} (r : Result A RunError) → IsErrAnd r Q
    → ((fault : RunError) → Q fault → HasNoVerdict asked fault)
    → ReturnsAnswer meaning asked known known r
answered_none meaning asked known (Ok answer) fails why = absurd fails
answered_none meaning asked known (Err fault) fails why =
    inl (why fault fails, keeps_same known)

pub answers_kept : {A : Type 0} (meaning : Meaning A) (asked : Question)
    → IsKept (ReturnsAnswer meaning asked)
answers_kept meaning asked old mid new (Ok answer) (has, printed) kept =
    (has, appends_kept old mid new _ printed kept)
answers_kept meaning asked old mid new (Err fault) (inl (none, same)) kept =
    inl (none, keeps_twice old mid new same kept)
answers_kept meaning asked old mid new (Err fault) (inr unprinted) kept = inr unprinted

-- The laws `verdicts_differ` and `possible_is_exact` prove the next two; the lemmas assume them.
abbrev pub OneVerdict : Type 0
OneVerdict = (sectors : ℕ) (events : List CoreEvent) (first now : Content) (verdict other : Verdict)
    → IsVerdict sectors events first now verdict → IsVerdict sectors events first now other
    → verdict ≡ other

abbrev pub RunsArePossible : Type 0
RunsArePossible =
    (events : List CoreEvent) (moment : ℕ) (first now : Content)
    → IsReachable (take moment events) first now → Possible (take moment events) first now

finding_holds : RunsArePossible
    → (sectors : ℕ) (events : List CoreEvent) (first now : Content) (finding : Finding)
    → IsFinding sectors events first now finding
    → IsVerdict sectors events first now (verdict_of finding)
finding_holds possible sectors events first now (Run run) found =
    let all : take (length events) events ≡ events =
    take_all (length events) events (omega arith) in
    subst (λ (es : List CoreEvent). Possible es first now) all
    (possible events (length events) first now
    (rw all (run.items, found)))
finding_holds possible sectors events first now (RuledOut sector by) found = found

pub same_verdict : OneVerdict → RunsArePossible
    → (sectors : ℕ) (events : List CoreEvent) (first now : Content) (verdict : Verdict)
    (finding : Finding)
    → IsVerdict sectors events first now verdict → IsFinding sectors events first now finding
    → verdict ≡ verdict_of finding
same_verdict one possible sectors events first now verdict finding holds found =
    grind (arith, finding_holds)

pub same_judged : OneVerdict → RunsArePossible
    → (plan : ScriptValue) (moment : ℕ) (image : List ℕ) (verdict : Verdict) (finding : Finding)
    → (judged : IsJudged plan moment image verdict) → (found : IsFound plan moment image finding)
    → judged.events ≡ found.events → verdict ≡ verdict_of finding
same_judged one possible plan moment image verdict finding judged found same =
    grind (arith, same_verdict, length)

-- The law `prefixes_are_possible` proves `BeginningsArePossible`; the lemmas below assume it.
abbrev pub BeginningsArePossible : Type 0
BeginningsArePossible =
    (size : ℕ) (events : List CoreEvent) (first : Content) (moment count : ℕ)
    → IsTrue (is_sector_size size)
    → IsTrue (all_aligned size events) → is_well_formed events ≡ true
    → moment ≤ last_moment events → BelongsTo (dm_log_writes size) events moment count
    → Possible (take moment events) first
    (replay size (entries_of (take count (completion_list (dm_log_writes size) events))) first)

pub begun_yes : BeginningsArePossible
    → (size : ℕ) (events : List CoreEvent) (moment count bytes : ℕ) → is_sector_size size ≡ true
    → all_aligned size events ≡ true → is_well_formed events ≡ true
    → BeginsLog size events moment count
    → IsVerdict (bytes / 512) (take moment events) (blank bytes)
    (replayed_first size events count bytes) Yes
begun_yes possible size events moment count bytes right aligned well_formed begins =
    possible size events (blank bytes) moment count right aligned well_formed begins.safe
    begins.belongs

abbrev HoldsAtMoment : List CoreEvent → Content → ℕ → List ℕ → Type 0
HoldsAtMoment events first sector value =
    ((value ≡ first sector) × (has_kept events sector ≡ false))
    ⊎ ((id : ℕ) × (values_at (slice_get events id) sector ≡ Some value)
    × (is_replaced events sector id ≡ false))

same_possible : (events : List CoreEvent) (first now other : Content) (sector : ℕ)
    → other sector ≡ now sector → PossibleAt events first now sector
    → PossibleAt events first other sector
same_possible events first now other sector same possible =
    subst (HoldsAtMoment events first sector) (sym same) possible

verdict_yes : BeginningsArePossible
    → (size : ℕ) (events : List CoreEvent) (sectors moment count : ℕ) (image : List ℕ)
    (verdict : Verdict)
    → is_sector_size size ≡ true → all_aligned size events ≡ true → is_well_formed events ≡ true
    → length image ≡ 512 * sectors → IsReplayedTo size events moment count image
    → IsVerdict sectors (take moment events) (blank (length image)) (sector_of image) verdict
    → verdict ≡ Yes
verdict_yes possible size events sectors moment count image Yes right aligned well_formed sized
    replayed holds = refl
verdict_yes possible size events sectors moment count image
    (No sector by) right aligned well_formed sized replayed holds =
    let there : sector < length image / 512 = let less = holds.within in omega arith in
    let could =
    begun_yes possible size events moment count
    (length image) right aligned well_formed replayed.begins sector in
    absurd (holds.fails (same_possible (take moment events) (blank (length image))
    (replayed_first size events count (length image)) (sector_of image) sector
    (replayed.content sector there) could))

lawful_formed : (sectors : ℕ) (events : List CoreEvent) → is_lawful sectors events ≡ true
    → is_well_formed events ≡ true
lawful_formed sectors events lawful = grind (arith, and_parts, length)

pub judged_yes : BeginningsArePossible
    → (plan : ScriptValue) (moment count : ℕ) (image : List ℕ) (verdict : Verdict)
    (judged : IsJudged plan moment image verdict)
    → IsReplayedTo (bytes_of plan.log_size) judged.events moment count image → verdict ≡ Yes
judged_yes possible plan moment count image verdict judged replayed =
    verdict_yes possible (bytes_of plan.log_size) judged.events
    (top_of plan.data_disk) moment count image verdict (right_size plan.log_size) judged.aligned
    (lawful_formed (top_of plan.data_disk) judged.events judged.lawful)
    judged.can_judge.1 replayed judged.holds

pub asked_yes : BeginningsArePossible
    → (asked : Question) (count : ℕ) (verdict : Verdict) (has : HasVerdict asked verdict)
    → IsReplayedTo (bytes_of has.plan.log_size) has.judged.events asked.moment count has.image
    → verdict ≡ Yes
asked_yes possible asked count verdict has replayed =
    judged_yes possible has.plan asked.moment count has.image verdict has.judged replayed

pub slice_get-of_get_or : {A : Type 0} (xs : List A) (k : ℕ) (x : A) → k < length xs → x ≡ get_or xs k x
    → slice_get xs k ≡ Some x
slice_get-of_get_or {A} xs k x within is = slice_get-get_or xs k x within ∙ ap Some (sym is)

abbrev pub stops_at : List CoreEvent → ℕ → Bool
stops_at events place = is_stop (slice_get events place)

pub stop_is_last : (events : List CoreEvent) (place : ℕ) (event : CoreEvent)
    → first_below (stops_at events) place ≡ None
    → slice_get events place ≡ Some event → is_stop (Some event) ≡ true → place ≡ last_moment events
stop_is_last events place event none there stop =
    sym (ap (λ (found : Option ℕ). unwrap_or found (length events))
    (is_first_below (stops_at events) (length events) place (record {
      within = slice_get_within events place event there;
      here = ap is_stop there ∙ stop;
      before = first_below-none (stops_at events) place none;
    })))

pub none_next : (events : List CoreEvent) (place next : ℕ) (event : CoreEvent) → next ≡ suc place
    → first_below (stops_at events) place ≡ None
    → slice_get events place ≡ Some event → is_stop (Some event) ≡ false
    → first_below (stops_at events) next ≡ None
none_next events place next event is none there other =
    rw is (grind (arith, none, ap is_stop there ∙ other))
