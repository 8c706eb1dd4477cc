-- Proves what the reader of recorder's scripts has read: the facts that `ReaderLaws` needs.
use Rattle.std.proofs.Common.{◌≡◌, ℕ, ◌<◌, ◌^◌, List, [], ◌∷◌, ◌++◌, append_assoc, Option, Some}
use Rattle.std.proofs.Common.{None, Ok, refl, ap, ◌∙◌, sym, subst}
use Rattle.std.specs.Prelude.{map, Result}
use Rattle.std.specs.List.{AllByRecursion, IsDistinct}
use Rattle.std.proofs.lemmas.Bool.{cond-true}
use Rattle.bio.specs.declared.request.SectorSize.{SectorSize}
use Rattle.bio.specs.Requests.{bytes_of}
use Rattle.refusals.specs.declared.refusal.Refusal.{Refusal}
use Rattle.layer_table.specs.declared.layer_spec.LayerSpec.{LayerSpec}
use Rattle.dmlw_script.specs.declared.command.Command.{Command}
use Rattle.dmlw_script.specs.declared.command.DiskName.TheVariants as disks
use Rattle.dmlw_script.specs.declared.script_id.ScriptId.{ScriptId}
use Rattle.dmlw_script.specs.LineMeaning.{LineMeaning}
use Rattle.dmlw_script.specs.LineMeaning as parsed_lines
use Rattle.dmlw_script.specs.declared.line.HeadLine.{HeadLine}
use Rattle.dmlw_script.specs.declared.line.HeadLine.TheVariants as head_lines
use Rattle.dmlw_script.specs.declared.line.BodyLine.{BodyLine}
use Rattle.dmlw_script.specs.declared.line.BodyLine.TheVariants as body_lines
use Rattle.dmlw_script.specs.declared.command.Submission.{Submission}
use Rattle.dmlw_script.specs.declared.command.Submission.TheVariants as submits
use Rattle.dmlw_script.specs.declared.command.Step.TheVariants as steps
use Rattle.dmlw_script.specs.inside.Stages.{Stage}
use Rattle.dmlw_script.specs.inside.Stages as heads
use Rattle.dmlw_script.specs.inside.Heads.{data_layer, head_step, with_data, with_log}
use Rattle.dmlw_script.specs.inside.Drafts.{◌>>=◌, body_step, Body}
use Rattle.dmlw_script.specs.Fields.{disk_word, fields_of, number, option_fields, submission_fields}
use Rattle.dmlw_script.specs.Fields.{Byte, Given, HasFields, Number, One, Says, Text}
use Rattle.dmlw_script.specs.Grammar.{of_recorder, ParsesAs}
use Rattle.dmlw_script.specs.Plans.{data_line, log_line, head_of, lines_of_body, layer_line}
use Rattle.dmlw_script.specs.Plans.{lines_of_script, top_of, with_ending, ArePicks, Disk, IsPlan}
use Rattle.dmlw_script.specs.Plans.{ScriptValue, WritesByte}
use Rattle.dmlw_script.specs.FirstFault.{bare, with_layer}
use Rattle.refusals.specs.WordLaws.{number_low, number_read}
use Rattle.std.proofs.lemmas.Option.{cond_some}
use Rattle.dmlw_script.specs.Words.{is_id, script_id}
use Rattle.dmlw_script.proofs.WordLaws.{byte_low}
use Rattle.refusals.specs.Words.{after_byte, before_byte}
use Rattle.dmlw_script.specs.inside.Readers.{body_line, crash_line, finish_step, finished}
use Rattle.dmlw_script.specs.inside.Readers.{has_begun, unread, parsed_step, with_head, Progress}
use Rattle.dmlw_script.specs.inside.LineParser.{parse_line}
use Rattle.dmlw_script.proofs.BodyLaws.{in_draft, lines_grow, lines_of_draft, run, run_again}
use Rattle.dmlw_script.proofs.BodyLaws.{step_grows, IsFine, IsSoundBody}
use Rattle.dmlw_script.proofs.ReaderLaws.{ReaderLaw, bind_at, fold_append, made_ok}
use Rattle.dmlw_script.proofs.LineParserLaws.{parsed_again, parsed_read, text_left, word_left}
use Rattle.dmlw_script.proofs.HeadLaws.{bodiless, data_push, fine_head, head_kept, head_taken}
use Rattle.dmlw_script.proofs.HeadLaws.{layer_lines, layers_again, log_push, sizes_again, data_size}
use Rattle.dmlw_script.proofs.HeadLaws.{data_top, log_size, log_top, Takes, IsFineHead, IsHead}

-- What a line's own words guarantee about its meaning.
abbrev pub IsFineLine : LineMeaning → Type 0
IsFineLine (parsed_lines.Head line) = IsFineHead line
IsFineLine (parsed_lines.Body line) = IsFine line
IsFineLine (parsed_lines.Crash picks) = AllByRecursion (λ pick. pick < 2 ^ 64) picks

numbers_low : (picks : List ℕ) (left : Option (List ℕ)) → HasFields (map number picks) left
    → AllByRecursion (λ pick. pick < 2 ^ 64) picks
numbers_low [] left has = tt
numbers_low (pick ∷ picks) None has = absurd has
numbers_low (pick ∷ picks) (Some words) has =
    (number_low (before_byte 32 words) pick (number_read (before_byte 32 words) pick has.0), numbers_low picks (after_byte 32 words) has.1)

pub fine_submission : (s : Submission) (left : Option (List ℕ)) → HasFields (submission_fields s) left
    → WritesByte s
fine_submission (submits.Write first count byte options) left has =
    let n =
    word_left (Number first) (number count ∷ One (Byte byte) ∷ option_fields options) left has in
    let m =
    word_left (Number count) (One (Byte byte) ∷ option_fields options) (after_byte 32 n.0) n.3 in
    let b = word_left (Byte byte) (option_fields options) (after_byte 32 m.0) m.3 in
    byte_low (before_byte 32 b.0) byte b.2
fine_submission s left has = tt

fine_left : (s : LineMeaning) (verb : List ℕ) (left : Option (List ℕ))
    → Says verb left (fields_of s) → IsFineLine s
fine_left (parsed_lines.Head said) verb left says = fine_head said verb left says
fine_left (parsed_lines.Body (body_lines.Submit name s)) verb (Some words) says =
    let word = before_byte 32 words in
    let id = cond_some (is_id word) (script_id word) name says.1.0 in
    ((word, id.0, sym id.1), fine_submission s (after_byte 32 words) says.1.1)
fine_left (parsed_lines.Body (body_lines.Submit name s)) verb None says = absurd says.1
fine_left (parsed_lines.Body (body_lines.Step (steps.Mark text))) verb left says =
    let t = text_left text left says.1 in t.1
fine_left (parsed_lines.Body (body_lines.Step (steps.At time))) verb left says =
    let n = word_left (Number time) [] left says.1 in number_low (before_byte 32 n.0) time (number_read (before_byte 32 n.0) time n.2)
fine_left (parsed_lines.Body (body_lines.Step (steps.Message over layer text))) verb left says =
    let d = word_left (Given (disk_word over)) (number layer ∷ Text text ∷ []) left says.1 in
    let n = word_left (Number layer) (Text text ∷ []) (after_byte 32 d.0) d.3 in
    let t = text_left text (after_byte 32 n.0) n.3 in (number_low (before_byte 32 n.0) layer (number_read (before_byte 32 n.0) layer n.2), t.1)
fine_left (parsed_lines.Crash picks) verb left says = numbers_low picks left says.1
fine_left s verb left says = tt

pub fine_said : (line : List ℕ) (s : LineMeaning) → ParsesAs line s → IsFineLine s
fine_said line s says = fine_left s (before_byte 32 line) (after_byte 32 line) says

abbrev pub no_body : Body
no_body = record { names = []; body = [] }

pub no_body_sound : (bytes sectors : ℕ) → IsSoundBody bytes sectors no_body
unfolding IsDistinct
no_body_sound bytes sectors = record { ids = tt; distinct = tt; numbered = refl; well_formed = tt }

abbrev pub ended_plan : Disk → Disk → SectorSize → Option (List ℕ) → Body → ScriptValue
ended_plan d l size ending b =
    record {
      data_disk = d;
      log_disk = l;
      log_size = size;
      names = b.names;
      commands = b.body;
      ending = ending;
    }

abbrev pub plan_of : Disk → Disk → SectorSize → Body → ScriptValue
plan_of d l size b = ended_plan d l size None b

abbrev pub at : Stage → Body → Progress
at h b = record { head = h; body = b }

abbrev pub HasBody : Stage → Body → Type 0
HasBody heads.Empty b = b ≡ no_body
HasBody (heads.Data d) b = b ≡ no_body
HasBody (heads.Whole d l size) b = IsSoundBody (bytes_of size) (top_of d) b
HasBody (heads.Ended d l size picks) b =
    IsSoundBody (bytes_of size) (top_of d) b × AllByRecursion (λ pick. pick < 2 ^ 64) picks

-- The state is that of a reader that has read a prefix of a script.
abbrev pub HasReadPrefix : Progress → Type 0
HasReadPrefix p = IsHead p.head × HasBody p.head p.body

abbrev pub lines_of_head : Stage → List LineMeaning
lines_of_head heads.Empty = []
lines_of_head (heads.Data d) = parsed_lines.Head (head_lines.Data d.sectors) ∷ []
lines_of_head (heads.Whole d l size) = head_of d l size
lines_of_head (heads.Ended d l size picks) = head_of d l size

abbrev pub ending_of : Stage → Option (List ℕ)
ending_of heads.Empty = None
ending_of (heads.Data d) = None
ending_of (heads.Whole d l size) = None
ending_of (heads.Ended d l size picks) = Some picks

abbrev pub lines_of_progress : Progress → List LineMeaning
lines_of_progress p = lines_of_head p.head ++ with_ending (ending_of p.head) (lines_of_draft p.body)

-- The state `q` is the state `p` after one more line with the meaning `s`.
abbrev pub GrowsBy : Progress → Progress → LineMeaning → Type 0
GrowsBy p q s = HasReadPrefix q × (lines_of_progress q ≡ lines_of_progress p ++ s ∷ [])

-- This lets a layer of the data disk change the number of sectors before the body begins.
sound_anew : (bytes sectors other : ℕ) (names : List ScriptId)
    → IsSoundBody bytes sectors (record { names = names; body = [] })
    → IsSoundBody bytes other (record { names = names; body = [] })
sound_anew bytes sectors other names sound =
    record {
      ids = sound.ids;
      distinct = sound.distinct;
      numbered = sound.numbered;
      well_formed = tt;
    }

abbrev first_two : Disk → Disk → SectorSize → List LineMeaning → List LineMeaning
first_two d l size more = data_line d.sectors ∷ log_line l.sectors size ∷ more

-- A head line keeps the condition on the body, and adds one line to those that were read.
head_adds : (h k : Stage) (names : List ScriptId) (body : List Command) (line : HeadLine)
    → Takes (has_begun body) h line k → HasReadPrefix (at h (record { names = names; body = body }))
    → HasBody k (record { names = names; body = body })
    × (lines_of_progress (at k (record { names = names; body = body }))
    ≡ lines_of_progress (at h (record { names = names; body = body }))
    ++ parsed_lines.Head line ∷ [])
head_adds h k names body line (data_size n fits) begun =
    let none : lines_of_body names 0 body ≡ [] = ap lines_of_draft begun.1 in
    (begun.1, rw none refl)
head_adds h k names body line (log_size d n size fits) begun =
    let none : lines_of_body names 0 body ≡ [] = ap lines_of_draft begun.1 in (
      subst (IsSoundBody (bytes_of size) (top_of d)) (sym begun.1)
          (no_body_sound (bytes_of size) (top_of d)),
      rw (none, begun.0.1) refl,
    )
head_adds h k names [] line (data_top d l size spec may none fits) begun = (
  sound_anew (bytes_of size) (top_of d) (top_of (with_layer d spec)) names begun.1,
  ap (first_two d l size) (bodiless _ _ _ (data_push (layer_line disks.Data)
      (layer_line disks.Log) d l spec none)),
)
head_adds h k names [] line (log_top d l size spec may fits) begun = (
  begun.1,
  ap (first_two d l size) (bodiless _ _ _ (log_push (layer_line disks.Data)
      (layer_line disks.Log) d l spec)),
)
head_adds h k names (command ∷ body) line (data_top d l size spec may none fits) begun =
    absurd (cc)
head_adds h k names (command ∷ body) line (log_top d l size spec may fits) begun = absurd (cc)

body_grows : (h : Stage) (b : Body) (q : Progress) (line : BodyLine)
    → body_line h (at h b) line ≡ Ok q → IsFine line → HasReadPrefix (at h b)
    → GrowsBy (at h b) q (parsed_lines.Body line)
body_grows (heads.Whole d l size) b q line e fine begun =
    let p : Progress = in_draft d l size b in
    let r = made_ok (body_step (bytes_of size) (top_of d) b line)
    (λ (x : Body). at (heads.Whole d l size) x) q e in
    let g = step_grows (bytes_of size) (top_of d) b r.0 line r.1 fine begun.1 in
    rw (← r.2) (
      (begun.0, g.0),
      ap (λ (ls : List LineMeaning). lines_of_head (heads.Whole d l
          size) ++ ls) (lines_grow (bytes_of size) (top_of d) b r.0 line begun.1 g.1) ∙ sym
          (append_assoc (head_of d l size) (lines_of_draft b) (parsed_lines.Body line ∷ [])),
    )
body_grows h b q line e fine begun = absurd (cc e)

crash_grows : (h : Stage) (b : Body) (q : Progress) (picks : List ℕ)
    → crash_line h (at h b) picks ≡ Ok q → AllByRecursion (λ pick. pick < 2 ^ 64) picks
    → HasReadPrefix (at h b) → GrowsBy (at h b) q (parsed_lines.Crash picks)
crash_grows (heads.Whole d l size) b q picks e low begun =
    let p : Progress = in_draft d l size b in
    let same : at (heads.Ended d l size picks) b ≡ q = cc in
    rw (← same) (
      (begun.0, (begun.1, low)),
      sym (append_assoc (head_of d l size) (lines_of_draft
          b) (parsed_lines.Crash picks ∷ [])),
    )
crash_grows h b q picks e low begun = absurd (cc e)

pub line_grows : (p q : Progress) (s : LineMeaning) → parsed_step p s ≡ Ok q → IsFineLine s
    → HasReadPrefix p → GrowsBy p q s
line_grows p q (parsed_lines.Head line) e fine begun =
    let r = made_ok (head_step p.head (has_begun p.body.body) line)
    (λ (h : Stage). at h p.body) q e in
    let taken = head_taken p.head r.0 line (has_begun p.body.body) r.1 in
    let more = head_adds p.head r.0 p.body.names p.body.body line taken begun in
    subst (λ (x : Progress). GrowsBy p x (parsed_lines.Head line)) r.2
    ((head_kept (has_begun p.body.body) p.head r.0 line taken fine begun.0, more.0), more.1)
line_grows p q (parsed_lines.Body line) e fine begun = body_grows p.head p.body q line e fine begun
line_grows p q (parsed_lines.Crash picks) e fine begun =
    crash_grows p.head p.body q picks e fine begun

sound_plan : (d l : Disk) (size : SectorSize) (ending : Option (List ℕ)) (b : Body)
    → IsHead (heads.Whole d l size) → IsSoundBody (bytes_of size) (top_of d) b → ArePicks ending
    → IsPlan (ended_plan d l size ending b)
sound_plan d l size ending b is sound picks = record {
  data_disk = is.0;
  log_disk = is.1;
  room = is.2;
  ids = sound.ids;
  distinct = sound.distinct;
  numbered = sound.numbered;
  well_formed = sound.well_formed;
  picks = picks;
}

pub finished_read : (h : Stage) (b : Body) (plan : ScriptValue) → finished h b ≡ Ok plan
    → HasReadPrefix (at h b) → (lines_of_progress (at h b) ≡ lines_of_script plan) × IsPlan plan
finished_read (heads.Whole d l size) b plan e begun =
    let same : plan_of d l size b ≡ plan = cc in
    rw (← same) (refl, sound_plan d l size None b begun.0 begun.1 tt)
finished_read (heads.Ended d l size picks) b plan e begun =
    let same : ended_plan d l size (Some picks) b ≡ plan = cc in
    subst (λ (x : ScriptValue).
    (lines_of_script (ended_plan d l size (Some picks) b) ≡ lines_of_script x) × IsPlan x) same
    (refl, sound_plan d l size (Some picks) b begun.0 begun.1.0 begun.1.1)
finished_read h b plan e begun = absurd (cc e)

ending_again : (d l : Disk) (size : SectorSize) (b : Body) (ss : List LineMeaning)
    (ending : Option (List ℕ)) → run (in_draft d l size no_body) ss ≡ Ok (in_draft d l size b)
    → (q : Progress) × (run (in_draft d l size no_body) (with_ending ending ss) ≡ Ok q)
    × (finish_step q ≡ Ok (ended_plan d l size ending b))
ending_again d l size b ss None read = (in_draft d l size b, read, refl)
ending_again d l size b ss (Some picks) read = (
  at (heads.Ended d l size picks) b,
  fold_append parsed_step (in_draft d l size no_body) (in_draft d l size b) ss
      (parsed_lines.Crash picks ∷ []) read ∙ refl,
  refl,
)

pub script_again : (plan : ScriptValue) → IsPlan plan
    → (run unread (lines_of_script plan) >>= finish_step) ≡ Ok plan
script_again plan is =
    let d = plan.data_disk in
    let l = plan.log_disk in
    let size = plan.log_size in
    let sized : Progress = in_draft (bare d.sectors) (bare l.sectors) size no_body in
    let start : Progress = in_draft d l size no_body in
    let first : Progress = at (heads.Data (bare d.sectors)) no_body in
    let lines = lines_of_body plan.names 0 plan.commands in
    let sizes = sizes_again d l size is.data_disk is.log_disk is.room in
    let one : parsed_step unread (data_line d.sectors) ≡ Ok first =
    ap (with_head unread) (cond-true _ _ _ sizes.0) in
    let two : parsed_step first (log_line l.sectors size) ≡ Ok sized =
    ap (with_head first) (cond-true _ _ _ sizes.1) in
    let layers =
    layers_again (layer_line disks.Data) (layer_line disks.Log) parsed_step
    (λ (x y : Disk). in_draft x y size no_body) size
    (λ x top y layer none taken.
    ap (λ (ls : List LayerSpec). with_head (in_draft x y size no_body)
    (data_layer ls x y size (Ok layer))) none
    ∙ ap (λ (r : Result Disk Refusal). with_head (in_draft x y size no_body)
    (with_data r y size)) taken)
    (λ x y top layer taken. ap (λ (r : Result Disk Refusal). with_head (in_draft x y size no_body)
    (with_log x r size)) taken) d l is.data_disk is.log_disk is.room in
    let end =
    ending_again d l size (record { names = plan.names; body = plan.commands }) lines plan.ending
    (run_again d l size plan.names [] plan.names [] plan.commands refl is.distinct refl is.numbered
    is.well_formed) in
    let rest =
    fold_append parsed_step sized start
    (layer_lines (layer_line disks.Data) (layer_line disks.Log) d l)
    (with_ending plan.ending lines) layers
    ∙ end.1 in
    bind_at _ _ _ _ (bind_at _ _ _ _ one (bind_at _ _ _ _ two rest)) end.2

abbrev pub recorder : ReaderLaw Progress LineMeaning ScriptValue
recorder = record {
  parse = parse_line;
  language = of_recorder;
  parse_says = parsed_read;
  says_parse = parsed_again;
  start = unread;
  step = parsed_step;
  finish = finish_step;
  IsFine = IsFineLine;
  fine_said = fine_said;
  IsBegun = HasReadPrefix;
  lines_so_far = lines_of_progress;
  start_begun = (tt, refl);
  start_lines = refl;
  step_grows = line_grows;
  finish_grows = λ p plan. finished_read p.head p.body plan;
  script_again = script_again;
}
