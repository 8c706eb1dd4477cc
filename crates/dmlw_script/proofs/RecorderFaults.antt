-- Proves why the reader of recorder's scripts refuses a text: the facts that `FaultLaws` needs.
use Rattle.std.proofs.Common.{◌≡◌, ℕ, ◌+◌, true, false, List, [], ◌∷◌, ◌++◌, Option, Some, None, Ok}
use Rattle.std.proofs.Common.{Err, ◌⊎◌, inl, inr, ⊎_elim, refl, ap, ◌∙◌, sym, arith, append_assoc}
use Rattle.std.specs.Prelude.{Result, codes}
use Rattle.std.specs.List.{list_any}
use Rattle.std.proofs.lemmas.Bool.{cond-true, cond-false, cases_Bool, ltb-true}
use Rattle.bio.specs.declared.request.BadBio.{BadBio}
use Rattle.bio.specs.declared.request.SectorSize.{SectorSize}
use Rattle.bio.specs.declared.request.SectorSize.TheVariants as sizes
use Rattle.bio.specs.Requests.{bytes_of}
use Rattle.refusals.specs.declared.refusal.Refusal.{Refusal}
use Rattle.refusals.specs.declared.refusal.Refusal.TheVariants.{BadLine}
use Rattle.layer_table.specs.declared.layer_spec.LayerSpec.{LayerSpec}
use Rattle.layer_table.specs.declared.table_error.TableError.{TableError}
use Rattle.dmlw_script.specs.declared.command.Command.{Command}
use Rattle.dmlw_script.specs.declared.command.Command.TheVariants as commands
use Rattle.dmlw_script.specs.declared.command.Step.{Step}
use Rattle.dmlw_script.specs.declared.command.Step.TheVariants as steps
use Rattle.dmlw_script.specs.declared.command.DiskName.{DiskName}
use Rattle.dmlw_script.specs.declared.command.DiskName.TheVariants as disks
use Rattle.dmlw_script.specs.declared.script_id.ScriptId.{ScriptId}
use Rattle.dmlw_script.specs.LineMeaning.{LineMeaning}
use Rattle.dmlw_script.specs.LineMeaning as parsed_lines
use Rattle.dmlw_script.specs.declared.line.HeadLine.{HeadLine}
use Rattle.dmlw_script.specs.declared.line.HeadLine.TheVariants as head_lines
use Rattle.dmlw_script.specs.declared.line.BodyLine.{BodyLine}
use Rattle.dmlw_script.specs.declared.line.BodyLine.TheVariants as body_lines
use Rattle.dmlw_script.specs.declared.command.Submission.{Submission}
use Rattle.dmlw_script.specs.inside.Stages.{Stage}
use Rattle.dmlw_script.specs.inside.Stages as heads
use Rattle.dmlw_script.specs.inside.Heads.{head_step}
use Rattle.dmlw_script.specs.inside.Drafts.{◌>>=◌, body_step, ended_next, named_next, as_refusal}
use Rattle.dmlw_script.specs.inside.Drafts.{step_test, with_command, Body}
use Rattle.dmlw_script.specs.Words.{same_name}
use Rattle.dmlw_script.specs.Plans.{named_disk, least_sectors, time_after, request_of, step_answer}
use Rattle.dmlw_script.specs.Plans.{submission_answer, top_of, Disk, ScriptValue, head_of}
use Rattle.dmlw_script.specs.Plans.{layer_line, lines_of_body, time_at_step, time_from}
use Rattle.dmlw_script.specs.inside.Readers.{body_line, crash_line, finish_step, finished}
use Rattle.dmlw_script.specs.inside.Readers.{has_begun, parsed_step, Progress}
use Rattle.dmlw_script.specs.FirstFault.{at_end, bare, body_refusal, data_due, head_refusal}
use Rattle.dmlw_script.specs.FirstFault.{in_body, in_head, line_refusal, log_due, next}
use Rattle.dmlw_script.specs.FirstFault.{prefix_after, recorder_order, test_refusal, ComesInTime}
use Rattle.dmlw_script.specs.FirstFault.{Prefix, MayFollowInScript}
use Rattle.dmlw_script.proofs.ReaderLaws.{barred_err, made_err}
use Rattle.dmlw_script.proofs.BodyLaws.{in_draft, unlisted}
use Rattle.dmlw_script.proofs.DraftLemmas.{listed}
use Rattle.dmlw_script.proofs.HeadLaws.{after_both, after_layers, asked_refusal, bare_is}
use Rattle.dmlw_script.proofs.HeadLaws.{head_refused, layer_lines, misplaced, no_layer, HeadRefused}
use Rattle.dmlw_script.proofs.HeadLaws.{HeadStands}
use Rattle.dmlw_script.proofs.RecorderLaws.{at, ended_plan, lines_of_progress, plan_of, recorder}
use Rattle.dmlw_script.proofs.RecorderLaws.{HasReadPrefix}
use Rattle.dmlw_script.proofs.FaultLaws.{CompletesScript, ReaderFaults}

pub completes : (h : Stage) (b : Body) (number : ℕ) → CompletesScript recorder (at h b) number
completes (heads.Whole d l size) b number =
    record { more = []; plan = plan_of d l size b; read = refl }
completes (heads.Ended d l size picks) b number =
    record { more = []; plan = ended_plan d l size (Some picks) b; read = refl }
completes (heads.Data d) b number =
    record { more = codes "log 1" ∷ []; plan = plan_of d (bare 1) sizes.B512 b; read = refl }
completes heads.Empty b number =
    record {
      more = codes "data 1" ∷ codes "log 1" ∷ [];
      plan = plan_of (bare 1) (bare 1) sizes.B512 b;
      read = refl;
    }

pub unfinished_is : (h : Stage) (b : Body) (refusal : Refusal) → finished h b ≡ Err refusal
    → refusal ≡ BadLine
unfinished_is (heads.Data d) b refusal e = cc
unfinished_is heads.Empty b refusal e = cc
unfinished_is h b refusal e = absurd (cc)

abbrev pub body_prefix : Disk → Disk → List Command → Prefix
body_prefix d l [] = in_head d l
body_prefix d l (command ∷ body) = in_body d l (time_after (command ∷ body))

abbrev pub prefix_of : Stage → List Command → Prefix
prefix_of heads.Empty body = data_due
prefix_of (heads.Data d) body = log_due d
prefix_of (heads.Whole d l size) body = body_prefix d l body
prefix_of (heads.Ended d l size picks) body = at_end

abbrev pub prefix_at : Progress → Prefix
prefix_at p = prefix_of p.head p.body.body

after_more : (d l : Disk) (names : List ScriptId) (n time : ℕ) (body : List Command)
    → prefix_after (in_body d l time) (lines_of_body names n body)
    ≡ in_body d l (time_from time body)
after_more d l names n time [] = refl
after_more d l names n time (commands.Submit submission ∷ body) =
    after_more d l names (n + 1) time body
after_more d l names n time (commands.Complete request ∷ body) =
    after_more d l names n time body
after_more d l names n time (commands.Step step ∷ body) =
    after_more d l names n (time_at_step time step) body

after_body : (d l : Disk) (names : List ScriptId) (body : List Command)
    → prefix_after (in_head d l) (lines_of_body names 0 body) ≡ body_prefix d l body
after_body d l names [] = refl
after_body d l names (commands.Submit submission ∷ body) = after_more d l names 1 0 body
after_body d l names (commands.Complete request ∷ body) = after_more d l names 0 0 body
after_body d l names (commands.Step step ∷ body) =
    after_more d l names 0 (time_at_step 0 step) body

next_crash : (d l : Disk) (body : List Command) (picks : List ℕ)
    → next (body_prefix d l body) (parsed_lines.Crash picks) ≡ at_end
next_crash d l [] picks = refl
next_crash d l (command ∷ body) picks = refl

after_disks : (d l : Disk) (names : List ScriptId) (body : List Command)
    → prefix_after (in_head (bare d.sectors) (bare l.sectors))
    (layer_lines (layer_line disks.Data) (layer_line disks.Log) d l ++ lines_of_body names 0 body)
    ≡ body_prefix d l body
after_disks d l names body =
    let start = in_head (bare d.sectors) (bare l.sectors) in
    let layers = layer_lines (layer_line disks.Data) (layer_line disks.Log) d l in
    after_both (layer_line disks.Data) (layer_line disks.Log) next prefix_after (λ p. refl)
    (λ p s ss. refl) start layers (lines_of_body names 0 body)
    ∙ ap (λ (p : Prefix). prefix_after p (lines_of_body names 0 body))
    (after_layers (layer_line disks.Data) (layer_line disks.Log) next prefix_after (λ p. refl)
    (λ p s ss. refl) in_head (λ x y layer. refl) (λ x y layer. refl) d l)
    ∙ after_body d l names body

pub after_lines : (h : Stage) (b : Body) → HasReadPrefix (at h b)
    → prefix_after data_due (lines_of_progress (at h b)) ≡ prefix_at (at h b)
after_lines heads.Empty b begun = grind (arith, data_due)
after_lines (heads.Data d) b begun = grind (arith, data_due, log_due, bare_is)
after_lines (heads.Whole d l size) b begun = after_disks d l b.names b.body
after_lines (heads.Ended d l size picks) b begun =
    let lines = head_of d l size ++ lines_of_body b.names 0 b.body in
    ap (prefix_after data_due) (sym (append_assoc (head_of d l size)
    (lines_of_body b.names 0 b.body) (parsed_lines.Crash picks ∷ [])))
    ∙ after_both (layer_line disks.Data) (layer_line disks.Log) next prefix_after (λ p. refl)
    (λ p s ss. refl) data_due lines (parsed_lines.Crash picks ∷ [])
    ∙ ap (λ (p : Prefix). next p (parsed_lines.Crash picks)) (after_disks d l b.names b.body)
    ∙ next_crash d l b.body picks

-- Either the line may not follow, or what was read is a script, after which the line is refused.
abbrev pub Refuses : Progress → LineMeaning → Refusal → Type 0
Refuses p s refusal =
    ((MayFollowInScript (prefix_at p) s → ⊥) × (BadLine ≡ refusal))
    ⊎ (MayFollowInScript (prefix_at p) s × (plan : ScriptValue) × (finish_step p ≡ Ok plan)
    × (line_refusal plan s ≡ Some refusal))

pub answered_err : (r : Result (Unit {0}) BadBio) (refusal : Refusal) → as_refusal r ≡ Err refusal
    → test_refusal r ≡ Some refusal
answered_err (Ok u) refusal e = absurd (cc)
answered_err (Err bad) refusal e = cc

listed_place : (name : ScriptId) (names : List ScriptId) (request : ℕ)
    → request_of name names ≡ Some request → list_any (same_name name) names ≡ true
listed_place name names request e =
    ⊎_elim
    (λ (any : list_any (same_name name) names ≡ true). any)
    (λ (none : list_any (same_name name) names ≡ false). absurd
    (let absent : request_of name names
    ≡ None = cond-false _ _ _ (listed (same_name name) names ∙ none) in cc))
    (cases_Bool (list_any (same_name name) names))

submit_refused : (d l : Disk) (size : SectorSize) (b : Body) (name : ScriptId)
    (submission : Submission) (refusal : Refusal) (o : Option ℕ) → request_of name b.names ≡ o
    → (named_next o b name >>= λ submitted. as_refusal
    (submission_answer (bytes_of size) (top_of d) submission) >>= λ fine. Ok
    (with_command submitted (commands.Submit submission))) ≡ Err refusal
    → body_refusal (plan_of d l size b) (body_lines.Submit name submission) ≡ Some refusal
submit_refused d l size b name submission refusal None is e =
    grind (arith, cond-false, unlisted, answered_err, made_err)
submit_refused d l size b name submission refusal (Some request) is e =
    cond-true _ _ _ (listed_place name b.names request is) ∙ cc

end_refused : (d l : Disk) (size : SectorSize) (b : Body) (name : ScriptId) (refusal : Refusal)
    (o : Option ℕ) → request_of name b.names ≡ o → ended_next o b ≡ Err refusal
    → body_refusal (plan_of d l size b) (body_lines.Complete name) ≡ Some refusal
end_refused d l size b name refusal None is e = grind (arith, cond-false)
end_refused d l size b name refusal (Some request) is e = grind (arith, barred_err, cond-false)

-- Either the line decreases the time (`BadLine`), or `body_refusal` gives the refusal.
abbrev pub BodyRefused : Disk → Disk → SectorSize → Body → BodyLine → Refusal → Type 0
BodyRefused d l size b line refusal =
    ((ComesInTime (time_after b.body) line → ⊥) × (BadLine ≡ refusal))
    ⊎ (ComesInTime (time_after b.body) line
    × (body_refusal (plan_of d l size b) line ≡ Some refusal))

step_refused : (d l : Disk) (size : SectorSize) (b : Body) (step : Step) (refusal : Refusal)
    → step_test (bytes_of size) (top_of d) (time_after b.body) step ≡ Err refusal
    → BodyRefused d l size b (body_lines.Step step) refusal
step_refused d l size b (steps.At later) refusal e = grind (arith, barred_err, ltb-true)
step_refused d l size b step refusal e =
    inr (tt, answered_err (step_answer (bytes_of size) (top_of d) step) refusal e)

body_refused : (d l : Disk) (size : SectorSize) (b : Body) (line : BodyLine) (refusal : Refusal)
    → body_step (bytes_of size) (top_of d) b line ≡ Err refusal
    → BodyRefused d l size b line refusal
body_refused d l size b (body_lines.Submit name submission) refusal e =
    inr (tt, submit_refused d l size b name submission refusal (request_of name b.names) refl e)
body_refused d l size b (body_lines.Complete name) refusal e =
    inr (tt, end_refused d l size b name refusal (request_of name b.names) refl e)
body_refused d l size b (body_lines.Step step) refusal e = grind (arith, step_refused, made_err)

stands_body : (d l : Disk) (body : List Command) (line : BodyLine)
    → ComesInTime (time_after body) line
    → MayFollowInScript (body_prefix d l body) (parsed_lines.Body line)
stands_body d l [] line in_time = in_time
stands_body d l (command ∷ body) line in_time = in_time

stood_body : (d l : Disk) (body : List Command) (line : BodyLine)
    → MayFollowInScript (body_prefix d l body) (parsed_lines.Body line)
    → ComesInTime (time_after body) line
stood_body d l [] line stands = stands
stood_body d l (command ∷ body) line stands = stands

body_refuses : (h : Stage) (b : Body) (s : BodyLine) (refusal : Refusal)
    → body_line h (at h b) s ≡ Err refusal → Refuses (at h b) (parsed_lines.Body s) refusal
body_refuses (heads.Whole d l size) b s refusal e =
    ⊎_elim
    (λ (h : (ComesInTime (time_after b.body) s → ⊥) × (BadLine ≡ refusal)).
    inl (λ stands. h.0 (stood_body d l b.body s stands), h.1))
    (λ (h : ComesInTime (time_after b.body) s
    × (body_refusal (plan_of d l size b) s ≡ Some refusal)).
    inr (stands_body d l b.body s h.0, plan_of d l size b, refl, h.1))
    (body_refused d l size b s refusal
    (made_err (body_step (bytes_of size) (top_of d) b s)
    (λ (x : Body). in_draft d l size x) refusal e))
body_refuses h b s refusal e = inl (λ stands. stands, cc)

crash_refuses : (h : Stage) (b : Body) (picks : List ℕ) (refusal : Refusal)
    → crash_line h (at h b) picks ≡ Err refusal
    → Refuses (at h b) (parsed_lines.Crash picks) refusal
crash_refuses (heads.Whole d l size) b picks refusal e = absurd (cc)
crash_refuses h b picks refusal e = inl (λ stands. stands, cc)

stood_head : (h : Stage) (body : List Command) (line : HeadLine)
    → MayFollowInScript (prefix_of h body) (parsed_lines.Head line)
    → HeadStands h line (has_begun body)
stood_head heads.Empty body (head_lines.Data n) stands = stands
stood_head (heads.Data d) body (head_lines.Log n size) stands = stands
stood_head (heads.Whole d l size) [] (head_lines.Layer disks.Data asked) stands = stands
stood_head (heads.Whole d l size) [] (head_lines.Layer disks.Log asked) stands = stands
stood_head h body line stands = absurd stands

head_refusal_is : (plan : ScriptValue) (over : DiskName) (asked : Result LayerSpec TableError)
    → head_refusal (λ over. named_disk over plan) plan.log_size (head_lines.Layer over asked)
    ≡ asked_refusal (least_sectors over plan.log_size) (named_disk over plan) asked
head_refusal_is plan over (Err error) = refl
head_refusal_is plan over (Ok spec) = refl

head_refuses : (h : Stage) (names : List ScriptId) (body : List Command) (line : HeadLine)
    (refusal : Refusal) → HeadRefused (has_begun body) refusal h line
    → Refuses (at h (record { names = names; body = body })) (parsed_lines.Head line) refusal
head_refuses h names body line refusal (misplaced k said never same) =
    inl (λ stands. never (stood_head h body line stands), same)
head_refuses h names [] line refusal (no_layer d l size disks.Data asked may stands why) =
    let plan = plan_of d l size (record { names = names; body = [] }) in
    inr (stands, plan, refl, head_refusal_is plan disks.Data asked ∙ why)
head_refuses h names [] line refusal (no_layer d l size disks.Log asked may stands why) =
    let plan = plan_of d l size (record { names = names; body = [] }) in
    inr (stands, plan, refl, head_refusal_is plan disks.Log asked ∙ why)
head_refuses h names (command ∷ body) line refusal (no_layer d l size over asked may stands why) =
    absurd (cc)

pub line_refuses : (p : Progress) (s : LineMeaning) (refusal : Refusal)
    → parsed_step p s ≡ Err refusal → Refuses p s refusal
line_refuses p (parsed_lines.Head line) refusal e =
    head_refuses p.head p.body.names p.body.body line refusal
    (head_refused p.head line (has_begun p.body.body) refusal
    (made_err (head_step p.head (has_begun p.body.body) line)
    (λ (h : Stage). at h p.body) refusal e))
line_refuses p (parsed_lines.Body line) refusal e = body_refuses p.head p.body line refusal e
line_refuses p (parsed_lines.Crash picks) refusal e = crash_refuses p.head p.body picks refusal e

abbrev pub recorder_faults : ReaderFaults recorder Prefix
recorder_faults = record {
  order = recorder_order;
  prefix_of = prefix_at;
  after_lines = λ p. after_lines p.head p.body;
  step_refused = line_refuses;
  completes = λ p number begun. completes p.head p.body number;
  unfinished_is = λ p. unfinished_is p.head p.body;
}
