-- Proves why the reader of run's scripts refuses a text: the facts that `FaultLaws` needs.
use Rattle.std.proofs.Common.{◌≡◌, ℕ, ◌<◌, true, false, List, [], ◌∷◌, ◌++◌, Option, Some, None, Ok}
use Rattle.std.proofs.Common.{Err, ◌⊎◌, inl, inr, ⊎_elim, refl, ap, ◌∙◌, sym}
use Rattle.std.specs.Prelude.{Result, codes, map, nat_le, nat_lt}
use Rattle.std.proofs.lemmas.Bool.{and_from, le-leb, lt-ltb, ltb-true}
use Rattle.bio.specs.declared.request.SectorSize.TheVariants as sizes
use Rattle.bio.specs.Requests.{bytes_of}
use Rattle.refusals.specs.declared.refusal.Refusal.{Refusal}
use Rattle.refusals.specs.declared.refusal.Refusal.TheVariants.{BadLine}
use Rattle.layer_table.specs.declared.layer_spec.LayerSpec.{LayerSpec}
use Rattle.layer_table.specs.declared.table_error.TableError.{TableError}
use Rattle.dmlw_script.specs.declared.command.DiskName.{DiskName}
use Rattle.dmlw_script.specs.declared.command.DiskName.TheVariants as disks
use Rattle.dmlw_script.specs.declared.line.HeadLine.{HeadLine}
use Rattle.dmlw_script.specs.declared.line.HeadLine.TheVariants as head_lines
use Rattle.dmlw_script.specs.declared.run_line.RunLine.{RunLine}
use Rattle.dmlw_script.specs.declared.run_line.RunLine.TheVariants as run_lines
use Rattle.dmlw_script.specs.declared.run_line.SeatCall.{SeatCall}
use Rattle.dmlw_script.specs.Plans.{least_sectors, top_of, Disk}
use Rattle.dmlw_script.specs.FirstFault.{bare, head_refusal}
use Rattle.dmlw_script.specs.RunPlans.{call_answer, data_layer, log_layer, RunPlan}
use Rattle.dmlw_script.specs.RunFirstFault.{at_end, data_due, in_body, in_head, next}
use Rattle.dmlw_script.specs.RunFirstFault.{line_refusal, log_due, prefix_after, run_disk}
use Rattle.dmlw_script.specs.RunFirstFault.{run_order, seats_due, RunPrefix, MayFollowInRun}
use Rattle.dmlw_script.specs.inside.Drafts.{as_refusal}
use Rattle.dmlw_script.specs.inside.Heads.{head_step}
use Rattle.dmlw_script.specs.inside.Readers.{RunProgress, call_line, finished_run, is_closed}
use Rattle.dmlw_script.specs.inside.Readers.{is_seat_count, run_finish_step, said_step, seats_line}
use Rattle.dmlw_script.specs.inside.Readers.{with_call}
use Rattle.dmlw_script.specs.inside.Stages.{Stage}
use Rattle.dmlw_script.specs.inside.Stages as heads
use Rattle.dmlw_script.proofs.ReaderLaws.{made_err}
use Rattle.dmlw_script.proofs.HeadLaws.{after_both, after_layers, asked_refusal, bare_is, cond_err}
use Rattle.dmlw_script.proofs.HeadLaws.{head_refused, layer_lines, misplaced, no_layer, tested_err}
use Rattle.dmlw_script.proofs.HeadLaws.{HeadRefused, HeadStands}
use Rattle.dmlw_script.proofs.RecorderFaults.{answered_err}
use Rattle.dmlw_script.proofs.RunLaws.{lines_so_far, run_at, run_plan, runner, seated, IsRunBegun}
use Rattle.dmlw_script.proofs.FaultLaws.{CompletesScript, ReaderFaults}

abbrev pub seated_prefix : Disk → Disk → ℕ → List SeatCall → RunPrefix
seated_prefix d l seats [] = in_head d l seats
seated_prefix d l seats (line ∷ done) = in_body seats

abbrev pub prefix_of : Stage → Option ℕ → List SeatCall → RunPrefix
prefix_of heads.Empty seats done = data_due
prefix_of (heads.Data d) seats done = log_due d
prefix_of (heads.Whole d l size) None done = seats_due d l
prefix_of (heads.Whole d l size) (Some seats) done = seated_prefix d l seats done
prefix_of (heads.Ended d l size picks) seats done = at_end

abbrev pub prefix_at : RunProgress → RunPrefix
prefix_at q = prefix_of q.head q.seats q.calls

after_body : (seats : ℕ) (done : List SeatCall)
    → prefix_after (in_body seats) (map run_lines.Body done) ≡ in_body seats
after_body seats [] = refl
after_body seats (line ∷ done) = after_body seats done

after_calls : (d l : Disk) (seats : ℕ) (done : List SeatCall)
    → prefix_after (in_head d l seats) (map run_lines.Body done) ≡ seated_prefix d l seats done
after_calls d l seats [] = refl
after_calls d l seats (line ∷ done) = after_body seats done

after_seats : (d l : Disk) (seats : ℕ) (done : List SeatCall) →
    prefix_after (in_head (bare d.sectors) (bare l.sectors) seats)
    (layer_lines data_layer log_layer d l ++ map run_lines.Body done)
    ≡ seated_prefix d l seats done
after_seats d l seats done =
    after_both data_layer log_layer next prefix_after (λ p. refl) (λ p s ss. refl) (in_head (bare
    d.sectors) (bare l.sectors) seats) (layer_lines data_layer log_layer d l) (map
    run_lines.Body done) ∙ rw (after_layers data_layer log_layer next prefix_after (λ p. refl)
    (λ p s ss. refl) (λ (x y : Disk). in_head x y seats) (λ x y layer. refl) (λ x y layer.
    refl) d l) (after_calls d l seats done)

pub after_lines : (h : Stage) (seats : Option ℕ) (done : List SeatCall)
    → IsRunBegun (run_at h seats done)
    → prefix_after data_due (lines_so_far h seats done) ≡ prefix_of h seats done
after_lines heads.Empty seats done begun = refl
after_lines (heads.Data d) seats done begun = ap log_due (bare_is d begun.0.1)
after_lines (heads.Whole d l size) None [] begun =
    rw (bare_is d begun.1.0) (ap (seats_due d) (bare_is l begun.1.1))
after_lines (heads.Whole d l size) (Some seats) done begun = after_seats d l seats done
after_lines h seats done begun = absurd (begun.1)

pub completes : (h : Stage) (seats : Option ℕ) (done : List SeatCall) (number : ℕ)
    → IsRunBegun (run_at h seats done) → CompletesScript runner (run_at h seats done) number
completes heads.Empty None [] number begun =
    record {
      more = codes "data 1" ∷ codes "log 1" ∷ codes "seats 1" ∷ [];
      plan = run_plan (bare 1) (bare 1) sizes.B512 1 [];
      read = refl;
    }
completes (heads.Data d) None [] number begun =
    record {
      more = codes "log 1" ∷ codes "seats 1" ∷ [];
      plan = run_plan d (bare 1) sizes.B512 1 [];
      read = refl;
    }
completes (heads.Whole d l size) None [] number begun =
    record { more = codes "seats 1" ∷ []; plan = run_plan d l size 1 []; read = refl }
completes (heads.Whole d l size) (Some seats) done number begun =
    record { more = []; plan = run_plan d l size seats done; read = refl }
completes h seats done number begun = absurd (begun.1)

pub unfinished_is : (h : Stage) (seats : Option ℕ) (done : List SeatCall) (refusal : Refusal)
    → finished_run h seats done ≡ Err refusal → refusal ≡ BadLine
unfinished_is (heads.Whole d l size) (Some seats) done refusal e = absurd (cc)
unfinished_is h seats done refusal e = cc

-- Either the line may not follow, or what was read is a script, after which the line is refused.
abbrev pub Refuses : RunProgress → RunLine → Refusal → Type 0
Refuses q said refusal =
    ((MayFollowInRun (prefix_at q) said → ⊥) × (BadLine ≡ refusal))
    ⊎ (MayFollowInRun (prefix_at q) said × (plan : RunPlan) × (run_finish_step q ≡ Ok plan)
    × (line_refusal plan said ≡ Some refusal))

head_refusal_is : (plan : RunPlan) (over : DiskName) (asked : Result LayerSpec TableError) →
    head_refusal (λ over. run_disk over plan) plan.log_size (head_lines.Layer over asked)
    ≡ asked_refusal (least_sectors over plan.log_size) (run_disk over plan) asked
head_refusal_is plan over (Err error) = refl
head_refusal_is plan over (Ok spec) = refl

stood_head : (h : Stage) (seats : Option ℕ) (done : List SeatCall) (line : HeadLine)
    → MayFollowInRun (prefix_of h seats done) (run_lines.Head line)
    → HeadStands h line (is_closed seats done)
stood_head heads.Empty seats done (head_lines.Data n) stands = stands
stood_head (heads.Data d) seats done (head_lines.Log n size) stands = stands
stood_head (heads.Whole d l size) (Some seats) [] (head_lines.Layer disks.Data asked) stands =
    stands
stood_head (heads.Whole d l size) (Some seats) [] (head_lines.Layer disks.Log asked) stands = stands
stood_head h seats done line stands = absurd stands

head_refuses : (h : Stage) (seats : Option ℕ) (done : List SeatCall) (line : HeadLine)
    (refusal : Refusal) → HeadRefused (is_closed seats done) refusal h line
    → Refuses (run_at h seats done) (run_lines.Head line) refusal
head_refuses h seats done line refusal (misplaced k said never same) =
    inl (λ stands. never (stood_head h seats done line stands), same)
head_refuses h (Some seats) [] line refusal (no_layer d l size disks.Data asked may stands why) =
    let plan = run_plan d l size seats [] in
    inr (stands, plan, refl, head_refusal_is plan disks.Data asked ∙ why)
head_refuses h (Some seats) [] line refusal (no_layer d l size disks.Log asked may stands why) =
    let plan = run_plan d l size seats [] in
    inr (stands, plan, refl, head_refusal_is plan disks.Log asked ∙ why)
head_refuses h other rest line refusal (no_layer d l size over asked may stands why) = absurd (cc)

seats_refused : (h : Stage) (seats : Option ℕ) (done : List SeatCall) (count : ℕ)
    (refusal : Refusal) →
    seats_line h seats (run_at h seats done) count ≡ Err refusal
    → Refuses (run_at h seats done) (run_lines.Seats count) refusal
seats_refused (heads.Whole d l size) (Some seats) [] count refusal e = inl (λ stands. stands, cc)
seats_refused (heads.Whole d l size) (Some seats) (line ∷ done) count refusal e =
    inl (λ stands. stands, cc)
seats_refused (heads.Whole d l size) None done count refusal e =
    let p = cond_err (is_seat_count count) (seated d l size count done) BadLine refusal e in
    inl (
      λ stands. let both = sym
          (and_from (nat_le 1 count) (nat_le count 64) (le-leb 1 count stands.0)
          (le-leb count 64 stands.1)) ∙ p.0 in cc,
      p.1,
    )
seats_refused h seats done count refusal e = inl (λ stands. stands, cc)

stands_body : (d l : Disk) (seats : ℕ) (done : List SeatCall) (line : SeatCall)
    → line.seat < seats →
    MayFollowInRun (seated_prefix d l seats done) (run_lines.Body line)
stands_body d l seats [] line below = below
stands_body d l seats (one ∷ done) line below = below

stood_body : (d l : Disk) (seats : ℕ) (done : List SeatCall) (line : SeatCall)
    → MayFollowInRun (seated_prefix d l seats done) (run_lines.Body line) →
    line.seat < seats
stood_body d l seats [] line stands = stands
stood_body d l seats (one ∷ done) line stands = stands

call_refused : (h : Stage) (seats : Option ℕ) (done : List SeatCall) (line : SeatCall)
    (refusal : Refusal) →
    call_line h seats (run_at h seats done) line ≡ Err refusal
    → Refuses (run_at h seats done) (run_lines.Body line) refusal
call_refused (heads.Whole d l size) (Some seats) done line refusal e =
    let p = seated d l size seats done in
    let answer = call_answer (bytes_of size) (top_of d) line.call in
    ⊎_elim
    (λ (h : (nat_lt line.seat seats ≡ false) × (BadLine ≡ refusal)).
    inl (
      λ stands. let both = sym (lt-ltb line.seat seats (stood_body d l seats done line stands))
          ∙ h.0 in cc,
      h.1,
    ))
    (λ (h : (nat_lt line.seat seats ≡ true) × (with_call p line (as_refusal answer) ≡ Err refusal)).
    let failed =
    answered_err answer refusal (made_err (as_refusal answer)
    (λ (fine : Unit {0}). seated d l size seats (done ++ line ∷ [])) refusal h.1) in
    inr (
      stands_body d l seats done line (ltb-true line.seat seats h.0),
      run_plan d l size seats done,
      refl,
      failed,
    ))
    (tested_err (nat_lt line.seat seats) (with_call p line (as_refusal answer)) BadLine refusal e)
call_refused h seats done line refusal e = inl (λ stands. stands, cc)

pub said_refused : (q : RunProgress) (said : RunLine) (refusal : Refusal)
    → said_step q said ≡ Err refusal → Refuses q said refusal
said_refused q (run_lines.Head line) refusal e =
    head_refuses q.head q.seats q.calls line refusal
    (head_refused q.head line (is_closed q.seats q.calls) refusal
    (made_err (head_step q.head (is_closed q.seats q.calls) line)
    (λ (h : Stage). run_at h q.seats q.calls) refusal e))
said_refused q (run_lines.Seats count) refusal e =
    seats_refused q.head q.seats q.calls count refusal e
said_refused q (run_lines.Body line) refusal e = call_refused q.head q.seats q.calls line refusal e

abbrev pub runner_faults : ReaderFaults runner RunPrefix
runner_faults = record {
  order = run_order;
  prefix_of = prefix_at;
  after_lines = λ p. after_lines p.head p.seats p.calls;
  step_refused = said_refused;
  completes = λ p number. completes p.head p.seats p.calls number;
  unfinished_is = λ p. unfinished_is p.head p.seats p.calls;
}
