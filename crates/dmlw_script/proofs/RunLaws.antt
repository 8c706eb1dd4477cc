-- Proves what the reader of run's scripts has read: the facts that `ReaderLaws` needs.
-- Its parser finds a meaning of a line exactly if the line has the fields of this meaning.
use Rattle.std.proofs.Common.{None, ⊎_elim, Ok, refl, ap, ◌∙◌, sym, subst, ◌≡◌, ℕ, ◌≤◌, true, false}
use Rattle.std.proofs.Common.{List, [], ◌∷◌, ◌++◌, append_assoc, Option, Some}
use Rattle.std.specs.Prelude.{◌==◌, codes, map, nat_le, nat_lt, Result}
use Rattle.std.proofs.lemmas.Bool.{and_from, and_parts, cases_Bool, cond-false, cond-true, eqb-true}
use Rattle.std.proofs.lemmas.Bool.{le-leb, leb-true, lt-ltb, ltb-true}
use Rattle.std.proofs.lemmas.List.{append-nil}
use Rattle.std.proofs.lemmas.Option.{cond_some}
use Rattle.std.specs.List.{AllByRecursion}
use Rattle.std.specs.Option.{option_map, option_or}
use Rattle.std.specs.Str.{bytes_eq}
use Rattle.refusals.specs.declared.refusal.Refusal.{Refusal}
use Rattle.refusals.specs.declared.refusal.Refusal.TheVariants.{BadLine}
use Rattle.refusals.specs.Words.{after_byte, before_byte, number_of}
use Rattle.bio.specs.declared.request.SectorSize.{SectorSize}
use Rattle.bio.specs.Requests.{bytes_of}
use Rattle.layer_table.specs.declared.layer_spec.LayerSpec.{LayerSpec}
use Rattle.dmlw_script.proofs.BodyLaws.{told_ok}
use Rattle.dmlw_script.proofs.HeadLaws.{log_top, Takes, IsFineHead, IsHead, sizes_again, tested_ok}
use Rattle.dmlw_script.proofs.HeadLaws.{data_size, data_top, log_size, bodiless, data_push}
use Rattle.dmlw_script.proofs.HeadLaws.{fine_head, head_kept, head_taken, layer_lines, layers_again}
use Rattle.dmlw_script.proofs.HeadLaws.{log_push, map_push}
use Rattle.dmlw_script.proofs.LineParserLaws.{head_read, kept_by, last_number_again}
use Rattle.dmlw_script.proofs.LineParserLaws.{last_number_read, log_again, no_mark}
use Rattle.dmlw_script.proofs.LineParserLaws.{submission_again, submission_read, text_left}
use Rattle.dmlw_script.proofs.ReaderLaws.{ReaderLaw, all_append, bind_at, fold, fold_append, made_ok}
use Rattle.dmlw_script.proofs.RecorderLaws.{fine_submission}
use Rattle.dmlw_script.proofs.WordLaws.{bind_at as bind_word_at, bind_some, chosen, first_some}
use Rattle.dmlw_script.proofs.WordLaws.{map_some, same_bytes, same_some, verb_read}
use Rattle.dmlw_script.specs.declared.command.DiskName.TheVariants as disks
use Rattle.dmlw_script.specs.declared.line.HeadLine.{HeadLine}
use Rattle.dmlw_script.specs.declared.line.HeadLine.TheVariants as head_lines
use Rattle.dmlw_script.specs.declared.run_line.RunCall.{RunCall}
use Rattle.dmlw_script.specs.declared.run_line.RunCall.TheVariants as calls
use Rattle.dmlw_script.specs.declared.run_line.RunLine.{RunLine}
use Rattle.dmlw_script.specs.declared.run_line.RunLine.TheVariants as run_lines
use Rattle.dmlw_script.specs.declared.run_line.SeatCall.{SeatCall}
use Rattle.dmlw_script.specs.Fields.{submission_word, Says as SaysLine, Seat, all_of, call_fields}
use Rattle.dmlw_script.specs.Fields.{run_fields, HasFields, IsLineWith, IsWord}
use Rattle.dmlw_script.specs.FirstFault.{bare}
use Rattle.dmlw_script.specs.Grammar.{of_run, MeansLine}
use Rattle.dmlw_script.specs.inside.Drafts.{◌>>=◌, as_refusal}
use Rattle.dmlw_script.specs.inside.Heads.{head_step, with_log}
use Rattle.dmlw_script.specs.inside.Heads as heads_inside
use Rattle.dmlw_script.specs.inside.LineParser.{seat_call_of, head_words, mark_call, parse_run_line}
use Rattle.dmlw_script.specs.inside.LineParser.{run_head_line, run_line_parts, seat_line, seat_of}
use Rattle.dmlw_script.specs.inside.LineParser.{submission_of}
use Rattle.dmlw_script.specs.inside.Readers.{nothing_read, run_finish_step, said_step, call_line}
use Rattle.dmlw_script.specs.inside.Readers.{finished_run, is_closed, is_seat_count, seats_line}
use Rattle.dmlw_script.specs.inside.Readers.{with_call, with_run_head, RunProgress}
use Rattle.dmlw_script.specs.inside.Stages.{Stage}
use Rattle.dmlw_script.specs.inside.Stages as heads
use Rattle.dmlw_script.specs.Plans.{top_of, Disk}
use Rattle.dmlw_script.specs.RunPlans.{IsAllowed, FitsLine, IsRunPlan, RunPlan, call_answer}
use Rattle.dmlw_script.specs.RunPlans.{data_layer, lines_of_run, log_layer, run_head}
use Rattle.dmlw_script.specs.Words.{is_line_text, is_skipped}

seat_mark_read : (left : Option (List ℕ)) (call : RunCall) → mark_call left ≡ Some call
    → SaysLine (codes "mark") left (call_fields call)
seat_mark_read None call e = absurd (cc)
seat_mark_read (Some text) call e =
    let p = cond_some (is_line_text text) (calls.Mark text) call e in
    subst (λ (x : RunCall). SaysLine (codes "mark") (Some text) (call_fields x)) p.1 (refl, (p.0, refl))

call_read : (verb : List ℕ) (left : Option (List ℕ)) (call : RunCall) → seat_call_of verb left ≡ Some call
    → SaysLine verb left (call_fields call)
call_read verb left call =
    verb_read (λ v c. SaysLine v left (call_fields c)) verb (codes "mark") _ _ call
    (seat_mark_read left call)
    (λ e. let p = map_some calls.Submit (submission_of verb left) call e in
    subst (λ (x : RunCall). SaysLine verb left (call_fields x)) p.2 (submission_read verb left p.0 p.1))

call_left : (call : RunCall) (words : List ℕ) → IsLineWith words (call_fields call)
    → HasFields (all_of (call_fields call)) (Some words)
call_left (calls.Submit submission) words says = says
call_left (calls.Mark text) words says = says

left_call : (call : RunCall) (left : Option (List ℕ)) → HasFields (all_of (call_fields call)) left
    → (words : List ℕ) × (left ≡ Some words) × IsLineWith words (call_fields call)
left_call (calls.Submit submission) (Some words) has = (words, refl, has)
left_call (calls.Mark text) (Some words) has = (words, refl, has)
left_call call left has = absurd has

seat_read : (verb : List ℕ) (seat : ℕ) → seat_of verb ≡ Some seat → IsWord verb (Seat seat)
seat_read [] seat e = absurd (cc)
seat_read (byte ∷ word) seat e =
    chosen (byte == 115) _ _ (Some seat) e (λ s is.
    (word, is, rw (eqb-true byte 115 s)))
    (λ other none. absurd (cc none))

abbrev SaysRun : List ℕ → List ℕ → RunLine → Type 0
SaysRun words verb said = SaysLine verb (Some words) (run_fields said)

seat_line_read : (verb words : List ℕ) (said : RunLine) → seat_line verb words ≡ Some said
    → SaysRun words verb said
seat_line_read verb words said e =
    let a = bind_some (seat_of verb) _ said e in
    let b = bind_some (seat_call_of (before_byte 32 words) (after_byte 32 words)) _ said a.2 in
    subst (λ (x : RunLine). SaysRun words verb x)
    (same_some (run_lines.Body (record { seat = a.0; call = b.0 })) said b.2)
    (seat_read verb a.0 a.1, call_left b.0 words (call_read _ _ b.0 b.1))

run_head_read : (verb words : List ℕ) (said : RunLine) → run_head_line verb words ≡ Some said
    → SaysRun words verb said
run_head_read verb words said =
    verb_read (SaysRun words) verb (codes "seats") _ _ said
    (λ e. let p = map_some run_lines.Seats (number_of words) said e in
    subst (λ (x : RunLine). SaysRun words (codes "seats") x) p.2
    (refl, last_number_read words p.0 p.1))
    (λ (head : option_map run_lines.Head (head_words verb words) ≡ Some said).
    let p = map_some run_lines.Head (head_words verb words) said head in
    subst (λ (x : RunLine). SaysRun words verb x) p.2 (head_read verb words p.0 p.1))

run_parts_read : (verb : List ℕ) (left : Option (List ℕ)) (said : RunLine)
    → run_line_parts verb left ≡ Some said → SaysLine verb left (run_fields said)
run_parts_read verb None said e = absurd (cc)
run_parts_read verb (Some words) said e =
    ⊎_elim (run_head_read verb words said) (seat_line_read verb words said)
    (first_some (run_head_line verb words) _ said e)

pub says_run : (line : List ℕ) (said : RunLine) → parse_run_line line ≡ Some said
    → MeansLine line said
says_run line said e = run_parts_read (before_byte 32 line) (after_byte 32 line) said e

call_again : (call : RunCall) (words : List ℕ) → IsLineWith words (call_fields call)
    → seat_call_of (before_byte 32 words) (after_byte 32 words) ≡ Some call
call_again (calls.Submit submission) words says =
    let left = after_byte 32 words in
    let heard = submission_again submission (submission_word submission) left refl says.1 in
    ap (λ (v : List ℕ). seat_call_of v left) says.0 ∙ cond-false _ _ _ (no_mark submission)
    ∙ ap (option_map calls.Submit) heard
call_again (calls.Mark text) words says =
    let t = text_left text (after_byte 32 words) says.1 in
    ap (λ (v : List ℕ). seat_call_of v (after_byte 32 words)) says.0
    ∙ ap (seat_call_of (codes "mark")) t.0 ∙ cond-true _ _ _ t.1

-- A seat's word is `s` and a number, so it is never the word `seats`.
not_seats : (word : List ℕ) (seat : ℕ) → number_of word ≡ Some seat
    → bytes_eq word (codes "eats") ≡ false
not_seats word seat is =
    ⊎_elim
    (λ (same : bytes_eq word (codes "eats") ≡ true).
    absurd (let both = sym is
    ∙ ap number_of (same_bytes word (codes "eats") same) in cc))
    (λ (other : bytes_eq word (codes "eats") ≡ false). other)
    (cases_Bool (bytes_eq word (codes "eats")))

not_head : (word words : List ℕ) (seat : ℕ) → number_of word ≡ Some seat
    → run_head_line (codes "s" ++ word) words ≡ None
not_head word words seat is =
    rw (not_seats word seat is)

abbrev heard_head : Option HeadLine → Option RunLine
heard_head s = option_or (option_map run_lines.Head s) None

run_parts_again : (said : RunLine) (verb : List ℕ) (left : Option (List ℕ))
    → SaysLine verb left (run_fields said) → run_line_parts verb left ≡ Some said
run_parts_again (run_lines.Head (head_lines.Data n)) verb (Some words) says =
    rw says.0 (ap (λ (k : Option ℕ). heard_head (option_map head_lines.Data k))
    (last_number_again words n says.1))
run_parts_again (run_lines.Head (head_lines.Log n size)) verb (Some words) says =
    rw says.0 (ap heard_head (log_again words n size says.1))
run_parts_again (run_lines.Head (head_lines.Layer disks.Data asked)) verb (Some words) says =
    rw says.0 (ap (λ k. Some (run_lines.Head (head_lines.Layer disks.Data k))) says.1)
run_parts_again (run_lines.Head (head_lines.Layer disks.Log asked)) verb (Some words) says =
    rw says.0 (ap (λ k. Some (run_lines.Head (head_lines.Layer disks.Log k))) says.1)
run_parts_again (run_lines.Seats n) verb (Some words) says =
    rw says.0 (ap (λ (k : Option ℕ). option_or (option_map run_lines.Seats k) None)
    (last_number_again words n says.1))
run_parts_again (run_lines.Body said) verb left says =
    let l = left_call said.call left says.1 in
    ap (run_line_parts verb) l.1
    ∙ ap (λ (v : List ℕ). run_line_parts v (Some l.0)) says.0.2
    ∙ ap (λ (head : Option RunLine). option_or head (seat_line (115 ∷ says.0.0) l.0))
    (not_head says.0.0 l.0 said.seat says.0.1)
    ∙ bind_word_at _ _ _ _ says.0.1
    (bind_word_at _ _ _ _ (call_again said.call l.0 l.2) refl)
run_parts_again said verb left says = absurd says.1

pub parses_run : (line : List ℕ) (said : RunLine) → MeansLine line said
    → parse_run_line line ≡ Some said
parses_run line said says = run_parts_again said (before_byte 32 line) (after_byte 32 line) says

comment_parts : (word : List ℕ) (rest : Option (List ℕ)) → run_line_parts (35 ∷ word) rest ≡ None
comment_parts word None = refl
comment_parts word (Some words) = refl

pub run_said_kept : (line : List ℕ) (said : RunLine) → MeansLine line said → is_skipped line ≡ false
run_said_kept line said says =
    kept_by parse_run_line refl (λ l. comment_parts (before_byte 32 l) (after_byte 32 l)) line said
    (parses_run line said says)

-- What a line's own words guarantee about its meaning.
abbrev pub IsFineRunLine : RunLine → Type 0
IsFineRunLine (run_lines.Head line) = IsFineHead line
IsFineRunLine (run_lines.Seats count) = Unit {0}
IsFineRunLine (run_lines.Body line) = FitsLine line.call

fine_call : (call : RunCall) (left : Option (List ℕ)) → HasFields (all_of (call_fields call)) left
    → FitsLine call
fine_call (calls.Submit submission) (Some words) has =
    fine_submission submission (after_byte 32 words) has.1
fine_call (calls.Mark text) (Some words) has =
    let t = text_left text (after_byte 32 words) has.1 in t.1
fine_call call left has = absurd has

pub fine_run_line : (line : List ℕ) (said : RunLine) → MeansLine line said → IsFineRunLine said
fine_run_line line (run_lines.Head said) says =
    fine_head said (before_byte 32 line) (after_byte 32 line) says
fine_run_line line (run_lines.Seats count) says = tt
fine_run_line line (run_lines.Body said) says = fine_call said.call (after_byte 32 line) says.1

abbrev pub run_at : Stage → Option ℕ → List SeatCall → RunProgress
run_at head seats calls = record { head = head; seats = seats; calls = calls }

abbrev pub seated : Disk → Disk → SectorSize → ℕ → List SeatCall → RunProgress
seated d l size seats calls = run_at (heads.Whole d l size) (Some seats) calls

abbrev pub run_plan : Disk → Disk → SectorSize → ℕ → List SeatCall → RunPlan
run_plan d l size seats calls =
    record { data_disk = d; log_disk = l; log_size = size; seats = seats; calls = calls }

-- Before the number of seats is read, there are no layers and no calls.
abbrev pub HasSeats : Stage → Option ℕ → List SeatCall → Type 0
HasSeats heads.Empty None [] = Unit {0}
HasSeats (heads.Data d) None [] = Unit {0}
HasSeats (heads.Whole d l size) None [] = (d.layers ≡ []) × (l.layers ≡ [])
HasSeats (heads.Whole d l size) (Some seats) calls =
    (1 ≤ seats) × (seats ≤ 64) × AllByRecursion (IsAllowed (bytes_of size) (top_of d) seats) calls
HasSeats _ _ _ = ⊥

-- The state is that of a reader that has read a prefix of a run's script.
abbrev pub IsRunBegun : RunProgress → Type 0
IsRunBegun p = IsHead p.head × HasSeats p.head p.seats p.calls

abbrev pub lines_so_far : Stage → Option ℕ → List SeatCall → List RunLine
lines_so_far (heads.Data d) seats calls = run_lines.Head (head_lines.Data d.sectors) ∷ []
lines_so_far (heads.Whole d l size) None calls =
    run_lines.Head (head_lines.Data d.sectors) ∷ run_lines.Head (head_lines.Log l.sectors size) ∷ []
lines_so_far (heads.Whole d l size) (Some seats) calls =
    lines_of_run (run_plan d l size seats calls)
lines_so_far _ seats calls = []

abbrev pub lines_of_progress : RunProgress → List RunLine
lines_of_progress p = lines_so_far p.head p.seats p.calls

-- The state `q` is the state `p` after one more line with the meaning `said`.
abbrev pub GrowsTo : RunProgress → RunProgress → RunLine → Type 0
GrowsTo p q said =
    IsRunBegun q × (lines_of_progress q ≡ lines_of_progress p ++ said ∷ [])

abbrev three : Disk → Disk → SectorSize → ℕ → List RunLine → List RunLine
three d l size seats more =
    run_lines.Head (head_lines.Data d.sectors) ∷ run_lines.Head
    (head_lines.Log l.sectors size) ∷ run_lines.Seats seats ∷ more

-- A head line keeps the condition on the seats, and adds one line to those that were read.
head_adds : (h k : Stage) (seats : Option ℕ) (done : List SeatCall) (line : HeadLine)
    → Takes (is_closed seats done) h line k → IsRunBegun (run_at h seats done)
    → HasSeats k seats done
    × (lines_so_far k seats done ≡ lines_so_far h seats done ++ run_lines.Head line ∷ [])
head_adds h k None [] line (data_size n fits) begun = (tt, refl)
head_adds h k None [] line (log_size d n size fits) begun = ((begun.0.1, refl), refl)
head_adds h k (Some seats) [] line (data_top d l size spec may none fits) begun = (
  begun.1,
  ap (three d l size seats) (bodiless _ _ _ (data_push data_layer log_layer d l spec none)),
)
head_adds h k (Some seats) [] line (log_top d l size spec may fits) begun = (
  begun.1,
  ap (three d l size seats) (bodiless _ _ _ (log_push data_layer log_layer d l spec)),
)
head_adds h k None done line (data_top d l size spec may none fits) begun = absurd (cc)
head_adds h k None done line (log_top d l size spec may fits) begun = absurd (cc)
head_adds h k (Some seats) (one ∷ done) line (data_top d l size spec may none fits) begun =
    absurd (cc)
head_adds h k (Some seats) (one ∷ done) line (log_top d l size spec may fits) begun = absurd (cc)
head_adds h k seats done line taken begun = absurd (begun.1)

seats_grown : (h : Stage) (seats : Option ℕ) (done : List SeatCall) (q : RunProgress) (count : ℕ)
    → seats_line h seats (run_at h seats done) count ≡ Ok q → IsRunBegun (run_at h seats done)
    → GrowsTo (run_at h seats done) q (run_lines.Seats count)
seats_grown (heads.Whole d l size) None (one ∷ done) q count e begun = absurd (begun.1)
seats_grown (heads.Whole d l size) None [] q count e begun =
    let p = tested_ok (is_seat_count count) (Ok (seated d l size count [])) q BadLine e in
    let same : seated d l size count [] ≡ q = (let last = p.1 in cc) in
    let few : (nat_le 1 count ≡ true) × (nat_le count 64 ≡ true) =
    and_parts (nat_le 1 count) (nat_le count 64) p.0 in
    rw (← same) (
      (begun.0, (leb-true 1 count few.0, leb-true count 64 few.1, tt)),
      rw
          (begun.1.0, begun.1.1) refl,
    )
seats_grown h seats done q count e begun = absurd (cc e)

call_grown : (h : Stage) (seats : Option ℕ) (done : List SeatCall) (q : RunProgress)
    (line : SeatCall) → call_line h seats (run_at h seats done) line ≡ Ok q →
    FitsLine line.call → IsRunBegun (run_at h seats done) →
    GrowsTo (run_at h seats done) q (run_lines.Body line)
call_grown (heads.Whole d l size) (Some seats) done q line e fine begun =
    let p = seated d l size seats done in
    let answer = call_answer (bytes_of size) (top_of d) line.call in
    let g = tested_ok (nat_lt line.seat seats) (with_call p line (as_refusal answer)) q BadLine e in
    let r = made_ok (as_refusal answer)
    (λ (fine : Unit {0}). seated d l size seats (done ++ line ∷ [])) q g.1 in
    let stands : IsAllowed (bytes_of size) (top_of d) seats line =
    record {
      seat = ltb-true line.seat seats g.0;
      tested = told_ok answer r.0 r.1;
      spelled = fine;
    } in
    rw (← r.2) (
      (
        begun.0,
        (
          begun.1.0,
          begun.1.1,
          all_append (IsAllowed (bytes_of size) (top_of
              d) seats) done (line ∷ []) begun.1.2 (stands, tt),
        ),
      ),
      map_push run_lines.Body (run_head
          (run_plan d l size seats done)) done line,
    )
call_grown h seats done q line e fine begun = absurd (cc e)

pub said_grown : (p q : RunProgress) (said : RunLine) → said_step p said ≡ Ok q
    → IsFineRunLine said → IsRunBegun p → GrowsTo p q said
said_grown p q (run_lines.Head line) e fine begun =
    let r = made_ok (head_step p.head (is_closed p.seats p.calls) line)
    (λ (h : Stage). run_at h p.seats p.calls) q e in
    let taken = head_taken p.head r.0 line (is_closed p.seats p.calls) r.1 in
    let more = head_adds p.head r.0 p.seats p.calls line taken begun in
    subst (λ (x : RunProgress). GrowsTo p x (run_lines.Head line)) r.2
    ((head_kept (is_closed p.seats p.calls) p.head r.0 line taken fine begun.0, more.0), more.1)
said_grown p q (run_lines.Seats count) e fine begun =
    seats_grown p.head p.seats p.calls q count e begun
said_grown p q (run_lines.Body line) e fine begun =
    call_grown p.head p.seats p.calls q line e fine begun

pub finished_grown : (h : Stage) (seats : Option ℕ) (done : List SeatCall) (plan : RunPlan)
    → finished_run h seats done ≡ Ok plan → IsRunBegun (run_at h seats done)
    → (lines_so_far h seats done ≡ lines_of_run plan) × IsRunPlan plan
finished_grown (heads.Whole d l size) (Some seats) done plan e begun =
    let same : run_plan d l size seats done ≡ plan = cc in
    rw (← same) (
      refl,
      record {
        data_disk = begun.0.0;
        log_disk = begun.0.1;
        room = begun.0.2;
        some_seat = begun.1.0;
        few_seats = begun.1.1;
        calls = begun.1.2;
      },
    )
finished_grown h seats done plan e begun = absurd (cc e)

calls_read : (d l : Disk) (size : SectorSize) (seats : ℕ) (done lines : List SeatCall)
    → AllByRecursion (IsAllowed (bytes_of size) (top_of d) seats) lines →
    fold said_step (seated d l size seats done) (map run_lines.Body lines)
    ≡ Ok (seated d l size seats (done ++ lines))
calls_read d l size seats done [] all =
    ap (λ (ls : List SeatCall). Ok (seated d l size seats ls)) (sym (append-nil done))
calls_read d l size seats done (line ∷ lines) all =
    let p = seated d l size seats done in
    let stands = all.0 in
    bind_at _ _ _ _ (cond-true _ _ _ (lt-ltb line.seat seats stands.seat)
    ∙ ap (λ r. with_call p line (as_refusal r)) stands.tested)
    (calls_read d l size seats (done ++ line ∷ []) lines all.1
    ∙ ap (λ (ls : List SeatCall). Ok (seated d l size seats ls))
    (append_assoc done (line ∷ []) lines))

pub script_read : (plan : RunPlan) → IsRunPlan plan
    → (fold said_step nothing_read (lines_of_run plan) >>= run_finish_step) ≡ Ok plan
script_read plan is =
    let d = plan.data_disk in
    let l = plan.log_disk in
    let size = plan.log_size in
    let seats = plan.seats in
    let sized = run_at (heads.Whole (bare d.sectors) (bare l.sectors) size) None [] in
    let counted = seated (bare d.sectors) (bare l.sectors) size seats [] in
    let headed = seated d l size seats [] in
    let first = run_at (heads.Data (bare d.sectors)) None [] in
    let sizes = sizes_again d l size is.data_disk is.log_disk is.room in
    let few : is_seat_count seats ≡ true =
    and_from _ _ (le-leb 1 seats is.some_seat) (le-leb seats 64 is.few_seats) in
    let one : said_step nothing_read (run_lines.Head (head_lines.Data d.sectors)) ≡ Ok first =
    ap (with_run_head nothing_read) (cond-true _ _ _ sizes.0) in
    let two : said_step first (run_lines.Head (head_lines.Log l.sectors size)) ≡ Ok sized =
    ap (with_run_head first) (cond-true _ _ _ sizes.1) in
    let third : said_step sized (run_lines.Seats seats) ≡ Ok counted = cond-true _ _ _ few in
    let layers =
    layers_again data_layer log_layer said_step (λ (x y : Disk). seated x y size seats []) size
    (λ x top y layer none taken.
    ap (λ (ls : List LayerSpec). with_run_head (seated x y size seats [])
    (heads_inside.data_layer ls x y size (Ok layer))) none
    ∙ ap (λ (r : Result Disk Refusal). with_run_head (seated x y size seats [])
    (heads_inside.with_data r y size)) taken)
    (λ x y top layer taken. ap (λ (r : Result Disk Refusal).
    with_run_head (seated x y size seats []) (with_log x r size)) taken)
    d l is.data_disk is.log_disk is.room in
    let rest =
    fold_append said_step counted headed (layer_lines data_layer log_layer d l)
    (map run_lines.Body plan.calls) layers
    ∙ calls_read d l size seats [] plan.calls is.calls in
    bind_at _ _ _ _ (bind_at _ _ _ _ one (bind_at _ _ _ _ two (bind_at _ _ _ _ third rest))) refl

abbrev pub runner : ReaderLaw RunProgress RunLine RunPlan
runner = record {
  parse = parse_run_line;
  language = of_run;
  parse_says = says_run;
  says_parse = parses_run;
  start = nothing_read;
  step = said_step;
  finish = run_finish_step;
  IsFine = IsFineRunLine;
  fine_said = fine_run_line;
  IsBegun = IsRunBegun;
  lines_so_far = lines_of_progress;
  start_begun = (tt, tt);
  start_lines = refl;
  step_grows = said_grown;
  finish_grows = λ p plan. finished_grown p.head p.seats p.calls plan;
  script_again = script_read;
}
