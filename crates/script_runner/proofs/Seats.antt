-- Proves what one line adds to the calls of a seat, to its tally and to its receipts.
use Rattle.std.proofs.Common.{◌≡◌, ◌∙◌, ℕ, zero, suc, ◌+◌, ◌-◌, ◌^◌, ◌<◌, ◌≤◌, Bool, true, false}
use Rattle.std.proofs.Common.{List, [], ◌∷◌, ◌++◌, ◌==◌, if◌then◌else◌, length, take, slice_get}
use Rattle.std.proofs.Common.{Option, None, Some, not, ap, append_assoc, arith, inl, inr, refl}
use Rattle.std.proofs.Common.{subst, sym}
use Rattle.std.specs.List.{AllByRecursion}
use Rattle.std.proofs.lemmas.Bool.{and_from, and_parts}
use Rattle.std.proofs.lemmas.Bool.Decides.{nat_tests}
use Rattle.bio.specs.declared.outcome.DevError.TheVariants as devices
use Rattle.bio.specs.Events.{is_text}
use Rattle.dmlw_script.specs.declared.command.Submission.{Submission}
use Rattle.dmlw_script.specs.declared.run_line.RunCall.{RunCall}
use Rattle.dmlw_script.specs.declared.run_line.RunCall.TheVariants.{Mark, Submit}
use Rattle.dmlw_script.specs.declared.run_line.SeatCall.{SeatCall}
use Rattle.dmlw_script.specs.Words.{is_line_byte, is_line_text}
use Rattle.lock_state.specs.Comparison.{Receipt}
use Rattle.lock_state.specs.History.{Part, one_if}
use Rattle.script_runner.specs.declared.tally.Outcome.{Outcome}
use Rattle.script_runner.specs.declared.tally.Outcome.TheVariants.{Done, Failed, Logged, NotLogged}
use Rattle.script_runner.specs.declared.tally.Outcome.TheVariants.{Refused}
use Rattle.script_runner.specs.declared.tally.Tally.{Tally}
use Rattle.script_runner.specs.inside.{DoesLine, DoesLines, MakesSeatCall, PlayerView}
use Rattle.script_runner.specs.SeatRuns.{tally_of, mark_receipt_in, outcome_of, receipt_in}
use Rattle.script_runner.specs.SeatRuns.{receipts_of, is_failed, is_logged, is_not_logged}
use Rattle.script_runner.specs.SeatRuns.{is_refused, mark_outcome, CallResult, TallyHasRoom, and_kept}
use Rattle.script_runner.specs.SeatRuns.{tally_with, how_many, is_done, AreMade, MakesCall, IsSeatRun}
use Rattle.script_runner.specs.SeatRuns.{seat_calls}
use Rattle.script_runner.specs.Submissions.{bio_of}
use Rattle.shared.specs.SeatCalls.{Answered, AddsMark}
use Rattle.shared.specs.declared.answer.Answer.{Answer}
use Rattle.shared.specs.declared.answer.Answer.TheVariants as answers
use Rattle.shared.specs.declared.answer.MarkAnswer.{MarkAnswer}
use Rattle.shared.specs.declared.answer.MarkAnswer.TheVariants as marks
use Rattle.shared.specs.declared.answer.MarkRefusal.TheVariants as refusals

pub own_more : (number : ℕ) (before : List SeatCall) (line : SeatCall)
    → (line.seat == number) ≡ true
    → seat_calls number (before ++ line ∷ []) ≡ seat_calls number before ++ line.call ∷ []
own_more number [] line own = rw own refl
own_more number (first ∷ before) line own =
    also (first.seat == number) (own_more number before line own)
  where
    also : (here : Bool) → seat_calls number (before ++ line ∷ [])
        ≡ seat_calls number before ++ line.call ∷ []
        → (if here then first.call ∷ seat_calls number (before ++ line ∷ []) else seat_calls number
        (before ++ line ∷ []))
        ≡ (if here then first.call ∷ seat_calls number before else seat_calls number before)
        ++ line.call ∷ []
    also true rest = grind (arith, rest)
    also false rest = rest

pub other_more : (number : ℕ) (before : List SeatCall) (line : SeatCall)
    → (line.seat == number) ≡ false
    → seat_calls number (before ++ line ∷ []) ≡ seat_calls number before
other_more number [] line other = rw other refl
other_more number (first ∷ before) line other =
    also (first.seat == number) (other_more number before line other)
  where
    also : (here : Bool) → seat_calls number (before ++ line ∷ []) ≡ seat_calls number before
        → (if here then first.call ∷ seat_calls number (before ++ line ∷ []) else seat_calls number
        (before ++ line ∷ []))
        ≡ (if here then first.call ∷ seat_calls number before else seat_calls number before)
    also true rest = grind (arith, rest)
    also false rest = rest

own_few : (number : ℕ) (lines : List SeatCall) → length (seat_calls number lines) ≤ length lines
own_few number [] = omega arith
own_few number (line ∷ lines) = also (line.seat == number) (own_few number lines)
  where
    also : (here : Bool) → length (seat_calls number lines) ≤ length lines
        → length (if here then line.call ∷ seat_calls number lines else seat_calls number lines) ≤ suc
        (length lines)
    also true few = omega (arith, few)
    also false few = omega (arith, few)

made_more : (old between new : Part) (calls : List RunCall) (comes : List CallResult) (call : RunCall)
    (came : CallResult)
    → AreMade old calls comes between → MakesCall between call came new
    → AreMade old (calls ++ call ∷ []) (comes ++ came ∷ []) new
made_more old between new [] [] call came made one =
    (new, rw (← made) one, refl)
made_more old between new [] (first ∷ comes) call came made one = absurd made
made_more old between new (first ∷ calls) [] call came made one = absurd made
made_more old between new (first ∷ calls) (one_came ∷ comes) call came made one =
    (made.0, made.1, made_more made.0 between new calls comes call came made.2 one)

made_length : (old new : Part) (calls : List RunCall) (comes : List CallResult)
    → AreMade old calls comes new
    → length comes ≡ length calls
made_length old new [] [] made = refl
made_length old new [] (came ∷ comes) made = absurd made
made_length old new (call ∷ calls) [] made = absurd made
made_length old new (call ∷ calls) (came ∷ comes) made =
    ap suc (made_length made.0 new calls comes made.2)

many_yes : (test : Outcome → Bool) (comes : List CallResult) (came : CallResult)
    → test came.outcome ≡ true
    → how_many test (comes ++ came ∷ []) ≡ how_many test comes + 1
many_yes test [] came is = let one = ap one_if is in omega (arith, one)
many_yes test (first ∷ comes) came is =
    let rest = many_yes test comes came is in omega (arith, rest)

many_no : (test : Outcome → Bool) (comes : List CallResult) (came : CallResult)
    → test came.outcome ≡ false
    → how_many test (comes ++ came ∷ []) ≡ how_many test comes
many_no test [] came is = let none = ap one_if is in omega (arith, none)
many_no test (first ∷ comes) came is =
    grind (arith, many_no test comes came is)

at_most_one : (b : Bool) → one_if b ≤ 1
at_most_one true = omega arith
at_most_one false = omega arith

many_few : (test : Outcome → Bool) (comes : List CallResult) → how_many test comes ≤ length comes
many_few test [] = omega arith
many_few test (first ∷ comes) =
    let rest = many_few test comes in
    let one = at_most_one (test first.outcome) in omega (arith, rest, one)

abbrev came_to : Outcome → Option Receipt → CallResult
came_to outcome receipt = record { outcome = outcome; receipt = receipt }

tally_more : (comes : List CallResult) (outcome : Outcome) (receipt : Option Receipt)
    → tally_of (comes ++ came_to outcome receipt ∷ []) ≡ tally_with (tally_of comes) outcome
tally_more comes Done receipt = grind (arith, many_yes, many_no)
tally_more comes Logged receipt = grind (arith, many_no, many_yes)
tally_more comes Failed receipt = grind (arith, many_no, many_yes)
tally_more comes NotLogged receipt = grind (arith, many_no, many_yes)
tally_more comes Refused receipt = grind (arith, many_no, many_yes)

-- No count is larger than the number of calls, so each count can grow by one.
has_room : (comes : List CallResult) → length comes < 2 ^ 64 - 1 → TallyHasRoom (tally_of comes)
has_room comes few = record {
  done = let most = many_few is_done comes in omega (arith, most, few);
  logged = let most = many_few is_logged comes in omega (arith, most, few);
  failed = let most = many_few is_failed comes in omega (arith, most, few);
  not_logged = let most = many_few is_not_logged comes in omega (arith, most, few);
  refused = let most = many_few is_refused comes in omega (arith, most, few);
}

kept_behind : (some receipts : List Receipt) (receipt : Option Receipt)
    → some ++ and_kept receipts receipt ≡ and_kept (some ++ receipts) receipt
kept_behind some receipts None = refl
kept_behind some receipts (Some receipt) = sym (append_assoc some receipts (receipt ∷ []))

kept_alone : (receipt : Option Receipt) → and_kept [] receipt ++ [] ≡ and_kept [] receipt
kept_alone None = refl
kept_alone (Some receipt) = refl

kept_more : (comes : List CallResult) (came : CallResult)
    → receipts_of (comes ++ came ∷ []) ≡ and_kept (receipts_of comes) came.receipt
kept_more [] came = kept_alone came.receipt
kept_more (first ∷ comes) came =
    ap (λ (rest : List Receipt). and_kept [] first.receipt ++ rest) (kept_more comes came)
    ∙ kept_behind (and_kept [] first.receipt) (receipts_of comes) came.receipt

pub makes_request : (submission : Submission) (inside old : PlayerView) (part : Part)
    (answer : Answer Receipt)
    (outcome : Outcome) (given : Option Receipt) (receipts : List Receipt)
    → inside ≡ old → Answered inside.part (bio_of submission) answer part
    → outcome ≡ outcome_of answer → given ≡ receipt_in answer
    → receipts ≡ and_kept inside.receipts given
    → MakesSeatCall (Submit submission) old outcome
    (record { number = inside.number; part = part; tally = inside.tally; receipts = receipts })
makes_request submission inside old part answer outcome given receipts same answered so has kept =
    record {
      came = came_to (outcome_of answer) (receipt_in answer);
      made = grind arith;
      told = sym so;
      kept =
          grind (arith, kept, same, ap (and_kept old.receipts) has);
      number = grind (arith, same);
      tally = grind (arith, same);
    }

pub makes_mark : (text : List ℕ) (inside old : PlayerView) (part : Part)
    (answer : MarkAnswer Receipt)
    (outcome : Outcome) (given : Option Receipt) (receipts : List Receipt)
    → inside ≡ old → AddsMark inside.part text answer part → outcome ≡ mark_outcome answer
    → given ≡ mark_receipt_in answer → receipts ≡ and_kept inside.receipts given
    → MakesSeatCall (Mark text) old outcome
    (record { number = inside.number; part = part; tally = inside.tally; receipts = receipts })
makes_mark text inside old part answer outcome given receipts same marked so has kept = record {
  came = came_to (mark_outcome answer) (mark_receipt_in answer);
  made = (answer, rw (← same) marked, refl);
  told = sym so;
  kept =
      grind (arith, kept, same, ap (and_kept old.receipts) has);
  number = grind (arith, same);
  tally = grind (arith, same);
}

-- If memory runs out, a request has failed, a mark is refused, and the seat is unchanged.
pub fails : (submission : Submission) (old new : PlayerView) → new ≡ old
    → MakesSeatCall (Submit submission) old Failed new
fails submission old new same = record {
  came = came_to Failed None;
  made = (answers.Failed devices.Memory, inl (grind (arith, same), inr refl), refl);
  told = refl;
  kept = grind (arith, same);
  number = grind (arith, same);
  tally = grind (arith, same);
}

pub refused : (text : List ℕ) (old new : PlayerView) → new ≡ old → MakesSeatCall (Mark text) old Refused new
refused text old new same = record {
  came = came_to Refused None;
  made = (marks.Refused refusals.Memory, grind (arith, same), refl);
  told = refl;
  kept = grind (arith, same);
  number = grind (arith, same);
  tally = grind (arith, same);
}

pub did_own : (old new : PlayerView) (tally : Tally) (line : SeatCall) (outcome : Outcome)
    → (line.seat == old.number) ≡ true
    → MakesSeatCall line.call old outcome new → (TallyHasRoom old.tally → tally ≡ tally_with old.tally outcome)
    → (before : List SeatCall) → length before < 2 ^ 64 - 1
    → IsSeatRun before old.number old.part old.tally old.receipts
    → IsSeatRun (before ++ line ∷ []) old.number new.part tally new.receipts
did_own old new tally line outcome own makes counts before few ran =
    grind (
      arith,
      length ran.calls,
      made_length _ _ _ _ ran.made,
      own_few old.number before,
      has_room ran.calls (omega (
        arith,
        made_length _ _ _ _ ran.made,
        own_few old.number before,
        few,
      )),
      own_more,
      made_more,
      tally_more ran.calls makes.came.outcome makes.came.receipt,
      kept_more ran.calls makes.came,
    )

pub did_other : (old : PlayerView) (line : SeatCall) → (line.seat == old.number) ≡ false
    → (before : List SeatCall) → length before < 2 ^ 64 - 1
    → IsSeatRun before old.number old.part old.tally old.receipts
    → IsSeatRun (before ++ line ∷ []) old.number old.part old.tally old.receipts
did_other old line other before few ran = record {
  calls = ran.calls;
  made =
      rw (other_more old.number before line other) ran.made;
  told = ran.told;
  kept = ran.kept;
}

pub skips : (line : SeatCall) (inside old : PlayerView) → inside ≡ old
    → (line.seat == inside.number) ≡ false → DoesLine line old old
skips line inside old same other =
    rw (← same) (record { number = refl; ran = did_other inside line other })

pub does : (line : SeatCall) (inside old second made : PlayerView) (tally : Tally) (outcome : Outcome)
    → inside ≡ old → second ≡ made
    → (line.seat == inside.number) ≡ true → MakesSeatCall line.call old outcome made
    → (TallyHasRoom second.tally → tally ≡ tally_with second.tally outcome)
    → DoesLine line old (record {
      number = second.number;
      part = second.part;
      tally = tally;
      receipts = second.receipts;
    })
does line inside old second made tally outcome same later own makes counts = record {
  number = grind (arith, later, makes.number);
  ran =
      did_own old second tally line outcome
      (rw (← same) own)
      (rw later makes)
      (subst (λ (t : Tally). TallyHasRoom t → tally ≡ tally_with t outcome)
      (grind (arith, later, makes.tally)) counts);
}

pub did_more : (lines : List SeatCall) (line : SeatCall) (old between new : PlayerView)
    → length lines < 2 ^ 64 - 1
    → DoesLines lines old between → DoesLine line between new
    → DoesLines (lines ++ line ∷ []) old new
did_more lines line old between new few does one = record {
  number = one.number ∙ does.number;
  ran = λ number is.
      grind arith;
}

take_few : {A : Type 0} (n : ℕ) (xs : List A) → length (take n xs) ≤ n
take_few zero xs = omega arith
take_few (suc n) [] = omega arith
take_few (suc n) (x ∷ xs) = let rest = take_few n xs in omega (arith, rest)

pub take_next : {A : Type 0} (xs : List A) (n : ℕ) (x : A) → slice_get xs n ≡ Some x
    → take (suc n) xs ≡ take n xs ++ x ∷ []
take_next [] n x there = absurd (cc)
take_next (y ∷ ys) zero x there = ap (λ z. z ∷ []) (cc)
take_next (y ∷ ys) (suc n) x there = ap (λ zs. y ∷ zs) (take_next ys n x there)

pub does_next : (lines : List SeatCall) (place next : ℕ) (line : SeatCall)
    (old between new : PlayerView) → next ≡ suc place → place < 2 ^ 64 - 1
    → slice_get lines place ≡ Some line → DoesLines (take place lines) old between
    → DoesLine line between new → DoesLines (take next lines) old new
does_next lines place next line old between new is few there before one =
    subst (λ (ls : List SeatCall). DoesLines ls old new)
    (sym (grind (arith, is, take_next lines place line there)))
    (did_more (take place lines) line old between new
    (let short = take_few place lines in omega (arith, short, few)) before one)

stands : {A : Type 0} (P : A → Type 0) (xs : List A) (k : ℕ) (x : A) → AllByRecursion P xs
    → slice_get xs k ≡ Some x → P x
stands P [] k x all there = absurd (cc)
stands P (y ∷ xs) zero x all there = subst P (cc) all.0
stands P (y ∷ xs) (suc k) x all there = stands P xs k x all.1 there

byte_is_text : (byte : ℕ) → is_line_byte byte ≡ true → not (byte == 0) ≡ true
byte_is_text byte plain = grind (arith, nat_tests)

pub line_is_text : (text : List ℕ) → is_line_text text ≡ true → is_text text ≡ true
line_is_text [] plain = refl
line_is_text (byte ∷ text) plain =
    let parts = and_parts (is_line_byte byte) (is_line_text text) plain in
    and_from _ _ (byte_is_text byte parts.0) (line_is_text text parts.1)
