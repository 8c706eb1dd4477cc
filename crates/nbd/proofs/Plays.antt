-- The steps of a session, one after another.
use Rattle.std.proofs.Common.{◌≡◌, ◌∙◌, ◌++◌, ℕ, List, [], ◌∷◌, Option, Some, append-nil, append_assoc}
use Rattle.std.proofs.Common.{ap, length, refl, subst, sym}
use Rattle.std.specs.List.{flat_map}
use Rattle.std.proofs.lemmas.Grind.{flat_map-append}
use Rattle.std.proofs.KnownBytes.{Consumes-nil, Consumes-trans}
use Rattle.std.specs.Io.KnownBytes.{Appends, Consumes}
use Rattle.std.specs.Prelude.{Bool, Err, IfOk, Ok, OnOk, Result, false, true}
use Rattle.blockdev.specs.declared.device.BlockDev.{Ghosts}
use Rattle.nbd.specs.declared.fault.RequestFault.{RequestFault}
use Rattle.nbd.specs.declared.server.Server.{Server}
use Rattle.nbd.specs.declared.wire.RequestKind.{RequestKind}
use Rattle.nbd.specs.declared.wire.RequestKind.TheVariants as commands
use Rattle.nbd.specs.declared.wire.RequestHeader.{RequestHeader}
use Rattle.nbd.specs.Requests.{RepliesTo, AnswersRead, Asks, Disconnects, Marks, Plays, SessionStep, DoesStep}
use Rattle.nbd.specs.Requests.{TakesAll, heard}
use Rattle.nbd.specs.Serving.{NotesMark}
use Rattle.nbd.specs.Wire.{command_of, error_of, request_header, reply_bytes}

module _ {D L : Type 0} {d : Ghosts D} {l : Ghosts L} where
  -- Some steps were taken, and then others.
  takes_both : (first next : List SessionStep) (sent more : List ℕ) (old mid new : Server D L d l)
      → TakesAll first sent old mid → TakesAll next more mid new
      → TakesAll (first ++ next) (sent ++ more) old new
  takes_both [] next sent more old mid new before after =
      subst (λ (s : Server D L d l). TakesAll next (sent ++ more) s new) before.1
      (subst (λ (xs : List ℕ). TakesAll next (xs ++ more) mid new) (sym before.0) after)
  takes_both (step ∷ first) next sent more old mid new before after = (
    before.0,
    before.1,
    before.2 ++ more,
    ap (λ (xs : List ℕ). xs ++ more) before.3 ∙ append_assoc before.1 before.2 more,
    before.4,
    takes_both first next before.2 more before.0 mid new before.5 after,
  )

  pub plays_both : (taken sent next more : List ℕ) (old mid new : Server D L d l)
      → Plays taken sent old mid → Plays next more mid new
      → Plays (taken ++ next) (sent ++ more) old new
  plays_both taken sent next more old mid new before after =
      record {
        steps = before.steps ++ after.steps;
        takes = takes_both before.steps after.steps sent more old mid new before.takes after.takes;
        hears = ap (λ (xs : List ℕ). xs ++ next) before.hears
            ∙ ap (λ (xs : List ℕ). flat_map heard before.steps ++ xs) after.hears
            ∙ sym (flat_map-append heard before.steps after.steps);
      }

  -- No step was taken.
  pub plays_none : (server : Server D L d l) → Plays [] [] server server
  plays_none server = record { steps = []; takes = (refl, refl); hears = refl }

  -- One step was taken.
  pub plays_step : (step : SessionStep) (out : List ℕ) (old new : Server D L d l) → DoesStep step out old new
      → Plays (heard step) out old new
  plays_step step out old new takes =
      record {
        steps = step ∷ [];
        takes = (new, out, [], sym (append-nil out), takes, (refl, refl));
        hears = sym (append-nil (heard step));
      }

  pub plays_mark : (now : ℕ) (text : List ℕ) (old mid new : Server D L d l) → Plays [] [] old mid
      → NotesMark now text mid new → Plays [] [] old new
  plays_mark now text old mid new before notes =
      plays_both [] [] [] [] old mid new before
      (plays_step (Marks text) [] mid new (refl, (now, notes)))

  pub plays_request : (head body out : List ℕ) (now : ℕ) (h : RequestHeader) (old new : Server D L d l)
      → length head ≡ 28 → request_header head ≡ Some h
      → RepliesTo (command_of h.kind) now h body out old new → Plays (head ++ body) out old new
  plays_request head body out now h old new whole is answers =
      plays_step (Asks head body now) out old new (h, whole, is, answers)

  -- The client disconnects by a request.
  pub disconnects_now : (head : List ℕ) (h : RequestHeader) (server : Server D L d l) → length head ≡ 28
      → request_header head ≡ Some h → command_of h.kind ≡ commands.Disconnect
      → Disconnects (head ++ []) [] server server
  disconnects_now head h server whole is asks =
      record {
        before = [];
        last = head;
        header = h;
        split = append-nil head;
        whole = whole;
        is = is;
        asks = asks;
        plays = plays_none server;
      }

  -- Some steps were taken, and then others, up to a request to disconnect.
  pub disconnects_later : (taken sent next more : List ℕ) (old mid new : Server D L d l)
      → Plays taken sent old mid → Disconnects next more mid new
      → Disconnects (taken ++ next) (sent ++ more) old new
  disconnects_later taken sent next more old mid new before after =
      record {
        before = taken ++ after.before;
        last = after.last;
        header = after.header;
        split = ap (λ (xs : List ℕ). taken ++ xs) after.split
            ∙ sym (append_assoc taken after.before after.last);
        whole = after.whole;
        is = after.is;
        asks = after.asks;
        plays = plays_both taken sent after.before more old mid new before after.plays;
      }

  -- A read was answered.
  pub read_answered : {E : Type 0} (result : Result Unit E) (command : RequestKind) (now : ℕ)
      (h : RequestHeader) (input before after : Option (List ℕ)) (old new : Server D L d l)
      → command ≡ commands.Read
      → OnOk result ((out : List ℕ) × Appends before after out × AnswersRead now h out old new)
      → OnOk result ((body out : List ℕ) × Consumes input input body × Appends before after out
      × RepliesTo command now h body out old new)
  read_answered (Err error) command now h input before after old new is answers = answers
  read_answered (Ok done) command now h input before after old new is answers = (
    [],
    answers.0,
    Consumes-nil input,
    answers.1,
    subst (λ (k : RequestKind). RepliesTo k now h [] answers.0 old new) (sym is) (refl, answers.2),
  )

  -- A request was answered by a reply without data.
  pub replied : {E : Type 0} (result : Result Unit E) (command kind : RequestKind) (now : ℕ)
      (h : RequestHeader) (input before after : Option (List ℕ)) (old new : Server D L d l)
      (answer : Result Unit RequestFault) → command ≡ kind
      → RepliesTo kind now h [] (reply_bytes (error_of answer) h.cookie) old new
      → OnOk result (Appends before after (reply_bytes (error_of answer) h.cookie))
      → OnOk result ((body out : List ℕ) × Consumes input input body × Appends before after out
      × RepliesTo command now h body out old new)
  replied (Err error) command kind now h input before after old new answer is answers sent = sent
  replied (Ok done) command kind now h input before after old new answer is answers sent = (
    [],
    reply_bytes (error_of answer) h.cookie,
    Consumes-nil input,
    sent,
    subst (λ (k : RequestKind). RepliesTo k now h [] (reply_bytes (error_of answer) h.cookie) old new)
        (sym is) answers,
  )

  -- A request's header was read, marks were recorded, and the request was served.
  pub served_after : {E : Type 0} (result : Result Bool E) (head : List ℕ)
      (input mid_input end_input before after : Option (List ℕ)) (old mid new : Server D L d l)
      → Consumes input mid_input head → Plays [] [] old mid
      → IfOk result (λ goes_on. (body out : List ℕ) × Consumes mid_input end_input body
      × Appends before after out × (goes_on ≡ true → Plays (head ++ body) out mid new)
      × (goes_on ≡ false → Disconnects (head ++ body) out mid new))
      → IfOk result (λ goes_on. (taken out : List ℕ) × Consumes input end_input taken
      × Appends before after out × (goes_on ≡ true → Plays taken out old new)
      × (goes_on ≡ false → Disconnects taken out old new))
  served_after (Err error) head input mid_input end_input before after old mid new heard marks
      served = served
  served_after (Ok goes_on) head input mid_input end_input before after old mid new heard marks
      served = (
        head ++ served.0,
        served.1,
        Consumes-trans input mid_input end_input head served.0 heard served.2,
        served.3,
        (λ e. plays_both [] [] (head ++ served.0) served.1 old mid new marks (served.4 e)),
        (λ e. disconnects_later [] [] (head ++ served.0) served.1 old mid new marks (served.5 e)),
      )
