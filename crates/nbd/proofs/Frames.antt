-- What several calls of a server do, and what several reads take from the input.
use Rattle.std.proofs.Common.{◌≡◌, ◌∙◌, ◌++◌, List, [], Option, None, Some, ℕ, ap}
use Rattle.std.proofs.Common.{append_assoc, inl, inr, refl, sym}
use Rattle.bio.specs.PlaceLaws.{bool_cases}
use Rattle.std.specs.Io.KnownBytes.{Consumes}
use Rattle.blockdev.specs.declared.device.BlockDev.{Ghosts}
use Rattle.bio.specs.declared.request.Bio.{Bio}
use Rattle.refusals.specs.declared.refusal.Refusal.TheVariants as refusals
use Rattle.pending.specs.CoreState.{records}
use Rattle.recorder.specs.Calls.{SubmitsRequest, core_of, recorder_view}
use Rattle.recorder.specs.declared.reply.Reply.{Reply}
use Rattle.recorder.specs.declared.reply.Reply.TheVariants as replies
use Rattle.recorder.specs.Growth.{RecorderFrame}
use Rattle.recorder.specs.declared.recorder.Recorder.{Recorder}
use Rattle.std.specs.Prelude.{Bool, Err, IfErr, Ok, OnOk, Result, true}
use Rattle.bio.specs.Requests.{has_fua}
use Rattle.nbd.specs.declared.fault.RequestFault.{RequestFault}
use Rattle.nbd.specs.declared.fault.RequestFault.TheVariants as faults
use Rattle.nbd.specs.declared.server.Server.{Server}
use Rattle.nbd.specs.Serving.{GivesResult, IsSure, RecordsRequest, ServerFrame}

-- If two calls change a recorder only so, both together do.
pub frames_join : {D L : Type 0} {d : Ghosts D} {l : Ghosts L}
    → ((a b c : Recorder L l) → RecorderFrame (recorder_view a) (recorder_view b)
    → RecorderFrame (recorder_view b) (recorder_view c)
    → RecorderFrame (recorder_view a) (recorder_view c))
    → (a b c : Server D L d l) → ServerFrame a b → ServerFrame b c → ServerFrame a c
frames_join two a b c first second =
    record {
      recorder = two a.recorder b.recorder c.recorder first.recorder second.recorder;
      sectors = second.sectors ∙ first.sectors;
      block = second.block ∙ first.block;
    }

-- Some bytes were taken, and then others.
pub consumed_more : (old middle new : Option (List ℕ)) (first next : List ℕ)
    → Consumes old middle first → Consumes middle new next → Consumes old new (first ++ next)
consumed_more None middle new first next before after = tt
consumed_more (Some rest) None new first next before after = absurd before
consumed_more (Some rest) (Some left) None first next before after = absurd after
consumed_more (Some rest) (Some left) (Some last) first next before after =
    before ∙ ap (λ xs. first ++ xs) after ∙ sym (append_assoc first next last)

-- No bytes were taken.
pub consumed_none : (known : Option (List ℕ)) → Consumes known known []
consumed_none None = tt
consumed_none (Some rest) = refl

-- A submission whose reply is neither an id nor Passed was refused for memory.
pub refused-only : {L : Type 0} {g : Ghosts L} (bio : Bio) (reply : Reply) (old new : Recorder L g)
    → SubmitsRequest bio reply old new
    → ((id : ℕ) → reply ≡ replies.Tracked id → ⊥) → (reply ≡ replies.Passed → ⊥)
    → SubmitsRequest bio (replies.Refused refusals.Memory) old new
refused-only bio reply old new submits tracked passed =
    elim (bool_cases (records (core_of old) bio)) [
      | inl recorded ↦ elim (submits.recorded recorded) [
        | inl followed ↦ absurd (tracked _ followed.0)
        | inr refused ↦ rw (← refused.0) submits
      ]
      | inr other ↦ absurd (passed (submits.passed other).0)
    ]

-- A request was recorded and ended well, and the recorder was asked for it if it has FUA.
pub gives_confirmed : {D L : Type 0} {d : Ghosts D} {l : Ghosts L} (now : ℕ) (bio : Bio)
    (id : Option ℕ) (fua : Bool) (answer : Result Unit RequestFault) (old new : Server D L d l)
    → RecordsRequest now bio id (Ok tt) old new → fua ≡ has_fua bio
    → OnOk answer (fua ≡ true → IsSure id new.recorder)
    → IfErr answer (λ fault. (fault ≡ faults.Io) × (fua ≡ true)) → GivesResult now bio answer old new
gives_confirmed now bio id fua (Ok done) old new records is sure unsure =
    (id, records, λ has. sure (is ∙ has))
gives_confirmed now bio id fua (Err fault) old new records is sure unsure =
    inr (inr (inr (id, records, sym is ∙ unsure.1, unsure.0)))
