-- What was done for a request, whatever was sent back.
use Rattle.std.proofs.Common.{◌++◌, ℕ, List, [], ◌∷◌, Option, append-nil, inl, inr, refl, subst}
use Rattle.std.proofs.Common.{sym}
use Rattle.std.specs.Io.KnownBytes.{Appends, Consumes}
use Rattle.std.specs.Prelude.{Bool, Err, IfErr, Ok, Result}
use Rattle.bio.specs.declared.request.Bio.{Bio}
use Rattle.blockdev.specs.declared.device.BlockDev.{Ghosts}
use Rattle.nbd.specs.declared.fault.RequestFault.{RequestFault}
use Rattle.nbd.specs.declared.range.Range.{Range}
use Rattle.nbd.specs.declared.server.Server.{Server}
use Rattle.nbd.specs.Requests.{BreaksIn, BreaksOff, GiveInTurn, OnlyReadsData, Plays, TrimsRange}
use Rattle.nbd.specs.Serving.{GivesResult}
use Rattle.nbd.proofs.Parts.{reads_none}
use Rattle.nbd.proofs.Plays.{plays_both}

-- What holds anyway holds of an error.
pub if_err : {X E : Type 0} (result : Result X E) (P : Type 0) → P → IfErr result (λ error. P)
if_err (Ok value) P holds = tt
if_err (Err error) P holds = holds

module _ {D L : Type 0} {d : Ghosts D} {l : Ghosts L} where
  pub breaks_none : (server : Server D L d l) → BreaksIn server server
  unfolding BreaksIn
  breaks_none server = inl (reads_none server)

  pub breaks_reads : (old new : Server D L d l) → OnlyReadsData old new → BreaksIn old new
  unfolding BreaksIn
  breaks_reads old new only = inl only

  pub breaks_turn : (now : ℕ) (parts : List Bio) (answer : Result Unit RequestFault)
      (old new : Server D L d l) → GiveInTurn now parts answer old new → BreaksIn old new
  unfolding BreaksIn
  breaks_turn now parts answer old new give = inr (now, parts, answer, give)

  pub breaks_gives : (now : ℕ) (bio : Bio) (answer : Result Unit RequestFault) (old new : Server D L d l)
      → GivesResult now bio answer old new → BreaksIn old new
  breaks_gives now bio (Ok done) old new gives =
      breaks_turn now (bio ∷ []) (Ok tt) old new (new, gives, refl)
  breaks_gives now bio (Err fault) old new gives =
      breaks_turn now (bio ∷ []) (Err fault) old new (inl gives)

  pub breaks_trims : (range : Result Range RequestFault) (now : ℕ) (fua : Bool)
      (answer : Result Unit RequestFault) (old new : Server D L d l)
      → TrimsRange range now fua answer old new → BreaksIn old new
  breaks_trims (Err fault) now fua answer old new trims =
      subst (λ (s : Server D L d l). BreaksIn old s) (sym trims.1) (breaks_none old)
  breaks_trims (Ok range) now fua answer old new trims =
      breaks_turn now _ answer old new trims.give

  -- Some steps were taken, marks were recorded, and then the session broke off.
  pub broke_off : (heard_from left said_to sent : Option (List ℕ)) (taken out : List ℕ)
      (old mid last new : Server D L d l) → Consumes heard_from left taken
      → Appends said_to sent out → Plays taken out old mid → Plays [] [] mid last
      → BreaksIn last new → BreaksOff heard_from said_to old new
  broke_off heard_from left said_to sent taken out old mid last new heard said plays marks breaks =
      record {
        taken = taken;
        out = out;
        left = left;
        sent = sent;
        heard = heard;
        said = said;
        last = last;
        plays = subst (λ (xs : List ℕ). Plays xs out old last) (append-nil taken)
            (subst (λ (xs : List ℕ). Plays (taken ++ []) xs old last) (append-nil out)
            (plays_both taken out [] [] old mid last plays marks));
        breaks = breaks;
      }
