-- A session from its handshake to the client's disconnect.
use Rattle.std.specs.Io.KnownBytes.{Appends, Consumes}
use Rattle.std.specs.Prelude.{◌≡◌, ◌⊎◌, ◌*◌, ◌++◌, ℕ, List, Option}
use Rattle.blockdev.specs.declared.device.BlockDev.{Ghosts}
use Rattle.nbd.specs.declared.negotiation.Export.{Export}
use Rattle.nbd.specs.declared.server.Server.{Server}
use Rattle.nbd.specs.Negotiation.{HandshakeBegins}
use Rattle.nbd.specs.Requests.{BreaksOff, Disconnects}

-- What a server offers: its whole data device, in blocks of the log's sectors.
abbrev pub export_of : {D L : Type 0} {d : Ghosts D} {l : Ghosts L} → Server D L d l → Export
export_of {d = d} server =
    record { bytes = (d.shown server.disk).size * 512; block = server.size }

-- A client sent `taken`, and `out` was sent back: the handshake, and then the requests up to the one
-- by which the client disconnected.
pub record SessionIsPlayed {D L : Type 0} {d : Ghosts D} {l : Ghosts L} (taken out : List ℕ)
    (old new : Server D L d l) : Type 0 where
  pub hello : List ℕ
  pub greeted : List ℕ
  pub begins : HandshakeBegins (export_of old) hello greeted
  pub asked : List ℕ
  pub replied : List ℕ
  pub disconnects : Disconnects asked replied old new
  pub heard : taken ≡ hello ++ asked
  pub said : out ≡ greeted ++ replied

-- A session broke off whose input began as `heard_from` and whose output began as `said_to`: at the
-- handshake, so that no request came, or after a handshake, at some request.
abbrev pub IsBroken : {D L : Type 0} {d : Ghosts D} {l : Ghosts L} → Option (List ℕ)
    → Option (List ℕ) → Server D L d l → Server D L d l → Type 0
IsBroken heard_from said_to old new =
    (new ≡ old)
    ⊎ ((hello greeted : List ℕ) × (left sent : Option (List ℕ)) × Consumes heard_from left hello
    × Appends said_to sent greeted × HandshakeBegins (export_of old) hello greeted
    × BreaksOff left sent old new)
