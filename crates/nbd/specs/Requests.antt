-- What the requests of a session do, one after another, and what is sent back.
use Rattle.std.specs.Prelude.{◌≡◌, ◌⊎◌, ◌≤◌, ◌+◌, ◌*◌, ◌/◌, ◌%◌, ℕ, List, [], ◌∷◌, ◌++◌, length}
use Rattle.std.specs.Prelude.{Bool, false, Option, Result, Ok, Err, Some, if◌then◌else◌}
use Rattle.std.specs.Io.KnownBytes.{Appends, Consumes}
use Rattle.std.specs.List.{flat_map}
use Rattle.bio.specs.Content.{gather, nothing}
use Rattle.bio.specs.declared.outcome.DevError.{DevError}
use Rattle.bio.specs.declared.request.Bio.{Bio}
use Rattle.bio.specs.declared.request.Bio.TheVariants as bios
use Rattle.bio.specs.Requests.{bytes_of}
use Rattle.blockdev.specs.Law.{DeviceFrame}
use Rattle.blockdev.specs.View.{Reads}
use Rattle.blockdev.specs.declared.device.BlockDev.{Ghosts}
use Rattle.nbd.specs.declared.fault.RequestFault.{RequestFault}
use Rattle.nbd.specs.declared.fault.RequestFault.TheVariants as faults
use Rattle.nbd.specs.declared.range.Range.{Range}
use Rattle.nbd.specs.declared.server.Server.{Server}
use Rattle.nbd.specs.declared.wire.RequestKind.{RequestKind}
use Rattle.nbd.specs.declared.wire.RequestKind.TheVariants as commands
use Rattle.nbd.specs.declared.wire.RequestHeader.{RequestHeader}
use Rattle.nbd.specs.Serving.{GivesResult, NotesMark}
use Rattle.nbd.specs.Wire.{command_of, error_of, fault_of_device, has_fua_flag, reply_bytes}
use Rattle.nbd.specs.Wire.{request_header, request_range}

-- The range is within the server's data device, and whole blocks.
pub record IsInDevice {D L : Type 0} {d : Ghosts D} {l : Ghosts L} (server : Server D L d l)
    (range : Range) : Type 0 where
  pub within : range.first + range.count ≤ (d.shown server.disk).size
  pub first : range.first % (bytes_of server.size / 512) ≡ 0
  pub count : range.count % (bytes_of server.size / 512) ≡ 0

-- The requests `parts` are recorded one after another, each at the time `now`. Either each ends well.
-- Or one fails: it is the last that is recorded, and its error is the result.
abbrev pub GiveInTurn : {D L : Type 0} {d : Ghosts D} {l : Ghosts L} → ℕ → List Bio
    → Result Unit RequestFault → Server D L d l → Server D L d l → Type 0
GiveInTurn now [] (Ok done) old new = new ≡ old
GiveInTurn now [] (Err fault) old new = ⊥
GiveInTurn {D} {L} {d} {l} now (bio ∷ parts) (Ok done) old new =
    (mid : Server D L d l) × GivesResult now bio (Ok tt) old mid × GiveInTurn now parts (Ok done) mid new
GiveInTurn {D} {L} {d} {l} now (bio ∷ parts) (Err fault) old new =
    GivesResult now bio (Err fault) old new
    ⊎ ((mid : Server D L d l) × GivesResult now bio (Ok tt) old mid
    × GiveInTurn now parts (Err fault) mid new)

-- `parts` are the parts of a write of `bytes` from sector `first` on: writes of at most 2,048 whole
-- sectors each, one after another, with FUA as the write has it.
abbrev pub AreWrites : Bool → ℕ → List ℕ → List Bio → Type 0
AreWrites fua first bytes [] = bytes ≡ []
AreWrites fua first bytes (bio ∷ parts) =
    (part rest : List ℕ) × (count : ℕ) × (bytes ≡ part ++ rest) × (length part ≡ count * 512)
    × (count ≤ 2048) × (bio ≡ bios.Write first part false fua false)
    × AreWrites fua (first + count) rest parts

-- `parts` are the parts of a trim of `count` sectors from `first` on: discards of at most 2,048
-- sectors each, one after another.
abbrev pub AreDiscards : ℕ → ℕ → List Bio → Type 0
AreDiscards first count [] = count ≡ 0
AreDiscards first count (bio ∷ parts) =
    (part rest : ℕ) × (count ≡ part + rest) × (part ≤ 2048) × (bio ≡ bios.Discard first part)
    × AreDiscards (first + part) rest parts

-- A write of `body` from sector `first` on is recorded in parts, up to the first part that fails.
-- The data behind that part is dropped.
pub record WritesParts {D L : Type 0} {d : Ghosts D} {l : Ghosts L} (now : ℕ) (fua : Bool)
    (first : ℕ) (body : List ℕ) (answer : Result Unit RequestFault)
    (old new : Server D L d l) : Type 0 where
  pub tried : List ℕ
  pub dropped : List ℕ
  pub split : body ≡ tried ++ dropped
  pub all : answer ≡ Ok tt → dropped ≡ []
  pub parts : List Bio
  pub are : AreWrites fua first tried parts
  pub give : GiveInTurn now parts answer old new

-- A write with the data `body`: its sectors are judged first, and a write that is refused changes
-- nothing.
abbrev pub WritesRange : {D L : Type 0} {d : Ghosts D} {l : Ghosts L} → Result Range RequestFault → ℕ → Bool
    → List ℕ → Result Unit RequestFault → Server D L d l → Server D L d l → Type 0
WritesRange (Err fault) now fua body answer old new = (answer ≡ Err fault) × (new ≡ old)
WritesRange (Ok range) now fua body answer old new = WritesParts now fua range.first body answer old new

-- the sectors that a request names on the server's data device
abbrev pub range_on : {D L : Type 0} {d : Ghosts D} {l : Ghosts L} → Server D L d l → RequestHeader
    → Result Range RequestFault
range_on {d = d} server h = request_range (bytes_of server.size) (d.shown server.disk).size h

abbrev pub WritesBody : {D L : Type 0} {d : Ghosts D} {l : Ghosts L} → ℕ → RequestHeader
    → List ℕ → Result Unit RequestFault → Server D L d l → Server D L d l → Type 0
WritesBody now h body answer old new = WritesRange (range_on old h) now (has_fua_flag h) body answer old new

-- A trim over these sectors is recorded in parts, up to the first that fails. If it has FUA, a flush
-- follows, since a discard has no FUA of its own.
pub record TrimsParts {D L : Type 0} {d : Ghosts D} {l : Ghosts L} (now : ℕ) (fua : Bool)
    (range : Range) (answer : Result Unit RequestFault) (old new : Server D L d l) : Type 0 where
  pub parts : List Bio
  pub are : AreDiscards range.first range.count parts
  pub give : GiveInTurn now (parts ++ (if fua then bios.Flush ∷ [] else [])) answer old new

abbrev pub TrimsRange : {D L : Type 0} {d : Ghosts D} {l : Ghosts L} → Result Range RequestFault → ℕ → Bool
    → Result Unit RequestFault → Server D L d l → Server D L d l → Type 0
TrimsRange (Err fault) now fua answer old new = (answer ≡ Err fault) × (new ≡ old)
TrimsRange (Ok range) now fua answer old new = TrimsParts now fua range answer old new

abbrev pub Trims : {D L : Type 0} {d : Ghosts D} {l : Ghosts L} → ℕ → RequestHeader
    → Result Unit RequestFault → Server D L d l → Server D L d l → Type 0
Trims now h answer old new = TrimsRange (range_on old h) now (has_fua_flag h) answer old new

-- Only the data device is read: its content and the recorder stay.
pub record OnlyReadsData {D L : Type 0} {d : Ghosts D} {l : Ghosts L}
    (old new : Server D L d l) : Type 0 where
  pub recorder : new.recorder ≡ old.recorder
  pub device : DeviceFrame nothing (d.shown old.disk) (d.shown new.disk)

-- The data device failed a read at the time `now`, of the sectors from `first` on. The read's buffer
-- had the bytes `before`, and has the bytes `after`. `fault` is the error of the device's call.
pub record FailsRead {D L : Type 0} {d : Ghosts D} {l : Ghosts L} (now first : ℕ)
    (before after : List ℕ) (fault : RequestFault) (old new : Server D L d l) : Type 0 where
  pub error : DevError
  pub fails : d.does old.disk (Reads first before after) now (Err error) new.disk
  pub is : fault ≡ fault_of_device error

-- The data device failed a read at the time `now`, of some of these sectors. Before that, other
-- parts may have been read.
pub record FailsInRange {D L : Type 0} {d : Ghosts D} {l : Ghosts L} (now : ℕ) (range : Range)
    (fault : RequestFault) (old new : Server D L d l) : Type 0 where
  pub last : Server D L d l
  pub reads : OnlyReadsData old last
  pub part : Range
  pub begins : range.first ≤ part.first
  pub ends : part.first + part.count ≤ range.first + range.count
  pub before : List ℕ
  pub after : List ℕ
  pub whole : length before ≡ part.count * 512
  pub fails : FailsRead now part.first before after fault last new

-- Why a read of these sectors is answered with an error: the data device failed the read of some of
-- them; or memory ran out, and the device wasn't called.
abbrev pub FailsReading : {D L : Type 0} {d : Ghosts D} {l : Ghosts L} → ℕ → Range → RequestFault
    → Server D L d l → Server D L d l → Type 0
FailsReading now range fault old new =
    FailsInRange now range fault old new ⊎ ((fault ≡ faults.NoMemory) × (new ≡ old))

-- What a read of these sectors at the time `now` sends: a reply and the content of the sectors, or a
-- reply with the error that the read failed by.
abbrev pub SendsRange : {D L : Type 0} {d : Ghosts D} {l : Ghosts L} → ℕ → Range → ℕ → List ℕ
    → Server D L d l → Server D L d l → Type 0
SendsRange {d = d} now range cookie out old new =
    OnlyReadsData old new
    × ((out ≡ reply_bytes 0 cookie ++ gather (d.shown old.disk).content range.first range.count)
    ⊎ ((fault : RequestFault) × FailsReading now range fault old new
    × (out ≡ reply_bytes (error_of (Err fault)) cookie)))

-- What a read sends: its sectors are judged first, and a read that is refused is answered with the
-- error.
abbrev pub AnswersRange : {D L : Type 0} {d : Ghosts D} {l : Ghosts L} → Result Range RequestFault → ℕ
    → ℕ → List ℕ → Server D L d l → Server D L d l → Type 0
AnswersRange (Err fault) now cookie out old new =
    (out ≡ reply_bytes (error_of (Err fault)) cookie) × (new ≡ old)
AnswersRange (Ok range) now cookie out old new = SendsRange now range cookie out old new

abbrev pub AnswersRead : {D L : Type 0} {d : Ghosts D} {l : Ghosts L} → ℕ → RequestHeader
    → List ℕ → Server D L d l → Server D L d l → Type 0
AnswersRead now h out old new = AnswersRange (range_on old h) now h.cookie out old new

-- ---- the whole session

-- What a session does next.
pub data SessionStep : Type 0 where
  -- a mark is recorded
  Marks : (text : List ℕ) → SessionStep
  -- the request of this header and data, as they are on the wire, is done and answered at this time
  Asks : (head body : List ℕ) (now : ℕ) → SessionStep

-- a request without data is answered by a reply without data
abbrev pub Replies : Result Unit RequestFault → RequestHeader → List ℕ → Type 0
Replies answer h out = out ≡ reply_bytes (error_of answer) h.cookie

-- What a request does that has this header and, if it is a write, this data, and what is sent back.
-- A request to disconnect has no reply.
abbrev pub RepliesTo : {D L : Type 0} {d : Ghosts D} {l : Ghosts L} → RequestKind → ℕ → RequestHeader
    → List ℕ → List ℕ → Server D L d l → Server D L d l → Type 0
RepliesTo commands.Read now h body out old new = (body ≡ []) × AnswersRead now h out old new
RepliesTo commands.Write now h body out old new = (length body ≡ h.length)
    × ((answer : Result Unit RequestFault) × WritesBody now h body answer old new × Replies answer h out)
RepliesTo commands.Disconnect now h body out old new = ⊥
RepliesTo commands.Flush now h body out old new = (body ≡ [])
    × ((answer : Result Unit RequestFault) × GivesResult now bios.Flush answer old new × Replies answer h out)
RepliesTo commands.Trim now h body out old new = (body ≡ [])
    × ((answer : Result Unit RequestFault) × Trims now h answer old new × Replies answer h out)
RepliesTo commands.Other now h body out old new =
    (body ≡ []) × (new ≡ old) × Replies (Err faults.Invalid) h out

-- What a step does, and what is sent back.
abbrev pub DoesStep : {D L : Type 0} {d : Ghosts D} {l : Ghosts L} → SessionStep → List ℕ → Server D L d l
    → Server D L d l → Type 0
DoesStep (Marks text) out old new = (out ≡ []) × ((now : ℕ) × NotesMark now text old new)
DoesStep (Asks head body now) out old new =
    (h : RequestHeader) × (length head ≡ 28) × (request_header head ≡ Some h)
    × RepliesTo (command_of h.kind) now h body out old new

-- the bytes that a step takes from the input
abbrev pub heard : SessionStep → List ℕ
heard (Marks text) = []
heard (Asks head body now) = head ++ body

-- The steps are taken one after another. `out` is all that is sent back.
abbrev pub TakesAll : {D L : Type 0} {d : Ghosts D} {l : Ghosts L} → List SessionStep → List ℕ
    → Server D L d l → Server D L d l → Type 0
TakesAll [] out old new = (out ≡ []) × (new ≡ old)
TakesAll {D} {L} {d} {l} (step ∷ steps) out old new =
    (mid : Server D L d l) × (first rest : List ℕ) × (out ≡ first ++ rest)
    × DoesStep step first old mid × TakesAll steps rest mid new

-- Some steps are taken, which take the bytes `taken` from the input, and send `out` back.
pub record Plays {D L : Type 0} {d : Ghosts D} {l : Ghosts L} (taken out : List ℕ)
    (old new : Server D L d l) : Type 0 where
  pub steps : List SessionStep
  pub takes : TakesAll steps out old new
  pub hears : taken ≡ flat_map heard steps

-- The session is played up to a request by which the client disconnects.
pub record Disconnects {D L : Type 0} {d : Ghosts D} {l : Ghosts L} (taken out : List ℕ)
    (old new : Server D L d l) : Type 0 where
  pub before : List ℕ
  pub last : List ℕ
  pub header : RequestHeader
  pub split : taken ≡ before ++ last
  pub whole : length last ≡ 28
  pub is : request_header last ≡ Some header
  pub asks : command_of header.kind ≡ commands.Disconnect
  pub plays : Plays before out old new

-- What was done for a request, whatever was sent back: the data device was only read, or some
-- requests were recorded one after another, up to one that failed.
unfoldable pub BreaksIn : {D L : Type 0} {d : Ghosts D} {l : Ghosts L} → Server D L d l
    → Server D L d l → Type 0
BreaksIn old new = OnlyReadsData old new
    ⊎ ((now : ℕ) × (parts : List Bio) × (answer : Result Unit RequestFault)
    × GiveInTurn now parts answer old new)

-- A session broke off, whose input began as `heard_from` and whose output began as `said_to`. It was
-- played up to `last`, and what was done after that is what can be done for a request.
pub record BreaksOff {D L : Type 0} {d : Ghosts D} {l : Ghosts L}
    (heard_from said_to : Option (List ℕ)) (old new : Server D L d l) : Type 0 where
  pub taken : List ℕ
  pub out : List ℕ
  -- what the input and the output are after these steps, if they are known. Nothing ties `sent` to
  -- the output at the end, since a write that failed may have sent anything.
  pub left : Option (List ℕ)
  pub sent : Option (List ℕ)
  pub heard : Consumes heard_from left taken
  pub said : Appends said_to sent out
  pub last : Server D L d l
  pub plays : Plays taken out old last
  pub breaks : BreaksIn last new
