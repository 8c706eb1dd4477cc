-- What the bytes of requests and replies mean, by doc/proto.md of the NetworkBlockDevice project.
-- Numbers are big endian.
use Rattle.std.specs.Prelude.{ℕ, List, ◌++◌, drop, Option, Some, None, if◌then◌else◌, ◌==◌}
use Rattle.std.specs.Prelude.{Result, Ok, Err, ◌||◌, not, ◌+◌, ◌/◌, ◌%◌, nat_lt, Bool}
use Rattle.byteorder.specs.Endian.{big_bytes, big_number}
use Rattle.bio.specs.declared.outcome.DevError.{DevError}
use Rattle.bio.specs.declared.outcome.DevError.TheVariants as device_errors
use Rattle.bio.specs.declared.request.BadBio.{BadBio}
use Rattle.bio.specs.declared.request.BadBio.TheVariants as bad_bios
use Rattle.nbd.specs.declared.fault.RequestFault.{RequestFault}
use Rattle.nbd.specs.declared.fault.RequestFault.TheVariants as faults
use Rattle.nbd.specs.declared.range.Range.{Range}
use Rattle.nbd.specs.declared.wire.RequestKind.{RequestKind}
use Rattle.nbd.specs.declared.wire.RequestKind.TheVariants as commands
use Rattle.nbd.specs.declared.wire.RequestHeader.{RequestHeader}

-- the number that a reply has for an error
abbrev pub fault_number : RequestFault → ℕ
fault_number faults.Io = 5
fault_number faults.NoMemory = 12
fault_number faults.Invalid = 22
fault_number faults.NoSpace = 28

-- the error of a request whose device call failed
abbrev pub fault_of_device : DevError → RequestFault
fault_of_device device_errors.Io = faults.Io
fault_of_device device_errors.Memory = faults.NoMemory

-- the error of a request that doesn't pass `check_sized`
abbrev pub fault_of_bad : BadBio → RequestFault
fault_of_bad bad_bios.PastEnd = faults.NoSpace
fault_of_bad _ = faults.Invalid

-- The header of a request: the first 28 of these bytes, if they begin with the number of requests.
unfoldable pub request_header : List ℕ → Option RequestHeader
request_header bytes =
    if big_number 4 bytes == 0x25609513
    then Some (record {
      flags = big_number 2 (drop 4 bytes);
      kind = big_number 2 (drop 6 bytes);
      cookie = big_number 8 (drop 8 bytes);
      offset = big_number 8 (drop 16 bytes);
      length = big_number 4 (drop 24 bytes);
    })
    else None

-- what a request of this kind asks for
abbrev pub command_of : ℕ → RequestKind
command_of kind =
    if kind == 0 then commands.Read
    else if kind == 1 then commands.Write
    else if kind == 2 then commands.Disconnect
    else if kind == 3 then commands.Flush
    else if kind == 4 then commands.Trim
    else commands.Other

-- how a client spells a request's header
abbrev pub header_bytes : RequestHeader → List ℕ
header_bytes h =
    big_bytes 4 0x25609513 ++ big_bytes 2 h.flags ++ big_bytes 2 h.kind ++ big_bytes 8 h.cookie
    ++ big_bytes 8 h.offset ++ big_bytes 4 h.length

-- the header of a simple reply
unfoldable pub reply_bytes : ℕ → ℕ → List ℕ
reply_bytes error cookie = big_bytes 4 0x67446698 ++ big_bytes 4 error ++ big_bytes 8 cookie

-- whether the request has FUA
abbrev pub has_fua_flag : RequestHeader → Bool
has_fua_flag h = h.flags % 2 == 1

-- The sectors that a request names on a device of `sectors` sectors, if requests are whole blocks of
-- `block` bytes. Invalid if the request isn't whole blocks or has none, NoSpace if it reaches past
-- the device's end.
abbrev pub request_range : ℕ → ℕ → RequestHeader → Result Range RequestFault
request_range block sectors h =
    if h.length == 0 || (not (h.length % block == 0) || not (h.offset % block == 0))
    then Err faults.Invalid
    else if nat_lt sectors (h.offset / 512 + h.length / 512) then Err faults.NoSpace
    else Ok (record { first = h.offset / 512; count = h.length / 512 })

-- the number of a reply's error; 0 if there is none
abbrev pub error_of : Result Unit RequestFault → ℕ
error_of (Ok done) = 0
error_of (Err fault) = fault_number fault
