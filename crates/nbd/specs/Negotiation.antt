-- The handshake: what the bytes of an option mean, and what it is answered.
use Rattle.std.specs.Prelude.{ℕ, ◌≡◌, ◌<◌, ◌+◌, ◌*◌, List, [], ◌++◌, drop, length, replicate, Option, Some, None, Bool, ◌==◌, ◌&&◌, ◌||◌, nat_lt, nat_le, if◌then◌else◌, codes}
use Rattle.std.specs.List.{AllByRecursion, flat_map}
use Rattle.byteorder.specs.Endian.{big_bytes, big_number}
use Rattle.bio.specs.Requests.{bytes_of}
use Rattle.nbd.specs.declared.negotiation.Export.{Export}
use Rattle.nbd.specs.declared.negotiation.Negotiated.{Negotiated}
use Rattle.nbd.specs.declared.negotiation.Negotiated.TheVariants.{Begun, Left}

-- what the server says first
abbrev pub greeting : List ℕ
greeting = codes "NBDMAGICIHAVEOPT" ++ big_bytes 2 3

-- An option as it comes: a header of 16 bytes, and its data.
pub record Sent : Type 0 where
  pub head : List ℕ
  pub body : List ℕ

-- The header has `IHAVEOPT` and the length of the data. Between them is the option's number.
pub record IsOption (sent : Sent) : Type 0 where
  pub header : length sent.head ≡ 16
  pub magic : big_number 8 sent.head ≡ 0x49484156454F5054
  pub whole : length sent.body ≡ big_number 4 (drop 12 sent.head)

-- the number of an option
abbrev pub option_number : Sent → ℕ
option_number sent = big_number 4 (drop 8 sent.head)

-- the bytes of an option
abbrev pub sent_bytes : Sent → List ℕ
sent_bytes sent = sent.head ++ sent.body

-- The data of `INFO` or `GO` has its form: a name's length and the name, then the number of the
-- information requests and the requests, two bytes each.
unfoldable pub is_info : List ℕ → Bool
is_info bytes =
    nat_le (big_number 4 bytes + 6) (length bytes)
    && (length bytes
    == big_number 4 bytes + 6 + 2 * big_number 2 (drop (big_number 4 bytes + 4) bytes))

-- How an option ends the handshake: `EXPORT_NAME` (1) and `GO` (7) begin the requests, `ABORT` (2)
-- leaves.
abbrev pub option_end : ℕ → List ℕ → Option Negotiated
option_end option bytes =
    if option == 1 || (option == 7 && is_info bytes) then Some Begun
    else if option == 2 then Some Left
    else None

-- the header of an option's reply of this type, whose data has `count` bytes
unfoldable pub reply_head : ℕ → ℕ → ℕ → List ℕ
reply_head option kind count =
    big_bytes 8 0x3e889045565a9 ++ big_bytes 4 option ++ big_bytes 4 kind ++ big_bytes 4 count

-- the reply to an option, of this type and with this data
abbrev pub option_reply : ℕ → ℕ → List ℕ → List ℕ
option_reply option kind bytes = reply_head option kind (length bytes) ++ bytes

-- the information on an export: its length and the transmission flags
unfoldable pub export_info : Export → List ℕ
export_info e = big_bytes 2 0 ++ big_bytes 8 e.bytes ++ big_bytes 2 45

-- the information on block sizes
unfoldable pub sizes_info : Export → List ℕ
sizes_info e =
    big_bytes 2 3 ++ big_bytes 4 (bytes_of e.block) ++ big_bytes 4 4096 ++ big_bytes 4 1048576

-- the zeroes at the end of the reply to `EXPORT_NAME`, unless the client's flags refuse them
abbrev pub padding : ℕ → List ℕ
padding flags = if nat_lt flags 2 then replicate 124 0 else []

-- the replies to `INFO` or `GO`
abbrev pub info_replies : Export → ℕ → List ℕ → List ℕ
info_replies e option bytes =
    if is_info bytes
    then option_reply option 3 (export_info e) ++ option_reply option 3 (sizes_info e)
    ++ option_reply option 1 []
    else option_reply option 0x80000003 []

-- the replies to `LIST`, which has no data: one export without a name
abbrev pub list_replies : List ℕ → List ℕ
list_replies bytes =
    if length bytes == 0
    then option_reply 3 2 (replicate 4 0) ++ option_reply 3 1 []
    else option_reply 3 0x80000003 []

-- the replies to an option, for a client with these flags
abbrev pub replies : Export → ℕ → ℕ → List ℕ → List ℕ
replies e flags option bytes =
    if option == 1 then drop 2 (export_info e) ++ padding flags
    else if option == 2 then option_reply 2 1 []
    else if option == 3 then list_replies bytes
    else if option == 6 || option == 7 then info_replies e option bytes
    else option_reply option 0x80000001 []

-- An option that doesn't end the handshake.
pub record OptionGoesOn (sent : Sent) : Type 0 where
  pub option : IsOption sent
  pub goes_on : option_end (option_number sent) sent.body ≡ None

-- the replies to an option, for a client with these flags
abbrev pub replies_to : Export → ℕ → Sent → List ℕ
replies_to e flags sent = replies e flags (option_number sent) sent.body

-- A client with these flags sent some options, and the last of them began the requests. `taken` are
-- the bytes of the options, and `out` the replies.
pub record AgreesOnOptions (e : Export) (flags : ℕ) (taken out : List ℕ) : Type 0 where
  pub asked : List Sent
  pub last : Sent
  pub each : AllByRecursion OptionGoesOn asked
  pub option : IsOption last
  pub begins : option_end (option_number last) last.body ≡ Some Begun
  pub heard : taken ≡ flat_map sent_bytes asked ++ sent_bytes last
  pub said : out ≡ flat_map (replies_to e flags) asked ++ replies_to e flags last

-- A handshake that leads to requests: the client sent `taken`, and the server sent `out`. The server
-- greets, the client sends its flags and then options, and the server answers each of them.
pub record HandshakeBegins (e : Export) (taken out : List ℕ) : Type 0 where
  pub flags : List ℕ
  pub four : length flags ≡ 4
  pub known : big_number 4 flags < 4
  pub options : List ℕ
  pub replied : List ℕ
  pub agrees : AgreesOnOptions e (big_number 4 flags) options replied
  pub heard : taken ≡ flags ++ options
  pub said : out ≡ greeting ++ replied
