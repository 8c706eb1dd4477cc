-- Worked examples of the definitions, by computation: for each, one that holds and one that doesn't.
use Rattle.std.proofs.Common.{◌≡◌, ◌++◌, ℕ, List, [], ◌∷◌, None, Some, Ok, Err, refl, replicate, true}
use Rattle.std.proofs.Common.{false, arith}
use Rattle.bio.specs.declared.request.Bio.TheVariants as bios
use Rattle.nbd.specs.declared.fault.RequestFault.TheVariants as faults
use Rattle.nbd.specs.declared.negotiation.Negotiated.TheVariants.{Begun, Left}
use Rattle.nbd.specs.declared.wire.RequestKind.TheVariants as commands
use Rattle.nbd.specs.declared.wire.RequestHeader.{RequestHeader}
use Rattle.nbd.specs.declared.negotiation.Export.{Export}
use Rattle.nbd.specs.Negotiation.{IsOption, Sent, is_info, option_end, option_reply, padding}
use Rattle.nbd.specs.Negotiation.{replies}
use Rattle.std.specs.Prelude.{codes}
use Rattle.nbd.specs.Requests.{AreDiscards, AreWrites}
use Rattle.nbd.specs.Wire.{command_of, has_fua_flag, header_bytes, request_header, request_range}
use Rattle.nbd.specs.Wire.{reply_bytes}

-- a write with FUA of sector 1
write : RequestHeader
write = record { flags = 1; kind = 1; cookie = 9; offset = 512; length = 512 }

-- a header is read as it is spelled
header-read : request_header (header_bytes write) ≡ Some write
unfolding request_header write
header-read = refl

-- other bytes are no header
header-none : request_header (replicate 28 0) ≡ None
unfolding request_header
header-none = refl

command-write : command_of 1 ≡ commands.Write
command-write = refl

command-other : command_of 6 ≡ commands.Other
command-other = refl

fua-set : has_fua_flag write ≡ true
unfolding write
fua-set = refl

fua-unset : has_fua_flag (record { flags = 2; kind = 1; cookie = 9; offset = 0; length = 512 }) ≡ false
fua-unset = refl

-- the reply to it without an error: a magic number, no error, the client's number
reply-fine : reply_bytes 0 9
    ≡ 0x67 ∷ 0x44 ∷ 0x66 ∷ 0x98 ∷ 0 ∷ 0 ∷ 0 ∷ 0 ∷ 0 ∷ 0 ∷ 0 ∷ 0 ∷ 0 ∷ 0 ∷ 0 ∷ 9 ∷ []
unfolding reply_bytes
reply-fine = refl

-- the sector is within a device of two, past the end of a device of one, and no block of 4,096
range-within : request_range 512 2 write ≡ Ok (record { first = 1; count = 1 })
unfolding write
range-within = refl

range-past : request_range 512 1 write ≡ Err faults.NoSpace
unfolding write
range-past = refl

range-unaligned : request_range 4096 16 write ≡ Err faults.Invalid
unfolding write
range-unaligned = refl

-- an empty name and no information requests; and one request that is missing
info-fine : is_info (replicate 6 0) ≡ true
unfolding is_info
info-fine = refl

info-short : is_info (replicate 5 0 ++ 1 ∷ []) ≡ false
unfolding is_info
info-short = refl

end-name : option_end 1 [] ≡ Some Begun
end-name = refl

end-abort : option_end 2 [] ≡ Some Left
end-abort = refl

end-list : option_end 3 [] ≡ None
end-list = refl

-- a client that takes no zeroes gets none
padding-none : padding 3 ≡ []
padding-none = refl

padding-some : padding 1 ≡ replicate 124 0
padding-some = refl

-- a trim of 3,000 sectors has two parts, of which the first has 2,048 sectors at most
discards-two : AreDiscards 8 3000 (bios.Discard 8 2048 ∷ bios.Discard 2056 952 ∷ [])
discards-two = (2048, 952, refl, omega arith, refl, (952, 0, refl, omega arith, refl, refl))

discards-short : AreDiscards 8 3000 (bios.Discard 8 2048 ∷ []) → ⊥
discards-short are =
    let size : 2048 ≡ are.0 = cc (are.4) in
    omega (arith, are.2, are.5)

-- a write of one sector with FUA is one write with FUA, and not one without
writes-one : AreWrites true 1 (replicate 512 7)
    (bios.Write 1 (replicate 512 7) false true false ∷ [])
writes-one = (replicate 512 7, [], 1, refl, refl, omega arith, refl, refl)

writes-plain : (bytes : List ℕ)
    → AreWrites true 1 bytes (bios.Write 1 bytes false false false ∷ []) → ⊥
writes-plain bytes are = absurd (cc (are.6))

-- an option without data, as it comes: `IHAVEOPT`, its number 7, and the length 0
asked : List ℕ → Sent
asked body = record {
  head = codes "IHAVEOPT" ++ (0 ∷ 0 ∷ 0 ∷ 7 ∷ 0 ∷ 0 ∷ 0 ∷ 0 ∷ []);
  body = body;
}

option-whole : IsOption (asked [])
unfolding asked
option-whole = record { header = refl; magic = refl; whole = refl }

option-long : IsOption (asked (1 ∷ [])) → ⊥
unfolding asked
option-long is = let whole : ◌≡◌ {A = ℕ} 1 0 = is.whole in omega arith

-- ABORT is acknowledged; an unknown option isn't supported
replies-abort : (e : Export) → replies e 3 2 [] ≡ option_reply 2 1 []
replies-abort e = refl

replies-unknown : (e : Export) → replies e 3 8 [] ≡ option_reply 8 0x80000001 []
replies-unknown e = refl
