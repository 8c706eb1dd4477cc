-- Requests: their properties, the sector sizes to which they may be aligned, and the results of
-- `check`.
use Rattle.std.specs.Prelude.{if◌then◌else◌, nat_lt, nat_le, ℕ, ◌+◌, ◌/◌, ◌%◌, ◌==◌, Bool, Result}
use Rattle.std.specs.Prelude.{Ok, Err, true, false, ◌&&◌, length}
use Rattle.bio.specs.declared.request.BadBio.{BadBio}
use Rattle.bio.specs.declared.request.BadBio.TheVariants.{NotWhole, TooLong, PastEnd, Unaligned}
use Rattle.bio.specs.declared.request.Bio.{Bio}
use Rattle.bio.specs.declared.request.Bio.TheVariants.{Write, Flush, Discard, Read}
use Rattle.bio.specs.declared.request.SectorSize.{SectorSize}
use Rattle.bio.specs.declared.request.SectorSize.TheVariants.{B512, B4096}

-- The properties of a request: which sectors it covers, and whether it flushes, has FUA or is
-- aligned. Also whether two requests overlap.

-- whether the recorder tracks the request until it ends: a write, a discard or a flush
abbrev pub is_tracked : Bio → Bool
is_tracked (Read first count) = false
is_tracked _ = true

-- whether the request flushes the device's cache: a flush, or a write with a flush
abbrev pub has_flush : Bio → Bool
has_flush (Write first bytes flush fua meta) = flush
has_flush Flush = true
has_flush _ = false

-- whether the request's data must be durable when the request ends
abbrev pub has_fua : Bio → Bool
has_fua (Write first bytes flush fua meta) = fua
has_fua _ = false

-- whether the request puts values in sectors: a write or a discard
abbrev pub is_change : Bio → Bool
is_change (Write first bytes flush fua meta) = true
is_change (Discard first count) = true
is_change _ = false

-- the request has data, and a copy of it takes memory
abbrev pub has_data : Bio → Bool
has_data (Write first bytes flush fua meta) = true
has_data _ = false

-- the first sector of a request; 0 for a flush
abbrev pub first_sector : Bio → ℕ
first_sector (Write first bytes flush fua meta) = first
first_sector Flush = 0
first_sector (Discard first count) = first
first_sector (Read first count) = first

-- the number of whole sectors of a request; 0 for a flush
abbrev pub sector_count : Bio → ℕ
sector_count (Write first bytes flush fua meta) = length bytes / 512
sector_count Flush = 0
sector_count (Discard first count) = count
sector_count (Read first count) = count

-- the request is whole log sectors of `size` bytes: its first sector and its count are multiples of
-- `size / 512`
abbrev pub is_aligned : ℕ → Bio → Bool
is_aligned size bio = first_sector bio % (size / 512) == 0 && sector_count bio % (size / 512) == 0

-- the request is a write or a discard that puts a value in the sector
abbrev pub covers : Bio → ℕ → Bool
covers bio sector =
    is_tracked bio && nat_le (first_sector bio) sector
    && nat_lt sector (first_sector bio + sector_count bio)

-- the requests are writes or discards, and both put a value in some common sector
abbrev pub overlaps : Bio → Bio → Bool
overlaps a b =
    is_tracked a && is_tracked b
    && nat_lt 0 (sector_count a) && nat_lt 0 (sector_count b)
    && nat_lt (first_sector a) (first_sector b + sector_count b)
    && nat_lt (first_sector b) (first_sector a + sector_count a)

-- The sector sizes of a recorded log.

-- the size of a log sector in bytes
abbrev pub bytes_of : SectorSize → ℕ
bytes_of B512 = 512
bytes_of B4096 = 4096

-- The results of `check` and `check_sized`: Ok if the request passes all tests, or else the error
-- of the first test that fails.

-- the result for `count` sectors from `first` on: Ok if they are 1 to 2,048 sectors, all within the
-- device
abbrev pub range_answer : ℕ → ℕ → ℕ → Result (Unit {0}) BadBio
range_answer first count sectors =
    if count == 0 then Err NotWhole
    else if nat_lt 2048 count then Err TooLong
    else if nat_lt sectors (first + count) then Err PastEnd
    else Ok tt

-- the result of `check` for a device of `sectors` sectors: Ok, or the first reason against the
-- request
abbrev pub check_answer : Bio → ℕ → Result (Unit {0}) BadBio
check_answer (Write first bytes flush fua meta) sectors =
    if length bytes % 512 == 0 then range_answer first
    (length bytes / 512) sectors else Err NotWhole
check_answer Flush sectors = Ok tt
check_answer (Discard first count) sectors = range_answer first count sectors
check_answer (Read first count) sectors = range_answer first count sectors

-- the result of `check`, followed by the alignment test: an Ok becomes Unaligned if `aligned` is
-- false, and an error stays
abbrev pub unless_unaligned : Bool → Result (Unit {0}) BadBio → Result (Unit {0}) BadBio
unless_unaligned aligned (Ok tt) = if aligned then Ok tt else Err Unaligned
unless_unaligned aligned (Err bad) = Err bad

-- The result of `check_sized` for a device of `sectors` sectors and a log with sectors of `size`
-- bytes. The tests of `check` come first, then the alignment test.
abbrev pub check_sized_answer : ℕ → Bio → ℕ → Result (Unit {0}) BadBio
check_sized_answer size bio sectors =
    unless_unaligned (is_aligned size bio) (check_answer bio sectors)
