-- The parts of writes, trims and reads, one after another.
use Rattle.std.proofs.Common.{◌≡◌, ◌∙◌, ◌+◌, ◌-◌, ◌*◌, ◌/◌, ◌%◌, ◌<◌, ◌≤◌, ◌++◌, ℕ, zero, suc, min}
use Rattle.std.proofs.Common.{Bool, Err, List, [], ◌∷◌, Ok, Option, append-nil, append_assoc, arith}
use Rattle.std.proofs.Common.{false, true, inl, inr, length, length-append, refl, subst, sym, ap}
use Rattle.std.specs.Prelude.{OnOk, Result}
use Rattle.std.proofs.lemmas.Bool.Decides.{nat_tests}
use Rattle.std.proofs.KnownBytes.{Appends-trans}
use Rattle.std.specs.Io.KnownBytes.{Appends, Consumes}
use Rattle.bio.specs.Content.{Content, gather, nothing}
use Rattle.bio.specs.ContentLaws.{gather-ext, patched-none}
use Rattle.bio.specs.Requests.{bytes_of, check_sized_answer}
use Rattle.bio.specs.declared.request.Bio.{Bio}
use Rattle.bio.specs.declared.request.Bio.TheVariants as bios
use Rattle.bio.specs.declared.request.SectorSize.{SectorSize}
use Rattle.bio.specs.declared.request.SectorSize.TheVariants.{B512, B4096}
use Rattle.blockdev.specs.JoinLaws.{goes_both, goes_none}
use Rattle.blockdev.specs.declared.device.BlockDev.{Ghosts}
use Rattle.nbd.specs.declared.fault.RequestFault.{RequestFault}
use Rattle.nbd.specs.declared.range.Range.{Range}
use Rattle.nbd.specs.declared.server.Server.{Server}
use Rattle.nbd.specs.Requests.{AreDiscards, AreWrites, FailsInRange, FailsRead, FailsReading}
use Rattle.nbd.specs.Requests.{GiveInTurn, IsInDevice, OnlyReadsData, SendsRange, TrimsParts}
use Rattle.nbd.specs.Requests.{WritesParts}
use Rattle.nbd.specs.Serving.{GivesResult, ServerFrame}
use Rattle.nbd.specs.Wire.{error_of, reply_bytes}
use Rattle.nbd.proofs.Frames.{consumed_more, consumed_none}

-- ---- requests in turn

-- Some requests ended well, and then one more ended.
pub give_more : {D L : Type 0} {d : Ghosts D} {l : Ghosts L} (now : ℕ) (parts : List Bio) (bio : Bio)
    (answer : Result Unit RequestFault) (old mid new : Server D L d l)
    → GiveInTurn now parts (Ok tt) old mid → GivesResult now bio answer mid new
    → GiveInTurn now (parts ++ bio ∷ []) answer old new
give_more {D} {L} {d} {l} now [] bio (Ok done) old mid new before gives =
    (new, subst (λ (s : Server D L d l). GivesResult now bio (Ok tt) s new) before gives, refl)
give_more {D} {L} {d} {l} now [] bio (Err fault) old mid new before gives =
    inl (subst (λ (s : Server D L d l). GivesResult now bio (Err fault) s new) before gives)
give_more now (part ∷ parts) bio (Ok done) old mid new before gives =
    (before.0, before.1, give_more now parts bio (Ok done) before.0 mid new before.2 gives)
give_more now (part ∷ parts) bio (Err fault) old mid new before gives =
    inr (before.0, before.1, give_more now parts bio (Err fault) before.0 mid new before.2 gives)

-- One of some requests failed, so that none of the later ones was recorded.
pub give_less : {D L : Type 0} {d : Ghosts D} {l : Ghosts L} (now : ℕ) (parts later : List Bio)
    (fault : RequestFault) (old new : Server D L d l) → GiveInTurn now parts (Err fault) old new
    → GiveInTurn now (parts ++ later) (Err fault) old new
give_less now [] later fault old new before = absurd before
give_less now (part ∷ parts) later fault old new before =
    elim before [
      | inl gives ↦ inl gives
      | inr rest ↦ inr (rest.0, rest.1, give_less now parts later fault rest.0 new rest.2)
    ]

-- ---- the parts of a write and of a trim

-- A write has one more part.
pub writes_more : (fua : Bool) (first done at count : ℕ) (bytes part : List ℕ) (parts : List Bio)
    → AreWrites fua first bytes parts → length bytes ≡ done * 512 → at ≡ first + done
    → length part ≡ count * 512 → count ≤ 2048
    → AreWrites fua first (bytes ++ part) (parts ++ bios.Write at part false fua false ∷ [])
writes_more fua first done at count bytes part [] before long place size few =
    let none : done ≡ 0 = omega (arith, ap length before) in
    let here : at ≡ first = omega arith in (
      part,
      [],
      count,
      ap (λ (xs : List ℕ). xs ++ part) before ∙ sym (append-nil part),
      size,
      few,
      ap (λ (n : ℕ). bios.Write n part false fua false) here,
      refl,
    )
writes_more fua first done at count bytes part (bio ∷ parts) before long place size few =
    let front = before.0 in
    let rest = before.1 in
    let n = before.2 in
    let whole : length bytes ≡ length front + length rest =
    ap length before.3 ∙ length-append front rest in
    let tail : length rest ≡ (done - n) * 512 = omega (arith, before.4) in
    let next : at ≡ (first + n) + (done - n) = omega (arith, before.4) in (
      front,
      rest ++ part,
      n,
      ap (λ (xs : List ℕ). xs ++ part) before.3 ∙ append_assoc front rest part,
      before.4,
      before.5,
      before.6,
      writes_more fua (first + n) (done - n) at count rest part parts before.7 tail next size few,
    )

-- A trim has one more part.
pub discards_more : (first done at count : ℕ) (parts : List Bio) → AreDiscards first done parts
    → at ≡ first + done → count ≤ 2048
    → AreDiscards first (done + count) (parts ++ bios.Discard at count ∷ [])
discards_more first done at count [] before place few =
    let here : at ≡ first = omega (arith, before) in (
      count,
      0,
      omega (arith, before),
      few,
      ap (λ (n : ℕ). bios.Discard n count) here,
      refl,
    )
discards_more first done at count (bio ∷ parts) before place few =
    let part = before.0 in
    let rest = before.1 in
    let sum : done ≡ part + rest = before.2 in (
      part,
      rest + count,
      omega arith,
      before.3,
      before.4,
      discards_more (first + part) rest at count parts before.5 (omega arith) few,
    )

-- Two trims, of which one begins where the other ends, have the parts of both.
discards_both : (first m n at total : ℕ) (parts more : List Bio) → AreDiscards first m parts
    → at ≡ first + m → AreDiscards at n more → total ≡ m + n
    → AreDiscards first total (parts ++ more)
discards_both first m n at total [] more before place after sum =
    let here : at ≡ first = omega (arith, before) in
    let all : n ≡ total = omega (arith, before) in
    subst (λ (k : ℕ). AreDiscards first k more) all
    (subst (λ (k : ℕ). AreDiscards k n more) here after)
discards_both first m n at total (bio ∷ parts) more before place after sum =
    let part = before.0 in
    let rest = before.1 in
    let whole : m ≡ part + rest = before.2 in (
      part,
      rest + n,
      omega arith,
      before.3,
      before.4,
      discards_both (first + part) rest n at (rest + n) parts more before.5 (omega arith) after refl,
    )

-- Any number of sectors can be cut into parts.
discards_some : (fuel first count : ℕ) → count ≤ fuel → (parts : List Bio) × AreDiscards first count parts
discards_some zero first count few = ([], omega arith)
discards_some (suc fuel) first count few =
    let later = discards_some fuel (first + min count 2048) (count - min count 2048) (omega arith) in (
      bios.Discard first (min count 2048) ∷ later.0,
      (min count 2048, count - min count 2048, omega arith, omega arith, refl, later.1),
    )

-- ---- where the parts are

-- Sectors of whole blocks.
abbrev pub are_blocks : SectorSize → ℕ → Type 0
are_blocks size n = n % (bytes_of size / 512) ≡ 0

pub no_blocks : (size : SectorSize) → are_blocks size 0
no_blocks B512 = omega arith
no_blocks B4096 = omega arith

-- A part of at most 2,048 sectors begins and ends between two blocks.
pub part_blocks : (size : SectorSize) (first count done part : ℕ) → are_blocks size first
    → are_blocks size count → are_blocks size done → done ≤ count → part ≡ min (count - done) 2048
    → are_blocks size (first + done) × are_blocks size part × are_blocks size (done + part)
part_blocks B512 first count done part a b c few is = (omega arith, omega arith, omega arith)
part_blocks B4096 first count done part a b c few is = (omega arith, omega arith, omega arith)

-- Bytes of whole blocks are whole sectors of whole blocks.
pub whole_blocks : (size : SectorSize) (n : ℕ) → n % bytes_of size ≡ 0
    → are_blocks size (n / 512) × (n / 512 * 512 ≡ n)
whole_blocks B512 n whole = (omega arith, omega arith)
whole_blocks B4096 n whole = (omega arith, omega arith)

-- A part of a range within the device is within it too.
pub part_in : {D L : Type 0} {d : Ghosts D} {l : Ghosts L} (old new : Server D L d l)
    (range : Range) (done part : ℕ) → IsInDevice old range → new.size ≡ old.size
    → (d.shown new.disk).size ≡ (d.shown old.disk).size → done ≤ range.count
    → are_blocks old.size done → part ≡ min (range.count - done) 2048
    → IsInDevice new (record { first = range.first + done; count = part })
part_in {d = d} old new range done part within size sectors few blocks is =
    let places = part_blocks old.size range.first range.count done part within.first within.count
    blocks few is in
    record {
      within = let fits = within.within in omega (arith, fits, sectors, few, is);
      first = subst (λ (s : SectorSize). are_blocks s (range.first + done)) (sym size) places.0;
      count = subst (λ (s : SectorSize). are_blocks s part) (sym size) places.1;
    }

-- A flush passes the recorder's tests.
pub flush_fits : (size : SectorSize) (sectors : ℕ)
    → check_sized_answer (bytes_of size) bios.Flush sectors ≡ Ok tt
flush_fits B512 sectors = refl
flush_fits B4096 sectors = refl

-- A discard within the device, of whole blocks, passes the recorder's tests.
pub discard_fits : (size first count sectors : ℕ) → 0 < count → count ≤ 2048
    → first + count ≤ sectors → first % (size / 512) ≡ 0 → count % (size / 512) ≡ 0
    → check_sized_answer size (bios.Discard first count) sectors ≡ Ok tt
discard_fits size first count sectors some few within a b = grind (arith, nat_tests)

-- A write within the device, of whole blocks, passes the recorder's tests.
pub write_fits : (size first count sectors : ℕ) (bytes : List ℕ) (fua : Bool) → 0 < count
    → count ≤ 2048 → first + count ≤ sectors → first % (size / 512) ≡ 0 → count % (size / 512) ≡ 0
    → length bytes ≡ count * 512
    → check_sized_answer size (bios.Write first bytes false fua false) sectors ≡ Ok tt
write_fits size first count sectors bytes fua some few within a b long =
    let whole : length bytes % 512 ≡ 0 = omega arith in
    let sectors_of : length bytes / 512 ≡ count = omega arith in
    grind (arith, nat_tests)

-- ---- reads

-- If the device is only read, its content and the recorder stay.
pub reads_none : {D L : Type 0} {d : Ghosts D} {l : Ghosts L} (server : Server D L d l)
    → OnlyReadsData server server
reads_none {d = d} server =
    record { recorder = refl; device = goes_none nothing (d.shown server.disk) }

pub reads_both : {D L : Type 0} {d : Ghosts D} {l : Ghosts L} (old mid new : Server D L d l)
    → OnlyReadsData old mid → OnlyReadsData mid new → OnlyReadsData old new
reads_both {d = d} old mid new before after =
    record {
      recorder = after.recorder ∙ before.recorder;
      device = goes_both nothing (d.shown old.disk) (d.shown mid.disk) (d.shown new.disk)
          before.device after.device;
    }

-- A range of the content stays.
pub reads_content : {D L : Type 0} {d : Ghosts D} {l : Ghosts L} (old new : Server D L d l)
    (first count : ℕ) → OnlyReadsData old new
    → gather (d.shown new.disk).content first count ≡ gather (d.shown old.disk).content first count
reads_content {d = d} old new first count only =
    gather-ext (d.shown new.disk).content (d.shown old.disk).content first first count
    (λ s h. patched-none nothing (d.shown old.disk).content (d.shown new.disk).content
    only.device.content (first + s) refl)

-- Two ranges, of which one begins where the other ends, have the bytes of both.
pub gather_joined : (content : Content) (first m n : ℕ)
    → gather content first (m + n) ≡ gather content first m ++ gather content (first + m) n
gather_joined content first m zero =
    let none : m + zero ≡ m = omega arith in
    ap (gather content first) none ∙ sym (append-nil (gather content first m))
gather_joined content first m (suc n) =
    let more : m + suc n ≡ suc (m + n) = omega arith in
    let here : first + (m + n) ≡ (first + m) + n = omega arith in
    ap (gather content first) more
    ∙ ap (λ (bytes : List ℕ). bytes ++ content (first + (m + n))) (gather_joined content first m n)
    ∙ ap (λ (k : ℕ). (gather content first m ++ gather content (first + m) n) ++ content k) here
    ∙ append_assoc (gather content first m) (gather content (first + m) n) (content ((first + m) + n))

-- The content from `first` on was sent, and then the content behind it.
pub sent_more : (content : Content) (first done count : ℕ) (bytes : List ℕ)
    (old mid new : Option (List ℕ)) → Appends old mid (gather content first done)
    → Appends mid new bytes → bytes ≡ gather content (first + done) count
    → Appends old new (gather content first (done + count))
sent_more content first done count bytes old mid new before after is =
    subst (Appends old new)
    (ap (λ (xs : List ℕ). gather content first done ++ xs) is
    ∙ sym (gather_joined content first done count))
    (Appends-trans old mid new (gather content first done) bytes before after)

-- A reply's header was sent, and then the content.
pub sends_after : {D L E : Type 0} {d : Ghosts D} {l : Ghosts L} (result : Result Unit E)
    (now : ℕ) (range : Range) (cookie : ℕ) (head bytes : List ℕ) (before mid after : Option (List ℕ))
    (old new : Server D L d l) → Appends before mid head → OnOk result (Appends mid after bytes)
    → head ≡ reply_bytes 0 cookie → OnlyReadsData old new
    → bytes ≡ gather (d.shown old.disk).content range.first range.count
    → OnOk result ((out : List ℕ) × Appends before after out
    × SendsRange now range cookie out old new)
sends_after (Err error) now range cookie head bytes before mid after old new first next is only
    same = next
sends_after (Ok done) now range cookie head bytes before mid after old new first next is only
    same = (
      head ++ bytes,
      Appends-trans before mid after head bytes first next,
      (
        only,
        inl (
            ap (λ (xs : List ℕ). xs ++ bytes) is
            ∙ ap (λ (xs : List ℕ). reply_bytes 0 cookie ++ xs) same
            ),
      ),
    )

-- A reply with the error was sent that the read failed by.
pub sends_fault : {D L E : Type 0} {d : Ghosts D} {l : Ghosts L} (result : Result Unit E)
    (now : ℕ) (range : Range) (cookie : ℕ) (fault : RequestFault) (before after : Option (List ℕ))
    (old new : Server D L d l) → OnlyReadsData old new → FailsReading now range fault old new
    → OnOk result (Appends before after (reply_bytes (error_of (Err fault)) cookie))
    → OnOk result ((out : List ℕ) × Appends before after out
    × SendsRange now range cookie out old new)
sends_fault (Err error) now range cookie fault before after old new only fails sent = sent
sends_fault (Ok done) now range cookie fault before after old new only fails sent = (
  reply_bytes (error_of (Err fault)) cookie,
  sent,
  (only, inr (fault, fails, refl)),
)

-- The data device failed the read of a part, after other parts were read.
pub fails_later : {D L : Type 0} {d : Ghosts D} {l : Ghosts L} (now : ℕ) (range : Range)
    (done count : ℕ) (before after : List ℕ) (fault : RequestFault) (old last new : Server D L d l)
    → OnlyReadsData old last → length before ≡ count * 512 → done + count ≤ range.count
    → FailsRead now (range.first + done) before after fault last new
    → FailsInRange now range fault old new
fails_later now range done count before after fault old last new reads whole few fails =
    record {
      last = last;
      reads = reads;
      part = record { first = range.first + done; count = count };
      begins = omega arith;
      ends = omega arith;
      before = before;
      after = after;
      whole = whole;
      fails = fails;
    }

-- The data device failed the read of all sectors.
pub fails_now : {D L : Type 0} {d : Ghosts D} {l : Ghosts L} (now : ℕ) (range : Range)
    (before after : List ℕ) (fault : RequestFault) (old new : Server D L d l)
    → length before ≡ range.count * 512 → FailsRead now range.first before after fault old new
    → FailsInRange now range fault old new
fails_now now range before after fault old new whole fails =
    record {
      last = old;
      reads = reads_none old;
      part = range;
      begins = omega arith;
      ends = omega arith;
      before = before;
      after = after;
      whole = whole;
      fails = fails;
    }

-- ---- a write and a trim so far

-- The first `done` sectors of a write were read and written in parts, and each part ended well.
pub record HasWritten {D L : Type 0} {d : Ghosts D} {l : Ghosts L} (now : ℕ) (fua : Bool)
    (range : Range) (done : ℕ) (in_old in_new : Option (List ℕ))
    (old new : Server D L d l) : Type 0 where
  pub few : done ≤ range.count
  pub blocks : are_blocks old.size done
  pub frame : ServerFrame old new
  pub body : List ℕ
  pub long : length body ≡ done * 512
  pub heard : Consumes in_old in_new body
  pub parts : List Bio
  pub are : AreWrites fua range.first body parts
  pub give : GiveInTurn now parts (Ok tt) old new

pub written_none : {D L : Type 0} {d : Ghosts D} {l : Ghosts L} (now : ℕ) (fua : Bool)
    (range : Range) (input : Option (List ℕ)) (server : Server D L d l)
    → ServerFrame server server → HasWritten now fua range 0 input input server server
written_none now fua range input server frame =
    record {
      few = omega arith;
      blocks = no_blocks server.size;
      frame = frame;
      body = [];
      long = refl;
      heard = consumed_none input;
      parts = [];
      are = refl;
      give = refl;
    }

-- One more part of a write was read: `part`, of `count` sectors.
module _ {D L : Type 0} {d : Ghosts D} {l : Ghosts L} (now : ℕ) (fua : Bool) (range : Range)
    (done count : ℕ) (in_old in_mid in_new : Option (List ℕ)) (old mid new : Server D L d l)
    (within : IsInDevice old range) (before : HasWritten now fua range done in_old in_mid old mid)
    (is : count ≡ min (range.count - done) 2048) (part : List ℕ) (size : length part ≡ count * 512)
    (heard : Consumes in_mid in_new part) where
  -- It ended well.
  pub written_more : ServerFrame old new
      → GivesResult now (bios.Write (range.first + done) part false fua false) (Ok tt) mid new
      → HasWritten now fua range (done + count) in_old in_new old new
  written_more frame gives =
      let few : done ≤ range.count = before.few in
      let long : length before.body ≡ done * 512 = before.long in
      record {
        few = omega arith;
        blocks = (part_blocks old.size range.first range.count done count within.first within.count
            before.blocks few is).2;
        frame = frame;
        body = before.body ++ part;
        long = omega (arith, length-append before.body part);
        heard = consumed_more in_old in_mid in_new before.body part before.heard heard;
        parts = before.parts ++ bios.Write (range.first + done) part false fua false ∷ [];
        are = writes_more fua range.first done (range.first + done) count before.body part before.parts
            before.are long refl size (omega arith);
        give = give_more now before.parts _ (Ok tt) old mid new before.give gives;
      }

  -- It failed, and the data behind it was dropped.
  pub written_failed : (fault : RequestFault) (in_last : Option (List ℕ)) (rest : List ℕ)
      → GivesResult now (bios.Write (range.first + done) part false fua false) (Err fault) mid new
      → length rest ≡ ((range.count - done) - count) * 512 → Consumes in_new in_last rest
      → (body : List ℕ) × (length body ≡ range.count * 512) × Consumes in_old in_last body
      × WritesParts now fua range.first body (Err fault) old new
  written_failed fault in_last rest gives left dropped =
      let few : done ≤ range.count = before.few in
      let long : length before.body ≡ done * 512 = before.long in
      let tried = before.body ++ part in (
        tried ++ rest,
        omega (arith, length-append tried rest, length-append before.body part),
        consumed_more in_old in_new in_last tried rest
            (consumed_more in_old in_mid in_new before.body part before.heard heard) dropped,
        record {
          tried = tried;
          dropped = rest;
          split = refl;
          all = λ e. absurd (cc e);
          parts = before.parts ++ bios.Write (range.first + done) part false fua false ∷ [];
          are = writes_more fua range.first done (range.first + done) count before.body part
              before.parts before.are long refl size (omega arith);
          give = give_more now before.parts _ (Err fault) old mid new before.give gives;
        },
      )

-- All parts of a write ended well.
pub written_all : {D L : Type 0} {d : Ghosts D} {l : Ghosts L} (now : ℕ) (fua : Bool)
    (range : Range) (done : ℕ) (in_old in_new : Option (List ℕ)) (old new : Server D L d l)
    → HasWritten now fua range done in_old in_new old new → range.count ≤ done
    → (body : List ℕ) × (length body ≡ range.count * 512) × Consumes in_old in_new body
    × WritesParts now fua range.first body (Ok tt) old new
written_all now fua range done in_old in_new old new before all =
    let few : done ≤ range.count = before.few in
    let long : length before.body ≡ done * 512 = before.long in (
      before.body,
      omega arith,
      before.heard,
      record {
        tried = before.body;
        dropped = [];
        split = sym (append-nil before.body);
        all = λ e. refl;
        parts = before.parts;
        are = before.are;
        give = before.give;
      },
    )

-- The first `done` sectors of a trim were discarded in parts, and each part ended well.
pub record HasDiscarded {D L : Type 0} {d : Ghosts D} {l : Ghosts L} (now : ℕ) (range : Range)
    (done : ℕ) (old new : Server D L d l) : Type 0 where
  pub few : done ≤ range.count
  pub blocks : are_blocks old.size done
  pub frame : ServerFrame old new
  pub parts : List Bio
  pub are : AreDiscards range.first done parts
  pub give : GiveInTurn now parts (Ok tt) old new

pub discarded_none : {D L : Type 0} {d : Ghosts D} {l : Ghosts L} (now : ℕ) (range : Range)
    (server : Server D L d l) → ServerFrame server server → HasDiscarded now range 0 server server
discarded_none now range server frame =
    record {
      few = omega arith;
      blocks = no_blocks server.size;
      frame = frame;
      parts = [];
      are = refl;
      give = refl;
    }

-- One more part of a trim, of `count` sectors, was discarded.
module _ {D L : Type 0} {d : Ghosts D} {l : Ghosts L} (now : ℕ) (range : Range) (done count : ℕ)
    (old mid new : Server D L d l) (within : IsInDevice old range)
    (before : HasDiscarded now range done old mid)
    (is : count ≡ min (range.count - done) 2048) where
  -- It ended well.
  pub discarded_more : ServerFrame old new
      → GivesResult now (bios.Discard (range.first + done) count) (Ok tt) mid new
      → HasDiscarded now range (done + count) old new
  discarded_more frame gives =
      let few : done ≤ range.count = before.few in
      record {
        few = omega arith;
        blocks = (part_blocks old.size range.first range.count done count within.first within.count
            before.blocks few is).2;
        frame = frame;
        parts = before.parts ++ bios.Discard (range.first + done) count ∷ [];
        are = discards_more range.first done (range.first + done) count before.parts before.are refl
            (omega arith);
        give = give_more now before.parts _ (Ok tt) old mid new before.give gives;
      }

  -- It failed, and the parts behind it aren't recorded.
  pub discarded_failed : (fault : RequestFault)
      → GivesResult now (bios.Discard (range.first + done) count) (Err fault) mid new
      → (parts : List Bio) × AreDiscards range.first range.count parts
      × GiveInTurn now parts (Err fault) old new
  discarded_failed fault gives =
      let few : done ≤ range.count = before.few in
      let tried = before.parts ++ bios.Discard (range.first + done) count ∷ [] in
      let later = discards_some range.count (range.first + (done + count))
      (range.count - (done + count)) (omega arith) in (
        tried ++ later.0,
        discards_both range.first (done + count) (range.count - (done + count))
            (range.first + (done + count)) range.count tried later.0
            (discards_more range.first done (range.first + done) count before.parts before.are refl
            (omega arith)) refl later.1 (omega arith),
        give_less now tried later.0 fault old new
            (give_more now before.parts _ (Err fault) old mid new before.give gives),
      )

-- A trim's parts ended well. Then the device was flushed if the trim has FUA.
pub trims_all : {D L : Type 0} {d : Ghosts D} {l : Ghosts L} (now : ℕ) (fua : Bool) (range : Range)
    (parts : List Bio) (answer : Result Unit RequestFault) (old mid new : Server D L d l)
    → AreDiscards range.first range.count parts → GiveInTurn now parts (Ok tt) old mid
    → (fua ≡ true → GivesResult now bios.Flush answer mid new)
    → (fua ≡ false → (answer ≡ Ok tt) × (new ≡ mid)) → TrimsParts now fua range answer old new
trims_all now true range parts answer old mid new are give flushed plain =
    record {
      parts = parts;
      are = are;
      give = give_more now parts bios.Flush answer old mid new give (flushed refl);
    }
trims_all {D} {L} {d} {l} now false range parts answer old mid new are give flushed plain =
    record {
      parts = parts;
      are = are;
      give = subst (λ (xs : List Bio). GiveInTurn now xs answer old new) (sym (append-nil parts))
          (subst (λ (a : Result Unit RequestFault). GiveInTurn now parts a old new) (sym (plain refl).0)
          (subst (λ (s : Server D L d l). GiveInTurn now parts (Ok tt) old s) (sym (plain refl).1)
          give));
    }

-- One of a trim's parts failed.
pub trims_failed : {D L : Type 0} {d : Ghosts D} {l : Ghosts L} (now : ℕ) (fua : Bool)
    (range : Range) (parts : List Bio) (fault : RequestFault) (old new : Server D L d l)
    → AreDiscards range.first range.count parts → GiveInTurn now parts (Err fault) old new
    → TrimsParts now fua range (Err fault) old new
trims_failed now fua range parts fault old new are give =
    record { parts = parts; are = are; give = give_less now parts _ fault old new give }

-- An answer that is no error is Ok.
pub ok_left : (answer : Result Unit RequestFault) → ((fault : RequestFault) → answer ≡ Err fault → ⊥)
    → answer ≡ Ok tt
ok_left (Ok done) not = refl
ok_left (Err fault) not = absurd (not fault refl)
