-- The view and the calls of a device that is a range of another device's sectors.
use Rattle.std.specs.Prelude.{◌≡◌, ℕ, ◌+◌}
use Rattle.blockdev.specs.View.{Call, Discards, Flushes, Reads, View, Writes}
use Rattle.bio.specs.Content.{Content, moved}

-- the same call, shifted by `offset` sectors
abbrev pub call_from : ℕ → Call → Call
call_from offset (Reads first before after) = Reads (offset + first) before after
call_from offset (Writes first bytes fua) = Writes (offset + first) bytes fua
call_from offset (Discards first count) = Discards (offset + first) count
call_from offset Flushes = Flushes

-- `set` has a content whose sectors from `offset` on are the sectors of `left`.
abbrev pub SeenFrom : ℕ → (Content → Type 0) → Content → Type 0
SeenFrom offset set left =
    (below : Content) × set below × ((sector : ℕ) → left sector ≡ moved offset below sector)

-- The view of a device's `length` sectors from `offset` on. Its contents, also those that a crash
-- may leave, are the device's contents from `offset` on.
abbrev pub window : View → ℕ → ℕ → View
window v offset length = record {
  size = length;
  origin = record { sector = v.origin.sector + offset; disk = v.origin.disk };
  content = moved offset v.content;
  crash = SeenFrom offset v.crash;
  clock = v.clock;
  since = λ reading. SeenFrom offset (v.since reading);
  faults = v.faults;
  lies = v.lies;
  can_lie = v.can_lie;
}
