use Rattle.std.proofs.Common.{◌≡◌, ℕ, List, [], ◌∷◌, Some, arith, length}
use Rattle.std.specs.Prelude.{nat_lt, slice_index_or, slice_set, true}
use Rattle.bio.specs.Content.{put, writes}
use Rattle.sector_disk.specs.declared.call.PastCall.{PastCall}
use Rattle.sector_disk.specs.inside.Storage.{IsFilled, content_at, value_in}
use Rattle.sector_disk.proofs.Ram.{content_put}
use Rattle.sector_disk.proofs.call.put_piece_in.Goals as goal

first_put : (calls : List PastCall) (call now : PastCall) (newest filled : List ℕ) (first : ℕ)
    (part : List ℕ) → true ≡ nat_lt 0 (length calls)
    → call ≡ slice_index_or calls 0 call → length part ≡ 65536
    → IsFilled first 128 0 newest filled
    → ((sector : ℕ)
    → value_in (Some now) sector ≡ put (writes first part) (value_in (Some call)) sector)
    → (sector : ℕ)
    → content_at (slice_set calls 0 now) filled sector
    ≡ put (writes first part) (content_at calls newest) sector
first_put [] call now newest filled first part some is size fills put_in = cc
first_put (c ∷ rest) call now newest filled first part some is size fills put_in =
    content_put c now rest newest filled first part size fills
    (λ sector. grind (arith, put_in sector))

pub returns-then-done-clause-done : goal.returns-then-done-clause-done
returns-then-done-clause-done c = λ done.
    first_put c.args.calls.now c.in-Some.call.now c.replace_in.new.call c.args.newest.now.items
    c.fill_places.new.places.items c.args.first c.args.part.now c.in-Some.ensures.item.0
    c.in-Some.ensures.item.1 (omega arith)
    c.fill_places.ensures (c.in_ok-done.ensures.done done)
