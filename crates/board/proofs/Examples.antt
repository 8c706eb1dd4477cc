-- Examples of statuses that may follow one another, of some that may not, and of their numbers.
use Rattle.std.proofs.Common.{◌≡◌, Bool, true, false, true≢false, List, [], ◌∷◌, Some, None, refl}
use Rattle.std.proofs.Common.{ap, arith}
use Rattle.refusals.specs.declared.run_error.End.TheVariants.{Full, Device, Memory}
use Rattle.bio.specs.declared.outcome.Status.{Status}
use Rattle.board.specs.Published.{opening, last_of, IsFit, MayFollow, MayPublish, IsRising, StatusesBegin}
use Rattle.board.specs.Published.{word_of}
use Rattle.board.specs.PublishedLaws.{rises_more, opening_rises}

-- the status of a log of one entry, of two, and of two once the log was found full
abbrev one : Status
one = record { entries = 1; sector = 2; end = None }

abbrev two : Status
two = record { entries = 2; sector = 4; end = None }

abbrev full : Status
full = record { entries = 2; sector = 4; end = Some Full }

-- more entries may follow, and an end
two_follows : MayFollow one two
two_follows = record { entries = omega arith; end = λ cause is. absurd (cc is) }

full_follows : MayFollow two full
full_follows = record { entries = omega arith; end = λ cause is. absurd (cc is) }

-- but fewer entries may not, and an end neither goes nor becomes another
one_back : MayFollow two one → ⊥
one_back follows = let entries = follows.entries in absurd (omega arith)

end_gone : MayFollow full two → ⊥
end_gone follows = let end = follows.end Full refl in absurd (cc end)

-- the board has room for a log of the most sectors
abbrev most : Status
most = record { entries = 1048576; sector = 1048576; end = None }

most_fit : IsFit most
most_fit = record { entries = omega arith; sector = omega arith }

-- and not for one entry or one sector more
more_entries : IsFit (record most { entries = 1048577 }) → ⊥
more_entries fit = let entries = fit.entries in absurd (omega arith)

-- what may be published follows the last status, and not the first alone
two_published : MayPublish (opening ∷ one ∷ []) two
two_published = grind (arith, two_follows)

one_published : MayPublish (opening ∷ two ∷ []) one → ⊥
one_published may = one_back may.follows

last_published : last_of (opening ∷ two ∷ full ∷ []) ≡ full
last_published = refl

-- statuses of which none goes back
three_rise : IsRising (opening ∷ one ∷ two ∷ [])
three_rise = grind (arith, rises_more, opening_rises, two_follows)

unfit : IsRising (record most { entries = 1048577 } ∷ []) → ⊥
unfit rising = more_entries (rising.fit 0 _ refl)

abbrev has_two : List Status → Bool
has_two (status ∷ next ∷ others) = true
has_two others = false

-- a list begins with its first statuses, and not with another, nor with more than it has
one_begins : StatusesBegin (one ∷ []) (one ∷ two ∷ [])
one_begins = record { rest = two ∷ []; is = refl }

longer_begins : StatusesBegin (one ∷ two ∷ []) (one ∷ []) → ⊥
longer_begins begins = true≢false (ap has_two begins.is)

-- a status as a number: 3 entries, 4 sectors, and each end
plain_word : word_of (record { entries = 3; sector = 4; end = None }) ≡ 201326720
plain_word = refl

full_word : word_of (record { entries = 3; sector = 4; end = Some Full }) ≡ 201326738
full_word = refl

device_word : word_of (record { entries = 3; sector = 4; end = Some Device }) ≡ 201326739
device_word = refl

memory_word : word_of (record { entries = 3; sector = 4; end = Some Memory }) ≡ 201326740
memory_word = refl
