-- The verdict that follows from an account is the verdict on its image, and there is only one.
use Rattle.std.proofs.Common.{sym, ◌∙◌, subst, inl, inr, arith, ◌||◌, Option, Some, None, List, []}
use Rattle.std.proofs.Common.{◌∷◌, length, take, drop, refl, ap, ◌≡◌, ℕ, zero, suc, ◌*◌, ◌/◌, ◌%◌}
use Rattle.std.proofs.Common.{◌<◌, ◌≤◌, Bool, true, false, ◌&&◌}
use Rattle.std.specs.Prelude.{slice_get, is_none, is_some}
use Rattle.std.proofs.lemmas.Bool.{and_parts, cases_lt}
use Rattle.bio.specs.Content.{Content, sector_of}
use Rattle.bio.specs.declared.event.CoreEvent.{CoreEvent}
use Rattle.bio.specs.Events.{end_of, is_before, is_flush_submit, is_lawful, is_well_formed}
use Rattle.bio.specs.Events.{is_within, submits}
use Rattle.bio.specs.PlaceLaws.{all_below-each, any_below-at, any_below-none, any_below-some}
use Rattle.bio.specs.PlaceLaws.{bool_cases, option_cases, or_cases, or_second, slice_get-within}
use Rattle.bio.specs.Places.{all_below}
use Rattle.bio.specs.Possible.{PossibleAt, covers_at, ended_ok, has_kept, is_durable, is_kept}
use Rattle.bio.specs.Possible.{is_replaced}
use Rattle.bio.specs.RequestLaws.{event_within}
use Rattle.bio.specs.Requests.{has_fua}
use Rattle.judge.proofs.HeldValues.{flushed_last, replaced_last}
use Rattle.judge.specs.Accounts.{IsAccount, IsLastFlush, is_held_from, last_below, place_at}
use Rattle.judge.specs.declared.accounts.Account.{Account}
use Rattle.judge.specs.declared.verdict.Verdict.{Verdict}
use Rattle.judge.specs.declared.verdict.Verdict.TheVariants.{Yes, No}
use Rattle.judge.specs.inside.{is_below_last, is_sure_flush, IsVerdictOf, is_at_first, could_hold_value}
use Rattle.judge.specs.Laws.{any_below-last, equal_bytes, held-parts, held_somewhere, kept_last}
use Rattle.judge.specs.Laws.{kept_within, last_below-found, none_passes, same_bytes}
use Rattle.judge.specs.Verdicts.{FailsAt, IsLastKept, IsRuledOutBy, IsVerdict}

is_some-none : (o : Option ℕ) → is_none o ≡ true → is_some o ≡ false
is_some-none None e = refl
is_some-none (Some x) e = cc

none-is_some : (o : Option ℕ) → is_some o ≡ false → is_none o ≡ true
none-is_some None e = refl
none-is_some (Some x) e = cc

-- a sector is fine if it passes `could_hold_value`
fine_possible : (events : List CoreEvent) (first now : Content) (sectors sector : ℕ)
    (account : Account)
    → IsAccount events now sectors account → sector < sectors
    → could_hold_value account.held.items account.last.items first now sector ≡ true
    → PossibleAt events first now sector
fine_possible events first now sectors sector account told within fine =
    elim (or_cases (is_some (place_at account.held.items sector))
    (is_at_first account.last.items first now sector) fine) [
      | inl held ↦
          grind (
            arith,
            any_below-last (is_held_from events now sector) (length events),
            any_below-some,
            held-parts,
          )
      | inr same ↦
          grind (arith, and_parts, equal_bytes, kept_last, is_some-none)
    ]

possible_fine : (events : List CoreEvent) (first now : Content) (sectors sector : ℕ)
    (account : Account)
    → IsAccount events now sectors account → sector < sectors
    → PossibleAt events first now sector
    → could_hold_value account.held.items account.last.items first now sector ≡ true
possible_fine events first now sectors sector account told within (inl same) =
    grind (arith, none-is_some, kept_last, or_second, same_bytes)
possible_fine events first now sectors sector account told within (inr from) =
    let held =
    ap is_some (told.held sector within)
    ∙ sym (any_below-last (is_held_from events now sector) (length events))
    ∙ held_somewhere events now sector from.0 from.1 from.2 in
    ap (λ b. b || is_at_first account.last.items first now sector) held

pub ruled_out : (events : List CoreEvent) (sector : ℕ) (by : Option ℕ)
    → by ≡ last_below (is_kept events sector) (length events)
    → IsRuledOutBy events sector by
ruled_out events sector None is = kept_last events sector ∙ ap is_some (sym is)
ruled_out events sector (Some id) is = grind (arith, last_below-found, kept_within)

-- past the end of both images, each sector is empty
same_past : (first image : List ℕ) (sector : ℕ) → length image % 512 ≡ 0
    → length first ≡ length image → length image / 512 ≤ sector
    → sector_of image sector ≡ sector_of first sector
same_past first image sector whole same past =
    let beyond : length image ≤ 512 * sector = omega arith in
    ap (take 512) (drop_past (512 * sector) image beyond)
    ∙ sym (ap (take 512) (drop_past (512 * sector) first (omega arith)))
  where
    drop_past : (n : ℕ) (xs : List ℕ) → length xs ≤ n → drop n xs ≡ []
    drop_past zero [] h = refl
    drop_past (suc n) [] h = refl
    drop_past zero (x ∷ xs) h = absurd (omega arith)
    drop_past (suc n) (x ∷ xs) h = drop_past n xs (omega arith)

none_past : (events : List CoreEvent) (sectors sector : ℕ) → is_lawful sectors events ≡ true
    → sectors ≤ sector → has_kept events sector ≡ false
none_past events sectors sector lawful past =
    let within : ℕ → Bool = λ place. is_within sectors (slice_get events place) in
    let each =
    all_below-each within (length events)
    (and_parts (is_well_formed events) (all_below within (length events)) lawful).1 in
    any_below-none (is_kept events sector) (length events)
    (λ id h. elim (bool_cases (is_kept events sector id)) [
      | inl kept ↦
          let covers =
          (and_parts (is_durable events id) (covers_at sector (slice_get events id)) kept).1 in
          absurd (let contra : true ≡ false = sym covers ∙ event_within (slice_get events id)
          sectors sector (each id h) past in cc)
      | inr other ↦ other
    ])

pub judged : (events : List CoreEvent) (first image : List ℕ) (account : Account)
    (verdict : Verdict)
    → length image % 512 ≡ 0 → length first ≡ length image
    → is_lawful (length image / 512) events ≡ true
    → IsAccount events (sector_of image) (length image / 512) account
    → IsVerdictOf account.held.items account.last.items (sector_of first) (sector_of image)
    (length image / 512) verdict
    → IsVerdict (length image / 512) events (sector_of first) (sector_of image) verdict
judged events first image account Yes whole same lawful told found =
    λ sector. elim (cases_lt sector (length image / 512)) [
      | inl within ↦
          fine_possible events (sector_of first) (sector_of image)
          (length image / 512) sector account told within (found sector within)
      | inr past ↦
          grind (arith, same_past, none_past, length)
    ]
judged events first image account (No sector by) whole same lawful told found = record {
  within = found.within;
  fails = λ possible.
      grind (
        arith,
        possible_fine events (sector_of first) (sector_of image) (length image / 512)
            sector account told found.within possible,
        true,
        false,
      );
  lowest = λ lower h.
      fine_possible events (sector_of first) (sector_of image)
      (length image / 512) lower account told
      (let within = found.within in omega arith) (found.lowest lower h);
  ruled_out = ruled_out events sector by (found.ruled_out ∙ told.last sector found.within);
}

pub last_is : (test : ℕ → Bool) (n p : ℕ) → p < n → test p ≡ true
    → ((k : ℕ) → test k ≡ true → k ≤ p) → last_below test n ≡ Some p
last_is test n p within here last = elim (option_cases (last_below test n)) [
  | inl none ↦
      let found = any_below-at test n p within here in
      absurd (let contra : true ≡ false = sym found ∙ none_passes test n none in cc)
  | inr some ↦
      let found = last_below-found test n some.0 some.1 in
      let up = found.last p within here in
      let down = last some.0 found.here in
      let same : some.0 ≡ p = omega arith in
      grind (arith, some.1, same)
]

one_cause : (events : List CoreEvent) (sector : ℕ) (by other : Option ℕ)
    → IsRuledOutBy events sector by → IsRuledOutBy events sector other → by ≡ other
one_cause events sector None None a b = refl
one_cause events sector None (Some id) a b =
    absurd (let contra : true
    ≡ false = sym
    (any_below-at (is_kept events sector) (length events) id
    (kept_within events sector id b.kept) b.kept) ∙ a in cc)
one_cause events sector (Some id) None a b =
    absurd (let contra : true
    ≡ false = sym
    (any_below-at (is_kept events sector) (length events) id
    (kept_within events sector id a.kept) a.kept) ∙ b in cc)
one_cause events sector (Some id) (Some later) a b =
    let up = b.last id a.kept in
    let down = a.last later b.kept in
    let same : id ≡ later = omega arith in
    rw same

one_sector : (sectors : ℕ) (events : List CoreEvent) (first now : Content) (sector other : ℕ)
    (by cause : Option ℕ)
    → FailsAt events first now sectors sector by → FailsAt events first now sectors other cause
    → sector ≡ other
one_sector sectors events first now sector other by cause a b = grind (arith, cases_lt)

pub one_verdict : (sectors : ℕ) (events : List CoreEvent) (first now : Content)
    (verdict other : Verdict)
    → IsVerdict sectors events first now verdict → IsVerdict sectors events first now other
    → verdict ≡ other
one_verdict sectors events first now Yes Yes a b = refl
one_verdict sectors events first now Yes (No sector by) a b = absurd (b.fails (a sector))
one_verdict sectors events first now (No sector by) Yes a b = absurd (a.fails (b sector))
one_verdict sectors events first now (No sector by) (No other cause) a b =
    let same = one_sector sectors events first now sector other by cause a b in
    let causes =
    one_cause events other by cause
    (subst (λ (s : ℕ). IsRuledOutBy events s by) same a.ruled_out) b.ruled_out in
    rw (same, causes)

flush_within : (events : List CoreEvent) (id : ℕ) → is_flush_submit (slice_get events id) ≡ true
    → id < length events
flush_within events id flush = grind (arith, option_cases, slice_get-within)

pub durable_by_last : (events : List CoreEvent) (flush id : ℕ) → IsLastFlush events flush
    → is_durable events id ≡
    (ended_ok events id && (submits has_fua (slice_get events id) || is_before events id flush))
durable_by_last events flush id last =
    let found =
    last_is (is_sure_flush events) (length events) flush
    (flush_within events flush last.flush)
    (grind (arith, last.flush, last.ended))
    (λ later sure. let parts = and_parts (is_flush_submit (slice_get events later))
    (ended_ok events later) sure in last.last later parts.0 parts.1) in
    ap (λ b. ended_ok events id && (submits has_fua (slice_get events id) || b))
    (flushed_last events id ∙ ap (is_below_last (end_of events id)) found)

pub replaced_by_last : (events : List CoreEvent) (sector last id : ℕ)
    → IsLastKept events sector last → is_replaced events sector id ≡ is_before events id last
replaced_by_last events sector last id kept =
    replaced_last events sector id
    ∙ ap (is_below_last (end_of events id))
    (last_is (is_kept events sector) (length events) last
    (kept_within events sector last kept.kept) kept.kept kept.last)
