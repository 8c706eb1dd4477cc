-- Each step keeps the rule of a board, and two statuses that fit and have the same number are
-- equal.
use Rattle.std.proofs.Common.{true≢false, refl, arith, sym, ap, ◌∙◌, subst, ⊎_elim, ◌≡◌, ◌≢◌, ℕ}
use Rattle.std.proofs.Common.{◌+◌, ◌*◌, ◌≤◌, Option, Some, None, zero, suc, List, [], ◌∷◌, ◌++◌}
use Rattle.std.proofs.Common.{set, true, false}
use Rattle.std.specs.Prelude.{slice_set, slice_index}
use Rattle.atomic_table.proofs.Lists.{at_set, at_snoc, set_again}
use Rattle.atomic_table.specs.Table.{State, Me, Step, keeps, Allows, Splits, Joins}
use lib.ListN.{get_elem?}
use mathlib.Core.Option.{none, some, some-ne-none, some-injective}
use Rattle.refusals.specs.declared.run_error.End.{End}
use Rattle.refusals.specs.declared.run_error.End.TheVariants as ends
use Rattle.bio.specs.declared.outcome.Status.{Status}
use Rattle.board.specs.declared.rule.BoardPass.{BoardPass}
use Rattle.board.specs.PublishedLaws.{begins_itself, begins_longer, begins_none, last_of-push}
use Rattle.board.specs.PublishedLaws.{opening_rises, rises_more}
use Rattle.board.specs.Published.{ReadsBoard, Compares, FitsBoard, IsPublished, writer_pass, reader_pass, pass_after}
use Rattle.board.specs.Published.{as_reader, Publishes, StatusesBegin, opening, last_of, word_of, IsFit}
use Rattle.board.specs.Published.{end_number, MayFollow, IsRising}

pub end_few : (end : Option End) → end_number end ≤ 20
end_few None = omega arith
end_few (Some ends.Full) = omega arith
end_few (Some ends.Device) = omega arith
end_few (Some ends.Memory) = omega arith

pub end_once : (one other : Option End) → end_number one ≡ end_number other → one ≡ other
end_once None None e = refl
end_once None (Some ends.Full) e = absurd (omega arith)
end_once None (Some ends.Device) e = absurd (omega arith)
end_once None (Some ends.Memory) e = absurd (omega arith)
end_once (Some ends.Full) None e = absurd (omega arith)
end_once (Some ends.Full) (Some ends.Full) e = refl
end_once (Some ends.Full) (Some ends.Device) e = absurd (omega arith)
end_once (Some ends.Full) (Some ends.Memory) e = absurd (omega arith)
end_once (Some ends.Device) None e = absurd (omega arith)
end_once (Some ends.Device) (Some ends.Full) e = absurd (omega arith)
end_once (Some ends.Device) (Some ends.Device) e = refl
end_once (Some ends.Device) (Some ends.Memory) e = absurd (omega arith)
end_once (Some ends.Memory) None e = absurd (omega arith)
end_once (Some ends.Memory) (Some ends.Full) e = absurd (omega arith)
end_once (Some ends.Memory) (Some ends.Device) e = absurd (omega arith)
end_once (Some ends.Memory) (Some ends.Memory) e = refl

-- a number has 5 bits for the end, 21 bits for the sector, and the rest for the entries
parts : (entries sector end a b c : ℕ) → sector ≤ 1048576 → end ≤ 20 → b ≤ 1048576 → c ≤ 20
    → entries * 67108864 + sector * 32 + end ≡ a * 67108864 + b * 32 + c
    → (entries ≡ a) × (sector ≡ b) × (end ≡ c)
parts entries sector end a b c few small less tiny e = (omega arith, omega arith, omega arith)

pub word_once : (one other : Status) → IsFit one → IsFit other → word_of one ≡ word_of other
    → one ≡ other
word_once one other fit fits e = grind (arith, end_number, end_few, end_once)

off : false ≡ true → ⊥
off e = true≢false (sym e)

pub begins : (word : ℕ) → word ≡ 0 → IsPublished (word ∷ []) (writer_pass (opening ∷ []) ∷ [])
begins word is =
    record {
      place = 0;
      statuses = opening ∷ [];
      word = ap (λ (n : ℕ). n ∷ []) is;
      rising = opening_rises;
      fits = one;
    }
  where
    one : (by : ℕ) (pass : BoardPass) → get_elem? (writer_pass (opening ∷ []) ∷ []) by ≡ some pass
        → FitsBoard 0 (opening ∷ []) by pass
    one zero pass e = subst (FitsBoard 0 (opening ∷ []) 0) (some-injective _ _ e)
        (record {
          writes = λ w. (refl, refl);
          seen = begins_itself (opening ∷ []);
          told = begins_none (opening ∷ []);
        })
    one (suc by) pass e = absurd (some-ne-none pass (sym e))

fits_set : (place : ℕ) (statuses : List Status) (passes : List BoardPass) (by : ℕ) (new : BoardPass)
    → ((j : ℕ) (pass : BoardPass) → j ≢ by → get_elem? passes j ≡ some pass
    → FitsBoard place statuses j pass)
    → FitsBoard place statuses by new
    → (j : ℕ) (pass : BoardPass) → get_elem? (set passes by new) j ≡ some pass
    → FitsBoard place statuses j pass
fits_set place statuses passes by new others mine j pass e =
    ⊎_elim
    (λ (x : (j ≡ by) × (new ≡ pass)). subst (λ (y : ℕ × BoardPass). FitsBoard place statuses y.0 y.1)
    (λ i. (sym x.0 i, x.1 i)) mine)
    (λ (x : (j ≢ by) × (get_elem? passes j ≡ some pass)). others j pass x.0 x.1)
    (at_set passes by j new pass e)

reader_fits : (place : ℕ) (statuses seen : List Status) (by : ℕ) → StatusesBegin seen statuses
    → FitsBoard place statuses by (reader_pass seen)
reader_fits place statuses seen by begins =
    record { writes = λ w. absurd (off w); seen = begins; told = begins_none statuses }

pub publish_keeps : (words : List ℕ) (passes : List BoardPass) (id : ℕ) (seen : List Status)
    (status : Status) → IsFit status → MayFollow (last_of seen) status
    → IsPublished words passes → get_elem? passes id ≡ some (writer_pass seen)
    → IsPublished (slice_set words 0 (word_of status))
    (set passes id (writer_pass (seen ++ status ∷ [])))
publish_keeps words passes id seen status fit follows published there =
    let mine = (published.fits id (writer_pass seen) there).writes refl in
    let list = seen ++ status ∷ [] in record {
      place = published.place;
      statuses = list;
      word =
          ap (λ (ws : List ℕ). slice_set ws 0 (word_of status)) published.word
          ∙ ap (λ (s : Status). word_of s ∷ []) (sym (last_of-push seen status));
      rising = rises_more seen status (subst IsRising (sym mine.1) published.rising) fit follows;
      fits = fits_set published.place list passes id (writer_pass list)
          (λ j pass apart e.
          let was = published.fits j pass e in record {
            writes = λ w. absurd (apart ((was.writes w).0 ∙ sym mine.0));
            seen =
                begins_longer pass.seen seen (status ∷ [])
                (subst (StatusesBegin pass.seen) (sym mine.1) was.seen);
            told =
                begins_longer pass.told seen (status ∷ [])
                (subst (StatusesBegin pass.told) (sym mine.1) was.told);
          })
          (record {
            writes = λ w. (mine.0, refl);
            seen = begins_itself list;
            told = begins_none list;
          });
    }

-- a step that writes the word `new`; the other fields of the step don't matter
abbrev writes_word : ℕ → Step (Unit {0})
writes_word new = record { slots = 0; word = 0; first = new; second = 0; said = none }

pub alone : (me : Me (Unit {0}) BoardPass) → me.1 ≡ [] → me ≡ (me.0, [])
alone me e = λ k. (me.0, e k)

abbrev Published : State (Unit {0}) BoardPass → Type 0
Published state = IsPublished state.words state.views

pub publishes : (slots id new : ℕ) (me : Me (Unit {0}) BoardPass) (seen : List Status) (status : Status)
    → me ≡ (writer_pass seen, []) → new ≡ word_of status → IsFit status
    → MayFollow (last_of seen) status
    → Allows Published slots id me 0 (λ _. new) (λ _. Publishes (writes_word new) me new)
publishes slots id new me seen status is word fit follows =
    subst (λ (m : Me (Unit {0}) BoardPass). Allows Published slots id m 0 (λ _. new)
    (λ _. Publishes (writes_word new) m new)) (sym is)
    (λ s published sizes there small. (
      writer_pass (seen ++ status ∷ []),
      keeps,
      tt,
      subst (λ (n : ℕ). IsPublished (slice_set s.words 0 n)
          (set s.views id (writer_pass (seen ++ status ∷ [])))) (sym word)
          (publish_keeps s.words s.views id seen status fit follows published there),
      λ other fits e. ap (λ (x : Status). (writer_pass (seen ++ x ∷ []), []))
          (word_once status other fit fits (sym word ∙ e)),
    ))

pub published_is : (before after : Me (Unit {0}) BoardPass) (new : ℕ) (seen : List Status)
    (status : Status) → before ≡ (writer_pass seen, []) → new ≡ word_of status
    → IsFit status → Publishes (writes_word new) before new after
    → after ≡ (writer_pass (seen ++ status ∷ []), [])
published_is before after new seen status is word fit told =
    told status fit word ∙ ap
    (λ (m : Me (Unit {0}) BoardPass). (writer_pass (m.0.seen ++ status ∷ []), [])) is

words_again : (words : List ℕ) (n : ℕ) → words ≡ n ∷ []
    → slice_set words 0 (slice_index words 0) ≡ words
words_again words n is =
    subst (λ (ws : List ℕ). slice_set ws 0 (slice_index ws 0) ≡ ws) (sym is) refl

look_keeps : (words : List ℕ) (passes : List BoardPass) (id : ℕ) (seen : List Status)
    → (published : IsPublished words passes) → get_elem? passes id ≡ some (reader_pass seen)
    → IsPublished (slice_set words 0 (slice_index words 0)) (set passes id (reader_pass published.statuses))
look_keeps words passes id seen published there = record {
  place = published.place;
  statuses = published.statuses;
  word = words_again words _ published.word ∙ published.word;
  rising = published.rising;
  fits =
      fits_set published.place published.statuses passes id (reader_pass published.statuses)
      (λ j pass apart e. published.fits j pass e)
      (reader_fits published.place published.statuses published.statuses id (begins_itself published.statuses));
}

pub looks : (slots id : ℕ) (me : Me (Unit {0}) BoardPass) (seen : List Status)
    → me ≡ (reader_pass seen, [])
    → Allows Published slots id me 0 (λ n. n) (ReadsBoard (writes_word 0) me)
looks slots id me seen is =
    subst (λ (m : Me (Unit {0}) BoardPass). Allows Published slots id m 0 (λ n. n)
    (ReadsBoard (writes_word 0) m)) (sym is)
    (λ s published sizes there small. (
      reader_pass published.statuses,
      keeps,
      tt,
      look_keeps s.words s.views id seen published there,
      (
        (published.fits id (reader_pass seen) there).seen,
        published.rising,
        refl,
        ap (λ (ws : List ℕ). slice_index ws 0) published.word,
      ),
    ))

compare_keeps : (words : List ℕ) (passes : List BoardPass) (id : ℕ) (pass : BoardPass) → pass.writes ≡ true
    → (published : IsPublished words passes) → get_elem? passes id ≡ some pass
    → IsPublished (slice_set words 0 (slice_index words 0)) (set passes id (writer_pass pass.seen))
compare_keeps words passes id pass writing published there =
    let mine = published.fits id pass there in record {
      place = published.place;
      statuses = published.statuses;
      word = words_again words _ published.word ∙ published.word;
      rising = published.rising;
      fits =
          fits_set published.place published.statuses passes id (writer_pass pass.seen)
          (λ j other apart e. published.fits j other e)
          (record {
            writes = λ w. mine.writes writing;
            seen = mine.seen;
            told = begins_none published.statuses;
          });
    }

pub compares : (slots id : ℕ) (me : Me (Unit {0}) BoardPass) (pass : BoardPass) → me ≡ (pass, [])
    → pass.writes ≡ true
    → Allows Published slots id me 0 (λ n. n) (Compares (writes_word 0) me)
compares slots id me pass is writing =
    subst (λ (m : Me (Unit {0}) BoardPass). Allows Published slots id m 0 (λ n. n)
    (Compares (writes_word 0) m)) (sym is)
    (λ s published sizes there small.
    let mine = published.fits id pass there in (
      writer_pass pass.seen,
      keeps,
      tt,
      compare_keeps s.words s.views id pass writing published there,
      (subst (StatusesBegin pass.told) (sym (mine.writes writing).1) mine.told, refl),
    ))

pub splits : (id : ℕ) (pass : BoardPass) → Splits Published id pass pass (as_reader pass)
splits id pass s published there = record {
  place = published.place;
  statuses = published.statuses;
  word = published.word;
  rising = published.rising;
  fits = λ j other e. ⊎_elim
      (λ (was : get_elem? (set s.views id pass) j ≡ some other). published.fits j other
      (subst (λ (l : List BoardPass). get_elem? l j ≡ some other)
      (set_again s.views id pass there) was))
      (λ (new : as_reader pass ≡ other). subst (FitsBoard published.place published.statuses j) new
      (reader_fits published.place published.statuses pass.seen j (published.fits id pass there).seen))
      (at_snoc (set s.views id pass) (as_reader pass) other j e);
}

pub joins : (id other : ℕ) (pass part : BoardPass)
    → Joins Published id pass other part (pass_after pass part) (reader_pass [])
joins id other pass part s published there apart from =
    let both = pass_after pass part in
    let theirs : get_elem? s.views other ≡ some part =
    ⊎_elim (λ (t : (other ≡ id) × (both ≡ part)). absurd (apart t.0))
    (λ (t : (other ≢ id) × (get_elem? s.views other ≡ some part)). t.1)
    (at_set s.views id other both part from) in
    let mine = published.fits id pass there in record {
      place = published.place;
      statuses = published.statuses;
      word = published.word;
      rising = published.rising;
      fits = fits_set published.place published.statuses (set s.views id both) other (reader_pass [])
          (λ j w _ e. fits_set published.place published.statuses s.views id both
          (λ i y _ f. published.fits i y f)
          (record {
            writes = mine.writes;
            seen = mine.seen;
            told = (published.fits other part theirs).seen;
          }) j w e)
          (reader_fits published.place published.statuses [] other (begins_none published.statuses));
    }
