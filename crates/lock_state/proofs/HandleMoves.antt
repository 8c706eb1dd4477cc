-- Each step keeps the rule of a registry and its handles (`KeepsHandles`); also laws of `IsShown`.
use Rattle.std.proofs.Common.{◌⊎◌, ℕ, zero, suc, ◌<◌, List, [], ◌∷◌, ◌++◌, length, set, Some, None}
use Rattle.std.proofs.Common.{true, false, true≢false, refl, sym, ap, ◌∙◌, ◌≡◌, ◌≢◌, subst, inl}
use Rattle.std.proofs.Common.{inr, ⊎_elim, arith, cond, eqb, eq-eqb, ne_eqb, Option}
use Rattle.std.specs.Prelude.{slice_get, slice_set}
use Rattle.atomic_table.proofs.Lists.{at_set, set_again}
use Rattle.atomic_table.specs.Table.{State, Me, keeps, Allows, Splits, Joins}
use Rattle.std.proofs.lemmas.Option.{slice_get_within}
use lib.ListN.{get_elem?}
use mathlib.Core.Option.{some, some-ne-none, some-injective}
use Rattle.refusals.specs.declared.run_error.End.{End}
use Rattle.lock_state.specs.declared.handles.rule.HandlePass.{HandlePass}
use Rattle.lock_state.specs.FirstStop.{IsShown, cause_number}
use Rattle.lock_state.specs.HandleRules.{empty_pass, registry_part, handle_part, with_handle, Agree, Sets, FitsHandles}
use Rattle.lock_state.specs.HandleRules.{KeepsHandles, registry_of, handle_of, joint_pass}

module _ {A : Type 0} where
  pub get_set_same : (xs : List A) (k : ℕ) (x y : A) → slice_get xs k ≡ Some x
      → slice_get (set xs k y) k ≡ Some y
  get_set_same [] k x y e = absurd (cc)
  get_set_same (z ∷ zs) zero x y e = refl
  get_set_same (z ∷ zs) (suc k) x y e = get_set_same zs k x y e

  pub get_set_else : (xs : List A) (k j : ℕ) (y : A) → j ≢ k
      → slice_get (set xs k y) j ≡ slice_get xs j
  get_set_else [] k j y apart = refl
  get_set_else (z ∷ zs) zero zero y apart = absurd (apart refl)
  get_set_else (z ∷ zs) (suc k) (suc j) y apart = get_set_else zs k j y (λ e. apart (ap suc e))
  get_set_else (z ∷ zs) other rest y apart = refl

  pub get_front : (xs ys : List A) (k : ℕ) (x : A) → slice_get xs k ≡ Some x
      → slice_get (xs ++ ys) k ≡ Some x
  get_front [] ys k x e = absurd (cc)
  get_front (z ∷ zs) ys zero x e = e
  get_front (z ∷ zs) ys (suc k) x e = get_front zs ys k x e

  pub get_pushed : (xs : List A) (x : A) → slice_get (xs ++ x ∷ []) (length xs) ≡ Some x
  get_pushed [] x = refl
  get_pushed (z ∷ zs) x = get_pushed zs x

off : false ≡ true → ⊥
off e = true≢false (sym e)

nobody_fits : (place : ℕ) (owner : ℕ → ℕ) (all : List (Option ℕ)) (by : ℕ)
    → FitsHandles place owner all by empty_pass
nobody_fits place owner all by = record { kept = λ k. absurd (off k); held = λ h. absurd (off h) }

pub begins : KeepsHandles (registry_of [] ∷ [])
begins = record { place = 0; owner = λ n. 0; all = []; fits = one }
  where
    one : (by : ℕ) (pass : HandlePass) → get_elem? (registry_of [] ∷ []) by ≡ some pass
        → FitsHandles 0 (λ n. 0) [] by pass
    one zero pass e = grind (arith, some-injective)
    one (suc by) pass e = absurd (some-ne-none pass (sym e))

fits_set : (place : ℕ) (owner : ℕ → ℕ) (all : List (Option ℕ)) (passes : List HandlePass) (by : ℕ)
    (new : HandlePass)
    → ((j : ℕ) (pass : HandlePass) → j ≢ by → get_elem? passes j ≡ some pass
    → FitsHandles place owner all j pass)
    → FitsHandles place owner all by new
    → (j : ℕ) (pass : HandlePass) → get_elem? (set passes by new) j ≡ some pass
    → FitsHandles place owner all j pass
fits_set place owner all passes by new others mine j pass e = grind (arith, at_set)

at_end : (passes : List HandlePass) (new pass : HandlePass) (j : ℕ)
    → get_elem? (passes ++ new ∷ []) j ≡ some pass
    → (get_elem? passes j ≡ some pass) ⊎ ((j ≡ length passes) × (new ≡ pass))
at_end [] new pass zero e = inr (refl, some-injective new pass e)
at_end [] new pass (suc j) e = absurd (some-ne-none pass (sym e))
at_end (x ∷ xs) new pass zero e = inl e
at_end (x ∷ xs) new pass (suc j) e = grind (arith, at_end xs new pass j e)

before_end : (passes : List HandlePass) (by : ℕ) (pass : HandlePass) → get_elem? passes by ≡ some pass
    → by < length passes
before_end [] by pass e = absurd (some-ne-none pass (sym e))
before_end (x ∷ xs) zero pass e = omega arith
before_end (x ∷ xs) (suc by) pass e = let h = before_end xs by pass e in omega arith

-- `owner`, except that the pass of handle `number` is now at index `to`
unfoldable owner_after : (ℕ → ℕ) → ℕ → ℕ → ℕ → ℕ
owner_after owner number to n = cond (eqb n number) to (owner n)

moved_here : (owner : ℕ → ℕ) (number to : ℕ) → owner_after owner number to number ≡ to
unfolding owner_after
moved_here owner number to = grind (arith, eq-eqb)

moved_else : (owner : ℕ → ℕ) (number to n : ℕ) → n ≢ number → owner_after owner number to n ≡ owner n
unfolding owner_after
moved_else owner number to n apart = grind (arith, ne_eqb)

pub enrol_keeps : (passes : List HandlePass) (id : ℕ) (all : List (Option ℕ)) (new : Option ℕ)
    → KeepsHandles passes → get_elem? passes id ≡ some (registry_of all)
    → KeepsHandles (set passes id (joint_pass (all ++ new ∷ []) (length all) new))
enrol_keeps passes id all new kept there =
    let mine = (kept.fits id (registry_of all) there).kept refl in
    let owner = owner_after kept.owner (length all) id in record {
      place = kept.place;
      owner = owner;
      all = all ++ new ∷ [];
      fits =
          fits_set kept.place owner (all ++ new ∷ []) passes id
          (joint_pass (all ++ new ∷ []) (length all) new)
          (λ j pass apart e.
          let was = kept.fits j pass e in record {
            kept = λ keeps. absurd (apart ((was.kept keeps).0 ∙ sym mine.0));
            held = λ holds.
                let stands : slice_get all pass.number ≡ Some pass.held =
                subst (λ xs. slice_get xs pass.number ≡ Some pass.held) (sym mine.1)
                (was.held holds).1 in
                let within = slice_get_within all pass.number pass.held stands in (
                  moved_else kept.owner (length all) id pass.number (λ same. omega arith)
                      ∙ (was.held holds).0,
                  get_front all (new ∷ []) pass.number pass.held stands,
                );
          })
          (record {
            kept = λ k. (mine.0, refl);
            held = λ h. (moved_here kept.owner (length all) id, get_pushed all new);
          });
    }

pub set_keeps : (passes : List HandlePass) (id : ℕ) (all : List (Option ℕ)) (number : ℕ)
    (held new : Option ℕ) → KeepsHandles passes → get_elem? passes id ≡ some (joint_pass all number held)
    → KeepsHandles (set passes id (joint_pass (slice_set all number new) number new))
set_keeps passes id all number held new kept there =
    let mine = (kept.fits id (joint_pass all number held) there).kept refl in
    let own = (kept.fits id (joint_pass all number held) there).held refl in
    let after = slice_set all number new in record {
      place = kept.place;
      owner = kept.owner;
      all = after;
      fits = fits_set kept.place kept.owner after passes id (joint_pass after number new)
          (λ j pass apart e.
          let was = kept.fits j pass e in record {
            kept = λ keeps. absurd (apart ((was.kept keeps).0 ∙ sym mine.0));
            held = λ holds.
                let stands : slice_get all pass.number ≡ Some pass.held =
                subst (λ xs. slice_get xs pass.number ≡ Some pass.held) (sym mine.1)
                (was.held holds).1 in (
                  (was.held holds).0,
                  get_set_else all number pass.number new
                      (λ same. apart (sym (was.held holds).0 ∙ ap kept.owner same ∙ own.0))
                      ∙ stands,
                );
          })
          (record {
            kept = λ k. (mine.0, refl);
            held = λ h. (
              own.0,
              get_set_same all number held new
                  (rw mine.1 own.1),
            );
          });
    }

pub both_agree : (passes : List HandlePass) (id : ℕ) (all : List (Option ℕ)) (number : ℕ)
    (held : Option ℕ) → KeepsHandles passes → get_elem? passes id ≡ some (joint_pass all number held)
    → slice_get all number ≡ Some held
both_agree passes id all number held kept there =
    let mine = (kept.fits id (joint_pass all number held) there).kept refl in
    let own = (kept.fits id (joint_pass all number held) there).held refl in
    rw mine.1 own.1

pub split_keeps : (passes : List HandlePass) (id : ℕ) (pass : HandlePass) → pass.holds ≡ true → KeepsHandles passes
    → get_elem? passes id ≡ some pass
    → KeepsHandles (set passes id (registry_part pass) ++ handle_part pass ∷ [])
split_keeps passes id v holding kept there =
    let mine = kept.fits id v there in
    let own = mine.held holding in
    let owner = owner_after kept.owner v.number (length (set passes id (registry_part v))) in
    let front : (j : ℕ) (pass : HandlePass) → get_elem? (set passes id (registry_part v)) j ≡ some pass →
    FitsHandles kept.place owner kept.all j pass =
    fits_set kept.place owner kept.all passes id (registry_part v)
    (λ j pass apart e.
    let was = kept.fits j pass e in record {
      kept = was.kept;
      held =
          λ holds. grind (arith, moved_else, length, set);
    })
    (record { kept = mine.kept; held = λ h. absurd (off h) }) in record {
      place = kept.place;
      owner = owner;
      all = kept.all;
      fits = λ j pass e. grind (arith, length, set, moved_here, at_end);
    }

pub join_keeps : (passes : List HandlePass) (id : ℕ) (all : List (Option ℕ)) (other number : ℕ)
    (held : Option ℕ) → KeepsHandles passes → get_elem? passes id ≡ some (registry_of all)
    → other ≢ id → get_elem? (set passes id (joint_pass all number held)) other
    ≡ some (handle_of number held)
    → KeepsHandles (set (set passes id (joint_pass all number held)) other empty_pass)
join_keeps passes id all other number held kept there apart from =
    let mine = (kept.fits id (registry_of all) there).kept refl in
    let both = joint_pass all number held in
    let theirs : get_elem? passes other ≡ some (handle_of number held) =
    ⊎_elim (λ (t : (other ≡ id) × (both ≡ handle_of number held)). absurd (apart t.0))
    (λ (t : (other ≢ id) × (get_elem? passes other ≡ some (handle_of number held))). t.1)
    (at_set passes id other both (handle_of number held) from) in
    let own = (kept.fits other (handle_of number held) theirs).held refl in
    let owner = owner_after kept.owner number id in record {
      place = kept.place;
      owner = owner;
      all = kept.all;
      fits = fits_set kept.place owner kept.all (set passes id both) other empty_pass
          (λ j pass away e.
          ⊎_elim
          (λ (x : (j ≡ id) × (both ≡ pass)). subst
          (λ (y : ℕ × HandlePass). FitsHandles kept.place owner kept.all y.0 y.1) (λ i. (sym x.0 i, x.1 i))
          (record { kept = λ k. mine; held = λ h. (moved_here kept.owner number id, own.1) }))
          (λ (x : (j ≢ id) × (get_elem? passes j ≡ some pass)).
          let was = kept.fits j pass x.1 in record {
            kept = was.kept;
            held =
                λ holds. (
                  moved_else kept.owner number id pass.number
                      (λ same. away (sym (was.held holds).0 ∙ ap kept.owner same ∙ own.0))
                      ∙ (was.held holds).0,
                  (was.held holds).1,
                );
          })
          (at_set passes id j both pass e))
          (nobody_fits kept.place owner kept.all other);
    }

-- The lemmas above, in the form that the calls of a table need.

abbrev HandleMove : State (Unit {0}) HandlePass → Type 0
HandleMove state = KeepsHandles state.views

pub enrols : (slots id word : ℕ) (f : ℕ → ℕ) (me : Me (Unit {0}) HandlePass) (all : List (Option ℕ))
    (new : Option ℕ) → me ≡ (registry_of all, [])
    → Allows HandleMove slots id me word f
    (λ _ after. after ≡ (joint_pass (me.0.all ++ new ∷ []) (length me.0.all) new, []))
enrols slots id word f me all new is =
    rw is (λ s kept sizes there small. (
      joint_pass (all ++ new ∷ []) (length all) new,
      keeps,
      tt,
      enrol_keeps s.views id all new kept there,
      refl,
    ))

pub sets : (slots id word : ℕ) (f : ℕ → ℕ) (me : Me (Unit {0}) HandlePass) (all : List (Option ℕ))
    (number : ℕ) (held new : Option ℕ) → me ≡ (joint_pass all number held, [])
    → Allows HandleMove slots id me word f (λ _ after. Sets me.0 new after)
sets slots id word f me all number held new is =
    rw is (λ s kept sizes there small. (
      joint_pass (slice_set all number new) number new,
      keeps,
      tt,
      set_keeps s.views id all number held new kept there,
      (
        both_agree s.views id all number
            held kept there,
        refl,
      ),
    ))

pub agrees : (slots id word : ℕ) (me : Me (Unit {0}) HandlePass) (all : List (Option ℕ)) (number : ℕ)
    (held : Option ℕ) → me ≡ (joint_pass all number held, [])
    → Allows HandleMove slots id me word (λ n. n)
    (λ _ after. Agree me.0 × (after ≡ (joint_pass me.0.all me.0.number me.0.held, [])))
agrees slots id word me all number held is =
    rw is (λ s kept sizes there small. (
      joint_pass all number held,
      keeps,
      tt,
      subst KeepsHandles (sym
          (set_again s.views id (joint_pass all number held) there)) kept,
      (
        both_agree s.views id all
            number held kept there,
        refl,
      ),
    ))

pub splits : (id : ℕ) (pass : HandlePass) → pass.holds ≡ true
    → Splits HandleMove id pass (registry_part pass) (handle_part pass)
splits id pass holding s kept there = split_keeps s.views id pass holding kept there

pub joins : (id other : ℕ) (pass part : HandlePass) (all : List (Option ℕ)) (number : ℕ)
    (held : Option ℕ) → pass ≡ registry_of all → part ≡ handle_of number held
    → Joins HandleMove id pass other part (with_handle pass part) empty_pass
joins id other pass part all number held is his = grind (arith, join_keeps)

pub joined : (before after part : Me (Unit {0}) HandlePass) (all : List (Option ℕ)) (number : ℕ)
    (held : Option ℕ) → before ≡ (registry_of all, []) → part ≡ (handle_of number held, [])
    → after ≡ (with_handle before.0 part.0, before.1) → after ≡ (joint_pass all number held, [])
joined before after part all number held is his e = grind arith

pub lent_is : (mine part : Me (Unit {0}) HandlePass) (number : ℕ) (held : Option ℕ)
    → mine ≡ (handle_of number held, []) → part ≡ (handle_part mine.0, [])
    → part ≡ (handle_of number held, [])
lent_is mine part number held is e = grind arith

pub enrolled_is : (before after : Me (Unit {0}) HandlePass) (all : List (Option ℕ)) (new : Option ℕ)
    → before ≡ (registry_of all, [])
    → after ≡ (joint_pass (before.0.all ++ new ∷ []) (length before.0.all) new, [])
    → after ≡ (joint_pass (all ++ new ∷ []) (length all) new, [])
enrolled_is before after all new is told = grind arith

pub shown_begun : (cause : End) (held : List (Option ℕ)) (number : ℕ) → IsShown (Some cause) held
    → IsShown (Some cause) (slice_set held number (Some (cause_number cause)))
shown_begun cause [] number each other one there = each other one there
shown_begun cause (x ∷ held) zero each zero one there = inr (cc)
shown_begun cause (x ∷ held) zero each (suc other) one there = each (suc other) one there
shown_begun cause (x ∷ held) (suc number) each zero one there = each zero one there
shown_begun cause (x ∷ held) (suc number) each (suc other) one there =
    shown_begun cause held number (λ k. each (suc k)) other one there

pub shown_first : (before after : Option End) (held : List (Option ℕ)) → before ≡ None
    → IsShown before held → IsShown after held
shown_first before after held none each number one there = grind arith

pub shown_later : (before after : Option End) (held : List (Option ℕ))
    → ((cause : End) → before ≡ Some cause → after ≡ Some cause) → IsShown before held
    → IsShown after held
shown_later None after held stays each = shown_first None after held refl each
shown_later (Some cause) after held stays each =
    rw (stays cause refl) each
