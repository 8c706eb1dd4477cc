-- Options of a handshake, one after another.
use Rattle.std.proofs.Common.{◌≡◌, ◌∙◌, List, [], ◌∷◌, ◌++◌, Option, None, Some, ℕ, ap}
use Rattle.std.proofs.Common.{append-nil, inl, inr, refl, sym, subst, ◌⊎◌}
use Rattle.std.specs.List.{AllByRecursion, flat_map}
use Rattle.std.proofs.lemmas.Grind.{flat_map-append}
use Rattle.std.proofs.KnownBytes.{Appends-nil, Appends-trans, Consumes-nil, Consumes-trans}
use Rattle.std.specs.Io.KnownBytes.{Appends, Consumes}
use Rattle.nbd.specs.declared.negotiation.Export.{Export}
use Rattle.nbd.specs.declared.negotiation.Negotiated.{Negotiated}
use Rattle.nbd.specs.declared.negotiation.Negotiated.TheVariants.{Begun, Left}
use Rattle.nbd.specs.Negotiation.{AgreesOnOptions, OptionGoesOn, IsOption, Sent, option_end, option_number}
use Rattle.nbd.specs.Negotiation.{replies_to, sent_bytes}

-- An option that is no Some is None.
none_left : {X : Type 0} (value : Option X) → ((x : X) → value ≡ Some x → ⊥) → value ≡ None
none_left None not = refl
none_left (Some x) not = absurd (not x refl)

-- Some options were read and answered, and none of them ended the handshake.
pub record HasAsked (e : Export) (flags : ℕ) (in_old in_new out_old out_new : Option (List ℕ))
    : Type 0 where
  pub asked : List Sent
  pub each : AllByRecursion OptionGoesOn asked
  pub heard : Consumes in_old in_new (flat_map sent_bytes asked)
  pub said : Appends out_old out_new (flat_map (replies_to e flags) asked)

-- Each of some things holds, and one more.
all_more : {X : Type 0} (P : X → Type 0) (xs : List X) (x : X) → AllByRecursion P xs → P x
    → AllByRecursion P (xs ++ x ∷ [])
all_more P [] x all last = (last, tt)
all_more P (first ∷ xs) x all last = (all.0, all_more P xs x all.1 last)

-- What a list gives, with one more at its end.
given_more : {X : Type 0} (f : X → List ℕ) (xs : List X) (x : X)
    → flat_map f xs ++ f x ≡ flat_map f (xs ++ x ∷ [])
given_more f xs x =
    sym (flat_map-append f xs (x ∷ []) ∙ ap (λ (ys : List ℕ). flat_map f xs ++ ys) (append-nil (f x)))

-- No option was read.
pub asked_none : (e : Export) (flags : ℕ) (input output : Option (List ℕ))
    → HasAsked e flags input input output output
asked_none e flags input output =
    record { asked = []; each = tt; heard = Consumes-nil input; said = Appends-nil output }

-- One more option was read and answered.
pub asked_more : (e : Export) (flags : ℕ) (in_old in_mid in_new out_old out_mid out_new
    : Option (List ℕ)) (sent : Sent) → HasAsked e flags in_old in_mid out_old out_mid → OptionGoesOn sent
    → Consumes in_mid in_new (sent_bytes sent) → Appends out_mid out_new (replies_to e flags sent)
    → HasAsked e flags in_old in_new out_old out_new
asked_more e flags in_old in_mid in_new out_old out_mid out_new sent before goes heard said =
    record {
      asked = before.asked ++ sent ∷ [];
      each = all_more OptionGoesOn before.asked sent before.each goes;
      heard = subst (Consumes in_old in_new) (given_more sent_bytes before.asked sent)
          (Consumes-trans in_old in_mid in_new _ _ before.heard heard);
      said = subst (Appends out_old out_new) (given_more (replies_to e flags) before.asked sent)
          (Appends-trans out_old out_mid out_new _ _ before.said said);
    }

-- The option that was read and answered last began the requests.
pub asked_last : (e : Export) (flags : ℕ) (in_old in_mid in_new out_old out_mid out_new
    : Option (List ℕ)) (sent : Sent) → HasAsked e flags in_old in_mid out_old out_mid
    → IsOption sent → option_end (option_number sent) sent.body ≡ Some Begun
    → Consumes in_mid in_new (sent_bytes sent) → Appends out_mid out_new (replies_to e flags sent)
    → (taken out : List ℕ) × Consumes in_old in_new taken × Appends out_old out_new out
    × AgreesOnOptions e flags taken out
asked_last e flags in_old in_mid in_new out_old out_mid out_new sent before option begins heard
    said = (
      flat_map sent_bytes before.asked ++ sent_bytes sent,
      flat_map (replies_to e flags) before.asked ++ replies_to e flags sent,
      Consumes-trans in_old in_mid in_new _ _ before.heard heard,
      Appends-trans out_old out_mid out_new _ _ before.said said,
      record {
        asked = before.asked;
        last = sent;
        each = before.each;
        option = option;
        begins = begins;
        heard = refl;
        said = refl;
      },
    )

-- How an option was answered: `end` says how it ends the handshake.
module _ (e : Export) (flags : ℕ) (in_old in_mid in_new out_old out_mid out_new : Option (List ℕ))
    (sent : Sent) (end : Option Negotiated) (before : HasAsked e flags in_old in_mid out_old out_mid)
    (option : IsOption sent) (is : end ≡ option_end (option_number sent) sent.body)
    (heard : Consumes in_mid in_new (sent_bytes sent))
    (said : (end ≡ Some Left) ⊎ Appends out_mid out_new (replies_to e flags sent)) where
  -- It doesn't end the handshake.
  pub asked_on : ((how : Negotiated) → end ≡ Some how → ⊥)
      → HasAsked e flags in_old in_new out_old out_new
  asked_on goes =
      elim said [
        | inl left ↦ absurd (goes Left left)
        | inr replied ↦ asked_more e flags in_old in_mid in_new out_old out_mid out_new sent before
            (record { option = option; goes_on = sym is ∙ none_left end goes }) heard replied
      ]

  -- It begins the requests.
  pub asked_begun : end ≡ Some Begun → (taken out : List ℕ) × Consumes in_old in_new taken
      × Appends out_old out_new out × AgreesOnOptions e flags taken out
  asked_begun begun =
      elim said [
        | inl left ↦ absurd (cc (left, begun))
        | inr replied ↦ asked_last e flags in_old in_mid in_new out_old out_mid out_new sent before
            option (sym is ∙ begun) heard replied
      ]
