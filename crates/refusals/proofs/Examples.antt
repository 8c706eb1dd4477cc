-- Examples of the definitions: for each, one that holds and one that doesn't.
use Rattle.std.specs.Prelude.{◌≡◌, [], ◌∷◌, Some, None, codes, false, refl, true}
use Rattle.refusals.specs.Words.{after_byte, before_byte, is_word, number_of, words_of}

cut_line : before_byte 32 (codes "w a 5") ≡ codes "w"
cut_line = refl

cut_rest : after_byte 32 (codes "w a 5") ≡ Some (codes "a 5")
cut_rest = refl

cut_nowhere : after_byte 32 (codes "close") ≡ None
cut_nowhere = refl

largest : number_of (codes "18446744073709551615") ≡ Some 18446744073709551615
largest = refl

too_large : number_of (codes "18446744073709551616") ≡ None
too_large = refl

zeroes : number_of (codes "00000000000000000042") ≡ Some 42
zeroes = refl

too_long : number_of (codes "000000000000000000042") ≡ None
too_long = refl

signed : number_of (codes "+1") ≡ None
signed = refl

words_here : words_of (codes "  0 16   linear ") ≡ codes "0" ∷ codes "16" ∷ codes "linear" ∷ []
words_here = refl

no_word : words_of (codes "   ") ≡ []
no_word = refl

-- a tab is no space
tab_kept : words_of (97 ∷ 9 ∷ 98 ∷ []) ≡ (97 ∷ 9 ∷ 98 ∷ []) ∷ []
tab_kept = refl

one_word : is_word (codes "disk") ≡ true
one_word = refl

two_words : is_word (codes "a b") ≡ false
two_words = refl
