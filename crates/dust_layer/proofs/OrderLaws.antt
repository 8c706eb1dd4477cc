-- The parser finds an order in a text exactly if the text asks for that order (`AsksFor`).
use Rattle.std.proofs.Common.{◌≡◌, ℕ, ◌≤◌, Bool, true, false, cond, List, [], ◌∷◌, ◌++◌, Option}
use Rattle.std.proofs.Common.{Some, None, ◌⊎◌, inl, inr, ⊎_elim, refl, ap, subst, ◌∙◌, sym, arith}
use Rattle.std.specs.Prelude.{◌==◌, codes, nat_lt, not}
use Rattle.std.specs.Char.{is_ascii_digit}
use Rattle.std.specs.List.{list_all}
use Rattle.std.specs.Option.{option_and_then, option_map}
use Rattle.std.specs.Str.{bytes_eq}
use Rattle.std.proofs.lemmas.Bool.{and_parts, and_from, cond-true, eq-eqb, eqb-true, lt-ltb}
use Rattle.std.proofs.lemmas.Bool.{ltb-true}
use Rattle.std.proofs.lemmas.Bool.Decides.{nat_tests}
use Rattle.std.proofs.lemmas.Option.{cond_some}
use Rattle.std.proofs.lemmas.Slice.Eq.{bytes_eq-Decides}
use Rattle.refusals.specs.WordLaws.{number_again, number_read}
use Rattle.refusals.specs.Words.{after_byte, before_byte, is_number, number_of, IsNumber}
use Rattle.dust_layer.specs.declared.order.Order.{Order}
use Rattle.dust_layer.specs.declared.order.Order.TheVariants as orders
use Rattle.dust_layer.specs.Orders.{spaced, AsksFor, IsCount}
use Rattle.dust_layer.specs.inside.{add_of, word_count, in_byte, lone_order, order_of, order_parts}
use Rattle.dust_layer.specs.inside.{order_with}

chosen : {A : Type 0} (t : Bool) (x y z : A) → cond t x y ≡ z
    → ((t ≡ true) × (x ≡ z)) ⊎ ((t ≡ false) × (y ≡ z))
chosen true x y z e = inl (refl, e)
chosen false x y z e = inr (refl, e)

bind_some : {A B : Type 0} (f : A → Option B) (o : Option A) (y : B) → option_and_then f o ≡ Some y
    → (x : A) × (o ≡ Some x) × (f x ≡ Some y)
bind_some f None y e = absurd (cc)
bind_some f (Some x) y e = (x, refl, e)

bind_at : {A B : Type 0} (f : A → Option B) (o : Option A) (x : A) (y : Option B) → o ≡ Some x
    → f x ≡ y → option_and_then f o ≡ y
bind_at f o x y e g = ap (option_and_then f) e ∙ g

map_some : {A B : Type 0} (f : A → B) (o : Option A) (y : B) → option_map f o ≡ Some y
    → (x : A) × (o ≡ Some x) × (f x ≡ y)
map_some f None y e = absurd (cc)
map_some f (Some x) y e = (x, refl, cc)

same_bytes : (xs ys : List ℕ) → bytes_eq xs ys ≡ true → xs ≡ ys
same_bytes xs ys e = (bytes_eq-Decides xs ys).0 e

abbrev lacks : ℕ → List ℕ → Bool
lacks mark word = list_all (λ b. not (b == mark)) word

digit_not_space : (b : ℕ) → is_ascii_digit b ≡ true → not (b == 32) ≡ true
digit_not_space b digit = grind (arith, nat_tests)

digits_lack_space : (word : List ℕ) → list_all is_ascii_digit word ≡ true → lacks 32 word ≡ true
digits_lack_space [] all = refl
digits_lack_space (b ∷ word) all =
    let parts : (is_ascii_digit b ≡ true) × (list_all is_ascii_digit word ≡ true) =
    and_parts _ _ all in
    and_from _ _ (digit_not_space b parts.0) (digits_lack_space word parts.1)

number_lacks_space : (word : List ℕ) → is_number word ≡ true → lacks 32 word ≡ true
number_lacks_space word number = digits_lack_space word (and_parts _ _ (and_parts _ _ number).0).1

-- For the prover: one step of `cut_at`, with its test as the variable `t`
front_step : (t : Bool) (b : ℕ) (word f bytes rest : List ℕ) (behind_rest : Option (List ℕ))
    → not t ≡ true → f ≡ word → behind_rest ≡ Some rest
    → (cond t [] (b ∷ f) ≡ b ∷ word) × (cond t (Some bytes) behind_rest ≡ Some rest)
front_step true b word f bytes rest behind_rest apart same there = absurd (cc)
front_step false b word f bytes rest behind_rest apart same there = grind arith

cut_at : (mark : ℕ) (word rest : List ℕ) → lacks mark word ≡ true
    → (before_byte mark (word ++ mark ∷ rest) ≡ word)
    × (after_byte mark (word ++ mark ∷ rest) ≡ Some rest)
cut_at mark [] rest lack = grind (arith, eq-eqb, cond-true)
cut_at mark (b ∷ word) rest lack =
    let parts : (not (b == mark) ≡ true) × (lacks mark word ≡ true) = and_parts _ _ lack in
    let more = cut_at mark word rest parts.1 in
    front_step (b == mark) b word _ _ rest _ parts.0 more.0 more.1

cut_alone : (word : List ℕ) → lacks 32 word ≡ true
    → (before_byte 32 word ≡ word) × (after_byte 32 word ≡ None)
cut_alone [] lack = (refl, refl)
cut_alone (b ∷ word) lack =
    let parts : (not (b == 32) ≡ true) × (lacks 32 word ≡ true) = and_parts _ _ lack in
    let more = cut_alone word parts.1 in
    alone_step (b == 32) b word _ _ parts.0 more.0 more.1
  where
    alone_step : (t : Bool) (b : ℕ) (word front : List ℕ) (rest : Option (List ℕ)) → not t ≡ true
        → front ≡ word → rest ≡ None
        → (cond t [] (b ∷ front) ≡ b ∷ word) × (cond t (Some word) rest ≡ None)
    alone_step true b word front rest apart same none = absurd (cc)
    alone_step false b word front rest apart same none = grind arith

-- For the prover: one step of `cut_joined`, with its test as the variable `t`
joined_step : (t : Bool) (b mark : ℕ) (bytes f rest : List ℕ) (behind_rest : Option (List ℕ))
    → (t ≡ true → b ≡ mark)
    → (behind_rest ≡ Some rest → bytes ≡ f ++ mark ∷ rest)
    → cond t (Some bytes) behind_rest ≡ Some rest → b ∷ bytes ≡ cond t [] (b ∷ f) ++ mark ∷ rest
joined_step other b mark bytes f rest behind_rest here more e = grind arith

cut_joined : (mark : ℕ) (bytes rest : List ℕ) → after_byte mark bytes ≡ Some rest
    → bytes ≡ before_byte mark bytes ++ mark ∷ rest
cut_joined mark [] rest e = absurd (cc)
cut_joined mark (b ∷ bytes) rest e =
    grind (arith, cut_joined mark bytes rest, joined_step, eqb-true)

-- For the prover: one step of `before_all`, with its test as the variable `t`
all_step : (t : Bool) (b : ℕ) (bytes front : List ℕ) (rest : Option (List ℕ))
    → cond t (Some bytes) rest ≡ None → (rest ≡ None → front ≡ bytes)
    → cond t [] (b ∷ front) ≡ b ∷ bytes
all_step true b bytes front rest e more = absurd (cc e)
all_step false b bytes front rest e more = grind arith

before_all : (mark : ℕ) (bytes : List ℕ) → after_byte mark bytes ≡ None
    → before_byte mark bytes ≡ bytes
before_all mark [] none = refl
before_all mark (b ∷ bytes) none = all_step (b == mark) b bytes _ _ none (before_all mark bytes)

byte_read : (n count : ℕ) → in_byte n ≡ Some count → (n ≡ count) × (count ≤ 255)
byte_read n count e = grind (arith, cond_some, ltb-true)

-- After the block's word, `words` has only the words `count_words`, which give `count`.
record CountRead (words : List ℕ) (count : ℕ) : Type 0 where
  count_words : List (List ℕ)
  counted : IsCount count_words count
  joined : words ≡ spaced (before_byte 32 words ∷ count_words)

count_read : (words : List ℕ) (rest : Option (List ℕ)) (count : ℕ) → after_byte 32 words ≡ rest
    → word_count rest ≡ Some count → CountRead words count
count_read words None count cut e =
    record { count_words = []; counted = cc; joined = sym (before_all 32 words cut) }
count_read words (Some word) count cut e =
    let n = bind_some in_byte (number_of word) count e in
    let low = byte_read n.0 count n.2 in
    record {
      count_words = word ∷ [];
      counted = (number_read word count (n.1 ∙ ap Some low.0), low.1);
      joined = cut_joined 32 words word cut;
    }

add_read : (words : List ℕ) (order : Order) → add_of words ≡ Some order
    → AsksFor (codes "addbadblock" ++ 32 ∷ words) order
add_read words order e =
    let b =
    bind_some (λ block. option_map (λ count. orders.Add block count)
    (word_count (after_byte 32 words))) (number_of (before_byte 32 words)) order e in
    let c = map_some (λ count. orders.Add b.0 count) (word_count (after_byte 32 words)) order b.2 in
    let k = count_read words (after_byte 32 words) c.0 refl c.1 in
    rw (← c.2) (record {
      block_word = before_byte 32 words;
      count_words = k.count_words;
      number =
          number_read (before_byte 32 words) b.0 b.1;
      counted = k.counted;
      spelled = ap (λ (x : List
          ℕ). codes "addbadblock" ++ 32 ∷ x) k.joined;
    })

remove_read : (words : List ℕ) (order : Order)
    → option_map (λ block. orders.Remove block) (number_of words) ≡ Some order
    → AsksFor (codes "removebadblock" ++ 32 ∷ words) order
remove_read words order e = grind (arith, map_some, number_read)

with_read : (verb words : List ℕ) (order : Order) → order_with verb words ≡ Some order
    → AsksFor (verb ++ 32 ∷ words) order
with_read verb words order e =
    ⊎_elim
    (λ (h : (bytes_eq verb (codes "addbadblock") ≡ true) × (add_of words ≡ Some order)).
    subst (λ (v : List ℕ). AsksFor (v ++ 32 ∷ words) order)
    (sym (same_bytes verb (codes "addbadblock") h.0)) (add_read words order h.1))
    (λ (h : (bytes_eq verb (codes "addbadblock") ≡ false)
    × (cond (bytes_eq verb (codes "removebadblock"))
    (option_map (λ block. orders.Remove block) (number_of words)) None ≡ Some order)).
    ⊎_elim
    (λ (g : (bytes_eq verb (codes "removebadblock") ≡ true)
    × (option_map (λ block. orders.Remove block) (number_of words) ≡ Some order)).
    subst (λ (v : List ℕ). AsksFor (v ++ 32 ∷ words) order)
    (sym (same_bytes verb (codes "removebadblock") g.0)) (remove_read words order g.1))
    (λ (g : (bytes_eq verb (codes "removebadblock") ≡ false) × (None ≡ Some order)). absurd
    (let never = g.1 in cc))
    (chosen _ _ _ _ h.1))
    (chosen _ _ _ _ e)

word_read : (verb word : List ℕ) (it order : Order) (y : Option Order) → AsksFor word it
    → (y ≡ Some order → AsksFor verb order)
    → cond (bytes_eq verb word) (Some it) y ≡ Some order → AsksFor verb order
word_read verb word it order y here other e = grind (arith, same_bytes)

lone_read : (verb : List ℕ) (order : Order) → lone_order verb ≡ Some order → AsksFor verb order
lone_read verb order =
    word_read verb (codes "clearbadblocks") orders.Clear order _ refl
    (word_read verb (codes "enable") orders.Enable order _ refl
    (word_read verb (codes "disable") orders.Disable order _ refl (λ e. absurd (cc e))))

parts_read : (text : List ℕ) (rest : Option (List ℕ)) (order : Order) → after_byte 32 text ≡ rest
    → order_parts (before_byte 32 text) rest ≡ Some order
    → AsksFor text order
parts_read text (Some words) order cut e =
    rw (cut_joined 32 text words cut) (with_read (before_byte 32 text) words order e)
parts_read text None order cut e =
    rw (← before_all 32 text cut) (lone_read (before_byte 32 text) order e)

pub order_read : (text : List ℕ) (order : Order) → order_of text ≡ Some order → AsksFor text order
order_read text order e = parts_read text (after_byte 32 text) order refl e

count_again : (word : List ℕ) (words : List (List ℕ)) (count : ℕ) → lacks 32 word ≡ true
    → IsCount words count
    → (before_byte 32 (spaced (word ∷ words)) ≡ word)
    × (word_count (after_byte 32 (spaced (word ∷ words))) ≡ Some count)
count_again word [] count lack is =
    let c = cut_alone word lack in (c.0, ap word_count c.1 ∙ ap Some (sym is))
count_again word (next ∷ []) count lack is =
    let c = cut_at 32 word next lack in
    let low : count ≤ 255 = is.1 in
    let test : nat_lt count 256 ≡ true = lt-ltb count 256 (omega arith) in (
      c.0,
      ap word_count c.1 ∙ bind_at in_byte (number_of next) count (Some count)
          (number_again next count is.0) (cond-true _ _ _ test),
    )
count_again word (next ∷ more ∷ words) count lack is = absurd is

add_again : (word : List ℕ) (words : List (List ℕ)) (block count : ℕ) → IsNumber word block
    → IsCount words count
    → add_of (spaced (word ∷ words)) ≡ Some (orders.Add block count)
add_again word words block count number is =
    grind (arith, count_again, number_lacks_space, bind_at, number_again)

pub order_again : (text : List ℕ) (order : Order) → AsksFor text order → order_of text ≡ Some order
order_again text (orders.Add block count) asks =
    grind (arith, add_again asks.block_word asks.count_words block count asks.number asks.counted)
order_again text (orders.Remove block) asks = grind (arith, number_again)
order_again text other asks = rw asks refl
