-- The definitions of `dust_layer` that only its proofs use: no other crate cites them.
use Rattle.std.specs.Prelude.{ℕ, List, Option, Some, None, codes, nat_lt, if◌then◌else◌}
use Rattle.std.specs.Option.{option_map, option_and_then}
use Rattle.std.specs.Str.{bytes_eq}
use Rattle.refusals.specs.Words.{after_byte, before_byte, number_of}
use Rattle.dust_layer.specs.declared.order.Order.{Order}
use Rattle.dust_layer.specs.declared.order.Order.TheVariants as orders

-- Which order a text asks for, computed as the parser does. `Orders` defines it by the text's
-- words; it is proved that both agree.

-- the number, if one byte holds it
abbrev pub in_byte : ℕ → Option ℕ
in_byte n = if nat_lt n 256 then Some n else None

-- the count that a word gives, or None if it gives none; no word means count 0
abbrev pub word_count : Option (List ℕ) → Option ℕ
word_count None = Some 0
word_count (Some word) = option_and_then in_byte (number_of word)

-- the order to list a block, given the words after `addbadblock`, or None
abbrev pub add_of : List ℕ → Option Order
add_of words =
    option_and_then (λ block. option_map (λ count. orders.Add block count)
    (word_count (after_byte 32 words))) (number_of (before_byte 32 words))

-- the order with the first word `verb` and the other words `words`, or None
abbrev pub order_with : List ℕ → List ℕ → Option Order
order_with verb words =
    if bytes_eq verb (codes "addbadblock") then add_of words
    else if bytes_eq verb (codes "removebadblock") then option_map (λ block. orders.Remove block)
    (number_of words)
    else None

-- the order whose only word is `verb`, or None
abbrev pub lone_order : List ℕ → Option Order
lone_order verb =
    if bytes_eq verb (codes "clearbadblocks") then Some orders.Clear
    else if bytes_eq verb (codes "enable") then Some orders.Enable
    else if bytes_eq verb (codes "disable") then Some orders.Disable
    else None

-- the order with the first word `verb`, and with other words if there are any
abbrev pub order_parts : List ℕ → Option (List ℕ) → Option Order
order_parts verb (Some words) = order_with verb words
order_parts verb None = lone_order verb

-- the order that a text asks for, or None if it asks for none
abbrev pub order_of : List ℕ → Option Order
order_of text = order_parts (before_byte 32 text) (after_byte 32 text)
