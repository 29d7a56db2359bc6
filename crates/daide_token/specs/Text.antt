-- The text form of tokens: items with single spaces between them. The names are the protocol's; the rest of the form is
-- (own).
use Rattle.std.specs.Prelude.{ℕ, ◌/◌, ◌%◌, ◌==◌, ◌&&◌, nat_le, Bool, not, if◌then◌else◌, List, [], ◌∷◌}
use Rattle.std.specs.Prelude.{◌++◌, map, slice_index, codes, option_map, unwrap_or}
use Rattle.std.specs.List.{join_with_byte}
use Rattle.std.specs.Fmt.{signed_decimal}
use Rattle.daide_token.specs.Token.{bra, ket, number_of}
use Rattle.std.specs.Prelude.{Option}
use Rattle.std.specs.List.{find}
use Rattle.daide_token.specs.Names.{Named, name_of}

-- the hexadecimal digit of a value from 0 to 15, in lower case
abbrev pub hex_digit_of : ℕ → ℕ
hex_digit_of n = slice_index (codes "0123456789abcdef") n

-- the text of a token that is neither a number nor named: # and its four digits
abbrev pub hex_text : ℕ → List ℕ
hex_text t =
    35 ∷ hex_digit_of (t / 4096) ∷ hex_digit_of (t / 256 % 16) ∷ hex_digit_of (t / 16 % 16) ∷ hex_digit_of (t % 16) ∷ []

-- the name of a token by its first entry among the names that an operator added
abbrev pub added_name_of : List Named → ℕ → Option (List ℕ)
added_name_of added t = option_map (λ entry. entry.1) (find (λ entry. entry.0 == t) added)

-- the text of a token by itself: the sign of a bracket, the decimal form of a number, the protocol's name, an added
-- name, or the digits
abbrev pub text_of_token : List Named → ℕ → List ℕ
text_of_token added t =
    if t == bra then codes "(" else
    if t == ket then codes ")" else
    unwrap_or (option_map signed_decimal (number_of t))
    (unwrap_or (name_of t) (unwrap_or (added_name_of added t) (hex_text t)))

-- whether a token is a character that can be inside quotes: from space to tilde, except the quote itself
abbrev pub is_quotable : ℕ → Bool
is_quotable t = nat_le 0x4B20 t && nat_le t 0x4B7E && not (t == 0x4B27)

-- an item: a token by itself, or a run of characters
pub data TextItem : Type 0 where
  Word : ℕ → TextItem
  Quote : List ℕ → TextItem

-- a character in front of some items: it joins a run that is first
abbrev pub before_items : ℕ → List TextItem → List TextItem
before_items character [] = Quote (character ∷ []) ∷ []
before_items character (Quote characters ∷ items) = Quote (character ∷ characters) ∷ items
before_items character (Word t ∷ items) = Quote (character ∷ []) ∷ Word t ∷ items

-- the items of some tokens: each maximal run of characters is one item
abbrev pub text_items_of : List ℕ → List TextItem
text_items_of [] = []
text_items_of (t ∷ ts) = if is_quotable t then before_items (t % 256) (text_items_of ts) else Word t ∷ text_items_of ts

-- the text of an item, with added names: a run is between quotes
abbrev pub item_text : List Named → TextItem → List ℕ
item_text added (Word t) = text_of_token added t
item_text added (Quote characters) = 39 ∷ characters ++ 39 ∷ []

-- the text of some tokens, without a line end
unfoldable pub text_of : List ℕ → List ℕ
text_of ts = join_with_byte 32 (map (item_text []) (text_items_of ts))

-- the same, with names that an operator added
unfoldable pub text_with : List Named → List ℕ → List ℕ
text_with added ts = join_with_byte 32 (map (item_text added) (text_items_of ts))
