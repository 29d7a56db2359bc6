-- Reads a message from its text form, so that facts about single messages can use the protocol's notation. A text that
-- is misread makes no fact, since the message's own text is compared with it.
use Rattle.daide_grammar.proofs.Common.{ℕ, ◌+◌, ◌-◌, ◌*◌, ◌==◌, nat_le, Bool, true, false, ◌&&◌, List, [], ◌∷◌, ◌++◌}
use Rattle.daide_grammar.proofs.Common.{Option, None, Some, bra, ket}
use Rattle.daide_token.specs.Names.{token_named}

-- the words of a text, separated by spaces
abbrev with_letter : Bool → ℕ → List (List ℕ) → List (List ℕ)
with_letter true c words = [] ∷ words
with_letter false c [] = (c ∷ []) ∷ []
with_letter false c (word ∷ words) = (c ∷ word) ∷ words

abbrev words_of : List ℕ → List (List ℕ)
words_of [] = []
words_of (c ∷ text) = with_letter (c == 32) c (words_of text)

-- the number of some digits, after earlier ones
abbrev decimal : ℕ → List ℕ → ℕ
decimal n [] = n
decimal n (c ∷ digits) = decimal (10 * n + (c - 48)) digits

-- the characters up to the closing quote
abbrev characters : List ℕ → List ℕ
characters [] = []
characters (c ∷ word) = elim (c == 39) [ true ↦ [] | false ↦ (0x4B00 + c) ∷ characters word ]

-- the token of a name; none if no token has it
abbrev named : Option ℕ → List ℕ
named None = []
named (Some t) = t ∷ []

-- the tokens of a word, by whether it begins with (, with ), with a quote, with a minus, or with a digit; any other
-- word is a name
abbrev by_sign : Bool → Bool → Bool → Bool → Bool → List ℕ → List ℕ → List ℕ
by_sign true k q m d word rest = bra ∷ []
by_sign false true q m d word rest = ket ∷ []
by_sign false false true m d word rest = characters rest
by_sign false false false true d word rest = (0x4000 - decimal 0 rest) ∷ []
by_sign false false false false true word rest = decimal 0 word ∷ []
by_sign false false false false false word rest = named (token_named word)

abbrev tokens_of_word : List ℕ → List ℕ
tokens_of_word [] = []
tokens_of_word (c ∷ rest) =
    by_sign (c == 40) (c == 41) (c == 39) (c == 45) (nat_le 48 c && nat_le c 57) (c ∷ rest) rest

-- the tokens of some words
abbrev tokens_of_words : List (List ℕ) → List ℕ
tokens_of_words [] = []
tokens_of_words (word ∷ words) = tokens_of_word word ++ tokens_of_words words

-- the tokens of a text
abbrev pub tokens_of_text : List ℕ → List ℕ
tokens_of_text text = tokens_of_words (words_of text)
