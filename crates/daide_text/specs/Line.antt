-- A line of text, parsed as tokens: the inverse of the text form of docs/FORMATS.md. Each line is cut into pieces in
-- exactly one way, and each piece but a blank is an item or a fault. (own)
use Rattle.std.specs.Prelude.{◌≡◌, ℕ, ◌+◌, ◌<◌, ◌==◌, nat_le, Bool, true, false, ◌&&◌, ◌||◌, not}
use Rattle.std.specs.Prelude.{if◌then◌else◌, List, [], ◌∷◌, ◌++◌, length, map, Option, Some, None, option_map}
use Rattle.std.specs.Prelude.{Result, Ok, Err}
use Rattle.std.specs.List.{list_all}
use Rattle.daide_token.specs.Names.{Named}
use Rattle.daide_token.specs.Token.{bra, ket}
use Rattle.daide_text.specs.Word.{token_of_word}

-- a space or a tab
abbrev pub is_space : ℕ → Bool
is_space c = c == 32 || c == 9

-- a bracket
abbrev pub is_sign : ℕ → Bool
is_sign c = c == 40 || c == 41

-- a byte of a word: not a blank, a bracket or a quote
abbrev pub is_in_word : ℕ → Bool
is_in_word c = not (is_space c) && (not (is_sign c) && not (c == 39))

-- a byte that does not end a quoted text
abbrev pub is_in_quote : ℕ → Bool
is_in_quote c = not (c == 39)

-- a piece of a line: a blank, a bracket, a word, a quoted text, or the text after a quote that is never closed
pub data Piece : Type 0 where
  Blank : ℕ → Piece
  Sign : ℕ → Piece
  Word : List ℕ → Piece
  Quote : List ℕ → Piece
  Unclosed : List ℕ → Piece

-- the bytes of a piece
abbrev pub bytes_of_piece : Piece → List ℕ
bytes_of_piece (Blank c) = c ∷ []
bytes_of_piece (Sign c) = c ∷ []
bytes_of_piece (Word word) = word
bytes_of_piece (Quote characters) = 39 ∷ characters ++ 39 ∷ []
bytes_of_piece (Unclosed characters) = 39 ∷ characters

-- whether some bytes begin with a byte of a word
abbrev pub begins_in_word : List ℕ → Bool
begins_in_word [] = false
begins_in_word (c ∷ rest) = is_in_word c

-- the form of a piece before the rest of its line: a word has its greatest length, and a quoted text ends at the next
-- quote
abbrev pub IsPieceBefore : Piece → List ℕ → Type 0
IsPieceBefore (Blank c) rest = is_space c ≡ true
IsPieceBefore (Sign c) rest = is_sign c ≡ true
IsPieceBefore (Word word) rest =
    (0 < length word) × (list_all is_in_word word ≡ true) × (begins_in_word rest ≡ false)
IsPieceBefore (Quote characters) rest = list_all is_in_quote characters ≡ true
IsPieceBefore (Unclosed characters) rest = (list_all is_in_quote characters ≡ true) × (rest ≡ [])

-- a line is cut into pieces
abbrev pub IsCut : List ℕ → List Piece → Type 0
IsCut line [] = line ≡ []
IsCut line (piece ∷ pieces) =
    (rest : List ℕ) × (line ≡ bytes_of_piece piece ++ rest) × IsPieceBefore piece rest × IsCut rest pieces

-- a character from space to tilde, which the text form prints in quotes
abbrev pub is_printable : ℕ → Bool
is_printable c = nat_le 32 c && nat_le c 126

-- the token of a character
abbrev pub character_token : ℕ → ℕ
character_token c = 0x4B00 + c

-- the tokens of a piece, if it is an item or a blank
abbrev pub tokens_of_piece : List Named → Piece → Option (List ℕ)
tokens_of_piece added (Blank c) = Some []
tokens_of_piece added (Sign c) = Some ((if c == 40 then bra else ket) ∷ [])
tokens_of_piece added (Word word) = option_map (λ t. t ∷ []) (token_of_word added word)
tokens_of_piece added (Quote characters) =
    if list_all is_printable characters then Some (map character_token characters) else None
tokens_of_piece added (Unclosed characters) = None

-- the result from a column on: that of the first piece, then that of the others
abbrev pub read_on : ℕ → Option (List ℕ) → Result (List ℕ) ℕ → Result (List ℕ) ℕ
read_on column None outcome = Err column
read_on column (Some ts) (Ok us) = Ok (ts ++ us)
read_on column (Some ts) (Err later) = Err later

-- the tokens of pieces whose first byte is at a column, or the column of the first piece that is not an item
abbrev pub read_pieces : List Named → ℕ → List Piece → Result (List ℕ) ℕ
read_pieces added column [] = Ok []
read_pieces added column (piece ∷ pieces) =
    read_on column (tokens_of_piece added piece)
    (read_pieces added (column + length (bytes_of_piece piece)) pieces)

-- a part of a line whose first byte is at a column is parsed as tokens, or has its first fault at a column
abbrev pub IsReadFrom : List Named → ℕ → List ℕ → Result (List ℕ) ℕ → Type 0
IsReadFrom added column line outcome =
    (pieces : List Piece) × IsCut line pieces × (outcome ≡ read_pieces added column pieces)

-- a line is parsed as tokens, or has its first fault at a column, counted from 1 in bytes
abbrev pub IsReadAs : List Named → List ℕ → Result (List ℕ) ℕ → Type 0
IsReadAs added line outcome = IsReadFrom added 1 line outcome

-- a line is a text of tokens
abbrev pub IsText : List Named → List ℕ → List ℕ → Type 0
IsText added line ts = IsReadAs added line (Ok ts)
