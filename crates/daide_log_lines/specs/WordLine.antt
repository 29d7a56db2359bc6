-- The line of a match's log that adds a word of the operator's, by its bytes alone: docs/FORMATS.md, "The log, version
-- 2". (own)
use Rattle.std.specs.Prelude.{ℕ, ◌==◌, if◌then◌else◌, List, length, codes, Option, Some, None, Result, Ok, Err}
use Rattle.hex.specs.Hex.{decode_of}
use Rattle.hex.specs.declared.error.FromHexError.{FromHexError}
use Rattle.daide_token.specs.Token.{token_of_bytes}
use Rattle.daide_grammar.specs.declared.level.Level.{Level}
use Rattle.daide_grammar.specs.Level.{level_of_number}
use Rattle.daide_words.specs.declared.word.Word.{Word}
use Rattle.daide_words.specs.WordNames.{slot_named, operand_named, word_of_parts}
use Rattle.daide_log_lines.specs.LogLine.{Parted, strip_prefix, plain_number, parted_at_space}

-- a name has three bytes
abbrev pub parse_name : List ℕ → Option (List ℕ)
parse_name name = if length name == 3 then Some name else None

abbrev pub code_of_bytes : Result (List ℕ) FromHexError → Option ℕ
code_of_bytes (Err fault) = None
code_of_bytes (Ok bytes) = Some (token_of_bytes bytes)

-- a code is four hexadecimal digits of either case
abbrev pub parse_code : List ℕ → Option ℕ
parse_code digits = if length digits == 4 then code_of_bytes (decode_of digits) else None

abbrev pub level_of_option : Option ℕ → Option Level
level_of_option None = None
level_of_option (Some number) = level_of_number number

-- a level is one of the seven numbers
abbrev pub parse_level : List ℕ → Option Level
parse_level digits = level_of_option (plain_number digits)

abbrev pub word_of_level : List ℕ → List ℕ → List ℕ → Option Parted → Option Word
word_of_level name code slot None = None
word_of_level name code slot (Some parted) =
    word_of_parts (parse_name name) (parse_code code) (slot_named slot) (parse_level parted.word) (operand_named parted.rest)

abbrev pub word_of_slot : List ℕ → List ℕ → Option Parted → Option Word
word_of_slot name code None = None
word_of_slot name code (Some parted) = word_of_level name code parted.word (parted_at_space parted.rest)

abbrev pub word_of_code : List ℕ → Option Parted → Option Word
word_of_code name None = None
word_of_code name (Some parted) = word_of_slot name parted.word (parted_at_space parted.rest)

abbrev pub word_of_name : Option Parted → Option Word
word_of_name None = None
word_of_name (Some parted) = word_of_code parted.word (parted_at_space parted.rest)

abbrev pub word_of_rest : Option (List ℕ) → Option Word
word_of_rest None = None
word_of_rest (Some rest) = word_of_name (parted_at_space rest)

-- the word of a line `word NAME CODE SLOT LEVEL OPERAND`; slots and operands have the names of the settings
unfoldable pub word_of_line : List ℕ → Option Word
word_of_line line = word_of_rest (strip_prefix (codes "word ") line)
