-- The words of a document's key `words`: docs/FORMATS.md, "Settings", as definitions. The crate daide_words defines
-- which words are accepted. (own)
use Rattle.std.specs.Prelude.{ℕ, ℤ, pos, negsuc, ◌&&◌, ◌||◌, ◌==◌, nat_le, Bool, true, false, if◌then◌else◌}
use Rattle.std.specs.Prelude.{List, [], ◌∷◌, length, codes, Option, Some, None, is_some, option_and_then}
use Rattle.std.specs.Prelude.{Result, Ok, Err}
use Rattle.std.specs.Str.{bytes_eq}
use Rattle.toml.specs.Data.{Data, as_str, as_integer, as_array, as_table, Items, no_items, item, Members, no_members}
use Rattle.toml.specs.Data.{member, get_member}
use Rattle.daide_grammar.specs.declared.level.Level.{Level}
use Rattle.daide_grammar.specs.Level.{level_of_number}
use Rattle.daide_words.specs.declared.word.Word.{Word}
use Rattle.daide_words.specs.WordNames.{word_of_parts, slot_named, operand_named}
use Rattle.daide_words.specs.Accepted.{are_accepted}
use Rattle.daide_settings.specs.declared.settings.key.Key.TheVariants.{Words}
use Rattle.daide_settings.specs.declared.settings.SettingsError.{SettingsError}
use Rattle.daide_settings.specs.declared.settings.SettingsError.TheVariants.{WrongType, Range}

-- whether all keys of the members pass a test
abbrev pub has_only : (List ℕ → Bool) → Members → Bool
has_only allowed no_members = true
has_only allowed (member text value others) = allowed text && has_only allowed others

-- ---- the shape of an entry

-- whether an entry may have this key
abbrev pub is_field : List ℕ → Bool
is_field text =
    bytes_eq text (codes "name") || bytes_eq text (codes "code") || bytes_eq text (codes "slot")
    || bytes_eq text (codes "level") || bytes_eq text (codes "operand")

-- the text of a key, if it has one
abbrev pub text_in : List ℕ → Members → Option (List ℕ)
text_in field members = option_and_then as_str (get_member field members)

-- the number of a key, if it has one
abbrev pub number_in : List ℕ → Members → Option ℤ
number_in field members = option_and_then as_integer (get_member field members)

-- exactly the fields of a word, each of its type
abbrev pub has_fields : Members → Bool
has_fields members =
    has_only is_field members
    && (is_some (text_in (codes "name") members) && (is_some (number_in (codes "code") members)
    && (is_some (text_in (codes "slot") members) && (is_some (number_in (codes "level") members)
    && is_some (text_in (codes "operand") members)))))

abbrev pub is_table_of_fields : Option Members → Bool
is_table_of_fields None = false
is_table_of_fields (Some members) = has_fields members

-- an entry is a table with exactly the fields of a word, each of its type
abbrev pub is_entry : Data → Bool
is_entry value = is_table_of_fields (as_table value)

abbrev pub are_entries : Items → Bool
are_entries no_items = true
are_entries (item entry others) = is_entry entry && are_entries others

-- ---- the word of an entry

-- a name has three bytes
abbrev pub three_of : List ℕ → Option (List ℕ)
three_of name = if length name == 3 then Some name else None

-- a code is a token's number
abbrev pub code_of_integer : ℤ → Option ℕ
code_of_integer (pos n) = if nat_le n 0xFFFF then Some n else None
code_of_integer (negsuc n) = None

abbrev pub level_of_integer : ℤ → Option Level
level_of_integer (pos n) = level_of_number n
level_of_integer (negsuc n) = None

-- the word of an entry's members
abbrev pub word_of_members : Members → Option Word
word_of_members members =
    word_of_parts (option_and_then three_of (text_in (codes "name") members))
    (option_and_then code_of_integer (number_in (codes "code") members))
    (option_and_then slot_named (text_in (codes "slot") members))
    (option_and_then level_of_integer (number_in (codes "level") members))
    (option_and_then operand_named (text_in (codes "operand") members))

-- the word of an entry
abbrev pub word_of : Data → Option Word
word_of entry = option_and_then word_of_members (as_table entry)

-- ---- the key

abbrev pub one_before : Option Word → Option (List Word) → Option (List Word)
one_before (Some word) (Some words) = Some (word ∷ words)
one_before _ _ = None

-- the words of all entries, if each has one
abbrev pub words_of_entries : Items → Option (List Word)
words_of_entries no_items = Some []
words_of_entries (item entry others) = one_before (word_of entry) (words_of_entries others)

-- words are in range if they are accepted one after the other
abbrev pub accepted_words : Option (List Word) → Result (List Word) SettingsError
accepted_words None = Err (Range Words)
accepted_words (Some words) = if are_accepted words then Ok words else Err (Range Words)

-- the shape of all entries is checked before the range of any
abbrev pub entries_judged : Option Items → Result (List Word) SettingsError
entries_judged None = Err (WrongType Words)
entries_judged (Some entries) =
    if are_entries entries then accepted_words (words_of_entries entries) else Err (WrongType Words)

-- the words of the key; none if the document does not have it
abbrev pub words_judged : Option Data → Result (List Word) SettingsError
words_judged None = Ok []
words_judged (Some value) = entries_judged (as_array value)
