-- The part of a key's value that has its fault: the whole value, an entry of its array, or a field of the entry. (own)
use Rattle.std.specs.Prelude.{ℕ, ◌+◌, Bool, true, false, if◌then◌else◌, List, [], ◌∷◌, ◌++◌, codes}
use Rattle.std.specs.Prelude.{Option, Some, None, is_some, is_none, option_and_then, Result, Ok, Err}
use Rattle.toml.specs.Data.{Data, as_str, as_array, as_table, at, get, Items, no_items, item, Members}
use Rattle.daide_words.specs.declared.word.Word.{Word}
use Rattle.daide_words.specs.declared.word.WordError.{WordError}
use Rattle.daide_words.specs.declared.word.WordError.TheVariants as faults
use Rattle.daide_words.specs.Word.{names_of}
use Rattle.daide_words.specs.WordNames.{slot_named, operand_named}
use Rattle.daide_words.specs.Accepted.{word_fault}
use Rattle.daide_settings.specs.declared.settings.key.Key.{Key}
use Rattle.daide_settings.specs.declared.settings.key.Key.TheVariants.{Words, Allow}
use Rattle.daide_settings.specs.declared.settings.SettingsError.{SettingsError}
use Rattle.daide_settings.specs.declared.settings.SettingsError.TheVariants.{WrongType}
use Rattle.daide_settings.specs.declared.settings.parts.Field.{Field}
use Rattle.daide_settings.specs.declared.settings.parts.Field.TheVariants.{Name, Code, Slot, Level, Operand}
use Rattle.daide_settings.specs.declared.settings.parts.ValuePart.{ValuePart}
use Rattle.daide_settings.specs.declared.settings.parts.ValuePart.TheVariants.{Whole, Entry, Member}
use Rattle.daide_settings.specs.WordSettings.{text_in, number_in, is_entry, word_of, three_of, code_of_integer, level_of_integer}
use Rattle.daide_settings.specs.Ranges.{range_of}

-- a field as an entry of `words` writes it
abbrev pub field_key : Field → List ℕ
field_key Name = codes "name"
field_key Code = codes "code"
field_key Slot = codes "slot"
field_key Level = codes "level"
field_key Operand = codes "operand"

-- a field of an entry, or the entry itself
abbrev pub part_in : ℕ → Option Field → ValuePart
part_in place None = Entry place
part_in place (Some field) = Member place field

abbrev pub is_wrong_type : SettingsError → Bool
is_wrong_type (WrongType key) = true
is_wrong_type other = false

-- ---- the words

-- the first field that is missing or of another type; none if a further key is at fault, or if the entry is no table
abbrev pub mistyped_in : Members → Option Field
mistyped_in members =
    if is_none (text_in (codes "name") members) then Some Name
    else if is_none (number_in (codes "code") members) then Some Code
    else if is_none (text_in (codes "slot") members) then Some Slot
    else if is_none (number_in (codes "level") members) then Some Level
    else if is_none (text_in (codes "operand") members) then Some Operand
    else None

abbrev pub mistyped : Data → Option Field
mistyped entry = option_and_then mistyped_in (as_table entry)

-- the first entry of another shape, with the first field that makes it so
abbrev pub mistyped_part : ℕ → Items → ValuePart
mistyped_part place no_items = Whole
mistyped_part place (item entry others) =
    if is_entry entry then mistyped_part (1 + place) others else part_in place (mistyped entry)

-- the first field whose value is no name of three bytes, code, slot, level or operand
abbrev pub unread_in : Members → Option Field
unread_in members =
    if is_none (option_and_then three_of (text_in (codes "name") members)) then Some Name
    else if is_none (option_and_then code_of_integer (number_in (codes "code") members)) then Some Code
    else if is_none (option_and_then slot_named (text_in (codes "slot") members)) then Some Slot
    else if is_none (option_and_then level_of_integer (number_in (codes "level") members)) then Some Level
    else if is_none (option_and_then operand_named (text_in (codes "operand") members)) then Some Operand
    else None

abbrev pub unread : Data → Option Field
unread entry = option_and_then unread_in (as_table entry)

-- the field with which a word is refused; none if there are too many words
abbrev pub refused_by : WordError → Option Field
refused_by faults.Full = None
refused_by faults.Name = Some Name
refused_by faults.Code = Some Code
refused_by faults.Level = Some Level
refused_by faults.Operand = Some Operand

abbrev pub added_by : List Word → Word → Result (Unit {0}) WordError → Result (List Word) (Option Field)
added_by before word (Ok done) = Ok (before ++ word ∷ [])
added_by before word (Err fault) = Err (refused_by fault)

-- the words with that of an entry, by its first unread field and its word; or the field that is out of range
abbrev pub added_of : List Word → Option Field → Option Word → Result (List Word) (Option Field)
added_of before (Some field) word = Err (Some field)
added_of before None None = Err None
added_of before None (Some word) = added_by before word (word_fault (names_of before) word)

abbrev pub added : List Word → Data → Result (List Word) (Option Field)
added before entry = added_of before (unread entry) (word_of entry)

-- the field of the entry at this place that is out of range, or the whole if there are too many words
abbrev pub unfit_in : ℕ → Option Field → ValuePart
unfit_in place None = Whole
unfit_in place (Some field) = Member place field

abbrev pub unfit_after : ℕ → Result (List Word) (Option Field) → (List Word → ValuePart) → ValuePart
unfit_after place (Ok words) further = further words
unfit_after place (Err field) further = unfit_in place field

-- the first entry that has no word, or whose word is refused after those before it
abbrev pub unfit_part : ℕ → List Word → Items → ValuePart
unfit_part place before no_items = Whole
unfit_part place before (item entry others) =
    unfit_after place (added before entry) (λ words. unfit_part (1 + place) words others)

abbrev pub words_part : Bool → Items → ValuePart
words_part true entries = mistyped_part 0 entries
words_part false entries = unfit_part 0 [] entries

-- ---- the ranges

-- whether a value is a text, or is a range of addresses
abbrev pub passes : Bool → Data → Bool
passes true value = is_some (as_str value)
passes false value = is_some (range_of value)

-- the first value of `allow` that does not pass; the whole if all pass, so that their number is at fault
abbrev pub failing_part : Bool → ℕ → Items → ValuePart
failing_part by_type place no_items = Whole
failing_part by_type place (item value others) =
    if passes by_type value then failing_part by_type (1 + place) others else Entry place

-- ---- the part of a key's value

abbrev pub part_of_items : Key → Bool → Option Items → ValuePart
part_of_items Words by_type (Some entries) = words_part by_type entries
part_of_items Allow by_type (Some values) = failing_part by_type 0 values
part_of_items key by_type items = Whole

-- the part that has this fault
abbrev pub faulty_part : Key → SettingsError → Option Data → ValuePart
faulty_part key fault None = Whole
faulty_part key fault (Some value) = part_of_items key (is_wrong_type fault) (as_array value)

-- the value of a part; a field may be missing
abbrev pub value_in : ValuePart → Data → Option Data
value_in Whole value = Some value
value_in (Entry place) value = at place value
value_in (Member place field) value = option_and_then (get (field_key field)) (at place value)

abbrev pub part_value : ValuePart → Option Data → Option Data
part_value part value = option_and_then (value_in part) value
