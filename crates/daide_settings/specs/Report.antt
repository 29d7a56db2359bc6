-- The printed judgement of a text of settings: a line for each fault, or the value of each key. (own)
use Rattle.std.specs.Prelude.{◌≡◌, ◌⊎◌, ℕ, Bool, true, false, List, [], ◌∷◌, ◌++◌, codes, Option, Some, None}
use Rattle.std.specs.Prelude.{if◌then◌else◌, IsPermutation}
use Rattle.std.specs.Option.{option_map_or}
use Rattle.std.specs.Fmt.{decimal}
use Rattle.toml.specs.Data.{Data, Members, no_members, member, get_member}
use Rattle.toml.specs.Parse.{parse_value}
use Rattle.toml.specs.Text.{IsValueText}
use Rattle.daide_settings.specs.declared.settings.key.Key.{Key}
use Rattle.daide_settings.specs.declared.settings.key.Key.TheVariants.{Listen, Server, TopLevel, MaxBody, MaxDepth}
use Rattle.daide_settings.specs.declared.settings.key.Key.TheVariants.{ImSeconds, MaxSessions, Sessions, Turns, IdleSeconds}
use Rattle.daide_settings.specs.declared.settings.key.Key.TheVariants.{Words, StallSeconds, Endless, Allow, MaxPerAddress, MaxRefused, Control}
use Rattle.daide_settings.specs.declared.settings.key.TheConstants.Key.{ALL}
use Rattle.daide_settings.specs.declared.settings.SettingsError.{SettingsError}
use Rattle.daide_settings.specs.declared.settings.SettingsError.TheVariants.{NotToml, Unknown, Missing}
use Rattle.daide_settings.specs.declared.settings.SettingsError.TheVariants.{WrongType, Range, Memory}
use Rattle.daide_settings.specs.Settings.{key_text, default_of, is_known}
use Rattle.daide_settings.specs.declared.settings.parts.Field.{Field}
use Rattle.daide_settings.specs.declared.settings.parts.Field.TheVariants.{Name, Code, Slot, Level, Operand}
use Rattle.daide_settings.specs.declared.settings.parts.ValuePart.{ValuePart}
use Rattle.daide_settings.specs.declared.settings.parts.ValuePart.TheVariants.{Whole, Entry, Member}
use Rattle.daide_settings.specs.Judged.{fault_at, is_right}
use Rattle.daide_settings.specs.Parts.{field_key, faulty_part, part_value}

-- ---- texts

-- a fault in words
abbrev pub fault_words : SettingsError → List ℕ
fault_words NotToml = codes "settings are not TOML"
fault_words Unknown = codes "unknown key"
fault_words (Missing key) = codes "missing " ++ key_text key
fault_words (WrongType key) = codes "wrong type for " ++ key_text key
fault_words (Range key) = key_text key ++ codes " out of range"
fault_words Memory = codes "out of memory"

-- the type and the range of a key's value in words
abbrev pub range_words : Key → List ℕ
range_words Listen =
    codes "a string HOST:PORT of at most 255 bytes, with a port from 0 to 65535 and without a scheme"
range_words Server =
    codes "a string HOST:PORT of at most 255 bytes, with a port from 0 to 65535 and without a scheme"
range_words TopLevel = codes "an integer: 0, 10, 20, 30, 40, 50 or 60"
range_words MaxBody = codes "an even integer from 512 to 65526"
range_words MaxDepth = codes "an integer from 4 to 254"
range_words ImSeconds = codes "a number of seconds, an integer from 1 to 3600"
range_words MaxSessions = codes "an integer from 1 to 256"
range_words Sessions = codes "an integer from 1 to 1000000"
range_words Turns = codes "an integer from 1 to 1000000000000"
range_words IdleSeconds = codes "a number of seconds, an integer from 0 to 86400"
range_words Words =
    codes "an array of at most 16 tables, each with name, code, slot, level and operand, and no word twice"
range_words StallSeconds = codes "a number of seconds, an integer from 0 to 86400"
range_words Endless = codes "true or false"
range_words Allow = codes "an array of 1 to 16 strings, each an address with or without /PREFIX"
range_words MaxPerAddress = codes "an integer from 0 to 256"
range_words MaxRefused = codes "an integer from 0 to 1000000"
range_words Control = codes "a string of 1 to 100 bytes"

-- the type and the range of an entry of a key's array
abbrev pub entry_words : Key → List ℕ
entry_words Allow = codes "a string, an IPv4 or IPv6 address with or without /PREFIX, and not IPv4-mapped"
entry_words other = codes "a table with name, code, slot, level and operand, and no other key"

-- the type and the range of a field of a word
abbrev pub field_words : Field → List ℕ
field_words Name = codes "three letters from A to Z, no name of the protocol's or of an earlier word"
field_words Code =
    codes "an integer from 0x4A00 to 0x4AFF, no token of the protocol's or of an earlier word, and none of 0x4A0D, 0x4A12 and 0x4A1B"
field_words Slot = codes "\"press\" or \"arrangement\""
field_words Level = codes "an integer: 10, 20, 30, 40, 50 or 60"
field_words Operand =
    codes "\"power\", \"powers\", \"provinces\", \"order\", \"arrangement\" or, if the word forms a press, \"press\""

abbrev pub part_words : Key → ValuePart → List ℕ
part_words key Whole = range_words key
part_words key (Entry index) = entry_words key
part_words key (Member index field) = field_words field

-- how a value fails
abbrev pub failing_words : SettingsError → List ℕ
failing_words (WrongType key) = codes " is of the wrong type"
failing_words other = codes " is out of range"

-- The line of a key that is not set and that is no number: its default, which is marked. A path has none. The two
-- addresses are always set.
abbrev pub unset_line : Key → List ℕ
unset_line Words = codes "words = [] # default\n"
unset_line Endless = codes "endless = false # default\n"
unset_line Allow = codes "allow = [\"0.0.0.0/0\", \"::/0\"] # default\n"
unset_line Control = codes "# control is not set\n"
unset_line other = []

-- the line of a number that is not set
abbrev pub number_line : Key → ℕ → List ℕ
number_line key n = key_text key ++ (codes " = " ++ (decimal n ++ codes " # default\n"))

-- the line of a key that is not set
abbrev pub default_line : Key → List ℕ
default_line key = option_map_or (number_line key) (default_of key) (unset_line key)

-- the place of a fault: its line, if a scan of the text finds one
abbrev pub place_text : Option ℕ → List ℕ
place_text None = []
place_text (Some line) = codes "line " ++ (decimal line ++ codes ": ")

-- the known key that an unknown one resembles, if there is one
abbrev pub likeness_text : Option Key → List ℕ
likeness_text None = []
likeness_text (Some known) = codes "; did you mean \"" ++ (key_text known ++ codes "\"?")

-- a key, with the entry of its array and the field of that, if only these are meant
abbrev pub path_text : Key → ValuePart → List ℕ
path_text key Whole = key_text key
path_text key (Entry index) = key_text key ++ (codes "[" ++ (decimal index ++ codes "]"))
path_text key (Member index field) =
    key_text key ++ (codes "[" ++ (decimal index ++ (codes "]." ++ field_key field)))

-- ---- lines

-- the line of a key: its value as TOML, or the line of one that is not set
abbrev pub IsValueLine : Key → Option Data → List ℕ → Type 0
IsValueLine key None line = line ≡ default_line key
IsValueLine key (Some given) line = (value : List ℕ) × IsValueText false given value
    × (line ≡ key_text key ++ (codes " = " ++ (value ++ codes "\n")))

-- a text that reads as a value which TOML prints as this other text
abbrev pub ReadsAs : List ℕ → List ℕ → Type 0
ReadsAs written printed = (value : Data) × (parse_value written ≡ Some value) × IsValueText false value printed

-- a value as TOML prints it, or as a text that reads as a value printed so
abbrev pub IsShownValue : Data → List ℕ → Type 0
IsShownValue given shown =
    IsValueText false given shown
    ⊎ ((printed : List ℕ) × IsValueText false given printed × ReadsAs shown printed)

-- the line of a key's fault: its place, the key and the part at fault, the value of the part, and what it must be
abbrev pub IsFaultLine : Key → ValuePart → SettingsError → Option Data → List ℕ → Type 0
IsFaultLine key part fault None line =
    line ≡ codes "missing " ++ (path_text key part ++ (codes "; it must be " ++ (part_words key part ++ codes "\n")))
IsFaultLine key part fault (Some given) line = (place : Option ℕ) × (value : List ℕ) × IsShownValue given value
    × (line ≡ place_text place ++ (path_text key part ++ (codes " = " ++ (value ++ (failing_words fault
    ++ (codes "; it must be " ++ (part_words key part ++ codes "\n")))))))

-- a key without a fault has no line
abbrev pub IsFaultPart : Key → Option SettingsError → Option Data → List ℕ → Type 0
IsFaultPart key None value line = line ≡ []
IsFaultPart key (Some fault) value line =
    IsFaultLine key (faulty_part key fault value) fault (part_value (faulty_part key fault value) value) line

-- the line of an unknown key: its place, the key, and the known one that it resembles
abbrev pub IsUnknownLine : List ℕ → List ℕ → Type 0
IsUnknownLine key line = (place : Option ℕ) × (known : Option Key)
    × (line ≡ place_text place ++ (codes "unknown key \"" ++ (key ++ (codes "\"" ++ (likeness_text known ++ codes "\n")))))

-- ---- the report

-- the parts of some keys, in their order
abbrev pub AreParts : {K : Type 0} → (K → List ℕ → Type 0) → List K → List ℕ → Type 0
AreParts IsPart [] text = text ≡ []
AreParts IsPart (key ∷ keys) text =
    (part : List ℕ) × (rest : List ℕ) × IsPart key part × AreParts IsPart keys rest × (text ≡ part ++ rest)

-- the value of each of some keys, in their order
abbrev pub AreValueLines : Members → List Key → List ℕ → Type 0
AreValueLines members = AreParts (λ key part. IsValueLine key (get_member (key_text key) members) part)

-- the line of each of some keys that has a fault, in their order
abbrev pub AreFaultLines : Members → List Key → List ℕ → Type 0
AreFaultLines members =
    AreParts (λ key part. IsFaultPart key (fault_at key members) (get_member (key_text key) members) part)

-- the unknown keys of a document
abbrev pub unknown_keys : Members → List (List ℕ)
unknown_keys no_members = []
unknown_keys (member key value others) = if is_known key then unknown_keys others else key ∷ unknown_keys others

-- the line of each unknown key of a document, in some order
abbrev pub AreUnknownLines : Members → List ℕ → Type 0
AreUnknownLines members text = (keys : List (List ℕ)) × IsPermutation (unknown_keys members) keys
    × AreParts IsUnknownLine keys text

-- the report of a document, by whether it has no fault: all values; or the lines of all unknown keys, and of all keys with a
-- fault
abbrev pub IsDocumentReport : Bool → Members → List ℕ → Type 0
IsDocumentReport true members report = AreValueLines members ALL report
IsDocumentReport false members report = (unknown : List ℕ) × (faults : List ℕ) × AreUnknownLines members unknown
    × AreFaultLines members ALL faults × (report ≡ unknown ++ faults)

-- the report of a text; one that is no document has one line, with the reason in the words of its reader
abbrev pub IsSettingsReport : Option Members → List ℕ → Type 0
IsSettingsReport None report = (line : ℕ) × (why : List ℕ)
    × (report ≡ codes "line " ++ (decimal line ++ (codes ": settings are not TOML: " ++ (why ++ codes "\n"))))
IsSettingsReport (Some members) report = IsDocumentReport (is_right members) members report
