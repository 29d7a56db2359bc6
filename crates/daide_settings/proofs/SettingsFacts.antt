-- Rows of the table of settings in docs/FORMATS.md, computed from the definitions: the list of keys, each range at both
-- ends, each default, and the order of the faults.
use Rattle.std.proofs.Common.{negsuc}
use Rattle.daide_settings.proofs.Common.{◌≡◌, codes, true, false, List, ℕ, [], ◌∷◌, Some, None, Ok, Err, refl, pos}
use Rattle.daide_settings.proofs.Common.{Result, Data, string, integer, boolean, array, table, Items, no_items, item}
use Rattle.daide_settings.proofs.Common.{Members, no_members, member, parse_document, Listen, Server, TopLevel, MaxBody}
use Rattle.daide_settings.proofs.Common.{MaxDepth, ImSeconds, MaxSessions, Sessions, Turns, IdleSeconds, Words}
use Rattle.daide_settings.proofs.Common.{StallSeconds, Endless, Allow, MaxPerAddress, MaxRefused, Control, ALL, Unknown, Missing}
use Rattle.daide_settings.proofs.Common.{WrongType, Range, is_in_range, address_of, read_flag, read_number}
use Rattle.daide_settings.proofs.Common.{judged_members, judged_settings, words_judged, Word, SettingsError}
use Rattle.toml.proofs.OnLiterals.{toml_on_literals}
use Rattle.daide_settings.specs.Ranges.{everyone}
use Rattle.daide_settings.specs.declared.settings.SettingsError.TheVariants.{NotToml}
use Rattle.daide_token.specs.Names.{names, name_of, token_named}
use Rattle.daide_grammar.specs.declared.level.Level.TheVariants.{L20}
use Rattle.daide_words.specs.declared.slot.Slot.TheVariants.{Press}
use Rattle.daide_words.specs.declared.operand.Operand.TheVariants.{Power}

-- ---- the keys

-- each key once, in the order of the checks
all_keys : ALL ≡ Listen ∷ Server ∷ TopLevel ∷ MaxBody ∷ MaxDepth ∷ ImSeconds ∷ MaxSessions ∷ Sessions ∷ Turns
    ∷ IdleSeconds ∷ Words ∷ StallSeconds ∷ Endless ∷ Allow ∷ MaxPerAddress ∷ MaxRefused ∷ Control ∷ []
all_keys = refl

-- ---- ranges, at both ends

addresses_have_bytes : is_in_range Listen 0 ≡ false
addresses_have_bytes = refl

shortest_address : is_in_range Server 1 ≡ true
shortest_address = refl

longest_address : is_in_range Listen 255 ≡ true
longest_address = refl

address_too_long : is_in_range Server 256 ≡ false
address_too_long = refl

level_0 : is_in_range TopLevel 0 ≡ true
level_0 = refl

level_60 : is_in_range TopLevel 60 ≡ true
level_60 = refl

level_25 : is_in_range TopLevel 25 ≡ false
level_25 = refl

level_70 : is_in_range TopLevel 70 ≡ false
level_70 = refl

shortest_body : is_in_range MaxBody 512 ≡ true
shortest_body = refl

body_too_short : is_in_range MaxBody 510 ≡ false
body_too_short = refl

odd_body : is_in_range MaxBody 513 ≡ false
odd_body = refl

longest_body : is_in_range MaxBody 65526 ≡ true
longest_body = refl

body_too_long : is_in_range MaxBody 65528 ≡ false
body_too_long = refl

least_depth : is_in_range MaxDepth 4 ≡ true
least_depth = refl

depth_3 : is_in_range MaxDepth 3 ≡ false
depth_3 = refl

greatest_depth : is_in_range MaxDepth 254 ≡ true
greatest_depth = refl

depth_255 : is_in_range MaxDepth 255 ≡ false
depth_255 = refl

no_second : is_in_range ImSeconds 0 ≡ false
no_second = refl

one_second : is_in_range ImSeconds 1 ≡ true
one_second = refl

an_hour : is_in_range ImSeconds 3600 ≡ true
an_hour = refl

more_than_an_hour : is_in_range ImSeconds 3601 ≡ false
more_than_an_hour = refl

none_held : is_in_range MaxSessions 0 ≡ false
none_held = refl

one_held : is_in_range MaxSessions 1 ≡ true
one_held = refl

most_held : is_in_range MaxSessions 256 ≡ true
most_held = refl

too_many_held : is_in_range MaxSessions 257 ≡ false
too_many_held = refl

none_served : is_in_range Sessions 0 ≡ false
none_served = refl

one_served : is_in_range Sessions 1 ≡ true
one_served = refl

a_million_served : is_in_range Sessions 1000000 ≡ true
a_million_served = refl

more_than_a_million_served : is_in_range Sessions 1000001 ≡ false
more_than_a_million_served = refl

no_turn : is_in_range Turns 0 ≡ false
no_turn = refl

one_turn : is_in_range Turns 1 ≡ true
one_turn = refl

most_turns : is_in_range Turns 1000000000000 ≡ true
most_turns = refl

too_many_turns : is_in_range Turns 1000000000001 ≡ false
too_many_turns = refl

never_idle : is_in_range IdleSeconds 0 ≡ true
never_idle = refl

a_day : is_in_range IdleSeconds 86400 ≡ true
a_day = refl

more_than_a_day : is_in_range IdleSeconds 86401 ≡ false
more_than_a_day = refl

never_stalled : is_in_range StallSeconds 0 ≡ true
never_stalled = refl

stalled_for_a_day : is_in_range StallSeconds 86400 ≡ true
stalled_for_a_day = refl

stalled_for_more_than_a_day : is_in_range StallSeconds 86401 ≡ false
stalled_for_more_than_a_day = refl

unlimited : is_in_range MaxPerAddress 0 ≡ true
unlimited = refl

as_many_as_sessions : is_in_range MaxPerAddress 256 ≡ true
as_many_as_sessions = refl

more_than_sessions : is_in_range MaxPerAddress 257 ≡ false
more_than_sessions = refl

never_refused_often : is_in_range MaxRefused 0 ≡ true
never_refused_often = refl

refused_a_million_times : is_in_range MaxRefused 1000000 ≡ true
refused_a_million_times = refl

refused_more_often : is_in_range MaxRefused 1000001 ≡ false
refused_more_often = refl

path_of_no_bytes : is_in_range Control 0 ≡ false
path_of_no_bytes = refl

longest_path : is_in_range Control 100 ≡ true
longest_path = refl

longer_path : is_in_range Control 101 ≡ false
longer_path = refl

-- ---- whole documents; the members are in the order of their keys' bytes

abbrev both : Members → Members
both others = member (codes "listen") (string (codes "a:1")) others

abbrev two_addresses : Members
two_addresses = both (member (codes "server") (string (codes "b:2")) no_members)

-- the two addresses alone give every default
defaults : judged_members two_addresses ≡ Ok (record {
  listen = codes "a:1";
  server = codes "b:2";
  top_level = 60;
  max_body = 65526;
  max_depth = 62;
  im_seconds = 30;
  max_sessions = 16;
  sessions = 1;
  turns = 1000000000;
  idle_seconds = 0;
  words = [];
  stall_seconds = 60;
  endless = false;
  allow = everyone;
  max_per_address = 0;
  max_refused = 0;
  control = None;
})
unfolding judged_members
defaults = refl

-- a missing server is reported before a depth out of range
missing_before_a_later_range :
    judged_members (both (member (codes "max_depth") (integer (pos 255)) no_members)) ≡ Err (Missing Server)
unfolding judged_members
missing_before_a_later_range = refl

-- an unknown key is reported before a missing key
unknown_before_missing : judged_members (member (codes "depth") (integer (pos 5)) no_members) ≡ Err Unknown
unfolding judged_members
unknown_before_missing = refl

-- an earlier key's range is reported before a later key's type
range_before_a_later_type : judged_members (both (member (codes "max_body") (integer (pos 511))
    (member (codes "max_depth") (boolean true) (member (codes "server") (string (codes "b:2")) no_members))))
    ≡ Err (Range MaxBody)
unfolding judged_members
range_before_a_later_type = refl

-- a negative number is an integer out of range
negative_number : read_number Turns (Some (integer (negsuc 0))) ≡ Err (Range Turns)
negative_number = refl

text_for_a_number : read_number Sessions (Some (string (codes "1"))) ≡ Err (WrongType Sessions)
text_for_a_number = refl

number_for_an_address : address_of Listen (Some (integer (pos 1))) ≡ Err (WrongType Listen)
number_for_an_address = refl

empty_address : address_of Server (Some (string (codes ""))) ≡ Err (Range Server)
empty_address = refl

-- a flag is a boolean, and no number
flags : (read_flag Endless None ≡ Ok false) × (read_flag Endless (Some (boolean false)) ≡ Ok false)
    × (read_flag Endless (Some (boolean true)) ≡ Ok true)
    × (read_flag Endless (Some (integer (pos 1))) ≡ Err (WrongType Endless))
    × (read_flag Endless (Some (string (codes "true"))) ≡ Err (WrongType Endless))
flags = (refl, refl, refl, refl, refl)

-- ---- words; the members of an entry are in the order of their keys' bytes

-- an entry with these fields
abbrev entry : ℕ → ℕ → List ℕ → List ℕ → List ℕ → Data
entry code level name operand slot =
    table (member (codes "code") (integer (pos code)) (member (codes "level") (integer (pos level))
    (member (codes "name") (string name) (member (codes "operand") (string operand)
    (member (codes "slot") (string slot) no_members)))))

abbrev xyz : Data
xyz = entry 0x4A40 20 (codes "XYZ") (codes "power") (codes "press")

-- an entry without its operand
abbrev halved : Data
halved = table (member (codes "code") (integer (pos 0x4A40)) (member (codes "level") (integer (pos 20))
    (member (codes "name") (string (codes "XYZ")) (member (codes "slot") (string (codes "press")) no_members))))

abbrev words_at : Items → Result (List Word) SettingsError
words_at entries = words_judged (Some (array entries))

no_words : words_judged None ≡ Ok []
no_words = refl

one_word : words_at (item xyz no_items) ≡ Ok (record {
  name = codes "XYZ";
  code = 0x4A40;
  slot = Press;
  level = L20;
  operand = Power;
} ∷ [])
unfolding name_of token_named names
one_word = refl

words_are_an_array : words_judged (Some (table no_members)) ≡ Err (WrongType Words)
words_are_an_array = refl

word_without_operand : words_at (item halved no_items) ≡ Err (WrongType Words)
word_without_operand = refl

wrong_slot : words_at (item (entry 0x4A40 20 (codes "XYZ") (codes "power") (codes "pres")) no_items) ≡ Err (Range Words)
wrong_slot = refl

-- the shape of a later entry is reported before the range of an earlier one
shape_before_range :
    words_at (item (entry 0x4A40 20 (codes "XYZ") (codes "power") (codes "pres")) (item halved no_items))
    ≡ Err (WrongType Words)
shape_before_range = refl

code_of_no_press : words_at (item (entry 0x4A10 20 (codes "XYZ") (codes "power") (codes "press")) no_items)
    ≡ Err (Range Words)
unfolding name_of token_named names
code_of_no_press = refl

word_twice : words_at (item xyz (item xyz no_items)) ≡ Err (Range Words)
unfolding name_of token_named names
word_twice = refl

-- ---- whole texts

no_document : judged_settings (parse_document (codes "listen =")) ≡ Err NotToml
unfolding toml_on_literals
no_document = refl

nothing_set : judged_settings (parse_document (codes "")) ≡ Err (Missing Listen)
unfolding toml_on_literals judged_members
nothing_set = refl
