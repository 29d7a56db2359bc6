-- Two faults in one document, for each pair of keys and each pair of kinds: the fault of the first key is reported,
-- whatever the later one is. The order is that of the table of settings in docs/FORMATS.md, so two swapped keys do not
-- check. Also: the length of an address is that of its bytes.
use Rattle.std.proofs.Common.{replicate, ◌==◌, if◌then◌else◌, slice_index_or}
use Rattle.std.specs.List.{range_with_len, concat}
use Rattle.daide_settings.proofs.Common.{◌≡◌, codes, true, false, List, ℕ, ◌+◌, ◌-◌, [], ◌∷◌, ◌++◌, map, Some, refl}
use Rattle.daide_settings.proofs.Common.{Result, Ok, Err, pos, Data, string, integer, boolean, array, no_items, item}
use Rattle.daide_settings.proofs.Common.{Members, no_members, member, table, Key, Listen, Server, TopLevel, MaxBody}
use Rattle.daide_settings.proofs.Common.{MaxDepth, ImSeconds, MaxSessions, Sessions, Turns, IdleSeconds, Words}
use Rattle.daide_settings.proofs.Common.{StallSeconds, Endless, Allow, MaxPerAddress, MaxRefused, Control, SettingsError, Unknown}
use Rattle.daide_settings.proofs.Common.{WrongType, Range, Given, is_in_range, judged_members}
use Rattle.daide_settings.specs.declared.settings.ranges.Host.TheVariants.{V4}
use Rattle.std.specs.Net.Reader.{read_number, read_octet, read_ipv4}
use Rattle.daide_settings.specs.Settings.{address_judged}

-- ---- documents with all seventeen keys

-- the value of each key, in the order of the table; the members are in the order of their keys' bytes
abbrev document : (ℕ → Data) → Members
document value =
    member (codes "allow") (value 13) (member (codes "control") (value 16) (member (codes "endless") (value 12) (member (codes "idle_seconds") (value 9)
    (member (codes "im_seconds") (value 5) (member (codes "listen") (value 0) (member (codes "max_body") (value 3)
    (member (codes "max_depth") (value 4) (member (codes "max_per_address") (value 14) (member (codes "max_refused") (value 15)
    (member (codes "max_sessions") (value 6) (member (codes "server") (value 1) (member (codes "sessions") (value 7) (member (codes "stall_seconds") (value 11)
    (member (codes "top_level") (value 2) (member (codes "turns") (value 8) (member (codes "words") (value 10)
    no_members))))))))))))))))

abbrev at : List Data → ℕ → Data
at values n = slice_index_or values n (boolean false)

-- values in range, all different
abbrev right : List Data
right =
    string (codes "l:1") ∷ string (codes "s:2") ∷ integer (pos 20) ∷ integer (pos 1024) ∷ integer (pos 13)
    ∷ integer (pos 4) ∷ integer (pos 5) ∷ integer (pos 6) ∷ integer (pos 7) ∷ integer (pos 8) ∷ array no_items
    ∷ integer (pos 9) ∷ boolean true ∷ array (item (string (codes "127.0.0.0/8")) no_items)
    ∷ integer (pos 10) ∷ integer (pos 11) ∷ string (codes "c") ∷ []

each_key_has_its_field : judged_members (document (at right)) ≡ Ok (record {
  listen = codes "l:1";
  server = codes "s:2";
  top_level = 20;
  max_body = 1024;
  max_depth = 13;
  im_seconds = 4;
  max_sessions = 5;
  sessions = 6;
  turns = 7;
  idle_seconds = 8;
  words = [];
  stall_seconds = 9;
  endless = true;
  allow = record { host = V4 0x7F000000; prefix = 8 } ∷ [];
  max_per_address = 10;
  max_refused = 11;
  control = Some (codes "c");
})
unfolding judged_members read_number read_octet read_ipv4
each_key_has_its_field = refl

-- a word with an unknown slot
abbrev no_slot : Data
no_slot =
    table (member (codes "code") (integer (pos 0x4A40)) (member (codes "level") (integer (pos 20))
    (member (codes "name") (string (codes "XYZ")) (member (codes "operand") (string (codes "power"))
    (member (codes "slot") (string (codes "pres")) no_members)))))

-- values out of range; no boolean is, so the flag has a number
abbrev ranged : List Data
ranged =
    string [] ∷ string [] ∷ integer (pos 25) ∷ integer (pos 513) ∷ integer (pos 3) ∷ integer (pos 3601)
    ∷ integer (pos 257) ∷ integer (pos 1000001) ∷ integer (pos 0) ∷ integer (pos 86401)
    ∷ array (item no_slot no_items) ∷ integer (pos 86401) ∷ integer (pos 1) ∷ array no_items
    ∷ integer (pos 257) ∷ integer (pos 1000001) ∷ string [] ∷ []

-- a value of a type that no key has
abbrev typed : List Data
typed = replicate 17 (table no_members)

-- ---- two faults

-- the document with a fault of one kind at the key i, and of another at the key j
abbrev faulty : List Data → List Data → ℕ → ℕ → Result Given SettingsError
faulty first second i j =
    judged_members (document (λ n. if n == i then at first n else if n == j then at second n else at right n))

-- each key but the last, with each key after it
abbrev pairs : List Data → List Data → List (List (Result Given SettingsError))
pairs first second =
    map (λ i. map (faulty first second i) (range_with_len (i + 1) (16 - i))) (range_with_len 0 16)

-- the fault reported for each key, with sixteen, fifteen, .. keys after it; no boolean is out of
-- range
abbrev told : (Key → SettingsError) → List (List (Result Given SettingsError))
told fault =
    replicate 16 (Err (fault Listen)) ∷ replicate 15 (Err (fault Server)) ∷ replicate 14 (Err (fault TopLevel))
    ∷ replicate 13 (Err (fault MaxBody)) ∷ replicate 12 (Err (fault MaxDepth))
    ∷ replicate 11 (Err (fault ImSeconds)) ∷ replicate 10 (Err (fault MaxSessions))
    ∷ replicate 9 (Err (fault Sessions)) ∷ replicate 8 (Err (fault Turns)) ∷ replicate 7 (Err (fault IdleSeconds))
    ∷ replicate 6 (Err (fault Words)) ∷ replicate 5 (Err (fault StallSeconds))
    ∷ replicate 4 (Err (WrongType Endless)) ∷ replicate 3 (Err (fault Allow))
    ∷ replicate 2 (Err (fault MaxPerAddress)) ∷ replicate 1 (Err (fault MaxRefused))
    ∷ []

first_key_told : (pairs ranged ranged ≡ told Range) × (pairs typed typed ≡ told WrongType)
    × (pairs ranged typed ≡ told Range) × (pairs typed ranged ≡ told WrongType)
unfolding judged_members read_number read_octet read_ipv4
first_key_told = (refl, refl, refl, refl)

-- a fault of one key alone
abbrev alone : List Data → List (Result Given SettingsError)
alone faults = map (λ i. faulty faults faults i i) (range_with_len 0 17)

-- the keys before the flag
abbrev keys : List Key
keys =
    Listen ∷ Server ∷ TopLevel ∷ MaxBody ∷ MaxDepth ∷ ImSeconds ∷ MaxSessions ∷ Sessions ∷ Turns ∷ IdleSeconds
    ∷ Words ∷ StallSeconds ∷ []

each_key_told : (alone ranged ≡ map (λ key. Err (Range key)) keys ++ Err (WrongType Endless) ∷ Err (Range Allow)
    ∷ Err (Range MaxPerAddress) ∷ Err (Range MaxRefused) ∷ Err (Range Control) ∷ [])
    × (alone typed ≡ map (λ key. Err (WrongType key)) (keys ++ Endless ∷ Allow ∷ MaxPerAddress ∷ MaxRefused ∷ Control ∷ []))
unfolding judged_members read_number read_octet read_ipv4
each_key_told = (refl, refl)

-- an unknown key is reported before each of them
abbrev with_unknown : List Data → ℕ → Result Given SettingsError
with_unknown faults i =
    judged_members (member (codes "depth") (integer (pos 5)) (document (λ n. if n == i then at faults n else at right n)))

unknown_key_told : (map (with_unknown ranged) (range_with_len 0 18) ≡ replicate 18 (Err Unknown))
    × (map (with_unknown typed) (range_with_len 0 18) ≡ replicate 18 (Err Unknown))
unfolding judged_members
unknown_key_told = (refl, refl)

-- ---- ranges

-- an address has 1 to 255 bytes, and a hub 1 to 256 sessions
ranges : (map (is_in_range Listen) (range_with_len 0 300) ≡ false ∷ replicate 255 true ++ replicate 44 false)
    × (map (is_in_range Server) (range_with_len 0 300) ≡ false ∷ replicate 255 true ++ replicate 44 false)
    × (map (is_in_range MaxSessions) (range_with_len 0 300) ≡ false ∷ replicate 256 true ++ replicate 43 false)
    × (map (is_in_range MaxDepth) (range_with_len 0 300) ≡ replicate 4 false ++ replicate 251 true ++ replicate 45 false)
    × (map (is_in_range Words) (range_with_len 0 300) ≡ replicate 17 true ++ replicate 283 false)
ranges = (refl, refl, refl, refl, refl)

-- the length is in bytes, not in letters: 126 letters of two bytes and one of one byte are 255 with a port, and 127 of two
-- bytes are 256
abbrev letters : ℕ → List ℕ
letters n = concat (replicate n (0xC3 ∷ 0xA4 ∷ []))

abbrev with_port : List ℕ → List ℕ
with_port host = host ++ codes ":1"

bytes_counted : (address_judged Listen (Some (with_port (letters 126 ++ 97 ∷ []))) ≡ Ok (with_port (letters 126 ++ 97 ∷ [])))
    × (address_judged Listen (Some (with_port (letters 127))) ≡ Err (Range Listen))
    × (address_judged Server (Some (with_port (letters 127))) ≡ Err (Range Server))
bytes_counted = (refl, refl, refl)
