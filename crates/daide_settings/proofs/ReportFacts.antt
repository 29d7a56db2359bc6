-- What `settings` prints of some documents, worked out from docs/FORMATS.md.
use Rattle.std.proofs.lemmas.List.Sorted.{length_permutation}
use Rattle.std.specs.Fmt.{digits}
use Rattle.daide_settings.proofs.Common.{◌≡◌, ℕ, List, [], ◌∷◌, ◌++◌, Option, Some, None, refl, ap, ◌∙◌, codes, length}
use Rattle.daide_settings.proofs.Common.{arith, no_members, Key, TopLevel, MaxBody, MaxDepth, ImSeconds, MaxSessions}
use Rattle.daide_settings.proofs.Common.{Sessions, Turns, IdleSeconds, Words, StallSeconds, Endless, Allow}
use Rattle.daide_settings.proofs.Common.{MaxPerAddress, MaxRefused, Control, ALL, SettingsError, WrongType, Range, fault_at}
use Rattle.daide_settings.proofs.Common.{ValuePart, key_text, default_line, part_words, path_text, AreParts}
use Rattle.daide_settings.proofs.Common.{IsFaultPart, IsUnknownLine}
use Rattle.daide_settings.specs.declared.settings.parts.Field.TheVariants.{Level}
use Rattle.daide_settings.specs.declared.settings.parts.ValuePart.TheVariants.{Whole, Entry, Member}
use Rattle.daide_settings.specs.Report.{failing_words, range_words, AreFaultLines, AreUnknownLines, IsSettingsReport}

-- ---- the lines of keys that are not set

default_lines : default_line TopLevel ++ (default_line MaxBody ++ (default_line MaxDepth ++ (default_line ImSeconds
    ++ (default_line MaxSessions ++ (default_line Sessions ++ (default_line Turns ++ default_line IdleSeconds))))))
    ≡ codes "top_level = 60 # default\nmax_body = 65526 # default\nmax_depth = 62 # default\nim_seconds = 30 # default\nmax_sessions = 16 # default\nsessions = 1 # default\nturns = 1000000000 # default\nidle_seconds = 0 # default\n"
unfolding digits
default_lines = refl

other_defaults : default_line Words ++ (default_line StallSeconds ++ (default_line Endless ++ (default_line Allow
    ++ (default_line MaxPerAddress ++ (default_line MaxRefused ++ default_line Control)))))
    ≡ codes "words = [] # default\nstall_seconds = 60 # default\nendless = false # default\nallow = [\"0.0.0.0/0\", \"::/0\"] # default\nmax_per_address = 0 # default\nmax_refused = 0 # default\n# control is not set\n"
unfolding digits
other_defaults = refl

-- ---- the lines of faults

-- a line without its place
abbrev told : Key → ValuePart → SettingsError → List ℕ → List ℕ
told key part fault value =
    path_text key part ++ (codes " = " ++ (value ++ (failing_words fault ++ (codes "; it must be " ++ part_words key part))))

depth_out_of_range : told MaxDepth Whole (Range MaxDepth) (codes "255")
    ≡ codes "max_depth = 255 is out of range; it must be an integer from 4 to 254"
depth_out_of_range = refl

turns_of_wrong_type : told Turns Whole (WrongType Turns) (codes "\"x\"")
    ≡ codes "turns = \"x\" is of the wrong type; it must be an integer from 1 to 1000000000000"
turns_of_wrong_type = refl

level_of_a_word : told Words (Member 2 Level) (Range Words) (codes "25")
    ≡ codes "words[2].level = 25 is out of range; it must be an integer: 10, 20, 30, 40, 50 or 60"
unfolding digits
level_of_a_word = refl

range_of_type : told Allow (Entry 10) (WrongType Allow) (codes "1")
    ≡ codes "allow[10] = 1 is of the wrong type; it must be a string, an IPv4 or IPv6 address with or without /PREFIX, and not IPv4-mapped"
unfolding digits
range_of_type = refl

-- ---- a document without a key

abbrev part_text : Key → Option SettingsError → List ℕ
part_text key None = []
part_text key (Some fault) =
    codes "missing " ++ (key_text key ++ (codes "; it must be " ++ (range_words key ++ codes "\n")))

absent_part : (key : Key) (fault : Option SettingsError) (part : List ℕ) → IsFaultPart key fault None part →
    part ≡ part_text key fault
absent_part key None part h = h
absent_part key (Some fault) part h = h

abbrev faults_text : List Key → List ℕ
faults_text [] = []
faults_text (key ∷ keys) = part_text key (fault_at key no_members) ++ faults_text keys

absent_parts : (keys : List Key) (text : List ℕ) → AreFaultLines no_members keys text → text ≡ faults_text keys
absent_parts [] text h = h
absent_parts (key ∷ keys) text h = h.4 ∙ (ap (λ (l : List ℕ). l ++ h.1) (absent_part key (fault_at key no_members) h.0 h.2)
    ∙ ap (λ (l : List ℕ). part_text key (fault_at key no_members) ++ l) (absent_parts keys h.1 h.3))

-- a document without a key has no unknown key
no_lines : (keys : List (List ℕ)) (text : List ℕ) → length keys ≡ 0 → AreParts IsUnknownLine keys text → text ≡ []
no_lines [] text none h = h
no_lines (key ∷ keys) text none h = absurd (omega (arith, none))

no_unknown_lines : (text : List ℕ) → AreUnknownLines no_members text → text ≡ []
no_unknown_lines text h = no_lines h.0 text (length_permutation [] h.0 h.1) h.2

-- an empty document has two faults, and its report is their two lines
empty_document : (report : List ℕ) → IsSettingsReport (Some no_members) report → report
    ≡ codes "missing listen; it must be a string HOST:PORT of at most 255 bytes, with a port from 0 to 65535 and without a scheme\nmissing server; it must be a string HOST:PORT of at most 255 bytes, with a port from 0 to 65535 and without a scheme\n"
empty_document report h =
    h.4 ∙ (ap (λ (l : List ℕ). l ++ h.1) (no_unknown_lines h.0 h.2) ∙ absent_parts ALL h.1 h.3)
