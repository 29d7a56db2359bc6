-- The lines of a report: that of a key's fault, and those of unknown keys.
use Rattle.std.proofs.Common.{subst, IsPermutation}
use Rattle.std.proofs.lemmas.List.Sorted.{IsPermutation-map}
use Rattle.daide_settings.proofs.Common.{◌≡◌, ◌++◌, ℕ, List, Option, Some, sym, codes, map, Data, Members, Key}
use Rattle.daide_settings.proofs.Common.{SettingsError, ValuePart, faulty_part, part_value, AreParts, IsFaultPart}
use Rattle.daide_settings.proofs.Common.{IsUnknownLine, part_words, path_text, unknown_keys}
use Rattle.daide_settings.specs.Report.{AreUnknownLines, IsFaultLine, IsShownValue, failing_words, place_text}

-- the line of a key's fault, by what its check, its look-up and the search for the part returned
pub fault_part : (key : Key) (checked : Option SettingsError) (value shown : Option Data) (fault : SettingsError)
    (part : ValuePart) (line : List ℕ) → Some fault ≡ checked → part ≡ faulty_part key fault value →
    shown ≡ part_value part value → IsFaultLine key part fault shown line → IsFaultPart key checked value line
fault_part key checked value shown fault part line e f g h =
    subst (λ (c : Option SettingsError). IsFaultPart key c value line) e
    (subst (λ (p : ValuePart). IsFaultLine key p fault (part_value p value) line) f
    (subst (λ (v : Option Data). IsFaultLine key part fault v line) g h))

-- the line of a fault whose part has a value
pub given_line : (key : Key) (part : ValuePart) (fault : SettingsError) (value : Option Data) (given : Data)
    (place : Option ℕ) (shown failing range line : List ℕ) → value ≡ Some given → IsShownValue given shown →
    failing ≡ failing_words fault → range ≡ part_words key part →
    line ≡ place_text place ++ (path_text key part ++ (codes " = " ++ (shown ++ (failing
    ++ (codes "; it must be " ++ (range ++ codes "\n")))))) →
    IsFaultLine key part fault value line
given_line key part fault value given place shown failing range line e h f g is =
    subst (λ (v : Option Data). IsFaultLine key part fault v line) (sym e) (place, shown, h, rw (f, g) at is)

-- the lines of unknown keys in the order in which they were sorted
pub ordered_lines : {K : Type 0} (of : K → List ℕ) (document : Members) (found sorted shown : List K) (text : List ℕ) →
    map of found ≡ unknown_keys document → IsPermutation found sorted → shown ≡ sorted →
    AreParts IsUnknownLine (map of shown) text → AreUnknownLines document text
ordered_lines {K} of document found sorted shown text e same is parts = (
  map of shown,
  subst (λ (keys : List (List ℕ)). IsPermutation keys (map of shown)) e
      (subst (λ (keys : List K). IsPermutation (map of found) (map of keys)) (sym is) (IsPermutation-map of found sorted same)),
  parts,
)
