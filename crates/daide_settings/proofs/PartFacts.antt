-- Which part of a value is at fault, worked out from docs/FORMATS.md.
use Rattle.std.specs.Net.Reader.{read_number, read_octet, read_ipv4, read_segment, read_segments, read_ipv6}
use Rattle.daide_settings.proofs.Common.{◌≡◌, codes, ℕ, List, Some, None, refl, pos, Data, string, integer, array}
use Rattle.daide_settings.proofs.Common.{no_items, item, no_members, member, table, MaxDepth, Words, Allow, Missing}
use Rattle.daide_settings.proofs.Common.{WrongType, Range, faulty_part, part_value}
use Rattle.daide_token.specs.Names.{token_named, names, name_of}
use Rattle.daide_settings.specs.declared.settings.parts.Field.TheVariants.{Name, Code, Level}
use Rattle.daide_settings.specs.declared.settings.parts.ValuePart.TheVariants.{Whole, Entry, Member}

-- ---- ranges

abbrev both : Data → Data → Data
both first second = array (item first (item second no_items))

no_address : faulty_part Allow (Range Allow) (Some (both (string (codes "::1")) (string (codes "localhost")))) ≡ Entry 1
unfolding read_number read_octet read_ipv4 read_segment read_segments read_ipv6
no_address = refl

no_text : faulty_part Allow (WrongType Allow) (Some (both (integer (pos 1)) (string (codes "localhost")))) ≡ Entry 0
no_text = refl

no_range : faulty_part Allow (Range Allow) (Some (array no_items)) ≡ Whole
no_range = refl

no_array : faulty_part Allow (WrongType Allow) (Some (string (codes "::1"))) ≡ Whole
no_array = refl

-- ---- words

-- a word; the members are in the order of their keys' bytes
abbrev entry : List ℕ → ℕ → ℕ → Data
entry name code level =
    table (member (codes "code") (integer (pos code)) (member (codes "level") (integer (pos level))
    (member (codes "name") (string name) (member (codes "operand") (string (codes "power"))
    (member (codes "slot") (string (codes "press")) no_members)))))

code_twice : faulty_part Words (Range Words) (Some (both (entry (codes "XYZ") 0x4A40 20) (entry (codes "XYY") 0x4A40 20)))
    ≡ Member 1 Code
unfolding token_named names name_of
code_twice = refl

name_twice : faulty_part Words (Range Words) (Some (both (entry (codes "XYZ") 0x4A40 20) (entry (codes "XYZ") 0x4A41 20)))
    ≡ Member 1 Name
unfolding token_named names name_of
name_twice = refl

level_between : faulty_part Words (Range Words) (Some (both (entry (codes "XYZ") 0x4A40 25) (entry (codes "XYZ") 0x4A41 20)))
    ≡ Member 0 Level
level_between = refl

code_missing : faulty_part Words (WrongType Words)
    (Some (both (entry (codes "XYZ") 0x4A40 20) (table (member (codes "name") (string (codes "XYY")) no_members))))
    ≡ Member 1 Code
code_missing = refl

no_table : faulty_part Words (WrongType Words) (Some (both (entry (codes "XYZ") 0x4A40 20) (integer (pos 1)))) ≡ Entry 1
no_table = refl

level_shown : part_value (Member 1 Level) (Some (both (integer (pos 1)) (entry (codes "XYZ") 0x4A40 25)))
    ≡ Some (integer (pos 25))
level_shown = refl

-- ---- other keys

missing_key : faulty_part MaxDepth (Missing MaxDepth) None ≡ Whole
missing_key = refl

number : faulty_part MaxDepth (Range MaxDepth) (Some (integer (pos 255))) ≡ Whole
number = refl
