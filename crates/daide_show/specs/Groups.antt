-- The groups of digits of an input, which blanks separate. (own)
use Rattle.std.specs.Prelude.{ℕ, ◌+◌, ◌%◌, ◌==◌, ◌&&◌, Bool, not, if◌then◌else◌, List, [], ◌∷◌, ◌++◌, length, filter, codes}
use Rattle.std.specs.Prelude.{Option, Some, None}
use Rattle.std.specs.List.{slice_split, list_all}
use Rattle.std.specs.Fmt.{decimal}
use Rattle.hex.specs.Hex.{is_hex_digit}
use Rattle.daide_show.specs.Input.{is_blank}
use Rattle.daide_show.specs.declared.groups.OddGroup.{OddGroup}

-- at least one byte
abbrev pub is_some_bytes : List ℕ → Bool
is_some_bytes part = not (length part == 0)

-- the parts of an input between its blanks, without the empty ones
abbrev pub groups_of : List ℕ → List (List ℕ)
groups_of input = filter is_some_bytes (slice_split is_blank input)

-- only digits, and an odd number of them
abbrev pub is_odd_group : List ℕ → Bool
is_odd_group group = list_all is_hex_digit group && length group % 2 == 1

-- the first odd group, with its number and the number of its digits
abbrev pub odd_among : ℕ → List (List ℕ) → Option OddGroup
odd_among place [] = None
odd_among place (group ∷ groups) =
    if is_odd_group group
    then Some (record { place = place; digits = length group })
    else odd_among (place + 1) groups

-- the first odd group of an input, with groups counted from 1
abbrev pub odd_group_of : List ℕ → Option OddGroup
odd_group_of input = odd_among 1 (groups_of input)

-- the text of an odd group
abbrev pub odd_group_text : OddGroup → List ℕ
odd_group_text odd =
    codes "group " ++ decimal odd.place ++ codes " has an odd number of digits, " ++ decimal odd.digits
    ++ codes ": if the input is a dump with offsets, leave the offsets out"
