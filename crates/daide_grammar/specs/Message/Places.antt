-- Places on the map, and units.
use Rattle.daide_token.specs.declared.class.Class.TheVariants.{Coast, Amy, Flt}
use Rattle.daide_grammar.specs.Forms.{Place_name, Unit_name, Form, ◌·◌, ◌∣◌, group, named, tok}
use Rattle.daide_grammar.specs.Message.Lists.{power, province}

-- a place for a unit
abbrev pub province_or_coast : Form
province_or_coast = named Place_name

-- a province, or a province and one of its coasts in brackets
abbrev pub place_rule : Form
place_rule = province ∣ group (province · tok Coast)

-- an army or a fleet
abbrev pub unit_type : Form
unit_type = tok Amy ∣ tok Flt

-- a unit of a power at its place
abbrev pub unit : Form
unit = named Unit_name

-- power type place
abbrev pub unit_rule : Form
unit_rule = power · unit_type · province_or_coast
