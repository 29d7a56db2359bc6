-- Orders to units, of all seasons.
use Rattle.daide_token.specs.declared.class.Class.TheVariants.{Bld, Cto, Cvy, Dsb, Hld, Mto, Rem, Rto, Sup, Via, Wve}
use Rattle.daide_grammar.specs.Forms.{Order_name, Form, ◌·◌, ◌∣◌, group, named, tok, some, maybe}
use Rattle.daide_grammar.specs.Message.Lists.{power, province}
use Rattle.daide_grammar.specs.Message.Places.{province_or_coast, unit}

-- an order
abbrev pub order : Form
order = named Order_name

-- what an order says of its unit: hold, move to a place, support a unit (or its move to a province, never to a coast),
-- convoy a unit to a province, move to a province by convoy through at least one province, retreat, disband, build,
-- remove
abbrev pub order_tail : Form
order_tail =
    tok Hld
    ∣ tok Mto · province_or_coast
    ∣ tok Sup · group unit · maybe (tok Mto · province)
    ∣ tok Cvy · group unit · tok Cto · province
    ∣ tok Cto · province · tok Via · group (some province)
    ∣ tok Rto · province_or_coast
    ∣ tok Dsb
    ∣ tok Bld
    ∣ tok Rem

-- a unit in brackets and its order, or a power that waives a build
abbrev pub order_rule : Form
order_rule = group unit · order_tail ∣ power · tok Wve
