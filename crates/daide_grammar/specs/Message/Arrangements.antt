-- Arrangements, which press proposes, and facts, which press states. The level at which a form enters is (own).
use Rattle.std.specs.Prelude.{true, false, nat_le}
use Rattle.daide_token.specs.declared.class.Class.TheVariants.{Aly, And, Dmz, Drw, Not, Occ, Orr, Pce}
use Rattle.daide_token.specs.declared.class.Class.TheVariants.{Qry, Scd, Slo, Vss, Xdo}
use Rattle.daide_grammar.specs.declared.level.Level.{Level}
use Rattle.daide_grammar.specs.declared.level.Level.TheVariants.{L20, L30, L40, L60}
use Rattle.daide_grammar.specs.Level.{level_number}
use Rattle.daide_grammar.specs.Forms.{Arrangement_slot, Flat_slot, Arrangement_name, Flat_name, Fact_name, Added}
use Rattle.daide_grammar.specs.Forms.{Form, ◌·◌, ◌∣◌, many, group, named, tok, some, maybe, from_level}
use Rattle.daide_grammar.specs.Message.Lists.{power, province}
use Rattle.daide_grammar.specs.Message.Places.{unit}
use Rattle.daide_grammar.specs.Message.Orders.{order}

-- an arrangement of the level
abbrev pub arrangement : Level → Form
arrangement l = named (Arrangement_name l)

-- an arrangement of the level that is built without AND and ORR at any depth
abbrev pub flat_arrangement : Level → Form
flat_arrangement l = named (Flat_name l)

-- a fact of the level
abbrev pub fact : Level → Form
fact l = named (Fact_name l)

-- a draw, of all survivors or of these powers
abbrev pub draw : Form
draw = tok Drw · maybe (group (some power))

-- the operands of AND and ORR: flat arrangements below level 50, any arrangement from level 50 on
abbrev pub joinable : Level → Form
joinable l = elim (nat_le 50 (level_number l)) [ true ↦ arrangement l | false ↦ flat_arrangement l ]

-- the arrangements other than AND and ORR, with the operand of a NOT: peace, an alliance against others, a draw, a
-- solo, a NOT; from 20 an order, a demilitarised zone; from 40 shares of the supply centres, an occupation by units
abbrev pub simple : Level → Form → Form
simple l inside =
    tok Pce · group (some power)
    ∣ tok Aly · group (some power) · tok Vss · group (some power)
    ∣ draw
    ∣ tok Slo · group power
    ∣ tok Not · group inside
    ∣ from_level L20 l (tok Xdo · group order ∣ tok Dmz · group (some power) · group (some province))
    ∣ from_level L40 l (tok Scd · some (group (power · many province)) ∣ tok Occ · some (group unit))

-- two or more operands: AND proposes all of them, ORR one of them
abbrev pub joined : Level → Form
joined l =
    tok And · group (joinable l) · some (group (joinable l))
    ∣ tok Orr · group (joinable l) · some (group (joinable l))

-- a simple arrangement; from 30 operands joined by AND or ORR; an operator's word
abbrev pub arrangement_rule : Level → Form
arrangement_rule l =
    simple l (arrangement l)
    ∣ from_level L30 l (joined l)
    ∣ named (Added Arrangement_slot l)

-- a simple arrangement whose NOT has a flat one as its operand, or an operator's word
abbrev pub flat_rule : Level → Form
flat_rule l = simple l (flat_arrangement l) ∣ named (Added Flat_slot l)

-- an arrangement; at 60 also a query and the negation of a fact
abbrev pub fact_rule : Level → Form
fact_rule l =
    arrangement l
    ∣ from_level L60 l (tok Qry · group (arrangement l) ∣ tok Not · group (fact l))
