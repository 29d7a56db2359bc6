-- What a server says, and the report HUH. (Message has the report PRN.)
use Rattle.daide_token.specs.declared.class.Class.TheVariants.{Adm, Ccd, Coast, Flt, Frm, Hlo, Lod, Lvl, Map}
use Rattle.daide_token.specs.declared.class.Class.TheVariants.{Mdf, Mis, Mrt, Not, Note, Now, Num, Off, Ord}
use Rattle.daide_token.specs.declared.class.Class.TheVariants.{Out, Outcome, Param, Rej, Sco, Slo, Smr, Sve}
use Rattle.daide_token.specs.declared.class.Class.TheVariants.{Thx, Tme, Uno, Yes}
use Rattle.daide_grammar.specs.declared.level.Level.{Level}
use Rattle.daide_grammar.specs.declared.level.Level.TheVariants.{L10}
use Rattle.daide_grammar.specs.Forms.{Form, ◌·◌, ◌∣◌, many, group, tok, some, maybe, from_level}
use Rattle.daide_grammar.specs.Message.Lists.{power, province, season_and_year, text}
use Rattle.daide_grammar.specs.Message.Places.{province_or_coast, unit_type, unit}
use Rattle.daide_grammar.specs.Message.Orders.{order}
use Rattle.daide_grammar.specs.Message.Arrangements.{draw}
use Rattle.daide_grammar.specs.Message.Press.{press, send}
use Rattle.daide_grammar.specs.Message.Client.{request, report}

-- the addressee of the server's HLO: a power, or nobody
abbrev pub who : Form
who = power ∣ tok Uno

-- an option of the game: one token of category 49
abbrev pub param : Form
param = tok Lvl ∣ tok Mrt ∣ tok Uno ∣ tok Param

-- the owner of supply centres: a power, nobody, or several powers (each of them)
abbrev pub owner : Form
owner = power ∣ tok Uno ∣ group (some power)

-- an owner and its supply centres
abbrev pub owned : Form
owned = owner · many province

-- the places that armies, fleets, or fleets from one coast can reach
abbrev pub kind_places : Form
kind_places = (unit_type ∣ group (tok Flt · tok Coast)) · many province_or_coast

-- a province, and for each kind of unit the places that it can reach from there
abbrev pub borders : Form
borders = province · many (group kind_places)

-- a unit at its place, with the places to which it must retreat if it is dislodged
abbrev pub stand : Form
stand = unit ∣ unit · tok Mrt · group (many province_or_coast)

-- a result of an order
abbrev pub outcome : Form
outcome = tok Note ∣ tok Outcome

-- a player in a summary: power, name, version, supply centres, and the year of elimination
abbrev pub player : Form
player = power · group text · group text · tok Num · maybe (tok Num)

-- the map: its powers; the supply centres of each owner, and the provinces without one; and all borders
abbrev pub map_definition : Form
map_definition =
    group (some power)
    · group (group (many (group owned)) · group (many province))
    · group (many (group borders))

-- the press that a power sent to powers; and a send that the server returns, since a power is in civil disorder or out
-- of the game (that a send is allowed there is (own))
abbrev pub press_message : Level → Form
press_message l =
    tok Frm · group power · group (some power) · group (press l)
    ∣ tok Ccd · group power · group (send l)
    ∣ tok Out · group power · group (send l)

-- the server messages except for the report PRN, in the order of the protocol's table; press from level 10
abbrev pub server : Level → Form
server l =
    tok Map · group text
    ∣ tok Mdf · map_definition
    ∣ tok Hlo · group who · group (tok Num) · group (many (group (param · maybe (tok Num))))
    ∣ tok Sco · many (group owned)
    ∣ tok Now · group season_and_year · many (group stand)
    ∣ tok Thx · group order · group (tok Note)
    ∣ tok Mis · many (group stand)
    ∣ tok Mis · group (tok Num)
    ∣ tok Ord · group season_and_year · group order · group (some outcome)
    ∣ tok Tme · group (tok Num)
    ∣ tok Yes · group (request l)
    ∣ tok Rej · group (request l)
    ∣ tok Ccd · group power
    ∣ tok Not · group (tok Ccd · group power)
    ∣ tok Out · group power
    ∣ tok Slo · group power
    ∣ draw
    ∣ tok Off
    ∣ tok Smr · group season_and_year · many (group player)
    ∣ tok Sve · group text
    ∣ tok Lod · group text
    ∣ tok Adm · group text · group text
    ∣ from_level L10 l (press_message l)
    ∣ report
