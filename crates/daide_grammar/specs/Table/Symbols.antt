-- The table: for each symbol its form, its entries, whether it is nullable, and the slot of an operator's word. The
-- order is that of the grammar: single tokens, lists, places and units, orders, arrangements, press, client, server.
use Rattle.std.specs.Prelude.{Bool, true, false, not, ◌&&◌, nat_le, List, [], ◌∷◌, ◌++◌, Option, Some, None}
use Rattle.daide_token.specs.declared.class.Class.{Class}
use Rattle.daide_token.specs.declared.class.Class.TheVariants.{Num, Bra, Ket, Power, Note, Outcome, Coast, Season}
use Rattle.daide_token.specs.declared.class.Class.TheVariants.{Text, Province, Amy, Flt, Cto, Cvy, Hld, Mto, Sup}
use Rattle.daide_token.specs.declared.class.Class.TheVariants.{Via, Dsb, Rto, Bld, Rem, Wve, Ccd, Drw, Frm, Gof}
use Rattle.daide_token.specs.declared.class.Class.TheVariants.{Hlo, Hst, Huh, Iam, Lod, Map, Mdf, Mis, Nme, Not}
use Rattle.daide_token.specs.declared.class.Class.TheVariants.{Now, Obs, Off, Ord, Out, Rej, Sco, Slo, Snd, Sub}
use Rattle.daide_token.specs.declared.class.Class.TheVariants.{Sve, Thx, Tme, Yes, Adm, Smr, Aly, And, Bwx, Dmz}
use Rattle.daide_token.specs.declared.class.Class.TheVariants.{Fct, Idk, Ins, Occ, Orr, Pce, Prp, Qry, Scd, Sry}
use Rattle.daide_token.specs.declared.class.Class.TheVariants.{Sug, Thk, Try, Vss, Xdo, Lvl, Mrt, Uno, Param}
use Rattle.daide_grammar.specs.declared.level.Level.{Level}
use Rattle.daide_grammar.specs.declared.level.Level.TheVariants.{L10, L20, L30, L40, L50, L60}
use Rattle.daide_grammar.specs.declared.side.Side2.{Side2}
use Rattle.daide_grammar.specs.declared.side.Side2.TheVariants.{Client as ClientSide, ServerEnd as ServerSide}
use Rattle.daide_grammar.specs.declared.symbol.Sym.{Sym}
use Rattle.daide_grammar.specs.declared.symbol.Sym.TheVariants.{Closing, OnePower, OneProvince, OneCoast, OneNumber}
use Rattle.daide_grammar.specs.declared.symbol.Sym.TheVariants.{OneNote, OneFleet, Waived, ConvoyTo, Through, Against}
use Rattle.daide_grammar.specs.declared.symbol.Sym.TheVariants.{TextGroup, Texts, PowerGroup, PowersGroup}
use Rattle.daide_grammar.specs.declared.symbol.Sym.TheVariants.{MaybePowersGroup, Powers, NumberGroup, MaybeNumberGroup}
use Rattle.daide_grammar.specs.declared.symbol.Sym.TheVariants.{MaybeNumber, ProvincesGroup, MaybeProvincesGroup}
use Rattle.daide_grammar.specs.declared.symbol.Sym.TheVariants.{Provinces, TurnGroup, OneTurn, WordsGroup, WordList}
use Rattle.daide_grammar.specs.declared.symbol.Sym.TheVariants.{AnyGroup, Any, OnePlace, PlacesGroup, Places, UnitGroup}
use Rattle.daide_grammar.specs.declared.symbol.Sym.TheVariants.{UnitGroups, OneUnit, UnitType, OrderGroup, Orders}
use Rattle.daide_grammar.specs.declared.symbol.Sym.TheVariants.{OneOrder, OrderTail, SupportTail, ArrangementGroup}
use Rattle.daide_grammar.specs.declared.symbol.Sym.TheVariants.{Arrangement, FactGroup, Fact, OperandGroup, Operands}
use Rattle.daide_grammar.specs.declared.symbol.Sym.TheVariants.{Operand, ShareGroup, Shares, PressGroup, Press}
use Rattle.daide_grammar.specs.declared.symbol.Sym.TheVariants.{SendGroup, MaybeSendGroup, Send, SendTail, SendFirst}
use Rattle.daide_grammar.specs.declared.symbol.Sym.TheVariants.{Client, RequestGroup, Request, SubmitTail, SubmitFirst}
use Rattle.daide_grammar.specs.declared.symbol.Sym.TheVariants.{CancelGroup, Cancel, ReplyGroup, Reply, Server}
use Rattle.daide_grammar.specs.declared.symbol.Sym.TheVariants.{WhoGroup, Who, ParamsGroup, Params, OneParam}
use Rattle.daide_grammar.specs.declared.symbol.Sym.TheVariants.{CentresGroup, OwnersGroup, Owners, Owned, BordersGroup}
use Rattle.daide_grammar.specs.declared.symbol.Sym.TheVariants.{BordersList, Borders, KindList, KindPlaces, Stands}
use Rattle.daide_grammar.specs.declared.symbol.Sym.TheVariants.{OneStand, StandTail, MissingTail, MissingFirst}
use Rattle.daide_grammar.specs.declared.symbol.Sym.TheVariants.{NoteGroup, OutcomesGroup, Outcomes, OneOutcome}
use Rattle.daide_grammar.specs.declared.symbol.Sym.TheVariants.{CivilDisorderGroup, CivilDisorder, Players, OnePlayer}
use Rattle.daide_grammar.specs.Level.{level_number}
use Rattle.daide_grammar.specs.Table.Answers.{TableEntry, Take, Skip, Stop}
use Rattle.daide_grammar.specs.Forms.{Slot, Press_slot, Arrangement_slot, Flat_slot, TokenTest, is, any_but_brackets}
use Rattle.daide_grammar.specs.Classes.{same_class}
use Rattle.daide_grammar.specs.Forms.{Form, empty, ◌·◌, ◌∣◌, many, tok, group, some, maybe, from_level}
use Rattle.daide_grammar.specs.Message.Lists.{power, province, season_and_year, text, words, any}
use Rattle.daide_grammar.specs.Message.Places.{province_or_coast, unit_type, unit}
use Rattle.daide_grammar.specs.Message.Orders.{order, order_tail}
use Rattle.daide_grammar.specs.Message.Arrangements.{arrangement, fact, joinable}
use Rattle.daide_grammar.specs.Message.Press.{press, send}
use Rattle.daide_grammar.specs.Message.Client.{request, cancel, reply, client}
use Rattle.daide_grammar.specs.Message.Server.{who, param, owned, kind_places, borders, stand, outcome, player, server}

-- the form of each symbol
unfoldable pub form_of : Sym → Form
-- single tokens
form_of Closing = tok Ket
form_of OnePower = power
form_of OneProvince = province
form_of OneCoast = tok Coast
form_of OneNumber = tok Num
form_of OneNote = tok Note
form_of OneFleet = tok Flt
form_of Waived = tok Wve
form_of ConvoyTo = tok Cto
form_of Through = tok Via
form_of Against = tok Vss
-- lists
form_of TextGroup = group text
form_of Texts = text
form_of PowerGroup = group power
form_of PowersGroup = group (some power)
form_of MaybePowersGroup = maybe (group (some power))
form_of Powers = many power
form_of NumberGroup = group (tok Num)
form_of MaybeNumberGroup = maybe (group (tok Num))
form_of MaybeNumber = maybe (tok Num)
form_of ProvincesGroup = group (some province)
form_of MaybeProvincesGroup = group (many province)
form_of Provinces = many province
form_of TurnGroup = group season_and_year
form_of OneTurn = season_and_year
form_of WordsGroup = group words
form_of WordList = words
form_of AnyGroup = group any
form_of Any = any
-- places and units
form_of OnePlace = province_or_coast
form_of PlacesGroup = group (many province_or_coast)
form_of Places = many province_or_coast
form_of UnitGroup = group unit
form_of UnitGroups = many (group unit)
form_of OneUnit = unit
form_of UnitType = unit_type
-- orders
form_of OrderGroup = group order
form_of Orders = many (group order)
form_of OneOrder = order
form_of OrderTail = order_tail
form_of SupportTail = maybe (tok Mto · province)
-- arrangements and facts
form_of (ArrangementGroup l) = group (arrangement l)
form_of (Arrangement l) = arrangement l
form_of (FactGroup l) = group (fact l)
form_of (Fact l) = fact l
form_of (OperandGroup l) = group (joinable l)
form_of (Operands l) = many (group (joinable l))
form_of (Operand l) = joinable l
form_of ShareGroup = group (power · many province)
form_of Shares = many (group (power · many province))
-- press
form_of (PressGroup l) = group (press l)
form_of (Press l) = press l
form_of (SendGroup l) = group (send l)
form_of (MaybeSendGroup l) = from_level L10 l (group (send l)) ∣ empty
form_of (Send l) = send l
form_of (SendTail l) = maybe (group season_and_year) · group (some power) · group (press l)
form_of (SendFirst l) =
    season_and_year · tok Ket · group (some power) · group (press l)
    ∣ some power · tok Ket · group (press l)
-- client messages
form_of (Client l) = client l
form_of (RequestGroup l) = group (request l)
form_of (Request l) = request l
form_of SubmitTail = maybe (group season_and_year) · many (group order)
form_of SubmitFirst = (season_and_year ∣ order) · tok Ket · many (group order)
form_of CancelGroup = group cancel
form_of Cancel = cancel
form_of ReplyGroup = group reply
form_of Reply = reply
-- server messages
form_of (Server l) = server l
form_of WhoGroup = group who
form_of Who = who
form_of ParamsGroup = group (many (group (param · maybe (tok Num))))
form_of Params = many (group (param · maybe (tok Num)))
form_of OneParam = param · maybe (tok Num)
form_of CentresGroup = group (group (many (group owned)) · group (many province))
form_of OwnersGroup = group (many (group owned))
form_of Owners = many (group owned)
form_of Owned = owned
form_of BordersGroup = group (many (group borders))
form_of BordersList = many (group borders)
form_of Borders = borders
form_of KindList = many (group kind_places)
form_of KindPlaces = kind_places
form_of Stands = many (group stand)
form_of OneStand = stand
form_of StandTail = maybe (tok Mrt · group (many province_or_coast))
form_of MissingTail = many (group stand) ∣ group (tok Num)
form_of MissingFirst = stand · tok Ket · many (group stand) ∣ tok Num · tok Ket
form_of NoteGroup = group (tok Note)
form_of OutcomesGroup = group (some outcome)
form_of Outcomes = many outcome
form_of OneOutcome = outcome
form_of CivilDisorderGroup = group (tok Ccd · group power)
form_of CivilDisorder = tok Ccd · group power
form_of Players = many (group player)
form_of OnePlayer = player

-- an entry of the table: a token that passes the test replaces the symbol by these symbols
pub record Alternative : Type 0 where
  pub kind : TokenTest
  pub rest : List Sym

-- on a token of the class
abbrev pub on : Class → List Sym → Alternative
on c rest = record { kind = is c; rest = rest }

-- on any token but a bracket
abbrev pub on_word : List Sym → Alternative
on_word rest = record { kind = any_but_brackets; rest = rest }

-- the entries es, at the levels l from a on
abbrev pub only_from : Level → Level → List Alternative → List Alternative
only_from a l es = elim (nat_le (level_number a) (level_number l)) [ true ↦ es | false ↦ [] ]

-- the entries of a client request
abbrev pub request_entries : Level → List Alternative
request_entries l =
    on Nme (TextGroup ∷ TextGroup ∷ [])
    ∷ on Obs []
    ∷ on Iam (PowerGroup ∷ NumberGroup ∷ [])
    ∷ on Hlo []
    ∷ on Map []
    ∷ on Mdf []
    ∷ on Sco []
    ∷ on Now []
    ∷ on Ord []
    ∷ on Hst (TurnGroup ∷ [])
    ∷ on Sub (SubmitTail ∷ [])
    ∷ on Mis []
    ∷ on Gof []
    ∷ on Tme (MaybeNumberGroup ∷ [])
    ∷ on Drw (MaybePowersGroup ∷ [])
    ∷ on Not (CancelGroup ∷ [])
    ∷ on Adm (TextGroup ∷ TextGroup ∷ [])
    ∷ only_from L10 l (on Snd (SendTail l ∷ []) ∷ [])

-- the entries of an arrangement other than AND and ORR, with the symbol for the operand of a NOT
abbrev pub simple_entries : Level → Sym → List Alternative
simple_entries l inside =
    on Pce (PowersGroup ∷ [])
    ∷ on Aly (PowersGroup ∷ Against ∷ PowersGroup ∷ [])
    ∷ on Drw (MaybePowersGroup ∷ [])
    ∷ on Slo (PowerGroup ∷ [])
    ∷ on Not (inside ∷ [])
    ∷ only_from L20 l (on Xdo (OrderGroup ∷ []) ∷ on Dmz (PowersGroup ∷ ProvincesGroup ∷ []) ∷ [])
    ++ only_from L40 l (on Scd (ShareGroup ∷ Shares ∷ []) ∷ on Occ (UnitGroup ∷ UnitGroups ∷ []) ∷ [])

-- AND and ORR
abbrev pub joining_entries : Level → List Alternative
joining_entries l =
    on And (OperandGroup l ∷ OperandGroup l ∷ Operands l ∷ [])
    ∷ on Orr (OperandGroup l ∷ OperandGroup l ∷ Operands l ∷ [])
    ∷ []

-- the operand of a NOT if a fact is expected: a fact from level 60 on, which includes the arrangements
abbrev pub negated_fact : Level → Sym
negated_fact l = elim (nat_le 60 (level_number l)) [ true ↦ FactGroup l | false ↦ ArrangementGroup l ]

-- the entries of a press that queries
abbrev pub asking_entries : Level → List Alternative
asking_entries l =
    on Ins (ArrangementGroup l ∷ [])
    ∷ on Qry (ArrangementGroup l ∷ [])
    ∷ on Sug (ArrangementGroup l ∷ [])
    ∷ on Thk (FactGroup l ∷ [])
    ∷ on Idk (PressGroup l ∷ [])
    ∷ on Sry (PressGroup l ∷ [])
    ∷ []

-- the entries of each symbol, beginning with one that leads to an end
unfoldable pub entries : Sym → List Alternative
-- single tokens
entries Closing = on Ket [] ∷ []
entries OnePower = on Power [] ∷ []
entries OneProvince = on Province [] ∷ []
entries OneCoast = on Coast [] ∷ []
entries OneNumber = on Num [] ∷ []
entries OneNote = on Note [] ∷ []
entries OneFleet = on Flt [] ∷ []
entries Waived = on Wve [] ∷ []
entries ConvoyTo = on Cto [] ∷ []
entries Through = on Via [] ∷ []
entries Against = on Vss [] ∷ []
-- lists
entries TextGroup = on Bra (Texts ∷ Closing ∷ []) ∷ []
entries Texts = on Text (Texts ∷ []) ∷ []
entries PowerGroup = on Bra (OnePower ∷ Closing ∷ []) ∷ []
entries PowersGroup = on Bra (OnePower ∷ Powers ∷ Closing ∷ []) ∷ []
entries MaybePowersGroup = on Bra (OnePower ∷ Powers ∷ Closing ∷ []) ∷ []
entries Powers = on Power (Powers ∷ []) ∷ []
entries NumberGroup = on Bra (OneNumber ∷ Closing ∷ []) ∷ []
entries MaybeNumberGroup = on Bra (OneNumber ∷ Closing ∷ []) ∷ []
entries MaybeNumber = on Num [] ∷ []
entries ProvincesGroup = on Bra (OneProvince ∷ Provinces ∷ Closing ∷ []) ∷ []
entries MaybeProvincesGroup = on Bra (Provinces ∷ Closing ∷ []) ∷ []
entries Provinces = on Province (Provinces ∷ []) ∷ []
entries TurnGroup = on Bra (OneTurn ∷ Closing ∷ []) ∷ []
entries OneTurn = on Season (OneNumber ∷ []) ∷ []
entries WordsGroup = on Bra (WordList ∷ Closing ∷ []) ∷ []
entries WordList = on_word (WordList ∷ []) ∷ []
entries AnyGroup = on Bra (Any ∷ Closing ∷ []) ∷ []
entries Any = on Bra (Any ∷ Closing ∷ Any ∷ []) ∷ on_word (Any ∷ []) ∷ []
-- places and units
entries OnePlace = on Province [] ∷ on Bra (OneProvince ∷ OneCoast ∷ Closing ∷ []) ∷ []
entries PlacesGroup = on Bra (Places ∷ Closing ∷ []) ∷ []
entries Places = on Province (Places ∷ []) ∷ on Bra (OneProvince ∷ OneCoast ∷ Closing ∷ Places ∷ []) ∷ []
entries UnitGroup = on Bra (OneUnit ∷ Closing ∷ []) ∷ []
entries UnitGroups = on Bra (OneUnit ∷ Closing ∷ UnitGroups ∷ []) ∷ []
entries OneUnit = on Power (UnitType ∷ OnePlace ∷ []) ∷ []
entries UnitType = on Amy [] ∷ on Flt [] ∷ []
-- orders
entries OrderGroup = on Bra (OneOrder ∷ Closing ∷ []) ∷ []
entries Orders = on Bra (OneOrder ∷ Closing ∷ Orders ∷ []) ∷ []
entries OneOrder = on Bra (OneUnit ∷ Closing ∷ OrderTail ∷ []) ∷ on Power (Waived ∷ []) ∷ []
entries OrderTail =
    on Hld []
    ∷ on Mto (OnePlace ∷ [])
    ∷ on Sup (UnitGroup ∷ SupportTail ∷ [])
    ∷ on Cvy (UnitGroup ∷ ConvoyTo ∷ OneProvince ∷ [])
    ∷ on Cto (OneProvince ∷ Through ∷ ProvincesGroup ∷ [])
    ∷ on Rto (OnePlace ∷ [])
    ∷ on Dsb []
    ∷ on Bld []
    ∷ on Rem []
    ∷ []
entries SupportTail = on Mto (OneProvince ∷ []) ∷ []
-- arrangements and facts
entries (ArrangementGroup l) = on Bra (Arrangement l ∷ Closing ∷ []) ∷ []
entries (Arrangement l) = simple_entries l (ArrangementGroup l) ++ only_from L30 l (joining_entries l)
entries (FactGroup l) = on Bra (Fact l ∷ Closing ∷ []) ∷ []
entries (Fact l) =
    simple_entries l (negated_fact l)
    ++ only_from L30 l (joining_entries l)
    ++ only_from L60 l (on Qry (ArrangementGroup l ∷ []) ∷ [])
entries (OperandGroup l) = on Bra (Operand l ∷ Closing ∷ []) ∷ []
entries (Operands l) = on Bra (Operand l ∷ Closing ∷ Operands l ∷ []) ∷ []
entries (Operand l) = simple_entries l (OperandGroup l) ++ only_from L50 l (joining_entries l)
entries ShareGroup = on Bra (OnePower ∷ Provinces ∷ Closing ∷ []) ∷ []
entries Shares = on Bra (OnePower ∷ Provinces ∷ Closing ∷ Shares ∷ []) ∷ []
-- press
entries (PressGroup l) = on Bra (Press l ∷ Closing ∷ []) ∷ []
entries (Press l) =
    on Prp (ArrangementGroup l ∷ [])
    ∷ on Fct (FactGroup l ∷ [])
    ∷ on Try (WordsGroup ∷ [])
    ∷ on Yes (PressGroup l ∷ [])
    ∷ on Rej (PressGroup l ∷ [])
    ∷ on Bwx (PressGroup l ∷ [])
    ∷ on Huh (AnyGroup ∷ [])
    ∷ only_from L60 l (asking_entries l)
entries (SendGroup l) = on Bra (Send l ∷ Closing ∷ []) ∷ []
entries (MaybeSendGroup l) = only_from L10 l (on Bra (Send l ∷ Closing ∷ []) ∷ [])
entries (Send l) = on Snd (SendTail l ∷ []) ∷ []
entries (SendTail l) = on Bra (SendFirst l ∷ []) ∷ []
entries (SendFirst l) =
    on Season (OneNumber ∷ Closing ∷ PowersGroup ∷ PressGroup l ∷ [])
    ∷ on Power (Powers ∷ Closing ∷ PressGroup l ∷ [])
    ∷ []
-- client messages
entries (Client l) =
    request_entries l
    ++ on Yes (ReplyGroup ∷ [])
    ∷ on Rej (ReplyGroup ∷ [])
    ∷ on Huh (AnyGroup ∷ [])
    ∷ []
entries (RequestGroup l) = on Bra (Request l ∷ Closing ∷ []) ∷ []
entries (Request l) = request_entries l
entries SubmitTail = on Bra (SubmitFirst ∷ []) ∷ []
entries SubmitFirst =
    on Season (OneNumber ∷ Closing ∷ Orders ∷ [])
    ∷ on Bra (OneUnit ∷ Closing ∷ OrderTail ∷ Closing ∷ Orders ∷ [])
    ∷ on Power (Waived ∷ Closing ∷ Orders ∷ [])
    ∷ []
entries CancelGroup = on Bra (Cancel ∷ Closing ∷ []) ∷ []
entries Cancel =
    on Sub (SubmitTail ∷ [])
    ∷ on Gof []
    ∷ on Tme (MaybeNumberGroup ∷ [])
    ∷ on Drw (MaybePowersGroup ∷ [])
    ∷ []
entries ReplyGroup = on Bra (Reply ∷ Closing ∷ []) ∷ []
entries Reply = on Map (TextGroup ∷ []) ∷ on Sve (TextGroup ∷ []) ∷ on Lod (TextGroup ∷ []) ∷ []
-- server messages
entries (Server l) =
    on Map (TextGroup ∷ [])
    ∷ on Mdf (PowersGroup ∷ CentresGroup ∷ BordersGroup ∷ [])
    ∷ on Hlo (WhoGroup ∷ NumberGroup ∷ ParamsGroup ∷ [])
    ∷ on Sco (Owners ∷ [])
    ∷ on Now (TurnGroup ∷ Stands ∷ [])
    ∷ on Thx (OrderGroup ∷ NoteGroup ∷ [])
    ∷ on Mis (MissingTail ∷ [])
    ∷ on Ord (TurnGroup ∷ OrderGroup ∷ OutcomesGroup ∷ [])
    ∷ on Tme (NumberGroup ∷ [])
    ∷ on Yes (RequestGroup l ∷ [])
    ∷ on Rej (RequestGroup l ∷ [])
    ∷ on Ccd (PowerGroup ∷ MaybeSendGroup l ∷ [])
    ∷ on Not (CivilDisorderGroup ∷ [])
    ∷ on Out (PowerGroup ∷ MaybeSendGroup l ∷ [])
    ∷ on Slo (PowerGroup ∷ [])
    ∷ on Drw (MaybePowersGroup ∷ [])
    ∷ on Off []
    ∷ on Smr (TurnGroup ∷ Players ∷ [])
    ∷ on Sve (TextGroup ∷ [])
    ∷ on Lod (TextGroup ∷ [])
    ∷ on Adm (TextGroup ∷ TextGroup ∷ [])
    ∷ on Huh (AnyGroup ∷ [])
    ∷ only_from L10 l (on Frm (PowerGroup ∷ PowersGroup ∷ PressGroup l ∷ []) ∷ [])
entries WhoGroup = on Bra (Who ∷ Closing ∷ []) ∷ []
entries Who = on Power [] ∷ on Uno [] ∷ []
entries ParamsGroup = on Bra (Params ∷ Closing ∷ []) ∷ []
entries Params = on Bra (OneParam ∷ Closing ∷ Params ∷ []) ∷ []
entries OneParam =
    on Lvl (MaybeNumber ∷ [])
    ∷ on Mrt (MaybeNumber ∷ [])
    ∷ on Uno (MaybeNumber ∷ [])
    ∷ on Param (MaybeNumber ∷ [])
    ∷ []
entries CentresGroup = on Bra (OwnersGroup ∷ MaybeProvincesGroup ∷ Closing ∷ []) ∷ []
entries OwnersGroup = on Bra (Owners ∷ Closing ∷ []) ∷ []
entries Owners = on Bra (Owned ∷ Closing ∷ Owners ∷ []) ∷ []
entries Owned =
    on Power (Provinces ∷ [])
    ∷ on Uno (Provinces ∷ [])
    ∷ on Bra (OnePower ∷ Powers ∷ Closing ∷ Provinces ∷ [])
    ∷ []
entries BordersGroup = on Bra (BordersList ∷ Closing ∷ []) ∷ []
entries BordersList = on Bra (Borders ∷ Closing ∷ BordersList ∷ []) ∷ []
entries Borders = on Province (KindList ∷ []) ∷ []
entries KindList = on Bra (KindPlaces ∷ Closing ∷ KindList ∷ []) ∷ []
entries KindPlaces =
    on Amy (Places ∷ [])
    ∷ on Flt (Places ∷ [])
    ∷ on Bra (OneFleet ∷ OneCoast ∷ Closing ∷ Places ∷ [])
    ∷ []
entries Stands = on Bra (OneStand ∷ Closing ∷ Stands ∷ []) ∷ []
entries OneStand = on Power (UnitType ∷ OnePlace ∷ StandTail ∷ []) ∷ []
entries StandTail = on Mrt (PlacesGroup ∷ []) ∷ []
entries MissingTail = on Bra (MissingFirst ∷ []) ∷ []
entries MissingFirst =
    on Num (Closing ∷ [])
    ∷ on Power (UnitType ∷ OnePlace ∷ StandTail ∷ Closing ∷ Stands ∷ [])
    ∷ []
entries NoteGroup = on Bra (OneNote ∷ Closing ∷ []) ∷ []
entries OutcomesGroup = on Bra (OneOutcome ∷ Outcomes ∷ Closing ∷ []) ∷ []
entries Outcomes = on Note (Outcomes ∷ []) ∷ on Outcome (Outcomes ∷ []) ∷ []
entries OneOutcome = on Note [] ∷ on Outcome [] ∷ []
entries CivilDisorderGroup = on Bra (CivilDisorder ∷ Closing ∷ []) ∷ []
entries CivilDisorder = on Ccd (PowerGroup ∷ []) ∷ []
entries Players = on Bra (OnePlayer ∷ Closing ∷ Players ∷ []) ∷ []
entries OnePlayer = on Power (TextGroup ∷ TextGroup ∷ OneNumber ∷ MaybeNumber ∷ []) ∷ []

-- the nullable symbols
unfoldable pub may_end_of : Sym → Bool
may_end_of Texts = true
may_end_of MaybePowersGroup = true
may_end_of Powers = true
may_end_of MaybeNumberGroup = true
may_end_of MaybeNumber = true
may_end_of Provinces = true
may_end_of WordList = true
may_end_of Any = true
may_end_of Places = true
may_end_of UnitGroups = true
may_end_of Orders = true
may_end_of SupportTail = true
may_end_of (Operands l) = true
may_end_of Shares = true
may_end_of (MaybeSendGroup l) = true
may_end_of SubmitTail = true
may_end_of Params = true
may_end_of Owners = true
may_end_of BordersList = true
may_end_of KindList = true
may_end_of Stands = true
may_end_of StandTail = true
may_end_of MissingTail = true
may_end_of Outcomes = true
may_end_of Players = true
may_end_of _ = false

-- the slot of an operator's word for this symbol, and its level
unfoldable pub slot_of : Sym → Option (Slot × Level)
slot_of (Press l) = Some (Press_slot, l)
slot_of (Arrangement l) = Some (Arrangement_slot, l)
slot_of (Fact l) = Some (Arrangement_slot, l)
slot_of (Operand l) = Some (elim (nat_le 50 (level_number l)) [ true ↦ Arrangement_slot | false ↦ Flat_slot ], l)
slot_of _ = None

-- the forms of a list of symbols
abbrev pub forms : List Sym → List Form
forms [] = []
forms (s ∷ ss) = form_of s ∷ forms ss

abbrev pub this_or : Bool → Alternative → Option Alternative → Option Alternative
this_or true e o = Some e
this_or false e o = o

-- whether a test accepts a token of the class, as the table computes it
abbrev pub is_of_kind : TokenTest → Class → Bool
is_of_kind (is c) d = same_class c d
is_of_kind any_but_brackets d = not (same_class Bra d) && not (same_class Ket d)

-- the first entry that takes the class
abbrev pub entry_at : Class → List Alternative → Option Alternative
entry_at c [] = None
entry_at c (e ∷ es) = this_or (is_of_kind e.kind c) e (entry_at c es)

-- Take for an entry; without one, Skip if the symbol is nullable, or else Stop
abbrev pub answer_by : Option Alternative → Bool → TableEntry
answer_by (Some e) b = Take e.rest
answer_by None true = Skip
answer_by None false = Stop

-- the table's entry for a symbol and a class
unfoldable pub table_answer : Sym → Class → TableEntry
table_answer s c = answer_by (entry_at c (entries s)) (may_end_of s)

-- the start symbol for a side's messages at a level
abbrev pub start_symbol_of : Side2 → Level → Sym
start_symbol_of ClientSide l = Client l
start_symbol_of ServerSide l = Server l
