-- The productions of the messages, listed a second time: the classes with which each symbol begins, and the symbols
-- that must follow, over all classes and levels. Written from the rules of docs/PROTOCOL.md; src/symbol.rt describes
-- the symbols. A form, an entry or a cell with a missing or extra class, or with another rest, does not check, even if
-- all of them have the same mistake.
use Rattle.daide_grammar.proofs.Common.{◌≡◌, true, false, List, [], ◌∷◌, ◌++◌, map, take, refl, Class, Bra, Ket, Num}
use Rattle.daide_grammar.proofs.Common.{Power, Season, Text, Via, Wve, Ccd, Drw, Frm, Gof, Hlo, Hst, Huh, Iam, Lod, Map}
use Rattle.daide_grammar.proofs.Common.{Mdf, Mis, Nme, Not, Now, Obs, Off, Ord, Out, Rej, Sco, Slo, Snd, Sub, Sve, Thx}
use Rattle.daide_grammar.proofs.Common.{Tme, Yes, Adm, Smr, Aly, And, Bwx, Dmz, Fct, Idk, Ins, Occ, Orr, Pce, Qry, Scd}
use Rattle.daide_grammar.proofs.Common.{Sry, Sug, Thk, Try, Vss, Xdo, Level, L0, L10, L20, L30, L40, L50, L60, Sym}
use Rattle.daide_grammar.proofs.Common.{same_class, TableEntry, Take, Skip, Stop, classes, symbols, entries, may_end_of}
use Rattle.daide_grammar.proofs.Common.{table_answer}
use Rattle.daide_token.specs.declared.class.Class.TheVariants.{Note, Outcome, Coast, Province, Amy, Flt, Cto, Cvy, Hld}
use Rattle.daide_token.specs.declared.class.Class.TheVariants.{Mto, Sup, Dsb, Rto, Bld, Rem, Prp, Lvl, Mrt, Uno, Param}
use Rattle.daide_grammar.specs.declared.symbol.Sym.TheVariants.{Closing, OnePower, OneProvince, OneCoast, OneNumber}
use Rattle.daide_grammar.specs.declared.symbol.Sym.TheVariants.{OneNote, OneFleet, Waived, ConvoyTo, Through, Against}
use Rattle.daide_grammar.specs.declared.symbol.Sym.TheVariants.{TextGroup, Texts, PowerGroup, PowersGroup}
use Rattle.daide_grammar.specs.declared.symbol.Sym.TheVariants.{MaybePowersGroup, Powers, NumberGroup, MaybeNumberGroup}
use Rattle.daide_grammar.specs.declared.symbol.Sym.TheVariants.{MaybeNumber, ProvincesGroup, MaybeProvincesGroup}
use Rattle.daide_grammar.specs.declared.symbol.Sym.TheVariants.{Provinces, TurnGroup, OneTurn, WordsGroup, WordList}
use Rattle.daide_grammar.specs.declared.symbol.Sym.TheVariants.{AnyGroup, Any, OnePlace, PlacesGroup, Places, UnitGroup}
use Rattle.daide_grammar.specs.declared.symbol.Sym.TheVariants.{UnitGroups, OneUnit, UnitType, OrderGroup, Orders}
use Rattle.daide_grammar.specs.declared.symbol.Sym.TheVariants.{OneOrder, OrderTail, SupportTail, ShareGroup, Shares}
use Rattle.daide_grammar.specs.declared.symbol.Sym.TheVariants.{SubmitTail, SubmitFirst, CancelGroup, Cancel}
use Rattle.daide_grammar.specs.declared.symbol.Sym.TheVariants.{ReplyGroup, Reply, WhoGroup, Who, ParamsGroup, Params}
use Rattle.daide_grammar.specs.declared.symbol.Sym.TheVariants.{OneParam, CentresGroup, OwnersGroup, Owners, Owned}
use Rattle.daide_grammar.specs.declared.symbol.Sym.TheVariants.{BordersGroup, BordersList, Borders, KindList}
use Rattle.daide_grammar.specs.declared.symbol.Sym.TheVariants.{KindPlaces, Stands, OneStand, StandTail, MissingTail}
use Rattle.daide_grammar.specs.declared.symbol.Sym.TheVariants.{MissingFirst, NoteGroup, OutcomesGroup, Outcomes}
use Rattle.daide_grammar.specs.declared.symbol.Sym.TheVariants.{OneOutcome, CivilDisorderGroup, CivilDisorder, Players}
use Rattle.daide_grammar.specs.declared.symbol.Sym.TheVariants.{OnePlayer, ArrangementGroup, Arrangement, FactGroup}
use Rattle.daide_grammar.specs.declared.symbol.Sym.TheVariants.{Fact, OperandGroup, Operands, Operand, PressGroup}
use Rattle.daide_grammar.specs.declared.symbol.Sym.TheVariants.{Press, SendGroup, MaybeSendGroup, Send, SendTail}
use Rattle.daide_grammar.specs.declared.symbol.Sym.TheVariants.{SendFirst, Client, RequestGroup, Request, Server}

-- an entry at a class: usually, the token is taken and these symbols must follow
abbrev Line : Type 0
Line = Class × TableEntry

abbrev on : Class → List Sym → Line
on c rest = (c, Take rest)

-- the same entry at each of several classes
abbrev each_of : List Class → List Sym → List Line
each_of cs rest = map (λ c. on c rest) cs

-- a symbol, its entry at every class that no line names, and its lines
abbrev Listed : Type 0
Listed = Sym × TableEntry × List Line

-- the entry that the lines give for a class
abbrev said : TableEntry → List Line → Class → TableEntry
said other [] c = other
said other (line ∷ lines) c = elim (same_class line.0 c) [ true ↦ line.1 | false ↦ said other lines c ]

-- each symbol has the entries of its lines, over all classes, including those of an operator's words
abbrev AllSaid : List Listed → Type 0
AllSaid rows =
    map (λ row. map (table_answer row.0) classes) rows ≡ map (λ row. map (said row.1 row.2) classes) rows

-- ---- without a level

-- one token: a bracket, a power, a province, a coast, a number, a note, FLT, WVE, CTO, VIA, VSS
abbrev tokens : List Listed
tokens =
    (Closing, Stop, on Ket [] ∷ [])
    ∷ (OnePower, Stop, on Power [] ∷ [])
    ∷ (OneProvince, Stop, on Province [] ∷ [])
    ∷ (OneCoast, Stop, on Coast [] ∷ [])
    ∷ (OneNumber, Stop, on Num [] ∷ [])
    ∷ (OneNote, Stop, on Note [] ∷ [])
    ∷ (OneFleet, Stop, on Flt [] ∷ [])
    ∷ (Waived, Stop, on Wve [] ∷ [])
    ∷ (ConvoyTo, Stop, on Cto [] ∷ [])
    ∷ (Through, Stop, on Via [] ∷ [])
    ∷ (Against, Stop, on Vss [] ∷ [])
    ∷ []

tokens_said : AllSaid tokens
unfolding table_answer entries may_end_of
tokens_said = refl

-- lists of texts, powers, numbers, provinces; a turn; any words; lists whose brackets balance
abbrev lists : List Listed
lists =
    (TextGroup, Stop, on Bra (Texts ∷ Closing ∷ []) ∷ [])
    ∷ (Texts, Skip, on Text (Texts ∷ []) ∷ [])
    ∷ (PowerGroup, Stop, on Bra (OnePower ∷ Closing ∷ []) ∷ [])
    ∷ (PowersGroup, Stop, on Bra (OnePower ∷ Powers ∷ Closing ∷ []) ∷ [])
    ∷ (MaybePowersGroup, Skip, on Bra (OnePower ∷ Powers ∷ Closing ∷ []) ∷ [])
    ∷ (Powers, Skip, on Power (Powers ∷ []) ∷ [])
    ∷ (NumberGroup, Stop, on Bra (OneNumber ∷ Closing ∷ []) ∷ [])
    ∷ (MaybeNumberGroup, Skip, on Bra (OneNumber ∷ Closing ∷ []) ∷ [])
    ∷ (MaybeNumber, Skip, on Num [] ∷ [])
    ∷ (ProvincesGroup, Stop, on Bra (OneProvince ∷ Provinces ∷ Closing ∷ []) ∷ [])
    ∷ (MaybeProvincesGroup, Stop, on Bra (Provinces ∷ Closing ∷ []) ∷ [])
    ∷ (Provinces, Skip, on Province (Provinces ∷ []) ∷ [])
    ∷ (TurnGroup, Stop, on Bra (OneTurn ∷ Closing ∷ []) ∷ [])
    ∷ (OneTurn, Stop, on Season (OneNumber ∷ []) ∷ [])
    ∷ (WordsGroup, Stop, on Bra (WordList ∷ Closing ∷ []) ∷ [])
    ∷ (WordList, Take (WordList ∷ []), (Bra, Skip) ∷ (Ket, Skip) ∷ [])
    ∷ (AnyGroup, Stop, on Bra (Any ∷ Closing ∷ []) ∷ [])
    ∷ (Any, Take (Any ∷ []), on Bra (Any ∷ Closing ∷ Any ∷ []) ∷ (Ket, Skip) ∷ [])
    ∷ []

lists_said : AllSaid lists
unfolding table_answer entries may_end_of
lists_said = refl

-- a place, which may be a province and its coast in brackets; a unit: a power, a type and a place
abbrev places : List Listed
places =
    (OnePlace, Stop, on Province [] ∷ on Bra (OneProvince ∷ OneCoast ∷ Closing ∷ []) ∷ [])
    ∷ (PlacesGroup, Stop, on Bra (Places ∷ Closing ∷ []) ∷ [])
    ∷ (Places, Skip, on Province (Places ∷ []) ∷ on Bra (OneProvince ∷ OneCoast ∷ Closing ∷ Places ∷ []) ∷ [])
    ∷ (UnitGroup, Stop, on Bra (OneUnit ∷ Closing ∷ []) ∷ [])
    ∷ (UnitGroups, Skip, on Bra (OneUnit ∷ Closing ∷ UnitGroups ∷ []) ∷ [])
    ∷ (OneUnit, Stop, on Power (UnitType ∷ OnePlace ∷ []) ∷ [])
    ∷ (UnitType, Stop, each_of (Amy ∷ Flt ∷ []) [])
    ∷ []

places_said : AllSaid places
unfolding table_answer entries may_end_of
places_said = refl

-- what a unit is ordered to do
abbrev order_tail_lines : List Line
order_tail_lines =
    each_of (Hld ∷ Dsb ∷ Bld ∷ Rem ∷ []) []
    ++ each_of (Mto ∷ Rto ∷ []) (OnePlace ∷ [])
    ++ on Sup (UnitGroup ∷ SupportTail ∷ [])
    ∷ on Cvy (UnitGroup ∷ ConvoyTo ∷ OneProvince ∷ [])
    ∷ on Cto (OneProvince ∷ Through ∷ ProvincesGroup ∷ [])
    ∷ []

-- orders: ( unit ) and what it is ordered to do, or power WVE
abbrev orders : List Listed
orders =
    (OrderGroup, Stop, on Bra (OneOrder ∷ Closing ∷ []) ∷ [])
    ∷ (Orders, Skip, on Bra (OneOrder ∷ Closing ∷ Orders ∷ []) ∷ [])
    ∷ (OneOrder, Stop, on Bra (OneUnit ∷ Closing ∷ OrderTail ∷ []) ∷ on Power (Waived ∷ []) ∷ [])
    ∷ (OrderTail, Stop, order_tail_lines)
    ∷ (SupportTail, Skip, on Mto (OneProvince ∷ []) ∷ [])
    ∷ []

orders_said : AllSaid orders
unfolding table_answer entries may_end_of
orders_said = refl

-- shares of the supply centres: ( power province* )
abbrev shares : List Listed
shares =
    (ShareGroup, Stop, on Bra (OnePower ∷ Provinces ∷ Closing ∷ []) ∷ [])
    ∷ (Shares, Skip, on Bra (OnePower ∷ Provinces ∷ Closing ∷ Shares ∷ []) ∷ [])
    ∷ []

shares_said : AllSaid shares
unfolding table_answer entries may_end_of
shares_said = refl

-- what follows the first bracket of SUB: its turn, or its first order
abbrev submit_first_lines : List Line
submit_first_lines =
    on Season (OneNumber ∷ Closing ∷ Orders ∷ [])
    ∷ on Bra (OneUnit ∷ Closing ∷ OrderTail ∷ Closing ∷ Orders ∷ [])
    ∷ on Power (Waived ∷ Closing ∷ Orders ∷ [])
    ∷ []

-- a client's earlier request that it may take back
abbrev cancel_lines : List Line
cancel_lines =
    on Sub (SubmitTail ∷ [])
    ∷ on Gof []
    ∷ on Tme (MaybeNumberGroup ∷ [])
    ∷ on Drw (MaybePowersGroup ∷ [])
    ∷ []

-- parts of a client's messages: the content of SUB, of NOT, and of YES and REJ
abbrev of_clients : List Listed
of_clients =
    (SubmitTail, Skip, on Bra (SubmitFirst ∷ []) ∷ [])
    ∷ (SubmitFirst, Stop, submit_first_lines)
    ∷ (CancelGroup, Stop, on Bra (Cancel ∷ Closing ∷ []) ∷ [])
    ∷ (Cancel, Stop, cancel_lines)
    ∷ (ReplyGroup, Stop, on Bra (Reply ∷ Closing ∷ []) ∷ [])
    ∷ (Reply, Stop, each_of (Map ∷ Sve ∷ Lod ∷ []) (TextGroup ∷ []))
    ∷ []

of_clients_said : AllSaid of_clients
unfolding table_answer entries may_end_of
of_clients_said = refl

-- an owner and its supply centres
abbrev owned_lines : List Line
owned_lines =
    each_of (Power ∷ Uno ∷ []) (Provinces ∷ [])
    ++ on Bra (OnePower ∷ Powers ∷ Closing ∷ Provinces ∷ [])
    ∷ []

-- a kind of unit, or a fleet at a coast, and the places that it can reach
abbrev kind_places_lines : List Line
kind_places_lines =
    each_of (Amy ∷ Flt ∷ []) (Places ∷ [])
    ++ on Bra (OneFleet ∷ OneCoast ∷ Closing ∷ Places ∷ [])
    ∷ []

-- parts of a server's messages: HLO, MDF and SCO
abbrev of_servers : List Listed
of_servers =
    (WhoGroup, Stop, on Bra (Who ∷ Closing ∷ []) ∷ [])
    ∷ (Who, Stop, each_of (Power ∷ Uno ∷ []) [])
    ∷ (ParamsGroup, Stop, on Bra (Params ∷ Closing ∷ []) ∷ [])
    ∷ (Params, Skip, on Bra (OneParam ∷ Closing ∷ Params ∷ []) ∷ [])
    ∷ (OneParam, Stop, each_of (Lvl ∷ Mrt ∷ Uno ∷ Param ∷ []) (MaybeNumber ∷ []))
    ∷ (CentresGroup, Stop, on Bra (OwnersGroup ∷ MaybeProvincesGroup ∷ Closing ∷ []) ∷ [])
    ∷ (OwnersGroup, Stop, on Bra (Owners ∷ Closing ∷ []) ∷ [])
    ∷ (Owners, Skip, on Bra (Owned ∷ Closing ∷ Owners ∷ []) ∷ [])
    ∷ (Owned, Stop, owned_lines)
    ∷ (BordersGroup, Stop, on Bra (BordersList ∷ Closing ∷ []) ∷ [])
    ∷ (BordersList, Skip, on Bra (Borders ∷ Closing ∷ BordersList ∷ []) ∷ [])
    ∷ (Borders, Stop, on Province (KindList ∷ []) ∷ [])
    ∷ (KindList, Skip, on Bra (KindPlaces ∷ Closing ∷ KindList ∷ []) ∷ [])
    ∷ (KindPlaces, Stop, kind_places_lines)
    ∷ []

of_servers_said : AllSaid of_servers
unfolding table_answer entries may_end_of
of_servers_said = refl

-- what follows the first bracket of MIS: a number, or a unit
abbrev missing_first_lines : List Line
missing_first_lines =
    on Num (Closing ∷ [])
    ∷ on Power (UnitType ∷ OnePlace ∷ StandTail ∷ Closing ∷ Stands ∷ [])
    ∷ []

-- NOW, MIS, THX, ORD, NOT and SMR
abbrev of_servers_too : List Listed
of_servers_too =
    (Stands, Skip, on Bra (OneStand ∷ Closing ∷ Stands ∷ []) ∷ [])
    ∷ (OneStand, Stop, on Power (UnitType ∷ OnePlace ∷ StandTail ∷ []) ∷ [])
    ∷ (StandTail, Skip, on Mrt (PlacesGroup ∷ []) ∷ [])
    ∷ (MissingTail, Skip, on Bra (MissingFirst ∷ []) ∷ [])
    ∷ (MissingFirst, Stop, missing_first_lines)
    ∷ (NoteGroup, Stop, on Bra (OneNote ∷ Closing ∷ []) ∷ [])
    ∷ (OutcomesGroup, Stop, on Bra (OneOutcome ∷ Outcomes ∷ Closing ∷ []) ∷ [])
    ∷ (Outcomes, Skip, each_of (Note ∷ Outcome ∷ []) (Outcomes ∷ []))
    ∷ (OneOutcome, Stop, each_of (Note ∷ Outcome ∷ []) [])
    ∷ (CivilDisorderGroup, Stop, on Bra (CivilDisorder ∷ Closing ∷ []) ∷ [])
    ∷ (CivilDisorder, Stop, on Ccd (PowerGroup ∷ []) ∷ [])
    ∷ (Players, Skip, on Bra (OnePlayer ∷ Closing ∷ Players ∷ []) ∷ [])
    ∷ (OnePlayer, Stop, on Power (TextGroup ∷ TextGroup ∷ OneNumber ∷ MaybeNumber ∷ []) ∷ [])
    ∷ []

of_servers_too_said : AllSaid of_servers_too
unfolding table_answer entries may_end_of
of_servers_too_said = refl

-- no symbol without a level is left out
none_left_out : map (λ row. row.0)
    (tokens ++ lists ++ places ++ orders ++ shares ++ of_clients ++ of_servers ++ of_servers_too)
    ≡ take 76 symbols
none_left_out = refl

-- ---- with a level

abbrev all_levels : List Level
all_levels = L0 ∷ L10 ∷ L20 ∷ L30 ∷ L40 ∷ L50 ∷ L60 ∷ []

-- the levels that have press, and those that have AND and ORR
abbrev press_levels : List Level
press_levels = L10 ∷ L20 ∷ L30 ∷ L40 ∷ L50 ∷ L60 ∷ []

abbrev joining_levels : List Level
joining_levels = L30 ∷ L40 ∷ L50 ∷ L60 ∷ []

-- the productions of a symbol at some levels
abbrev at_each : List Level → (Level → Sym) → TableEntry → (Level → List Line) → List Listed
at_each levels symbol other lines = map (λ l. (symbol l, other, lines l)) levels

-- symbols in brackets, and the rest of SND
groups_said : AllSaid (at_each all_levels ArrangementGroup Stop (λ l. on Bra (Arrangement l ∷ Closing ∷ []) ∷ []))
    × AllSaid (at_each all_levels FactGroup Stop (λ l. on Bra (Fact l ∷ Closing ∷ []) ∷ []))
    × AllSaid (at_each all_levels OperandGroup Stop (λ l. on Bra (Operand l ∷ Closing ∷ []) ∷ []))
    × AllSaid (at_each all_levels Operands Skip (λ l. on Bra (Operand l ∷ Closing ∷ Operands l ∷ []) ∷ []))
    × AllSaid (at_each all_levels PressGroup Stop (λ l. on Bra (Press l ∷ Closing ∷ []) ∷ []))
    × AllSaid (at_each all_levels SendGroup Stop (λ l. on Bra (Send l ∷ Closing ∷ []) ∷ []))
    × AllSaid (at_each all_levels RequestGroup Stop (λ l. on Bra (Request l ∷ Closing ∷ []) ∷ []))
    × AllSaid (at_each all_levels Send Stop (λ l. on Snd (SendTail l ∷ []) ∷ []))
    × AllSaid (at_each all_levels SendTail Stop (λ l. on Bra (SendFirst l ∷ []) ∷ []))
unfolding table_answer entries may_end_of
groups_said = (refl, refl, refl, refl, refl, refl, refl, refl, refl)

-- a send that a server returns, from level 10 on; the turn of a send, or its first power
sends_said : AllSaid ((MaybeSendGroup L0, Skip, []) ∷ [])
    × AllSaid (at_each press_levels MaybeSendGroup Skip (λ l. on Bra (Send l ∷ Closing ∷ []) ∷ []))
    × AllSaid (at_each all_levels SendFirst Stop (λ l. on Season (OneNumber ∷ Closing ∷ PowersGroup ∷ PressGroup l ∷ [])
    ∷ on Power (Powers ∷ Closing ∷ PressGroup l ∷ []) ∷ []))
unfolding table_answer entries may_end_of
sends_said = (refl, refl, refl)

-- ---- arrangements and facts

-- peace and alliances from level 10, with the operand of a NOT; order proposals from 20; sharing out from 40
abbrev peace : Sym → List Line
peace inside =
    on Pce (PowersGroup ∷ [])
    ∷ on Aly (PowersGroup ∷ Against ∷ PowersGroup ∷ [])
    ∷ on Drw (MaybePowersGroup ∷ [])
    ∷ on Slo (PowerGroup ∷ [])
    ∷ on Not (inside ∷ [])
    ∷ []

abbrev proposals : List Line
proposals = on Xdo (OrderGroup ∷ []) ∷ on Dmz (PowersGroup ∷ ProvincesGroup ∷ []) ∷ []

abbrev sharing : List Line
sharing = on Scd (ShareGroup ∷ Shares ∷ []) ∷ on Occ (UnitGroup ∷ UnitGroups ∷ []) ∷ []

-- two operands or more
abbrev multipart : Level → List Line
multipart l = each_of (And ∷ Orr ∷ []) (OperandGroup l ∷ OperandGroup l ∷ Operands l ∷ [])

-- an arrangement: AND and ORR from 30 on
abbrev arrangement_lines : Level → List Line
arrangement_lines L0 = []
arrangement_lines L10 = peace (ArrangementGroup L10)
arrangement_lines L20 = peace (ArrangementGroup L20) ++ proposals
arrangement_lines L30 = peace (ArrangementGroup L30) ++ proposals ++ multipart L30
arrangement_lines L40 = peace (ArrangementGroup L40) ++ proposals ++ multipart L40 ++ sharing
arrangement_lines L50 = peace (ArrangementGroup L50) ++ proposals ++ multipart L50 ++ sharing
arrangement_lines L60 = peace (ArrangementGroup L60) ++ proposals ++ multipart L60 ++ sharing

-- the operands of AND and ORR: from 50 on also AND and ORR
abbrev operand_lines : Level → List Line
operand_lines L30 = peace (OperandGroup L30) ++ proposals
operand_lines L40 = peace (OperandGroup L40) ++ proposals ++ sharing
operand_lines L50 = peace (OperandGroup L50) ++ proposals ++ sharing ++ multipart L50
operand_lines L60 = peace (OperandGroup L60) ++ proposals ++ sharing ++ multipart L60
operand_lines _ = []

-- a fact: an arrangement; at 60 also a query and the negation of a fact
abbrev fact_lines : Level → List Line
fact_lines L60 = on Qry (ArrangementGroup L60 ∷ []) ∷ on Not (FactGroup L60 ∷ []) ∷ arrangement_lines L60
fact_lines l = arrangement_lines l

arrangements_said : AllSaid (at_each press_levels Arrangement Stop arrangement_lines)
    × AllSaid (at_each joining_levels Operand Stop operand_lines)
    × AllSaid (at_each press_levels Fact Stop fact_lines)
unfolding table_answer entries may_end_of
arrangements_said = (refl, refl, refl)

-- ---- press

-- press from level 10, and from level 60
abbrev statements : Level → List Line
statements l =
    on Prp (ArrangementGroup l ∷ [])
    ∷ on Fct (FactGroup l ∷ [])
    ∷ on Try (WordsGroup ∷ [])
    ∷ each_of (Yes ∷ Rej ∷ Bwx ∷ []) (PressGroup l ∷ [])
    ++ on Huh (AnyGroup ∷ [])
    ∷ []

abbrev questions : Level → List Line
questions l =
    each_of (Ins ∷ Qry ∷ Sug ∷ []) (ArrangementGroup l ∷ [])
    ++ on Thk (FactGroup l ∷ [])
    ∷ each_of (Idk ∷ Sry ∷ []) (PressGroup l ∷ [])

abbrev press_lines : Level → List Line
press_lines L60 = statements L60 ++ questions L60
press_lines l = statements l

press_said : AllSaid (at_each press_levels Press Stop press_lines)
unfolding table_answer entries may_end_of
press_said = refl

-- ---- messages

-- the requests of a client, and from level 10 on the sending of press
abbrev asked : List Line
asked =
    each_of (Nme ∷ Adm ∷ []) (TextGroup ∷ TextGroup ∷ [])
    ++ on Iam (PowerGroup ∷ NumberGroup ∷ [])
    ∷ each_of (Obs ∷ Hlo ∷ Map ∷ Mdf ∷ Sco ∷ Now ∷ Ord ∷ Mis ∷ Gof ∷ []) []
    ++ on Hst (TurnGroup ∷ [])
    ∷ on Sub (SubmitTail ∷ [])
    ∷ on Tme (MaybeNumberGroup ∷ [])
    ∷ on Drw (MaybePowersGroup ∷ [])
    ∷ on Not (CancelGroup ∷ [])
    ∷ []

abbrev request_lines : Level → List Line
request_lines L0 = asked
request_lines l = on Snd (SendTail l ∷ []) ∷ asked

-- a client requests, accepts, refuses, or reports
abbrev client_lines : Level → List Line
client_lines l = request_lines l ++ each_of (Yes ∷ Rej ∷ []) (ReplyGroup ∷ []) ++ on Huh (AnyGroup ∷ []) ∷ []

-- the server's own messages, and from level 10 on the press that it passes on
abbrev told_by_server : Level → List Line
told_by_server l =
    each_of (Map ∷ Sve ∷ Lod ∷ []) (TextGroup ∷ [])
    ++ on Mdf (PowersGroup ∷ CentresGroup ∷ BordersGroup ∷ [])
    ∷ on Hlo (WhoGroup ∷ NumberGroup ∷ ParamsGroup ∷ [])
    ∷ on Sco (Owners ∷ [])
    ∷ on Now (TurnGroup ∷ Stands ∷ [])
    ∷ on Thx (OrderGroup ∷ NoteGroup ∷ [])
    ∷ on Mis (MissingTail ∷ [])
    ∷ on Ord (TurnGroup ∷ OrderGroup ∷ OutcomesGroup ∷ [])
    ∷ on Tme (NumberGroup ∷ [])
    ∷ each_of (Yes ∷ Rej ∷ []) (RequestGroup l ∷ [])
    ++ each_of (Ccd ∷ Out ∷ []) (PowerGroup ∷ MaybeSendGroup l ∷ [])
    ++ on Not (CivilDisorderGroup ∷ [])
    ∷ on Slo (PowerGroup ∷ [])
    ∷ on Drw (MaybePowersGroup ∷ [])
    ∷ on Off []
    ∷ on Smr (TurnGroup ∷ Players ∷ [])
    ∷ on Adm (TextGroup ∷ TextGroup ∷ [])
    ∷ on Huh (AnyGroup ∷ [])
    ∷ []

abbrev server_lines : Level → List Line
server_lines L0 = told_by_server L0
server_lines l = on Frm (PowerGroup ∷ PowersGroup ∷ PressGroup l ∷ []) ∷ told_by_server l

messages_said : AllSaid (at_each all_levels Client Stop client_lines)
    × AllSaid (at_each all_levels Request Stop request_lines)
    × AllSaid (at_each all_levels Server Stop server_lines)
unfolding table_answer entries may_end_of
messages_said = (refl, refl, refl)
