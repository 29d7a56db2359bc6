-- The numbers of symbols and classes, which index the constant table. (own)
use Rattle.std.specs.Prelude.{ℕ, ◌+◌, Bool, true, false, List, [], ◌∷◌, ◌++◌, slice_index_or, Option, Some, None}
use Rattle.daide_token.specs.declared.class.Class.{Class}
use Rattle.daide_token.specs.declared.class.Class.TheVariants.{Bra, Ket, Num, Word}
use Rattle.daide_token.specs.ClassNumbers.{classes_in_order, own_classes}
use Rattle.daide_grammar.specs.Words.{most_words}
use Rattle.daide_grammar.specs.declared.level.Level.{Level}
use Rattle.daide_grammar.specs.declared.level.Level.TheVariants.{L0, L10, L20, L30, L40, L50, L60}
use Rattle.daide_grammar.specs.declared.symbol.Sym.{Sym}
use Rattle.daide_grammar.specs.declared.symbol.Sym.TheVariants.{Closing, OnePower, OneProvince, OneCoast, OneNumber}
use Rattle.daide_grammar.specs.declared.symbol.Sym.TheVariants.{OneNote, OneFleet, Waived, ConvoyTo, Through, Against}
use Rattle.daide_grammar.specs.declared.symbol.Sym.TheVariants.{TextGroup, Texts, PowerGroup, PowersGroup}
use Rattle.daide_grammar.specs.declared.symbol.Sym.TheVariants.{MaybePowersGroup, Powers, NumberGroup, MaybeNumberGroup}
use Rattle.daide_grammar.specs.declared.symbol.Sym.TheVariants.{MaybeNumber, ProvincesGroup, MaybeProvincesGroup}
use Rattle.daide_grammar.specs.declared.symbol.Sym.TheVariants.{Provinces, TurnGroup, OneTurn, WordsGroup, WordList}
use Rattle.daide_grammar.specs.declared.symbol.Sym.TheVariants.{AnyGroup, Any, OnePlace, PlacesGroup, Places, UnitGroup}
use Rattle.daide_grammar.specs.declared.symbol.Sym.TheVariants.{UnitGroups, OneUnit, UnitType, OrderGroup, Orders}
use Rattle.daide_grammar.specs.declared.symbol.Sym.TheVariants.{OneOrder, OrderTail, SupportTail, ShareGroup, Shares}
use Rattle.daide_grammar.specs.declared.symbol.Sym.TheVariants.{SubmitTail, SubmitFirst, CancelGroup, Cancel}
use Rattle.daide_grammar.specs.declared.symbol.Sym.TheVariants.{ReplyGroup, Reply, WhoGroup, Who, ParamsGroup, Params}
use Rattle.daide_grammar.specs.declared.symbol.Sym.TheVariants.{OneParam, CentresGroup, OwnersGroup, Owners, Owned}
use Rattle.daide_grammar.specs.declared.symbol.Sym.TheVariants.{BordersGroup, BordersList, Borders, KindList}
use Rattle.daide_grammar.specs.declared.symbol.Sym.TheVariants.{KindPlaces, Stands, OneStand, StandTail, MissingTail}
use Rattle.daide_grammar.specs.declared.symbol.Sym.TheVariants.{MissingFirst, NoteGroup, OutcomesGroup, Outcomes}
use Rattle.daide_grammar.specs.declared.symbol.Sym.TheVariants.{OneOutcome, CivilDisorderGroup, CivilDisorder, Players}
use Rattle.daide_grammar.specs.declared.symbol.Sym.TheVariants.{OnePlayer, ArrangementGroup, Arrangement, FactGroup}
use Rattle.daide_grammar.specs.declared.symbol.Sym.TheVariants.{Fact, OperandGroup, Operands, Operand, PressGroup}
use Rattle.daide_grammar.specs.declared.symbol.Sym.TheVariants.{Press, SendGroup, MaybeSendGroup, Send, SendTail}
use Rattle.daide_grammar.specs.declared.symbol.Sym.TheVariants.{SendFirst, Client, RequestGroup, Request, Server}

-- a symbol at each level, in ascending order
abbrev pub at_levels : (Level → Sym) → List Sym
at_levels s = s L0 ∷ s L10 ∷ s L20 ∷ s L30 ∷ s L40 ∷ s L50 ∷ s L60 ∷ []

-- the symbols with a level
abbrev pub level_symbols : List Sym
level_symbols =
    at_levels ArrangementGroup ++ at_levels Arrangement ++ at_levels FactGroup ++ at_levels Fact ++
    at_levels OperandGroup ++ at_levels Operands ++ at_levels Operand ++ at_levels PressGroup ++
    at_levels Press ++ at_levels SendGroup ++ at_levels MaybeSendGroup ++ at_levels Send ++
    at_levels SendTail ++ at_levels SendFirst ++ at_levels Client ++ at_levels RequestGroup ++
    at_levels Request ++ at_levels Server

-- the symbols in the order of their numbers: those without a level, then each of the others at all levels
abbrev pub symbols : List Sym
symbols =
    Closing ∷ OnePower ∷ OneProvince ∷ OneCoast ∷ OneNumber ∷ OneNote ∷ OneFleet ∷ Waived ∷ ConvoyTo ∷ Through ∷
    Against ∷ TextGroup ∷ Texts ∷ PowerGroup ∷ PowersGroup ∷ MaybePowersGroup ∷ Powers ∷ NumberGroup ∷
    MaybeNumberGroup ∷ MaybeNumber ∷ ProvincesGroup ∷ MaybeProvincesGroup ∷ Provinces ∷ TurnGroup ∷ OneTurn ∷
    WordsGroup ∷ WordList ∷ AnyGroup ∷ Any ∷ OnePlace ∷ PlacesGroup ∷ Places ∷ UnitGroup ∷ UnitGroups ∷ OneUnit ∷
    UnitType ∷ OrderGroup ∷ Orders ∷ OneOrder ∷ OrderTail ∷ SupportTail ∷ ShareGroup ∷ Shares ∷ SubmitTail ∷
    SubmitFirst ∷ CancelGroup ∷ Cancel ∷ ReplyGroup ∷ Reply ∷ WhoGroup ∷ Who ∷ ParamsGroup ∷ Params ∷ OneParam ∷
    CentresGroup ∷ OwnersGroup ∷ Owners ∷ Owned ∷ BordersGroup ∷ BordersList ∷ Borders ∷ KindList ∷ KindPlaces ∷
    Stands ∷ OneStand ∷ StandTail ∷ MissingTail ∷ MissingFirst ∷ NoteGroup ∷ OutcomesGroup ∷ Outcomes ∷ OneOutcome ∷
    CivilDisorderGroup ∷ CivilDisorder ∷ Players ∷ OnePlayer ∷ level_symbols

-- the symbol with a number
abbrev pub symbol_at : ℕ → Sym
symbol_at n = slice_index_or symbols n Closing

-- the index of a level among the levels
abbrev pub level_place : Level → ℕ
level_place L0 = 0
level_place L10 = 1
level_place L20 = 2
level_place L30 = 3
level_place L40 = 4
level_place L50 = 5
level_place L60 = 6

-- the index of a symbol in the list of symbols
abbrev pub symbol_number : Sym → ℕ
symbol_number Closing = 0
symbol_number OnePower = 1
symbol_number OneProvince = 2
symbol_number OneCoast = 3
symbol_number OneNumber = 4
symbol_number OneNote = 5
symbol_number OneFleet = 6
symbol_number Waived = 7
symbol_number ConvoyTo = 8
symbol_number Through = 9
symbol_number Against = 10
symbol_number TextGroup = 11
symbol_number Texts = 12
symbol_number PowerGroup = 13
symbol_number PowersGroup = 14
symbol_number MaybePowersGroup = 15
symbol_number Powers = 16
symbol_number NumberGroup = 17
symbol_number MaybeNumberGroup = 18
symbol_number MaybeNumber = 19
symbol_number ProvincesGroup = 20
symbol_number MaybeProvincesGroup = 21
symbol_number Provinces = 22
symbol_number TurnGroup = 23
symbol_number OneTurn = 24
symbol_number WordsGroup = 25
symbol_number WordList = 26
symbol_number AnyGroup = 27
symbol_number Any = 28
symbol_number OnePlace = 29
symbol_number PlacesGroup = 30
symbol_number Places = 31
symbol_number UnitGroup = 32
symbol_number UnitGroups = 33
symbol_number OneUnit = 34
symbol_number UnitType = 35
symbol_number OrderGroup = 36
symbol_number Orders = 37
symbol_number OneOrder = 38
symbol_number OrderTail = 39
symbol_number SupportTail = 40
symbol_number ShareGroup = 41
symbol_number Shares = 42
symbol_number SubmitTail = 43
symbol_number SubmitFirst = 44
symbol_number CancelGroup = 45
symbol_number Cancel = 46
symbol_number ReplyGroup = 47
symbol_number Reply = 48
symbol_number WhoGroup = 49
symbol_number Who = 50
symbol_number ParamsGroup = 51
symbol_number Params = 52
symbol_number OneParam = 53
symbol_number CentresGroup = 54
symbol_number OwnersGroup = 55
symbol_number Owners = 56
symbol_number Owned = 57
symbol_number BordersGroup = 58
symbol_number BordersList = 59
symbol_number Borders = 60
symbol_number KindList = 61
symbol_number KindPlaces = 62
symbol_number Stands = 63
symbol_number OneStand = 64
symbol_number StandTail = 65
symbol_number MissingTail = 66
symbol_number MissingFirst = 67
symbol_number NoteGroup = 68
symbol_number OutcomesGroup = 69
symbol_number Outcomes = 70
symbol_number OneOutcome = 71
symbol_number CivilDisorderGroup = 72
symbol_number CivilDisorder = 73
symbol_number Players = 74
symbol_number OnePlayer = 75
symbol_number (ArrangementGroup l) = 76 + level_place l
symbol_number (Arrangement l) = 83 + level_place l
symbol_number (FactGroup l) = 90 + level_place l
symbol_number (Fact l) = 97 + level_place l
symbol_number (OperandGroup l) = 104 + level_place l
symbol_number (Operands l) = 111 + level_place l
symbol_number (Operand l) = 118 + level_place l
symbol_number (PressGroup l) = 125 + level_place l
symbol_number (Press l) = 132 + level_place l
symbol_number (SendGroup l) = 139 + level_place l
symbol_number (MaybeSendGroup l) = 146 + level_place l
symbol_number (Send l) = 153 + level_place l
symbol_number (SendTail l) = 160 + level_place l
symbol_number (SendFirst l) = 167 + level_place l
symbol_number (Client l) = 174 + level_place l
symbol_number (RequestGroup l) = 181 + level_place l
symbol_number (Request l) = 188 + level_place l
symbol_number (Server l) = 195 + level_place l

-- the number of symbols
abbrev pub all_symbols : ℕ
all_symbols = 202

-- the number of classes, including those of an operator's words
abbrev pub all_classes : ℕ
all_classes = own_classes + most_words

-- the classes in the order of their numbers, an operator's words last
abbrev pub classes : List Class
classes =
    classes_in_order ++ (Word 0 ∷ Word 1 ∷ Word 2 ∷ Word 3 ∷ Word 4 ∷ Word 5 ∷ Word 6 ∷ Word 7 ∷ Word 8 ∷ Word 9 ∷
    Word 10 ∷ Word 11 ∷ Word 12 ∷ Word 13 ∷ Word 14 ∷ Word 15 ∷ [])

-- what a token of the class adds to a 16-bit count of open brackets, which wraps
abbrev pub bracket_step : Class → ℕ
bracket_step Bra = 1
bracket_step Ket = 65535
bracket_step _ = 0

-- the class with a number
abbrev pub class_at : ℕ → Class
class_at n = slice_index_or classes n Num

abbrev pub is_bracket : Class → Bool
is_bracket Bra = true
is_bracket Ket = true
is_bracket _ = false

-- the index of an added word among the operator's words
abbrev pub word_number : Class → Option ℕ
word_number (Word place) = Some place
word_number _ = None
