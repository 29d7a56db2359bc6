-- Two values for each symbol, which bound every stack.
use Rattle.std.specs.Prelude.{ℕ, ◌+◌, Bool, true, false, List, [], ◌∷◌}
use Rattle.daide_grammar.specs.declared.symbol.Sym.{Sym}
use Rattle.daide_grammar.specs.declared.symbol.Sym.TheVariants.{Closing, OnePower, OneProvince, OneCoast, OneNumber}
use Rattle.daide_grammar.specs.declared.symbol.Sym.TheVariants.{OneNote, Waived, ConvoyTo, Through, Against, TextGroup}
use Rattle.daide_grammar.specs.declared.symbol.Sym.TheVariants.{PowerGroup, NumberGroup, TurnGroup, PowersGroup}
use Rattle.daide_grammar.specs.declared.symbol.Sym.TheVariants.{ProvincesGroup, MaybeProvincesGroup, PlacesGroup}
use Rattle.daide_grammar.specs.declared.symbol.Sym.TheVariants.{UnitGroup, OrderGroup, NoteGroup, OutcomesGroup}
use Rattle.daide_grammar.specs.declared.symbol.Sym.TheVariants.{WordsGroup, AnyGroup, WhoGroup, ParamsGroup, ReplyGroup}
use Rattle.daide_grammar.specs.declared.symbol.Sym.TheVariants.{CancelGroup, CivilDisorderGroup, CentresGroup}
use Rattle.daide_grammar.specs.declared.symbol.Sym.TheVariants.{OwnersGroup, BordersGroup, ShareGroup, PressGroup}
use Rattle.daide_grammar.specs.declared.symbol.Sym.TheVariants.{ArrangementGroup, FactGroup, OperandGroup, RequestGroup}
use Rattle.daide_grammar.specs.declared.symbol.Sym.TheVariants.{SendGroup, OneUnit, UnitType, OnePlace, OneTurn, Who}
use Rattle.daide_grammar.specs.declared.symbol.Sym.TheVariants.{OneOutcome, OneOrder, OrderTail, SubmitFirst, Reply}
use Rattle.daide_grammar.specs.declared.symbol.Sym.TheVariants.{CivilDisorder, OneStand, MissingFirst, OneFleet}
use Rattle.daide_grammar.specs.declared.symbol.Sym.TheVariants.{OnePlayer, Request, Client, SendTail, SendFirst, Send}
use Rattle.daide_grammar.specs.declared.symbol.Sym.TheVariants.{Server, Arrangement, Operand, Fact}

-- the symbols that occur only at the bottom or directly above a closing bracket
unfoldable pub is_bottom_symbol : Sym → Bool
is_bottom_symbol Closing = false
is_bottom_symbol OnePower = false
is_bottom_symbol OneProvince = false
is_bottom_symbol OneCoast = false
is_bottom_symbol OneNumber = false
is_bottom_symbol OneNote = false
is_bottom_symbol Waived = false
is_bottom_symbol ConvoyTo = false
is_bottom_symbol Through = false
is_bottom_symbol Against = false
is_bottom_symbol TextGroup = false
is_bottom_symbol PowerGroup = false
is_bottom_symbol NumberGroup = false
is_bottom_symbol TurnGroup = false
is_bottom_symbol PowersGroup = false
is_bottom_symbol ProvincesGroup = false
is_bottom_symbol MaybeProvincesGroup = false
is_bottom_symbol PlacesGroup = false
is_bottom_symbol UnitGroup = false
is_bottom_symbol OrderGroup = false
is_bottom_symbol NoteGroup = false
is_bottom_symbol OutcomesGroup = false
is_bottom_symbol WordsGroup = false
is_bottom_symbol AnyGroup = false
is_bottom_symbol WhoGroup = false
is_bottom_symbol ParamsGroup = false
is_bottom_symbol ReplyGroup = false
is_bottom_symbol CancelGroup = false
is_bottom_symbol CivilDisorderGroup = false
is_bottom_symbol CentresGroup = false
is_bottom_symbol OwnersGroup = false
is_bottom_symbol BordersGroup = false
is_bottom_symbol ShareGroup = false
is_bottom_symbol (PressGroup l) = false
is_bottom_symbol (ArrangementGroup l) = false
is_bottom_symbol (FactGroup l) = false
is_bottom_symbol (OperandGroup l) = false
is_bottom_symbol (RequestGroup l) = false
is_bottom_symbol (SendGroup l) = false
is_bottom_symbol OneUnit = false
is_bottom_symbol UnitType = false
is_bottom_symbol OnePlace = false
is_bottom_symbol OneTurn = false
is_bottom_symbol Who = false
is_bottom_symbol OneOutcome = false
is_bottom_symbol Reply = false
is_bottom_symbol CivilDisorder = false
is_bottom_symbol OneFleet = false
is_bottom_symbol (SendTail l) = false
is_bottom_symbol (SendFirst l) = false
is_bottom_symbol (Send l) = false
is_bottom_symbol _ = true

-- The number of entries that a symbol may grow to: one size for each bracket that it closes and doesn't open, and one
-- for the entries below.
unfoldable pub shape : Sym → List ℕ
shape Closing = 1 ∷ 0 ∷ []
shape OneUnit = 2 ∷ []
shape OneOrder = 3 ∷ []
shape OrderTail = 3 ∷ []
shape SubmitFirst = 4 ∷ 1 ∷ []
shape OneStand = 3 ∷ []
shape MissingFirst = 4 ∷ 1 ∷ []
shape OnePlayer = 4 ∷ []
shape (Request l) = 2 ∷ []
shape (Client l) = 2 ∷ []
shape (SendTail l) = 2 ∷ []
shape (SendFirst l) = 2 ∷ 2 ∷ []
shape (Send l) = 2 ∷ []
shape (Server l) = 3 ∷ []
shape (Arrangement l) = 3 ∷ []
shape (Operand l) = 3 ∷ []
shape (Fact l) = 3 ∷ []
shape _ = 1 ∷ []

-- a shape on top of another
abbrev pub join : List ℕ → List ℕ → List ℕ
join [] bs = bs
join (a ∷ []) [] = a ∷ []
join (a ∷ []) (b ∷ bs) = (a + b) ∷ bs
join (a ∷ as') bs = a ∷ join as' bs

abbrev pub shapes : List Sym → List ℕ
shapes [] = 0 ∷ []
shapes (s ∷ ss) = join (shape s) (shapes ss)
