-- The text of an explanation. (own)
use Rattle.std.specs.Prelude.{◌≡◌, ℕ, ◌==◌, ◌||◌, Bool, true, false, if◌then◌else◌, List, [], ◌∷◌, ◌++◌, codes}
use Rattle.std.specs.Prelude.{Option, Some, None, unwrap_or, IsTrue, ◌↔◌, take, drop, filter, length, not, ◌&&◌}
use Rattle.std.specs.Bool.{MatchBool}
use Rattle.std.specs.Fmt.{decimal}
use Rattle.std.specs.List.{list_any}
use Rattle.daide_token.specs.Token.{bra, ket}
use Rattle.daide_token.specs.declared.class.Class.{Class}
use Rattle.daide_token.specs.declared.class.Class.TheVariants.{Num, Power, Note, Outcome, Coast, Season, Text, Province}
use Rattle.daide_token.specs.declared.class.Class.TheVariants.{Param}
use Rattle.daide_token.specs.Class.{class_of}
use Rattle.daide_token.specs.Text.{text_with}
use Rattle.daide_grammar.specs.declared.level.Level.{Level}
use Rattle.daide_grammar.specs.declared.side.Side2.{Side2}
use Rattle.daide_grammar.specs.declared.side.Side2.TheVariants.{Client, ServerEnd}
use Rattle.daide_grammar.specs.Depth.{open_brackets}
use Rattle.daide_grammar.specs.Level.{level_number}
use Rattle.daide_grammar.specs.Paired.{begins_with_prn}
use Rattle.daide_grammar.specs.SideMessages.{IsMessageOver}
use Rattle.daide_words.specs.declared.word.Word.{Word}
use Rattle.daide_words.specs.Word.{grammar_words, names_of}
use Rattle.daide_reader.specs.declared.verdict.Verdict.{Verdict}
use Rattle.daide_reader.specs.declared.verdict.Verdict.TheVariants.{Relay, Prn, Huh}
use Rattle.daide_explain.specs.declared.brackets.Unpaired.{Unpaired}
use Rattle.daide_explain.specs.declared.brackets.Unpaired.TheVariants.{Ket, Bra, Nothing}
use Rattle.daide_explain.specs.Listed.{AreExpected, IsIn, IsListed, other_token, unknown_token}
use Rattle.daide_explain.specs.LowestLevel.{IsLowestAbove, IsRelayedAt}
use Rattle.daide_explain.specs.Unpaired.{IsUnpairedIn}

-- the name of a kind, a class of many tokens
abbrev pub kind_name : Class → Option (List ℕ)
kind_name Num = Some (codes "<number>")
kind_name Power = Some (codes "<power>")
kind_name Note = Some (codes "<note>")
kind_name Outcome = Some (codes "<result>")
kind_name Coast = Some (codes "<coast>")
kind_name Season = Some (codes "<season>")
kind_name Text = Some (codes "<text>")
kind_name Province = Some (codes "<province>")
kind_name Param = Some (codes "<parameter>")
kind_name _ = None

-- the item of a token's class: its kind, or the name of its only token
unfoldable pub item : List Word → ℕ → List ℕ
item words t =
    if t == other_token then codes "<other>" else
    unwrap_or (kind_name (class_of t)) (text_with (names_of words) (t ∷ []))

-- the items of tokens, with a space before each
unfoldable pub items : List Word → List ℕ → List ℕ
items words [] = []
items words (t ∷ ts) = (32 ∷ item words t) ++ items words ts

-- the brackets among some tokens
abbrev pub brackets_in : List ℕ → List ℕ
brackets_in ts = filter (λ t. (t == bra) || (t == ket)) ts

-- a token of an unknown category is in the list
abbrev pub has_unknown : List ℕ → Bool
has_unknown ts = list_any (λ t. t == unknown_token) ts

-- the items of the expected classes; if a token of an unknown category is expected, so is every class but the brackets:
-- then the brackets that are expected, and `<any>` for the rest
unfoldable pub class_items : List Word → List ℕ → List ℕ
class_items words kept =
    if has_unknown kept then items words (brackets_in kept) ++ codes " <any>" else items words kept

-- the printed items cover the token's class: by its own item, or by `<any>` if the token is not a bracket
abbrev pub IsPrinted : List Word → List ℕ → ℕ → Type 0
IsPrinted words kept t =
    MatchBool (has_unknown kept) (((t == bra) || (t == ket)) ≡ true → IsIn t kept) (IsListed words kept t)

-- the item of the end, if it is expected, and the line feed
abbrev pub end_item : Bool → List ℕ
end_item ends = (if ends then codes " <end>" else []) ++ 10 ∷ []

-- the line of what is expected after the prefix; if nothing is, the number of open brackets
unfoldable pub expected_line : List Word → List ℕ → List ℕ → Bool → List ℕ
expected_line words p kept ends =
    if (length kept == 0) && not ends then codes "too deep: " ++ decimal (open_brackets p) ++ codes " brackets are open" ++ 10 ∷ []
    else (codes "expected:" ++ class_items words kept) ++ end_item ends

-- the line lists exactly what is expected after the prefix
abbrev pub IsExpectedLine : List Word → (List ℕ → Type 0) → ℕ → List ℕ → List ℕ → Type 0
IsExpectedLine words message max_depth p text =
    (kept : List ℕ) × (ends : Bool) × AreExpected words message max_depth p kept ends
    × (text ≡ expected_line words p kept ends)

-- the line with the level from which a message is relayed, if there is one
abbrev pub level_line : Option Level → List ℕ
level_line None = []
level_line (Some least) = codes "relayed from level " ++ decimal (level_number least) ++ 10 ∷ []

abbrev pub other_side : Side2 → Side2
other_side Client = ServerEnd
other_side ServerEnd = Client

-- the line for the other side, if the message is relayed as one of that side
unfoldable pub side_line : Side2 → Bool → List ℕ
side_line Client true = codes "relayed with --side server" ++ 10 ∷ []
side_line ServerEnd true = codes "relayed with --side bot" ++ 10 ∷ []
side_line end false = []

-- the lines for a message that is relayed at a higher level, or as the other side's message at this level
abbrev pub AreElsewhere : List Word → Side2 → Level → ℕ → List ℕ → List ℕ → Type 0
AreElsewhere words end level max_depth m text =
    (least : Option Level) × (other : Bool) × IsLowestAbove (grammar_words words) end level max_depth m least
    × (IsTrue other ↔ IsRelayedAt (grammar_words words) (other_side end) level max_depth m)
    × (text ≡ level_line least ++ side_line end other)

-- the token at the place is BRA, and `max_depth` brackets are open before it
abbrev pub IsTooDeepAt : ℕ → List ℕ → ℕ → Type 0
IsTooDeepAt max_depth m place =
    (after : List ℕ) × (drop place m ≡ bra ∷ after) × (open_brackets (take place m) ≡ max_depth)

-- the line for the error place: its bracket is too deep, or else what is expected there
abbrev pub IsPlaceCause : List Word → Side2 → Level → ℕ → List ℕ → ℕ → List ℕ → Type 0
IsPlaceCause words end level max_depth m place text =
    (deep : Bool) × (IsTrue deep ↔ IsTooDeepAt max_depth m place)
    × MatchBool deep (text ≡ codes "too deep: ( at " ++ decimal place ++ 10 ∷ [])
    (IsExpectedLine words (IsMessageOver (grammar_words words) end level) max_depth (take place m) text)

-- the lines for a message with an error place
abbrev pub IsPlaceExplained : List Word → Side2 → Level → ℕ → List ℕ → ℕ → List ℕ → Type 0
IsPlaceExplained words end level max_depth m place text =
    (cause : List ℕ) × (elsewhere : List ℕ) × IsPlaceCause words end level max_depth m place cause
    × AreElsewhere words end level max_depth m elsewhere × (text ≡ cause ++ elsewhere)

-- the line for an unpaired bracket
abbrev pub unpaired_line : Unpaired → List ℕ
unpaired_line (Ket place) = codes "unpaired: ) at " ++ decimal place ++ 10 ∷ []
unpaired_line (Bra place) = codes "unpaired: ( at " ++ decimal place ++ 10 ∷ []
unpaired_line Nothing = []

-- the line for a message that is not paired
abbrev pub IsUnpairedExplained : List ℕ → List ℕ → Type 0
IsUnpairedExplained m text =
    MatchBool (begins_with_prn m) (text ≡ codes "unpaired: PRN" ++ 10 ∷ [])
    ((unpaired : Unpaired) × IsUnpairedIn m unpaired × (text ≡ unpaired_line unpaired))

-- the lines that explain a verdict; a relayed message has none
abbrev pub IsExplained : List Word → Side2 → Level → ℕ → List ℕ → Verdict → List ℕ → Type 0
IsExplained words end level max_depth m Relay text = text ≡ []
IsExplained words end level max_depth m Prn text = IsUnpairedExplained m text
IsExplained words end level max_depth m (Huh place) text = IsPlaceExplained words end level max_depth m place text
