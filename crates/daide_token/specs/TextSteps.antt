-- The text in printing order: what a token adds depends on what was printed last.
use Rattle.std.specs.Prelude.{ℕ, ◌%◌, ◌++◌, if◌then◌else◌, List, [], ◌∷◌}
use Rattle.daide_token.specs.Text.{is_quotable, text_of_token}
use Rattle.daide_token.specs.Names.{Named}
use Rattle.daide_token.specs.declared.text.PrinterState.{PrinterState}
use Rattle.daide_token.specs.declared.text.PrinterState.TheVariants.{Start, Word, Quote}

-- what precedes an item: the quote that ends an open run, and a space
abbrev pub before_item : PrinterState → List ℕ
before_item Start = []
before_item Word = 32 ∷ []
before_item Quote = 39 ∷ 32 ∷ []

-- what precedes a character: the quote that opens a run, unless one is open
abbrev pub before_character : PrinterState → List ℕ
before_character Start = 39 ∷ []
before_character Word = 32 ∷ 39 ∷ []
before_character Quote = []

-- what was printed last, after this token
abbrev pub place_after : ℕ → PrinterState
place_after t = if is_quotable t then Quote else Word

-- what a token adds to the text
abbrev pub token_text : List Named → PrinterState → ℕ → List ℕ
token_text added place t =
    if is_quotable t then before_character place ++ (t % 256) ∷ [] else before_item place ++ text_of_token added t

-- what some tokens add to the text
abbrev pub some_text : List Named → PrinterState → List ℕ → List ℕ
some_text added place [] = []
some_text added place (t ∷ ts) = token_text added place t ++ some_text added (place_after t) ts

-- what was printed last, after these tokens
abbrev pub place_past : PrinterState → List ℕ → PrinterState
place_past place [] = place
place_past place (t ∷ ts) = place_past (place_after t) ts

-- what ends a text: the quote of an open run
abbrev pub end_text : PrinterState → List ℕ
end_text Start = []
end_text Word = []
end_text Quote = 39 ∷ []

-- what some tokens and the end of the text add
abbrev pub rest_of_text : List Named → PrinterState → List ℕ → List ℕ
rest_of_text added Start [] = []
rest_of_text added Word [] = []
rest_of_text added Quote [] = 39 ∷ []
rest_of_text added place (t ∷ ts) = token_text added place t ++ rest_of_text added (place_after t) ts
