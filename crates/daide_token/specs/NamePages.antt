-- The names of a category on a page: one cell for each code, from 00 on. (own)
use Rattle.std.specs.Prelude.{ℕ, ◌+◌, ◌*◌, nat_le, ◌==◌, Bool, true, List, [], ◌∷◌, length, get_or}
use Rattle.std.specs.Prelude.{Option, None, Some}
use Rattle.std.specs.List.{list_all}
use Rattle.daide_token.specs.Names.{Named}

-- a page: the cells of a category, each a name with a space before it, or empty
abbrev pub Page : Type 0
Page = List (List ℕ)

-- the name in a cell, without its space; an empty cell has none
abbrev pub name_of_cell : List ℕ → Option (List ℕ)
name_of_cell [] = None
name_of_cell (space ∷ letters) = Some letters

-- whether a cell is empty or begins with a space
abbrev pub is_spaced : List ℕ → Bool
is_spaced [] = true
is_spaced (space ∷ letters) = space == 32

-- the name of a code; codes past the last cell have none
abbrev pub name_on : Page → ℕ → Option (List ℕ)
name_on cells code = name_of_cell (get_or cells code [])

-- the row of a cell, followed by other rows; an empty cell has none
abbrev pub row_before : ℕ → List ℕ → List Named → List Named
row_before t [] rows = rows
row_before t (space ∷ letters) rows = (t, letters) ∷ rows

-- the rows of cells, for tokens that count up from t, followed by other rows
abbrev pub rows_before : ℕ → Page → List Named → List Named
rows_before t [] rows = rows
rows_before t (cell ∷ cells) rows = row_before t cell (rows_before (t + 1) cells rows)

-- the rows of pages, for categories that count up from a first one
abbrev pub rows_on : ℕ → List Page → List Named
rows_on category [] = []
rows_on category (page ∷ pages) = rows_before (category * 256) page (rows_on (category + 1) pages)

-- whether no page has a cell past the last code, FF
abbrev pub are_short : List Page → Bool
are_short pages = list_all (λ page. nat_le (length page) 256) pages

-- whether all cells are empty or begin with a space
abbrev pub are_spaced : List Page → Bool
are_spaced pages = list_all (λ page. list_all is_spaced page) pages
