-- The pages of names contain the definition's name at each code.
use Rattle.std.proofs.Common.{inl, inr}
use Rattle.std.proofs.Math.ListN.{get_or-map, length-map}
use Rattle.daide_token.proofs.Common.{◌≡◌, ℕ, zero, suc, ◌+◌, ◌*◌, ◌-◌, ◌<◌, ◌≤◌, ◌⊎◌, ◌==◌, nat_le, Bool, List, []}
use Rattle.daide_token.proofs.Common.{◌∷◌, length, map, get_or, Option, None, Some, option_map, cond, true, false, refl}
use Rattle.daide_token.proofs.Common.{sym, ap, ◌∙◌, arith, and_parts, nat_tests, find, list_all, is_spaced}
use Rattle.daide_token.proofs.Common.{name_of_cell, Named, name_of, names}
use Rattle.daide_token.specs.NamePages.{Page, are_short, are_spaced, name_on, row_before, rows_before, rows_on}

-- the name of a token, by some rows
abbrev name_by : ℕ → List Named → Option (List ℕ)
name_by t rows = option_map (λ row. row.1) (find (λ row. row.0 == t) rows)

-- that name, by the test of the first row
abbrev by_first : ℕ → Named → List Named → Bool → Option (List ℕ)
by_first t row rows b = option_map (λ (row : Named). row.1) (cond b (Some row) (find (λ row. row.0 == t) rows))

same_token : (s t : ℕ) → s ≡ t → (s == t) ≡ true
same_token s t e = grind (arith, nat_tests)

other_token : (s t : ℕ) → (s < t) ⊎ (t < s) → (s == t) ≡ false
other_token s t out = grind (arith, nat_tests)

-- the cell of another token is skipped
passed : (s t : ℕ) (cell : List ℕ) (rows : List Named) → (s == t) ≡ false →
    name_by t (row_before s cell rows) ≡ name_by t rows
passed s t [] rows e = refl
passed s t (space ∷ letters) rows e = ap (by_first t (s, letters) rows) e

-- and so are all later and all earlier cells
all_later : (t first : ℕ) (cells : List (List ℕ)) (rows : List Named) → t < first →
    name_by t (rows_before first cells rows) ≡ name_by t rows
all_later t first [] rows less = refl
all_later t first (cell ∷ cells) rows less =
    passed first t cell (rows_before (first + 1) cells rows) (other_token first t (inr less))
    ∙ all_later t (first + 1) cells rows (omega arith)

all_before : (t first : ℕ) (cells : List (List ℕ)) (rows : List Named) → first + length cells ≤ t →
    name_by t (rows_before first cells rows) ≡ name_by t rows
all_before t first [] rows most = refl
all_before t first (cell ∷ cells) rows most =
    passed first t cell (rows_before (first + 1) cells rows) (other_token first t (inl (omega arith)))
    ∙ all_before t (first + 1) cells rows (omega arith)

-- the name of a token is in its own cell, if the following rows have none
own_cell : (t first i : ℕ) (cells : List (List ℕ)) (rows : List Named) → first + i ≡ t → name_by t rows ≡ None →
    name_by t (rows_before first cells rows) ≡ name_of_cell (get_or cells i [])
own_cell t first i [] rows at none = none
own_cell t first zero ([] ∷ cells) rows at none = all_later t (first + 1) cells rows (omega arith) ∙ none
own_cell t first zero ((space ∷ letters) ∷ cells) rows at none =
    ap (by_first t (first, letters) (rows_before (first + 1) cells rows)) (same_token first t (omega arith))
own_cell t first (suc i) (cell ∷ cells) rows at none =
    passed first t cell (rows_before (first + 1) cells rows) (other_token first t (inl (omega arith)))
    ∙ own_cell t (first + 1) i cells rows (omega arith) none

-- the pages of later categories have no name for a token
none_later : (t category : ℕ) (pages : List Page) → t < category * 256 → name_by t (rows_on category pages) ≡ None
none_later t category [] less = refl
none_later t category (page ∷ pages) less =
    all_later t (category * 256) page (rows_on (category + 1) pages) (omega arith)
    ∙ none_later t (category + 1) pages (omega arith)

is_short : (n : ℕ) → nat_le n 256 ≡ true → n ≤ 256
is_short n e = grind (arith, nat_tests)

told : (t category k code : ℕ) (pages : List Page) (d : Page) → are_short pages ≡ true → k < length pages →
    code < 256 → (category + k) * 256 + code ≡ t →
    name_by t (rows_on category pages) ≡ name_on (get_or pages k d) code
told t category k code [] d short less low at = absurd (omega arith)
told t category zero code (page ∷ pages) d short less low at =
    own_cell t (category * 256) code page (rows_on (category + 1) pages) (omega arith)
    (none_later t (category + 1) pages (omega arith))
told t category (suc k) code (page ∷ pages) d short less low at =
    let parts = and_parts (nat_le (length page) 256) (are_short pages) short in
    let most : length page ≤ 256 = is_short (length page) parts.0 in
    all_before t (category * 256) page (rows_on (category + 1) pages) (omega arith)
    ∙ told t (category + 1) k code pages d parts.1 (omega arith) low (omega arith)

-- pages have no name for a token of a category after them
none_beyond : (t category : ℕ) (pages : List Page) → are_short pages ≡ true → (category + length pages) * 256 ≤ t →
    name_by t (rows_on category pages) ≡ None
none_beyond t category [] short most = refl
none_beyond t category (page ∷ pages) short most =
    let parts = and_parts (nat_le (length page) 256) (are_short pages) short in
    let few : length page ≤ 256 = is_short (length page) parts.0 in
    all_before t (category * 256) page (rows_on (category + 1) pages) (omega arith)
    ∙ none_beyond t (category + 1) pages parts.1 (omega arith)

-- pages from a first category on that have all names
module _ {P : Type 0} (seen : P → Page) (pages : List P) (first category : ℕ)
    (rows : rows_on first (map seen pages) ≡ names) (short : are_short (map seen pages) ≡ true) where
  -- the cells of a category's page are its names
  pub cell_told : (k : ℕ) (d : P) → k < length pages → first + k ≡ category → (code : ℕ) → code < 256 →
      name_on (seen (get_or pages k d)) code ≡ name_of (category * 256 + code)
  unfolding name_of
  cell_told k d less at code low =
      let t : ℕ = category * 256 + code in
      ap (λ (page : Page). name_on page code) (sym (get_or-map seen pages k d))
      ∙ sym (told t first k code (map seen pages) (seen d) short (omega (arith, length-map pages seen))
      low (omega arith))
      ∙ ap (name_by t) rows

  -- a category that has no page has no names
  pub no_page : (category < first) ⊎ (first + length pages ≤ category) → (code : ℕ) → code < 256 →
      name_of (category * 256 + code) ≡ None
  unfolding name_of
  no_page (inl before) code low =
      let t : ℕ = category * 256 + code in
      sym (ap (name_by t) rows) ∙ none_later t first (map seen pages) (omega arith)
  no_page (inr after) code low =
      let t : ℕ = category * 256 + code in
      sym (ap (name_by t) rows)
      ∙ none_beyond t first (map seen pages) short (omega (arith, length-map pages seen))

-- a test that all items pass, each item passes; past the end the default must pass it
pub each_of : {X : Type 0} (p : X → Bool) (xs : List X) (k : ℕ) (d : X) → list_all p xs ≡ true → p d ≡ true →
    p (get_or xs k d) ≡ true
each_of p [] k d all last = last
each_of p (x ∷ xs) zero d all last = (and_parts (p x) (list_all p xs) all).0
each_of p (x ∷ xs) (suc k) d all last = each_of p xs k d (and_parts (p x) (list_all p xs) all).1 last

-- the cells of a page are spaced
pub page_spaced : {P : Type 0} (seen : P → Page) (pages : List P) (k : ℕ) (d : P) → are_spaced (map seen pages) ≡ true →
    k < length pages → list_all is_spaced (seen (get_or pages k d)) ≡ true
page_spaced seen [] k d all less = absurd (omega arith)
page_spaced seen (page ∷ pages) zero d all less = (and_parts (list_all is_spaced (seen page)) (are_spaced (map seen pages)) all).0
page_spaced seen (page ∷ pages) (suc k) d all less =
    page_spaced seen pages k d (and_parts (list_all is_spaced (seen page)) (are_spaced (map seen pages)) all).1 (omega arith)
