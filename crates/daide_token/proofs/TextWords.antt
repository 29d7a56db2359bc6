-- The text of one token, by its kind.
use Rattle.std.specs.Int.RustNames.{unsigned_abs}
use Rattle.daide_token.proofs.Common.{◌≡◌, ◌==◌, ◌&&◌, Bool, nat_le, not, ℕ, ℤ, pos, negsuc, ◌<◌, true, false, List, []}
use Rattle.daide_token.proofs.Common.{◌∷◌, length, get_or, Some, None, refl, sym, ap, ◌∙◌, arith, eqb-true, nat_tests}
use Rattle.daide_token.proofs.Common.{ints, signed_decimal, list_all, bra, ket, number_of, Named, names, name_of}
use Rattle.daide_token.proofs.Common.{is_spaced, name_of_cell, is_quotable, text_of_token, place_after, token_text}
use Rattle.daide_token.specs.declared.text.PrinterState.TheVariants.{Word}
use Rattle.daide_token.proofs.TableLemmas.{found_passes}

-- ---- numbers

number_small : (t : ℕ) (n : ℤ) → number_of t ≡ Some n → t < 0x4000
number_small t n e = grind (arith, nat_tests)

not_bra : (t : ℕ) → t < 0x4000 → (t == bra) ≡ false
not_bra t less = grind (arith, nat_tests)

not_ket : (t : ℕ) → t < 0x4000 → (t == ket) ≡ false
not_ket t less = grind (arith, nat_tests)

pub number_word : (added : List Named) (t : ℕ) (n : ℤ) → number_of t ≡ Some n → text_of_token added t ≡ signed_decimal n
number_word added t n e =
    let less = number_small t n e in
    rw (not_bra t less) (rw (not_ket t less) (rw e refl))

pub number_few : (t : ℕ) (n : ℤ) → number_of t ≡ Some n → unsigned_abs n < 10000
number_few t (pos n) e = grind (arith, nat_tests, ints)
number_few t (negsuc n) e = grind (arith, nat_tests, ints)

-- ---- names

-- a token with a name is neither a number nor a character
abbrev is_word : Named → Bool
is_word row = nat_le 0x4000 row.0 && not (is_quotable row.0)

all_words : list_all is_word names ≡ true
unfolding names
all_words = refl

no_number : (t : ℕ) → is_word (t, []) ≡ true → number_of t ≡ None
no_number t e = grind (arith, nat_tests)

no_character : (t : ℕ) → is_word (t, []) ≡ true → is_quotable t ≡ false
no_character t e = grind (arith, nat_tests)

pub named_number : (t : ℕ) (name : List ℕ) → name_of t ≡ Some name → number_of t ≡ None
unfolding name_of
named_number t name e =
    found_passes (λ (row : Named). row.1) (λ row. row.0 == t) is_word names name all_words e
    (λ row same word here. ap number_of (sym (eqb-true row.0 t same)) ∙ no_number row.0 word)

pub named_character : (t : ℕ) (name : List ℕ) → name_of t ≡ Some name → is_quotable t ≡ false
unfolding name_of
named_character t name e =
    found_passes (λ (row : Named). row.1) (λ row. row.0 == t) is_word names name all_words e
    (λ row same word here. ap is_quotable (sym (eqb-true row.0 t same)) ∙ no_character row.0 word)

pub named_word : (added : List Named) (t : ℕ) (name : List ℕ) → name_of t ≡ Some name → (t == bra) ≡ false →
    (t == ket) ≡ false → text_of_token added t ≡ name
named_word added t name e a b = rw a (rw b (rw (named_number t name e) (rw e refl)))

-- a cell of four bytes is the name after a word
pub four : (cell : List ℕ) → length cell ≡ 4 →
    get_or cell 0 0 ∷ get_or cell 1 0 ∷ get_or cell 2 0 ∷ get_or cell 3 0 ∷ [] ≡ cell
four [] e = absurd (omega arith)
four (a ∷ []) e = absurd (omega arith)
four (a ∷ b ∷ []) e = absurd (omega arith)
four (a ∷ b ∷ c ∷ []) e = absurd (omega arith)
four (a ∷ b ∷ c ∷ d ∷ []) e = refl
four (a ∷ b ∷ c ∷ d ∷ f ∷ rest) e = absurd (omega arith)

pub cell_text : (added : List Named) (t : ℕ) (cell : List ℕ) → name_of_cell cell ≡ name_of t → is_spaced cell ≡ true →
    length cell ≡ 4 → (t == bra) ≡ false → (t == ket) ≡ false → token_text added Word t ≡ cell
cell_text added t [] e s long a b = absurd (omega arith)
cell_text added t (space ∷ letters) e s long a b =
    rw (named_character t letters (sym e))
    (ap (λ (l : List ℕ). 32 ∷ l) (named_word added t letters (sym e) a b)
    ∙ ap (λ (c : ℕ). c ∷ letters) (sym (eqb-true space 32 s)))

pub cell_place : (t : ℕ) (cell : List ℕ) → name_of_cell cell ≡ name_of t → length cell ≡ 4 → place_after t ≡ Word
cell_place t [] e long = absurd (omega arith)
cell_place t (space ∷ letters) e long = rw (named_character t letters (sym e)) refl
