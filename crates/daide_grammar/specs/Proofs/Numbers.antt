-- The symbol or class with a number has that number.
use Rattle.std.proofs.Common.{◌≡◌, ℕ, zero, suc, ◌+◌, ◌<◌, Bool, true, ◌&&◌, nat_eq, List, [], ◌∷◌, length, get_or}
use Rattle.std.proofs.Common.{refl, ◌∙◌, arith}
use Rattle.std.proofs.lemmas.Bool.{and_parts, eqb-true}
use Rattle.daide_token.specs.declared.class.Class.TheVariants.{Num}
use Rattle.daide_grammar.specs.declared.symbol.Sym.TheVariants.{Closing}
use Rattle.daide_grammar.specs.Classes.{class_number}
use Rattle.daide_grammar.specs.Table.Numbers.{symbols, symbol_number, symbol_at, all_symbols, classes, class_at, all_classes}

-- whether each item of a list has its index as its number, counted from a first one
abbrev in_order : {X : Type 0} → (X → ℕ) → ℕ → List X → Bool
in_order number place [] = true
in_order number place (x ∷ xs) = nat_eq (number x) place && in_order number (suc place) xs

-- then the item at an index has that number
numbered : {X : Type 0} (number : X → ℕ) (place k : ℕ) (xs : List X) (d : X) →
    in_order number place xs ≡ true → k < length xs → number (get_or xs k d) ≡ place + k
numbered number place k [] d h less = absurd (omega arith)
numbered number place zero (x ∷ xs) d h less =
    let at : place ≡ place + 0 = omega arith in
    eqb-true (number x) place (and_parts (nat_eq (number x) place) (in_order number (suc place) xs) h).0 ∙ at
numbered number place (suc k) (x ∷ xs) d h less =
    let at : suc place + k ≡ place + suc k = omega arith in
    let rest = (and_parts (nat_eq (number x) place) (in_order number (suc place) xs) h).1 in
    numbered number (suc place) k xs d rest (omega arith) ∙ at

symbols_in_order : in_order symbol_number 0 symbols ≡ true
symbols_in_order = refl

symbols_counted : length symbols ≡ all_symbols
symbols_counted = refl

pub number_back : (n : ℕ) → n < all_symbols → symbol_number (symbol_at n) ≡ n
number_back n h =
    let at : 0 + n ≡ n = omega arith in
    numbered symbol_number 0 n symbols Closing symbols_in_order (rw symbols_counted h) ∙ at

classes_counted : length classes ≡ all_classes
classes_counted = refl

pub class_number_back : (n : ℕ) → n < all_classes → class_number (class_at n) ≡ n
class_number_back n h =
    let at : 0 + n ≡ n = omega arith in
    numbered class_number 0 n classes Num refl (rw classes_counted h) ∙ at
