-- A class of the table is determined by its number: first the protocol's own classes, then the operator's words.
use Rattle.daide_grammar.proofs.Common.{◌≡◌, true, ℕ, ◌+◌, ◌-◌, ◌<◌, ◌≤◌, nat_le, Some, None, map, refl, ap, ◌∙◌, arith}
use Rattle.daide_grammar.proofs.Common.{range_with_len, class_of, is_standard, standard_class, Class, Word}
use Rattle.daide_grammar.proofs.Common.{class_number, own_classes, all_classes, class_at, is_bracket, word_number}
use Rattle.daide_grammar.specs.Words.{most_words}
use Rattle.daide_grammar.proofs.Alike.{alike}

words : map (λ k. class_at (own_classes + k)) (range_with_len 0 most_words) ≡ map Word (range_with_len 0 most_words)
words = refl

pub word_at : (k : ℕ) → k < most_words → class_at (own_classes + k) ≡ Word k
word_at k less = alike (λ k. class_at (own_classes + k)) Word most_words words k less

-- a class with a number of the table is determined by it
pub class_told : (c : Class) → class_number c < all_classes → class_at (class_number c) ≡ c
class_told (Word k) less = word_at k (omega arith)
class_told _ less = refl

own_small : (c : Class) → is_standard c ≡ true → class_number c < all_classes
own_small (Word k) h = absurd cc
own_small _ h = omega arith

-- the class of a token has a number of the table
pub own_class : (t : ℕ) → class_number (class_of t) < all_classes
own_class t = own_small (class_of t) (standard_class t)

brackets : map (λ n. nat_le n 1) (range_with_len 0 all_classes) ≡ map (λ n. is_bracket (class_at n)) (range_with_len 0 all_classes)
brackets = refl

pub bracket_told : (n : ℕ) → n < all_classes → nat_le n 1 ≡ is_bracket (class_at n)
bracket_told n less = alike (λ n. nat_le n 1) (λ n. is_bracket (class_at n)) all_classes brackets n less

own : map (λ n. word_number (class_at n)) (range_with_len 0 own_classes) ≡ map (λ n. None) (range_with_len 0 own_classes)
own = refl

pub no_word : (n : ℕ) → n < own_classes → word_number (class_at n) ≡ None
no_word n less = alike (λ n. word_number (class_at n)) (λ n. None) own_classes own n less

pub some_word : (n : ℕ) → n < all_classes → own_classes ≤ n → word_number (class_at n) ≡ Some (n - own_classes)
some_word n less high =
    let few : n - own_classes < most_words = omega (arith, less, high) in
    let at : n ≡ own_classes + (n - own_classes) = omega (arith, high) in
    ap (λ n. word_number (class_at n)) at ∙ ap word_number (word_at (n - own_classes) few)
