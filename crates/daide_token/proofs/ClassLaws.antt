-- A bracket is the only token of its class, and so is every other token with a class of its own.
use Rattle.daide_token.proofs.Common.{◌≡◌, ℕ, ◌+◌, ◌*◌, ◌/◌, ◌%◌, ◌==◌, nat_lt, nat_le, ◌&&◌, Bool, true, false, not}
use Rattle.daide_token.proofs.Common.{if◌then◌else◌, List, [], ◌∷◌, refl, ap, sym, ◌∙◌, subst, arith, eqb-true}
use Rattle.daide_token.proofs.Common.{list_all, Class, Num, Bra, Ket, Power, Note, Outcome, Coast, Season, Text}
use Rattle.daide_token.proofs.Common.{Province, Prn, Param, Other, Alien, Word, bra, ket, prn, class_in, class_of}
use Rattle.daide_token.proofs.Common.{has_one_token, is_standard, token_of}
use Rattle.daide_token.specs.Class.{brackets, commands, listed, orders, parameters, press_classes, units}

-- the class of a token is standard, and if the class has one token, it is this one
abbrev IsRight : ℕ → ℕ → Class → Type 0
IsRight category code class =
    (is_standard class ≡ true) × (has_one_token class ≡ true → category * 256 + code ≡ token_of class)

-- whether each row of a table has the only token of its class
abbrev has_only_tokens : ℕ → List (ℕ × Class) → Bool
has_only_tokens category rows = list_all (λ row. category * 256 + row.0 == token_of row.1 && is_standard row.1) rows

-- whether a class is standard and more than one token has it
abbrev is_shared : Class → Bool
is_shared class = is_standard class && not (has_one_token class)

by_test : (P : Class → Type 0) (b : Bool) (x y : Class) → (b ≡ true → P x) → (b ≡ false → P y) → P (if b then x else y)
by_test P true x y p q = p refl
by_test P false x y p q = q refl

left_true : (a b : Bool) → (a && b) ≡ true → a ≡ true
left_true true b e = refl
left_true false b e = e

right_true : (a b : Bool) → (a && b) ≡ true → b ≡ true
right_true true b e = e
right_true false b e = absurd (cc)

not_true : (a : Bool) → not a ≡ true → a ≡ true → ⊥
not_true true e f = cc
not_true false e f = cc

shared : (category code : ℕ) (class : Class) → is_shared class ≡ true → IsRight category code class
shared category code class e = (
  left_true (is_standard class) _ e,
  λ one. absurd (not_true (has_one_token class) (right_true (is_standard class) _ e) one),
)

row_right : (category code : ℕ) (row : ℕ × Class)
    → (category * 256 + row.0 == token_of row.1 && is_standard row.1) ≡ true → row.0 ≡ code
    → IsRight category code row.1
row_right category code row e same = (
  right_true (category * 256 + row.0 == token_of row.1) _ e,
  λ _. ap (λ n. category * 256 + n) (sym same)
      ∙ eqb-true _ _ (left_true (category * 256 + row.0 == token_of row.1) _ e),
)

right_in_table : (category code : ℕ) (rows : List (ℕ × Class)) (unlisted : Class)
    → has_only_tokens category rows ≡ true → is_shared unlisted ≡ true
    → IsRight category code (listed rows unlisted code)
right_in_table category code [] unlisted e u = shared category code unlisted u
right_in_table category code (row ∷ rows) unlisted e u =
    by_test (IsRight category code) (row.0 == code) row.1 (listed rows unlisted code)
    (λ same. row_right category code row (left_true _ _ e) (eqb-true row.0 code same))
    (λ _. right_in_table category code rows unlisted
    (right_true (category * 256 + row.0 == token_of row.1 && is_standard row.1) _ e) u)

-- the same, if a test determines the category
right_where : (known category code : ℕ) (rows : List (ℕ × Class)) (unlisted : Class)
    → has_only_tokens known rows ≡ true → is_shared unlisted ≡ true → (category == known) ≡ true
    → IsRight category code (listed rows unlisted code)
right_where known category code rows unlisted e u same =
    let P : ℕ → Type 0 = λ n. IsRight n code (listed rows unlisted code) in
    subst P (sym (eqb-true category known same)) (right_in_table known code rows unlisted e u)

right_in_category : (category code : ℕ) → IsRight category code (class_in category code)
right_in_category category code =
    let P : Class → Type 0 = IsRight category code in
    by_test P (nat_lt category 0x40) _ _ (λ _. shared category code Num refl) (λ _.
    by_test P (category == 0x40) _ _ (right_where 0x40 category code brackets Other refl refl) (λ _.
    by_test P (category == 0x41) _ _ (λ _. shared category code Power refl) (λ _.
    by_test P (category == 0x42) _ _ (right_where 0x42 category code units Other refl refl) (λ _.
    by_test P (category == 0x43) _ _ (right_where 0x43 category code orders Other refl refl) (λ _.
    by_test P (category == 0x44) _ _ (λ _. shared category code Note refl) (λ _.
    by_test P (category == 0x45) _ _ (λ _. shared category code Outcome refl) (λ _.
    by_test P (category == 0x46) _ _ (λ _. shared category code Coast refl) (λ _.
    by_test P (category == 0x47) _ _ (λ _. shared category code Season refl) (λ _.
    by_test P (category == 0x48) _ _ (right_where 0x48 category code commands Other refl refl) (λ _.
    by_test P (category == 0x49) _ _ (right_where 0x49 category code parameters Param refl refl) (λ _.
    by_test P (category == 0x4A) _ _ (right_where 0x4A category code press_classes Other refl refl) (λ _.
    by_test P (category == 0x4B) _ _ (λ _. shared category code Text refl) (λ _.
    by_test P (nat_le 0x50 category && nat_le category 0x57) _ _ (λ _. shared category code Province refl)
    (λ _. shared category code Alien refl))))))))))))))

-- no token has the class of an operator's word
pub standard_class : (t : ℕ) → is_standard (class_of t) ≡ true
unfolding class_of
standard_class t = (right_in_category (t / 256) (t % 256)).0

-- if a class has one token, a token of that class is this one
pub only_token : (t : ℕ) → has_one_token (class_of t) ≡ true → t ≡ token_of (class_of t)
unfolding class_of
only_token t e =
    let split : t ≡ t / 256 * 256 + t % 256 = omega arith in
    split ∙ (right_in_category (t / 256) (t % 256)).1 e

-- the same, for a known class
pub only_token_of : (class : Class) (t : ℕ) → has_one_token class ≡ true → class_of t ≡ class → t ≡ token_of class
only_token_of class t one e = only_token t (ap has_one_token e ∙ one) ∙ ap token_of e

pub class_bra : (t : ℕ) → class_of t ≡ Bra → t ≡ bra
class_bra t e = only_token_of Bra t refl e

pub class_ket : (t : ℕ) → class_of t ≡ Ket → t ≡ ket
class_ket t e = only_token_of Ket t refl e

pub class_of-bra : class_of bra ≡ Bra
unfolding class_of
class_of-bra = refl

pub class_of-ket : class_of ket ≡ Ket
unfolding class_of
class_of-ket = refl

pub class_of-prn : class_of prn ≡ Prn
unfolding class_of
class_of-prn = refl

-- each class other than an operator's word has a token
pub class_of-token_of : (class : Class) → is_standard class ≡ true → class_of (token_of class) ≡ class
unfolding class_of
class_of-token_of (Word place) e = absurd (cc)
class_of-token_of _ e = refl
