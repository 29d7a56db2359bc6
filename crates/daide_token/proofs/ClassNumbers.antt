-- Two classes never have the same number.
use Rattle.std.proofs.Common.{◌↔◌}
use Rattle.std.proofs.lemmas.Bool.{eq-eqb}
use Rattle.daide_token.proofs.Common.{◌≡◌, ℕ, zero, suc, ◌+◌, ◌-◌, true, false, nat_lt, List, [], ◌∷◌, refl, sym, ◌∙◌}
use Rattle.daide_token.proofs.Common.{ap, if◌then◌else◌, arith, eqb-true, nat_tests, Class, Alien, Word}
use Rattle.daide_token.specs.ClassNumbers.{class_number, classes_in_order, own_classes, same_class}

-- the class at an index of a list
abbrev class_in : ℕ → List Class → Class
class_in n [] = Alien
class_in zero (c ∷ cs) = c
class_in (suc n) (c ∷ cs) = class_in n cs

-- the class of a number
abbrev class_at : ℕ → Class
class_at n = if nat_lt n own_classes then class_in n classes_in_order else Word (n - own_classes)

-- the numbers of the operator's words come last, and the index of a word is recovered from its number
past : (k : ℕ) → nat_lt (own_classes + k) own_classes ≡ false
past k = grind (arith, nat_tests)

place : (k : ℕ) → (own_classes + k) - own_classes ≡ k
place k = omega arith

-- the class of a class's number is the class itself
class_at-number : (c : Class) → class_at (class_number c) ≡ c
class_at-number (Word k) = ap (λ b. if b then class_in (own_classes + k) classes_in_order else Word ((own_classes + k) - own_classes)) (past k) ∙ ap Word (place k)
class_at-number _ = refl

-- classes with the same number are the same class
pub told-apart : (c d : Class) → (same_class c d ≡ true) ↔ (c ≡ d)
told-apart c d = (
  λ e. sym (class_at-number c) ∙ (ap class_at (eqb-true (class_number c) (class_number d) e) ∙ class_at-number d),
  λ e. eq-eqb (class_number c) (class_number d) (ap class_number e),
)
