-- Searches in a table.
use Rattle.daide_token.proofs.Common.{◌≡◌, ◌&&◌, Bool, true, false, List, [], ◌∷◌, map, Option, option_map, refl, Some}
use Rattle.daide_token.proofs.Common.{cond, find, list_all}

-- one more row, by whether it passes the test
found : {X Y : Type 0} (v : X → Y) (p : Y → Bool) (x : X) (xs : List X) (b : Bool)
    → find p (map v xs) ≡ option_map v (find (λ x. p (v x)) xs)
    → cond b (Some (v x)) (find p (map v xs)) ≡ option_map v (cond b (Some x) (find (λ x. p (v x)) xs))
found v p x xs true e = refl
found v p x xs false e = e

-- a search in a mapped table finds the mapped row
pub find_in_map : {X Y : Type 0} (v : X → Y) (p : Y → Bool) (xs : List X)
    → find p (map v xs) ≡ option_map v (find (λ x. p (v x)) xs)
find_in_map v p [] = refl
find_in_map v p (x ∷ xs) = found v p x xs (p (v x)) (find_in_map v p xs)

-- one more row, by whether it passes each test
passes : {X Y Z : Type 0} (f : X → Y) (p q : X → Bool) (x : X) (rest : Option X) (y : Y) (others b c : Bool)
    → (p x ≡ b) → (q x ≡ c) → (c && others) ≡ true → option_map f (cond b (Some x) rest) ≡ Some y
    → ((x : X) → p x ≡ true → q x ≡ true → f x ≡ y → Z) → (others ≡ true → option_map f rest ≡ Some y → Z) → Z
passes f p q x rest y others true true e g a s here below = here x e g (cc)
passes f p q x rest y others false true e g a s here below = below a s
passes f p q x rest y others b false e g a s here below = absurd (cc)

-- the row that is found passes its test, and any test that all rows pass
pub found_passes : {X Y Z : Type 0} (f : X → Y) (p q : X → Bool) (xs : List X) (y : Y)
    → list_all q xs ≡ true → option_map f (find p xs) ≡ Some y
    → ((x : X) → p x ≡ true → q x ≡ true → f x ≡ y → Z) → Z
found_passes f p q [] y a s here = absurd (cc)
found_passes f p q (x ∷ xs) y a s here =
    passes f p q x (find p xs) y (list_all q xs) (p x) (q x) refl refl a s here
    (λ a s. found_passes f p q xs y a s here)
