-- Reads of a stream up to a limit.
use Rattle.std.proofs.Common.{◌≡◌, ℕ, zero, suc, ◌<◌, take, List, [], ◌∷◌, ◌++◌, length, Option, Some, None, IfSome, option_map, arith, refl, ap, ◌∙◌}

-- a front that is shorter than requested is the whole
pub short_front : (n : ℕ) (l : List ℕ) → length (take n l) < n → take n l ≡ l
short_front zero l few = absurd (omega (arith, few))
short_front (suc n) [] few = refl
short_front (suc n) (x ∷ l) few = ap (λ (rest : List ℕ). x ∷ rest) (short_front n l (omega (arith, few)))

-- fewer bytes than the limit are all bytes of the stream
pub all_of_few : (known : Option (List ℕ)) (limit : ℕ) (items : List ℕ)
    → IfSome (option_map (take limit) known) (λ front. items ≡ [] ++ front) → length items < limit
    → IfSome known (λ all. items ≡ all)
all_of_few None limit items front few = tt
all_of_few (Some all) limit items front few = front ∙ short_front limit all (omega (arith, few, ap length front))

-- a text of the bytes read, if they are fewer than requested
pub whole_text : (known given : Option (List ℕ)) (limit : ℕ) (start items text : List ℕ) → start ≡ []
    → given ≡ option_map (take limit) known → IfSome given (λ front. items ≡ start ++ front) → length items < limit
    → text ≡ items → IfSome known (λ all. text ≡ all)
whole_text known given limit start items text empty fronts front few same =
    rw same (all_of_few known limit items (rw (fronts, empty) at front) few)
