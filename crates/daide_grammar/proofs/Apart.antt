-- Numbers that a test distinguishes.
use Rattle.daide_grammar.proofs.Common.{◌≡◌, ℕ, Bool, true, false, ◌==◌, eq-eqb}

both_ways : (b : Bool) → b ≡ true → b ≡ false → ⊥
both_ways true t f = cc
both_ways false t f = cc

pub numbers_apart : (n m : ℕ) → (n == m) ≡ false → n ≡ m → ⊥
numbers_apart n m test same = both_ways (n == m) (eq-eqb n m same) test

pub true_no_false : true ≡ false → ⊥
true_no_false e = cc
