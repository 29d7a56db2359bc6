-- Numbers and texts that a test distinguishes.
use Rattle.daide_words.proofs.Common.{◌≡◌, ℕ, Bool, true, false, ◌==◌, List, bytes_eq, eq-eqb, bytes_eq-Decides}

pub not_both : (b : Bool) → b ≡ true → b ≡ false → ⊥
not_both true t f = cc
not_both false t f = cc

pub numbers_apart : (n m : ℕ) → (n == m) ≡ false → n ≡ m → ⊥
numbers_apart n m test same = not_both (n == m) (eq-eqb n m same) test

pub texts_apart : (one other : List ℕ) → bytes_eq one other ≡ false → one ≡ other → ⊥
texts_apart one other test same = not_both (bytes_eq one other) ((bytes_eq-Decides one other).1 same) test
