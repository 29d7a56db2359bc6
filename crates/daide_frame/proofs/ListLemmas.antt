-- Tests of numbers with a known result, and lists cut at their end.
use Rattle.std.proofs.Common.{◌≡◌, ℕ, ◌<◌, ◌≤◌, true, false, ltb, leb, eqb, List, [], length}
use Rattle.std.proofs.Common.{take, drop, arith, length-take}
use Rattle.std.proofs.lemmas.Grind.{common_steps}
use Rattle.daide_frame.proofs.Common.{nat_tests}

pub ltb_no : (a b : ℕ) → b ≤ a → ltb a b ≡ false
ltb_no a b h = grind (arith, nat_tests)

pub eqb_same : (a : ℕ) → eqb a a ≡ true
eqb_same a = grind (arith, nat_tests)

pub eqb_no : (a b : ℕ) → a < b → eqb a b ≡ false
eqb_no a b h = grind (arith, nat_tests)

pub leb_no : (a b : ℕ) → b < a → leb a b ≡ false
leb_no a b h = grind (arith, nat_tests)

pub leb_yes : (a b : ℕ) → a ≤ b → leb a b ≡ true
leb_yes a b h = grind (arith, nat_tests)

pub eqb_is : (a b : ℕ) → a ≡ b → eqb a b ≡ true
eqb_is a b h = grind (arith, nat_tests)

pub eqb_apart : (a b : ℕ) → (a ≡ b → ⊥) → eqb a b ≡ false
eqb_apart a b h = grind (arith, nat_tests)

pub take_whole : (n : ℕ) (v : List ℕ) → length v ≤ n → take n v ≡ v
take_whole n v h = grind (arith, common_steps)

pub take_whole' : (n : ℕ) (v : List ℕ) → n ≡ 4 → length v ≡ 4 → take n v ≡ v
take_whole' n v e h = take_whole n v (omega arith)

pub drop_past : (n : ℕ) (v : List ℕ) → length v ≤ n → drop n v ≡ []
drop_past n v h = grind (arith, common_steps)

pub within_part : (v : List ℕ) (n m : ℕ) → length v ≤ m → length (take n v) ≤ m
within_part v n m h = omega (arith, length-take n v)
