-- Properties of every reachable stack: it is short, and a nullable symbol is directly above a closing bracket or at the
-- bottom.
use Rattle.std.proofs.Common.{◌≡◌, ◌≢◌, ℕ, zero, suc, ◌+◌, ◌≤◌, Bool, true, false, not, ◌&&◌, ◌||◌, List, [], ◌∷◌}
use Rattle.std.proofs.Common.{◌++◌, length, Option, None, Some, refl, sym, ◌∙◌, ap, subst, arith, add-one}
use Rattle.std.proofs.Common.{if◌then◌else◌}
use Rattle.std.specs.List.{list_all}
use Rattle.daide_token.specs.declared.class.Class.{Class}
use Rattle.daide_token.specs.declared.class.Class.TheVariants.{Bra, Ket}
use Rattle.daide_grammar.specs.declared.symbol.Sym.{Sym}
use Rattle.daide_grammar.specs.declared.symbol.Sym.TheVariants.{Closing}
use Rattle.daide_grammar.specs.Bounds.{height_bound}
use Rattle.daide_grammar.specs.Table.Symbols.{entries, may_end_of}
use Rattle.daide_grammar.specs.Table.Answers.{TableEntry, Take, Skip, Stop}
use Rattle.daide_grammar.specs.Table.Stacks.{stack_after, skips_before, ends_asked}
use Rattle.daide_grammar.specs.Table.Shapes.{is_bottom_symbol, shape, shapes}
use Rattle.daide_grammar.specs.Table.LawfulStack.{IsLawful, bra, ket}
use Rattle.daide_grammar.specs.Proofs.Alternatives.{both-pass}
use Rattle.daide_grammar.specs.Proofs.Sizes.{begins_positive, shapes-cons, caps, total, total-mono, total-caps}
use Rattle.daide_grammar.specs.Proofs.Sizes.{total-join, positive-total, no-tail, no-room}
use Rattle.daide_grammar.specs.Proofs.StacksInOrder.{is_closing, tidy, entry_ordered, ordered, all_ordered, sized-Ket}
use Rattle.daide_grammar.specs.Proofs.StacksInOrder.{GoodMoves, empty-parts, Lawful-ordered}

-- every symbol counts for at least one entry
shape-positive : (s : Sym) → 1 ≤ total (shape s)
unfolding ordered
shape-positive s =
    let p = both-pass (list_all (entry_ordered s) (entries s) && begins_positive (shape s)) _ (all_ordered s) in
    positive-total (shape s) (both-pass (list_all (entry_ordered s) (entries s)) (begins_positive (shape s)) p.0).1

-- the sizes bound the number of symbols
length-total : (ss : List Sym) → length ss ≤ total (shapes ss)
length-total [] = omega arith
length-total (s ∷ ss) =
    omega (arith, total-join (shape s) (shapes ss) (shapes-cons ss), shape-positive s, length-total ss)

-- at most five entries for each open bracket, plus eight
pub Lawful-short : {moves : Sym → Class → TableEntry} (g : GoodMoves moves) (ss : List Sym) (n : ℕ) → IsLawful moves ss n →
    length ss ≤ height_bound n
Lawful-short g ss n l =
    omega (arith, length-total ss, total-mono (shapes ss) (caps n) (Lawful-ordered g l).sizes, total-caps n)

-- the test identifies the closing bracket
closing-is : (r : Sym) → is_closing r ≡ true → r ≡ Closing
closing-is Closing e = refl
closing-is _ e = cc

-- a bottom symbol is directly above a closing bracket
above-closing : (s r : Sym) (ss : List Sym) → tidy true (s ∷ r ∷ ss) ≡ true → is_bottom_symbol s ≡ true → r ≡ Closing
unfolding tidy
above-closing s r ss h e =
    let p = both-pass (not (is_bottom_symbol s) || is_closing r) (tidy true (r ∷ ss)) h in
    closing-is r (subst (λ (b : Bool). (not b || is_closing r) ≡ true) e p.0)

-- a nullable symbol is at the bottom, or directly above a closing bracket
pub Lawful-last : {moves : Sym → Class → TableEntry} (g : GoodMoves moves) {n : ℕ} (s r : Sym) (ss : List Sym) →
    IsLawful moves (s ∷ r ∷ ss) n →
    may_end_of s ≡ true → r ≡ Closing
Lawful-last g s r ss l h = above-closing s r ss (Lawful-ordered g l).tidied (empty-parts s h).last

-- a nullable symbol takes no closing bracket
pub empty-keeps-open : {moves : Sym → Class → TableEntry} (g : GoodMoves moves) (s : Sym) (rest : List Sym) →
    may_end_of s ≡ true →
    moves s Ket ≡ Take rest → ⊥
empty-keeps-open g s rest h m =
    let t = g.take s Ket rest m in
    no-tail (shapes rest) (shape s) (shapes-cons rest) (empty-parts s h).single (sized-Ket t.kind (shapes rest)
    (shape s) t.takes t.sized_so)

-- if no bracket is open, no closing bracket is taken
pub Lawful-closing : {moves : Sym → Class → TableEntry} (g : GoodMoves moves) (s : Sym) (below rest : List Sym) →
    IsLawful moves (s ∷ below) 0 →
    moves s Ket ≡ Take rest → ⊥
Lawful-closing g s below rest l m =
    let t = g.take s Ket rest m in
    no-room (shapes rest) (shape s) (shapes below) (shapes-cons rest) (shapes-cons below) (sized-Ket t.kind
    (shapes rest) (shape s) t.takes t.sized_so) (Lawful-ordered g l).sizes

-- ---- the laws, in the form of the trait

-- a nullable symbol and what follows it do not begin with the same class
pub Lawful-apart : {moves : Sym → Class → TableEntry} (g : GoodMoves moves) (s : Sym) (c : Class) (rest stack : List Sym)
    (k : ℕ) →
    IsLawful moves (s ∷ stack) k → may_end_of s ≡ true → moves s c ≡ Take rest → stack_after moves c stack ≡ None
Lawful-apart g s c rest [] k l h m = refl
Lawful-apart {moves} g s c rest (r ∷ stack) k l h m =
    let e = Lawful-last g s r stack l h in
    let other : c ≢ Ket = λ q. empty-keeps-open g s rest h (subst (λ (x : Class). moves s x ≡ Take rest) q m) in
    stopped (moves r c) (ap (λ (x : Sym). moves x c) e ∙ g.closes c other)
  where
    stopped : (a : TableEntry) → a ≡ Stop →
        ◌≡◌ {A = Option (List Sym)} (elim a [
          | Take x ↦ Some (x ++ stack)
          | Skip ↦ stack_after moves c stack
          | Stop ↦ None
        ]) None
    stopped Stop e = refl
    stopped Skip e = cc
    stopped (Take x) e = cc

-- BRA leaves a lawful stack with one more open bracket
pub Lawful-open : {moves : Sym → Class → TableEntry} (s : Sym) (rest stack : List Sym) (k : ℕ) →
    IsLawful moves (s ∷ stack) k →
    moves s Bra ≡ Take rest → IsLawful moves (rest ++ stack) (k + 1)
Lawful-open s rest stack k l m = rw add-one (bra {s = s} m l)

-- KET leaves one with one open bracket fewer, and requires an open one
pub Lawful-close : {moves : Sym → Class → TableEntry} (g : GoodMoves moves) (s : Sym) (rest stack : List Sym) (k : ℕ) →
    IsLawful moves (s ∷ stack) k → moves s Ket ≡ Take rest → (below : ℕ) × (k ≡ below + 1) × IsLawful moves
    (rest ++ stack) below
Lawful-close g s rest stack zero l m = absurd (Lawful-closing g s stack rest l m)
Lawful-close g s rest stack (suc k) l m = (k, (omega arith), ket {s = s} m l)

-- ---- few look-ups

-- the symbol of a closing bracket is not nullable
closing-stays : may_end_of Closing ≡ true → ⊥
unfolding may_end_of
closing-stays e = cc

-- at a closing bracket the look-ups end
closing-asked : (r : Sym) (ss : List Sym) → r ≡ Closing → ends_asked may_end_of (r ∷ ss) ≤ 1
unfolding may_end_of
closing-asked Closing ss e = omega arith
closing-asked _ ss e = cc

-- one more look-up if the test passes
one-more : (b : Bool) (n : ℕ) → (b ≡ true → n ≤ 1) → (if b then 1 + n else 1) ≤ 2
one-more true n h = omega (arith, h refl)
one-more false n h = omega arith

-- one more Skip if the symbol is skipped
skips-one : (moves : Sym → Class → TableEntry) (c : Class) (s : Sym) (ss : List Sym) (n : ℕ) →
    (moves s c ≡ Skip → skips_before moves c ss ≤ n) → skips_before moves c (s ∷ ss) ≤ 1 + n
skips-one moves c s ss n h = go (moves s c) h
  where
    go : (a : TableEntry) → (a ≡ Skip → skips_before moves c ss ≤ n) →
        elim a [ Take x ↦ 0 | Skip ↦ 1 + skips_before moves c ss | Stop ↦ 0 ] ≤ 1 + n
    go (Take x) k = omega arith
    go Skip k = omega (arith, k refl)
    go Stop k = omega arith

-- a token skips at most one symbol
pub Lawful-skips : {moves : Sym → Class → TableEntry} (g : GoodMoves moves) (stack : List Sym) (k : ℕ) (c : Class) →
    IsLawful moves stack k →
    skips_before moves c stack ≤ 1
Lawful-skips g [] k c l = omega arith
Lawful-skips {moves} g (s ∷ []) k c l = skips-one moves c s [] 0 (λ e. omega arith)
Lawful-skips {moves} g (s ∷ r ∷ ss) k c l =
    skips-one moves c s (r ∷ ss) 0 (λ e. none (moves r c) (λ q. below-closes e q))
  where
    below-closes : moves s c ≡ Skip → moves r c ≡ Skip → ⊥
    below-closes e q = closing-stays (ap may_end_of (sym (Lawful-last g s r ss l (g.skips s c e))) ∙ g.skips r c q)

    none : (a : TableEntry) → (a ≡ Skip → ⊥) → elim a [ Take x ↦ 0 | Skip ↦ 1 + skips_before moves c ss | Stop ↦ 0 ] ≤ 0
    none (Take x) k = omega arith
    none Skip k = absurd (k refl)
    none Stop k = omega arith

-- at most two look-ups decide whether the rest of a stack is nullable
pub Lawful-ends : {moves : Sym → Class → TableEntry} (g : GoodMoves moves) (stack : List Sym) (k : ℕ) →
    IsLawful moves stack k →
    ends_asked may_end_of stack ≤ 2
Lawful-ends g [] k l = omega arith
Lawful-ends g (s ∷ []) k l = one-more (may_end_of s) 0 (λ h. omega arith)
Lawful-ends g (s ∷ r ∷ ss) k l =
    one-more (may_end_of s) (ends_asked may_end_of (r ∷ ss)) (λ h. closing-asked r ss (Lawful-last g s r ss l h))
