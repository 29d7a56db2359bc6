use Rattle.daide_grammar.proofs.Common.{◌≡◌, ◌<◌, [], ◌∷◌, true, false, nat_le, drop, subst, arith, nat_tests}
use Rattle.daide_grammar.proofs.Common.{TableEntry, first_at, symbol_at, rest_of}
use Rattle.daide_grammar.proofs.RulesFit.{first_fits, first_small, no_rest}
use Rattle.daide_grammar.proofs.predict.Move.first.Goals as goal

pub at-requires : goal.at-requires
at-requires c = omega (arith, c.self.invariant.1, first_small c.self.inside.rule)

pub returns-clause-first : goal.returns-clause-first
returns-clause-first c =
    let n = c.self.inside.rule in
    let less : n < 256 = omega arith in
    let many = c.if-self-le-TAKE.false in
    let some : nat_le n 2 ≡ false = grind (arith, nat_tests) in
    rw c.at.ensures (rw c.self.invariant.1
    (subst (λ (a : TableEntry). rest_of a ≡ symbol_at (first_at n) ∷ drop 1 (rest_of a)) c.self.view_is
    (first_fits n less some)))

pub returns-then-self-le-TAKE-clause-none : goal.returns-then-self-le-TAKE-clause-none
returns-then-self-le-TAKE-clause-none c =
    let n = c.self.inside.rule in
    let less : n < 256 = omega arith in
    let few = c.if-self-le-TAKE.true in
    let none : nat_le n 2 ≡ true = grind (arith, nat_tests) in
    subst (λ (a : TableEntry). rest_of a ≡ []) c.self.view_is (no_rest n less none)
