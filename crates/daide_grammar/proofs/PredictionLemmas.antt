-- The laws of prediction that the trait does not state, for the protocol's own grammar.
use Rattle.std.specs.List.{count_by}
use Rattle.std.proofs.lemmas.List.Sums.{sum_by-cons}
use Rattle.std.proofs.lemmas.Bool.{leb-true}
use Rattle.daide_grammar.proofs.Common.{◌≡◌, ℕ, ◌+◌, ◌≤◌, Bool, true, false, nat_le, cond, List, [], ◌∷◌, ◌++◌, length}
use Rattle.daide_grammar.proofs.Common.{Option, None, Some, refl, sym, ◌∙◌, ap, subst, arith, list_all, Class, class_of}
use Rattle.daide_grammar.proofs.Common.{L60, Sym, TableEntry, Take, Skip, Stop, Alternative, entries, entry_at}
use Rattle.daide_grammar.proofs.Common.{may_end_of, table_answer, is_of_kind, StackMatches, stack_after, IsLawful}
use Rattle.daide_grammar.proofs.Common.{SymbolMatches, both-pass, plain_laws}
use Rattle.daide_grammar.specs.declared.symbol.Sym.TheVariants.{Request, Client, MaybeSendGroup, Server, Press}
use Rattle.daide_grammar.specs.declared.symbol.Sym.TheVariants.{Arrangement, Operand, Fact}
use Rattle.daide_grammar.specs.SideMessages.{standard}
use Rattle.daide_grammar.specs.Proofs.RightEntries.{apart, all_apart}
use Rattle.daide_grammar.specs.Proofs.MovesAgree.{apart-sound, find-passes, take-entry, right_parts}

-- ---- two alternatives never begin with the same class

-- the number of entries that take the class
abbrev taking : Class → List Alternative → ℕ
taking c es = count_by (λ e. is_of_kind e.kind c) es

-- that number, with one more entry in front
taking-cons : (c : Class) (e : Alternative) (es : List Alternative) → taking c (e ∷ es) ≡ cond (is_of_kind e.kind c) 1 0 + taking c es
taking-cons c e es = sum_by-cons (λ (x : Alternative). cond (is_of_kind x.kind c) 1 0) e es

-- if one entry takes the class, no entry apart from it does
others-none : (c : Class) (e : Alternative) (es : List Alternative) → is_of_kind e.kind c ≡ true →
    list_all (λ f. apart e.kind f.kind) es ≡ true →
    taking c es ≡ 0
others-none c e [] h a = refl
others-none c e (f ∷ es) h a =
    let p = both-pass (apart e.kind f.kind) (list_all (λ g. apart e.kind g.kind) es) a in
    taking-cons c f es ∙ (ap (λ n. cond (is_of_kind f.kind c) 1 0 + n) (others-none c e es h p.1)
    ∙ none (is_of_kind f.kind c) (λ i. apart-sound e.kind f.kind c p.0 h i))
  where
    none : (b : Bool) → (b ≡ true → ⊥) → cond b 1 0 + 0 ≡ 0
    none true k = absurd (k refl)
    none false k = refl

-- of entries that are pairwise apart, at most one takes a class
at-most-one : (c : Class) (es : List Alternative) → all_apart es ≡ true → taking c es ≤ 1
unfolding all_apart
at-most-one c [] a = omega arith
at-most-one c (e ∷ es) a =
    let p = both-pass (list_all (λ f. apart e.kind f.kind) es) (all_apart es) a in
    one-or-none (is_of_kind e.kind c) refl (at-most-one c es p.1) p.0
  where
    one-or-none : (b : Bool) → is_of_kind e.kind c ≡ b → taking c es ≤ 1 → list_all (λ f. apart e.kind f.kind) es ≡ true →
        taking c (e ∷ es) ≤ 1
    one-or-none true h few a =
        subst (λ (n : ℕ). n ≤ 1) (sym (taking-cons c e es ∙ ap (λ (b : Bool). cond b 1 0 + taking c es) h))
        (omega (arith, others-none c e es h a))
    one-or-none false h few a =
        subst (λ (n : ℕ). n ≤ 1) (sym (taking-cons c e es ∙ ap (λ (b : Bool). cond b 1 0 + taking c es) h))
        (omega (arith, few))

-- at most one alternative of a symbol begins with a class
pub alternatives-differ : (s : Sym) (c : Class) → taking c (entries s) ≤ 1
alternatives-differ s c = at-most-one c (entries s) (right_parts standard s).kinds_apart

-- ---- rests are short

-- A test that computes: no entry has more than twelve symbols in its rest.
rests-short : (s : Sym) → list_all (λ e. nat_le (length e.rest) 12) (entries s) ≡ true
unfolding entries
rests-short (Request L60) = refl
rests-short (Client L60) = refl
rests-short (MaybeSendGroup L60) = refl
rests-short (Server L60) = refl
rests-short (Press L60) = refl
rests-short (Arrangement L60) = refl
rests-short (Operand L60) = refl
rests-short (Fact L60) = refl
rests-short _ = refl

-- so no Take has more
pub short-rest : (s : Sym) (c : Class) (rest : List Sym) → table_answer s c ≡ Take rest → length rest ≤ 12
unfolding table_answer
short-rest s c rest a =
    let t = take-entry (entry_at c (entries s)) (may_end_of s) rest a in
    subst (λ (r : List Sym). length r ≤ 12) t.2
    (leb-true (length t.0.rest) 12 (find-passes (λ e. nat_le (length e.rest) 12) c (entries s) t.0 (rests-short s)
    t.1))

-- ---- neighbours never begin with the same token

-- if no symbol of the stack takes the token, no list of the stack begins with it
pub none-begins : (stack : List Sym) (t : ℕ) (m : List ℕ) →
    ◌≡◌ {A = Option (List Sym)} (stack_after table_answer (class_of t) stack) None →
    StackMatches SymbolMatches stack (t ∷ m) → ⊥
none-begins [] t m e h = cc
none-begins (s ∷ stack) t m e h =
    by_answer (λ k x. none-begins stack t m k x) (table_answer s (class_of t)) refl e h.0 h.2 h.3 h.4
  where
    by_answer : (◌≡◌ {A = Option (List Sym)} (stack_after table_answer (class_of t) stack) None →
        StackMatches SymbolMatches stack (t ∷ m) → ⊥) →
        (a : TableEntry) → table_answer s (class_of t) ≡ a →
        ◌≡◌ {A = Option (List Sym)} (elim a [
          | Take rest ↦ Some (rest ++ stack)
          | Skip ↦ stack_after table_answer (class_of t) stack
          | Stop ↦ None
        ]) None →
        (u : List ℕ) → t ∷ m ≡ u ++ h.1 → SymbolMatches s u → StackMatches SymbolMatches stack h.1 → ⊥
    by_answer go (Take rest) a e u q x y = cc
    by_answer go Skip a e [] q x y = go e (subst (StackMatches SymbolMatches stack) (sym q) y)
    by_answer go Skip a e (v ∷ u) q x y =
        plain_laws.skips_none s t a u (subst (λ (z : ℕ). SymbolMatches s (z ∷ u)) (cc) x)
    by_answer go Stop a e [] q x y = plain_laws.stops_empty s t a x
    by_answer go Stop a e (v ∷ u) q x y =
        plain_laws.stops_none s t a u (subst (λ (z : ℕ). SymbolMatches s (z ∷ u)) (cc) x)

-- on a lawful stack no token begins both a nullable symbol and what follows it
pub neighbours-differ : (s : Sym) (below : List Sym) (k t : ℕ) (m n : List ℕ) → IsLawful table_answer (s ∷ below) k →
    may_end_of s ≡ true →
    SymbolMatches s (t ∷ m) → StackMatches SymbolMatches below (t ∷ n) → ⊥
neighbours-differ s below k t m n l e x = by_answer (table_answer s (class_of t)) refl
  where
    by_answer : (a : TableEntry) → table_answer s (class_of t) ≡ a → StackMatches SymbolMatches below (t ∷ n) → ⊥
    by_answer (Take rest) a = none-begins below t n (plain_laws.neighbours_differ s (class_of t) rest below k l e a)
    by_answer Skip a = absurd (plain_laws.skips_none s t a m x)
    by_answer Stop a = absurd (plain_laws.stops_none s t a m x)
