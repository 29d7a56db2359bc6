-- Decides whether a list of tokens is a message from a given side, by following the table.
use Rattle.daide_grammar.proofs.Common.{◌≡◌, ◌≢◌, ℕ, ◌+◌, Bool, true, false, ◌&&◌, List, [], ◌∷◌, ◌++◌, Option, None}
use Rattle.daide_grammar.proofs.Common.{Some, ◌↔◌, refl, sym, ◌∙◌, ap, subst, append_assoc, eqb-true, Class, Bra, Ket}
use Rattle.daide_grammar.proofs.Common.{class_of, Sym, class_number, same_class, TableEntry, Take, Skip, Stop}
use Rattle.daide_grammar.proofs.Common.{may_end_of, table_answer, StackMatches, stack_after, IsLawful, SymbolMatches}
use Rattle.daide_grammar.proofs.Common.{both-pass, no-yes, plain_laws}
use Rattle.daide_grammar.specs.Proofs.StacksInOrder.{number-Bra, number-Ket}
use Rattle.daide_grammar.proofs.PredictionLemmas.{none-begins}

-- whether the table follows the whole list from the stack, and the rest of the stack is nullable
abbrev pub follows : List Sym → List ℕ → Bool
follows [] [] = true
follows (s ∷ stack) [] = may_end_of s && follows stack []
follows stack (t ∷ m) = elim (stack_after table_answer (class_of t) stack) [ None ↦ false | Some next ↦ follows next m ]

-- ---- the language of two stacks, one on top of the other

-- a list of the upper stack followed by one of the lower stack is a list of the whole
joined : (rest stack : List Sym) (u v : List ℕ) → StackMatches SymbolMatches rest u →
    StackMatches SymbolMatches stack v →
    StackMatches SymbolMatches (rest ++ stack) (u ++ v)
joined [] stack u v e h = subst (λ (x : List ℕ). StackMatches SymbolMatches stack (x ++ v)) (sym e) h
joined (s ∷ rest) stack u v h k =
    (h.0, h.1 ++ v, ap (λ x. x ++ v) h.2 ∙ append_assoc h.0 h.1 v, h.3, joined rest stack h.1 v h.4 k)

-- and conversely
divided : (rest stack : List Sym) (m : List ℕ) → StackMatches SymbolMatches (rest ++ stack) m →
    (u v : List ℕ) × (m ≡ u ++ v) × StackMatches SymbolMatches rest u × StackMatches SymbolMatches stack v
divided [] stack m h = ([], m, refl, refl, h)
divided (s ∷ rest) stack m h =
    let k = divided rest stack h.1 h.4 in
    (h.0 ++ k.0, k.1, h.2 ∙ (ap (λ x. h.0 ++ x) k.2 ∙ sym (append_assoc h.0 k.0 k.1)), (h.0, k.0, refl, h.3, k.3), k.4)

-- ---- one token

-- a class is BRA, KET or neither
data Sort (c : Class) : Type 0 where
  opens : c ≡ Bra → Sort c
  closes : c ≡ Ket → Sort c
  neither : c ≢ Bra → c ≢ Ket → Sort c

-- every class is one of the three
sort_of : (c : Class) → Sort c
sort_of c = go (same_class Bra c) (same_class Ket c) refl refl
  where
    go : (a b : Bool) → same_class Bra c ≡ a → same_class Ket c ≡ b → Sort c
    go true b x y = opens (number-Bra c (sym (eqb-true 0 (class_number c) x)))
    go false true x y = closes (number-Ket c (sym (eqb-true 1 (class_number c) y)))
    go false false x y =
        neither (λ e. no-yes (same_class Bra c) (ap (same_class Bra) e) x)
        (λ e. no-yes (same_class Ket c) (ap (same_class Ket) e) y)

-- a stack that is lawful with some number of open brackets
abbrev Arises : List Sym → Type 0
Arises stack = (k : ℕ) × IsLawful table_answer stack k

-- a Take keeps a stack lawful, whatever the class
arises-taken : (s : Sym) (c : Class) (rest stack : List Sym) → Arises (s ∷ stack) → table_answer s c ≡ Take rest →
    Arises (rest ++ stack)
arises-taken s c rest stack l a = by_sort (sort_of c)
  where
    by_sort : Sort c → Arises (rest ++ stack)
    by_sort (opens e) = (
      l.0 + 1,
      plain_laws.lawful_open s rest stack l.0 l.1
          (subst (λ (x : Class). table_answer s x ≡ Take rest) e a),
    )
    by_sort (closes e) =
        let k = plain_laws.lawful_close s rest stack l.0 l.1 (subst (λ (x : Class). table_answer s x ≡ Take rest) e a)
        in (k.0, k.2)
    by_sort (neither b k) = (l.0, plain_laws.lawful_take s c rest stack l.0 l.1 a b k)

-- and so does a token that skips some symbols first
arises-after : (c : Class) (stack next : List Sym) → Arises stack →
    ◌≡◌ {A = Option (List Sym)} (stack_after table_answer c stack) (Some next) → Arises next
arises-after c [] next l e = cc
arises-after c (s ∷ stack) next l e = by_answer (λ h. arises-after c stack next h) (table_answer s c) refl e
  where
    by_answer : (Arises stack → ◌≡◌ {A = Option (List Sym)} (stack_after table_answer c stack) (Some next) →
        Arises next) → (a : TableEntry) →
        table_answer s c ≡ a →
        ◌≡◌ {A = Option (List Sym)} (elim a [
          | Take rest ↦ Some (rest ++ stack)
          | Skip ↦ stack_after table_answer c stack
          | Stop ↦ None
        ]) (Some next) → Arises next
    by_answer go (Take rest) a e = let q : rest ++ stack ≡ next = cc in subst Arises q (arises-taken s c rest stack l a)
    by_answer go Skip a e = go (l.0, plain_laws.lawful_skip s c stack l.0 l.1 a) e
    by_answer go Stop a e = cc

-- the lists that begin with the token continue as lists of the stack after it
abbrev GoesOn : List Sym → List Sym → ℕ → List ℕ → Type 0
GoesOn stack next t m = StackMatches SymbolMatches stack (t ∷ m) ↔ StackMatches SymbolMatches next m

-- a list that begins with the token, in two parts, the first of which is not empty
first-same : (t v : ℕ) (m u b : List ℕ) → t ∷ m ≡ (v ∷ u) ++ b → (v ≡ t) × (m ≡ u ++ b)
first-same t v m u b e = ((cc), (cc))

-- if the first symbol takes the token
goes-on-taken : (s : Sym) (rest stack : List Sym) (t : ℕ) (m : List ℕ) → Arises (s ∷ stack) →
    table_answer s (class_of t) ≡ Take rest →
    GoesOn (s ∷ stack) (rest ++ stack) t m
goes-on-taken s rest stack t m l a = (
  λ h. by_front h.0 h.1 h.2 h.3 h.4,
  λ h. let k = divided rest stack m h in
      (t ∷ k.0, k.1, ap (λ x. t ∷ x) k.2, (plain_laws.takes s t rest a k.0).1 k.3, k.4),
)
  where
    by_front : (u v : List ℕ) → t ∷ m ≡ u ++ v → SymbolMatches s u → StackMatches SymbolMatches stack v →
        StackMatches SymbolMatches (rest ++ stack) m
    by_front [] v e x y =
        absurd (none-begins stack t m (plain_laws.neighbours_differ s (class_of t) rest stack l.0 l.1
        ((plain_laws.ends s).1 x) a)
        (subst (StackMatches SymbolMatches stack) (sym e) y))
    by_front (z ∷ u) v e x y =
        let q = first-same t z m u v e in
        subst (StackMatches SymbolMatches (rest ++ stack)) (sym q.1)
        (joined rest stack u v ((plain_laws.takes s t rest a u).0
        (subst (λ (n : ℕ). SymbolMatches s (n ∷ u)) q.0 x)) y)

-- if the first symbol is skipped
goes-on-skipped : (s : Sym) (stack : List Sym) (t : ℕ) (m : List ℕ) → table_answer s (class_of t) ≡ Skip →
    StackMatches SymbolMatches (s ∷ stack) (t ∷ m) ↔ StackMatches SymbolMatches stack (t ∷ m)
goes-on-skipped s stack t m a =
    (λ h. by_front h.0 h.1 h.2 h.3 h.4, λ h. ([], t ∷ m, refl, plain_laws.skips_empty s t a, h))
  where
    by_front : (u v : List ℕ) → t ∷ m ≡ u ++ v → SymbolMatches s u → StackMatches SymbolMatches stack v →
        StackMatches SymbolMatches stack (t ∷ m)
    by_front [] v e x y = subst (StackMatches SymbolMatches stack) (sym e) y
    by_front (z ∷ u) v e x y =
        absurd (plain_laws.skips_none s t a u (subst (λ (n : ℕ). SymbolMatches s (n ∷ u)) (first-same t z m u v e).0 x))

-- for any symbol that takes the token
goes-on : (stack next : List Sym) (t : ℕ) (m : List ℕ) → Arises stack →
    ◌≡◌ {A = Option (List Sym)} (stack_after table_answer (class_of t) stack) (Some next) → GoesOn stack next t m
goes-on [] next t m l e = cc
goes-on (s ∷ stack) next t m l e = by_answer (λ h. goes-on stack next t m h) (table_answer s (class_of t)) refl e
  where
    by_answer : (Arises stack → ◌≡◌ {A = Option (List Sym)} (stack_after table_answer (class_of t) stack) (Some next) →
        GoesOn stack next t m) →
        (a : TableEntry) → table_answer s (class_of t) ≡ a →
        ◌≡◌ {A = Option (List Sym)} (elim a [
          | Take rest ↦ Some (rest ++ stack)
          | Skip ↦ stack_after table_answer (class_of t) stack
          | Stop ↦ None
        ]) (Some next) →
        GoesOn (s ∷ stack) next t m
    by_answer go (Take rest) a e =
        let q : rest ++ stack ≡ next = cc in
        subst (λ (x : List Sym). GoesOn (s ∷ stack) x t m) q (goes-on-taken s rest stack t m l a)
    by_answer go Skip a e =
        let k = go (l.0, plain_laws.lawful_skip s (class_of t) stack l.0 l.1 a) e in
        let p = goes-on-skipped s stack t m a in
        (λ h. k.0 (p.0 h), λ h. p.1 (k.1 h))
    by_answer go Stop a e = cc

-- ---- the whole list

-- at the end of the list the rest of the stack must be nullable
nothing-left : (stack : List Sym) → (follows stack [] ≡ true) ↔ StackMatches SymbolMatches stack []
nothing-left [] = (λ e. refl, λ e. refl)
nothing-left (s ∷ stack) =
    let k = nothing-left stack in (
      λ e. let p = both-pass (may_end_of s) (follows stack []) e in ([], [], refl, (plain_laws.ends s).0 p.0, k.0 p.1),
      λ h. by_front h.0 h.1 h.2 h.3 h.4 k.1,
    )
  where
    by_front : (u v : List ℕ) → [] ≡ u ++ v → SymbolMatches s u → StackMatches SymbolMatches stack v →
        (StackMatches SymbolMatches stack [] → follows stack [] ≡ true) → (may_end_of s && follows stack []) ≡ true
    by_front [] v e x y go =
        ap (λ (b : Bool). b && follows stack []) ((plain_laws.ends s).1 x)
        ∙ go (subst (StackMatches SymbolMatches stack) (sym e) y)
    by_front (z ∷ u) v e x y go = cc

-- the table follows exactly the lists of the stack
pub follows-exactly : (m : List ℕ) (stack : List Sym) → Arises stack →
    (follows stack m ≡ true) ↔ StackMatches SymbolMatches stack m
follows-exactly [] stack l = nothing-left stack
follows-exactly (t ∷ m) stack l =
    by_next (λ next h. follows-exactly m next h) (stack_after table_answer (class_of t) stack) refl
  where
    by_next : ((next : List Sym) → Arises next → (follows next m ≡ true) ↔ StackMatches SymbolMatches next m) →
        (o : Option (List Sym)) →
        ◌≡◌ {A = Option (List Sym)} (stack_after table_answer (class_of t) stack) o →
        ((elim o [ None ↦ false | Some next ↦ follows next m ]) ≡ true) ↔ StackMatches SymbolMatches stack (t ∷ m)
    by_next go None e = (λ h. (cc), λ h. absurd (none-begins stack t m e h))
    by_next go (Some next) e =
        let k = go next (arises-after (class_of t) stack next l e) in
        let p = goes-on stack next t m l e in
        (λ h. p.1 (k.0 h), λ h. k.1 (p.0 h))
