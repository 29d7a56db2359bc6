-- The laws of every table of predictions. (own)
use Rattle.std.specs.Prelude.{◌≡◌, ◌≢◌, ℕ, ◌+◌, ◌≤◌, Bool, true, None, List, [], ◌∷◌, ◌++◌, length, ◌↔◌}
use Rattle.daide_token.specs.declared.class.Class.{Class}
use Rattle.daide_token.specs.declared.class.Class.TheVariants.{Bra, Ket}
use Rattle.daide_token.specs.Token.{bra, ket}
use Rattle.daide_grammar.specs.declared.symbol.Sym.{Sym}
use Rattle.daide_grammar.specs.Bounds.{height_bound, most_steps}
use Rattle.daide_grammar.specs.Table.Answers.{TableEntry, Take, Skip, Stop}
use Rattle.daide_grammar.specs.Table.Stacks.{StackMatches, stack_after, skips_before, ends_asked}

-- The laws of prediction. That no two alternatives of a symbol begin with the same class follows from `moves` being a
-- function.
pub record IsCorrectPrediction (class_of : ℕ → Class) (language : Sym → List ℕ → Type 0) (moves : Sym → Class → TableEntry)
    (may_end : Sym → Bool) (lawful : List Sym → ℕ → Type 0) : Type 0 where
  -- a bracket is the only token of its class
  pub only_bra : (t : ℕ) → (class_of t ≡ Bra) ↔ (t ≡ bra)
  pub only_ket : (t : ℕ) → (class_of t ≡ Ket) ↔ (t ≡ ket)
  -- Moves agree with the languages. At a Take, a list of the symbol begins with the token exactly if the remaining list
  -- is one of the rest.
  pub takes : (s : Sym) (t : ℕ) (rest : List Sym) → moves s (class_of t) ≡ Take rest →
      (r : List ℕ) → language s (t ∷ r) ↔ StackMatches language rest r
  -- At a Skip the symbol is nullable, and none of its lists begins with the token.
  pub skips_empty : (s : Sym) (t : ℕ) → moves s (class_of t) ≡ Skip → language s []
  pub skips_none : (s : Sym) (t : ℕ) → moves s (class_of t) ≡ Skip → (r : List ℕ) → ¬ language s (t ∷ r)
  -- At a Stop the symbol is not nullable, and none of its lists begins with the token.
  pub stops_empty : (s : Sym) (t : ℕ) → moves s (class_of t) ≡ Stop → ¬ language s []
  pub stops_none : (s : Sym) (t : ℕ) → moves s (class_of t) ≡ Stop → (r : List ℕ) → ¬ language s (t ∷ r)
  -- the nullable symbols are those with the empty list
  pub ends : (s : Sym) → (may_end s ≡ true) ↔ language s []
  pub no_language_is_empty : (s : Sym) → (r : List ℕ) × language s r
  -- a nullable symbol and what follows it on a lawful stack never begin with the same class
  pub neighbours_differ : (s : Sym) (c : Class) (rest stack : List Sym) (k : ℕ) → lawful (s ∷ stack) k →
      may_end s ≡ true → moves s c ≡ Take rest → stack_after moves c stack ≡ None
  -- Stacks stay lawful: BRA opens a bracket, KET closes an open one, and every other token keeps the count.
  pub lawful_skip : (s : Sym) (c : Class) (stack : List Sym) (k : ℕ) →
      lawful (s ∷ stack) k → moves s c ≡ Skip → lawful stack k
  pub lawful_take : (s : Sym) (c : Class) (rest stack : List Sym) (k : ℕ) →
      lawful (s ∷ stack) k → moves s c ≡ Take rest → c ≢ Bra → c ≢ Ket → lawful (rest ++ stack) k
  pub lawful_open : (s : Sym) (rest stack : List Sym) (k : ℕ) →
      lawful (s ∷ stack) k → moves s Bra ≡ Take rest → lawful (rest ++ stack) (k + 1)
  pub lawful_close : (s : Sym) (rest stack : List Sym) (k : ℕ) →
      lawful (s ∷ stack) k → moves s Ket ≡ Take rest → (less : ℕ) × (k ≡ less + 1) × lawful (rest ++ stack) less
  -- The open brackets bound the stack, and a token needs few look-ups. At most two symbols are skipped, and one symbol
  -- may need a second look-up for a word: at most four look-ups a token.
  pub few_entries : (stack : List Sym) (k : ℕ) → lawful stack k → length stack ≤ height_bound k
  pub few_skips : (stack : List Sym) (k : ℕ) (c : Class) → lawful stack k → skips_before moves c stack ≤ 2
  pub few_ends : (stack : List Sym) → lawful stack 0 → ends_asked may_end stack ≤ most_steps
