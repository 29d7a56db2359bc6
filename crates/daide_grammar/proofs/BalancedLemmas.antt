-- The brackets of every message balance, and `any` is every list whose brackets balance.
use Rattle.daide_grammar.proofs.Common.{◌≡◌, ◌≢◌, ℕ, Bool, true, ◌&&◌, List, [], ◌∷◌, ◌++◌, ◌↔◌, refl, sym, subst}
use Rattle.daide_grammar.proofs.Common.{append_assoc, append-nil, Bra, Ket, bra, ket, Level, L60, Side2, rule, Matches}
use Rattle.daide_grammar.proofs.Common.{token, nothing, both, first, second, no_more, one_more, bracketed, by_name}
use Rattle.daide_grammar.proofs.Common.{both-pass, is_of_kind}
use Rattle.daide_grammar.specs.declared.side.Side2.TheVariants.{Client, ServerEnd}
use Rattle.daide_grammar.specs.Forms.{is, any_but_brackets, Accepts, Slot, Nonterminal, Request_name, Send_name, Press_name}
use Rattle.daide_grammar.specs.Forms.{Arrangement_name, Flat_name, Fact_name, Added, Form, one, never, empty, ◌·◌, ◌∣◌}
use Rattle.daide_grammar.specs.Forms.{many, group, named, Dialect}
use Rattle.daide_grammar.specs.Message.Lists.{any, anything}
use Rattle.daide_grammar.specs.Balanced.{IsBalanced}
use Rattle.daide_grammar.specs.Balanced as Rules
use Rattle.daide_grammar.specs.SideMessages.{message_form}
use Rattle.daide_grammar.specs.Proofs.TokenTests.{accepted}

-- a dialect in which a bracket is the only token of its class
pub record KeepsBrackets (d : Dialect) : Type 0 where
  pub bras : (t : ℕ) → (d.class_of t ≡ Bra) ↔ (t ≡ bra)
  pub kets : (t : ℕ) → (d.class_of t ≡ Ket) ↔ (t ≡ ket)

-- a form with paired brackets: none of its single tokens is a bracket
unfoldable pub paired : Form → Bool
paired (one (is c)) = is_of_kind any_but_brackets c
paired (one any_but_brackets) = true
paired never = true
paired empty = true
paired (f · g) = paired f && paired g
paired (f ∣ g) = paired f && paired g
paired (many f) = paired f
paired (group f) = paired f
paired (named n) = true

-- a token that `any_but_brackets` accepts is no bracket, so it is a balanced list by itself
word-balanced : (d : Dialect) → KeepsBrackets d → (t : ℕ) → Accepts any_but_brackets (d.class_of t) → IsBalanced (t ∷ [])
word-balanced d keeps t h = Rules.plain t (λ e. h.0 ((keeps.bras t).1 e)) (λ e. h.1 ((keeps.kets t).1 e))

-- a balanced list between two tokens that are brackets
in-brackets : (b k : ℕ) (u : List ℕ) → b ≡ bra → k ≡ ket → IsBalanced u → IsBalanced (b ∷ (u ++ k ∷ []))
in-brackets b k u e f h =
    subst (λ (x : ℕ). IsBalanced (x ∷ (u ++ k ∷ []))) (sym e)
    (subst (λ (x : ℕ). IsBalanced (bra ∷ (u ++ x ∷ []))) (sym f) (Rules.bracketed u h))

-- a list that matches a form with paired brackets balances
pub matches-balance : (d : Dialect) → KeepsBrackets d → ((n : Nonterminal) → paired (rule d n) ≡ true) →
    (f : Form) (w : List ℕ) →
    paired f ≡ true → Matches d f w → IsBalanced w
unfolding paired
matches-balance d keeps all (one (is c)) w e (token {t = t} h) =
    word-balanced d keeps t (subst (Accepts any_but_brackets) (sym h) (accepted any_but_brackets c e))
matches-balance d keeps all (one any_but_brackets) w e (token {t = t} h) = word-balanced d keeps t h
matches-balance d keeps all never w e m = elim m [ ]
matches-balance d keeps all empty w e nothing = Rules.empty
matches-balance d keeps all (f · g) w e (both {u = u} {v = v} m n) =
    let p = both-pass (paired f) (paired g) e in
    Rules.joined u v (matches-balance d keeps all f u p.0 m) (matches-balance d keeps all g v p.1 n)
matches-balance d keeps all (f ∣ g) w e (first m) =
    matches-balance d keeps all f w (both-pass (paired f) (paired g) e).0 m
matches-balance d keeps all (f ∣ g) w e (second m) =
    matches-balance d keeps all g w (both-pass (paired f) (paired g) e).1 m
matches-balance d keeps all (many f) w e no_more = Rules.empty
matches-balance d keeps all (many f) w e (one_more {u = u} {v = v} m n) =
    Rules.joined u v (matches-balance d keeps all f u e m) (matches-balance d keeps all (many f) v e n)
matches-balance d keeps all (group f) w e (bracketed {u = u} b k h m i) =
    in-brackets b k u ((keeps.bras b).0 h) ((keeps.kets k).0 i) (matches-balance d keeps all f u e m)
matches-balance d keeps all (named n) w e (by_name m) = matches-balance d keeps all (rule d n) w (all n) m

-- every rule has paired brackets if the added words have
pub rules_paired : (d : Dialect) → ((s : Slot) (l : Level) → paired (d.added s l) ≡ true) → (n : Nonterminal) →
    paired (rule d n) ≡ true
unfolding paired
rules_paired d h (Added s l) = h s l
rules_paired d h (Arrangement_name L60) = refl
rules_paired d h (Flat_name L60) = refl
rules_paired d h (Fact_name L60) = refl
rules_paired d h (Press_name L60) = refl
rules_paired d h (Send_name L60) = refl
rules_paired d h (Request_name L60) = refl
rules_paired d h _ = refl

-- and so do the forms of messages
messages_paired : (side : Side2) (l : Level) → paired (message_form side l) ≡ true
unfolding paired
messages_paired Client L60 = refl
messages_paired ServerEnd L60 = refl
messages_paired _ _ = refl

-- the brackets of a message other than the report PRN balance
pub message-balanced : (d : Dialect) → KeepsBrackets d → ((s : Slot) (l : Level) → paired (d.added s l) ≡ true) →
    (side : Side2) (l : Level) (w : List ℕ) → Matches d (message_form side l) w → IsBalanced w
message-balanced d keeps h side l w m =
    matches-balance d keeps (rules_paired d h) (message_form side l) w (messages_paired side l) m

-- ---- `any` is every list whose brackets balance

-- two lists of a repetition, concatenated, are a list of it
many-join : (d : Dialect) (f : Form) (u v : List ℕ) → Matches d (many f) u → Matches d (many f) v →
    Matches d (many f) (u ++ v)
many-join d f u v no_more n = n
many-join d f u v (one_more {u = a} {v = b} m r) n =
    subst (Matches d (many f)) (sym (append_assoc a b v)) (one_more m (many-join d f b v r n))

-- one list of a form is a repetition of it
some-one : (d : Dialect) (f : Form) (u : List ℕ) → Matches d f u → Matches d (many f) u
some-one d f u m = subst (Matches d (many f)) (append-nil u) (one_more m no_more)

-- a token other than a bracket is a word
any-word : (d : Dialect) → KeepsBrackets d → (t : ℕ) → t ≢ bra → t ≢ ket → Accepts any_but_brackets (d.class_of t)
any-word d keeps t b k = (λ e. b ((keeps.bras t).0 e), λ e. k ((keeps.kets t).0 e))

-- BRA is a token of its own class
pub bra-accepted : (d : Dialect) → KeepsBrackets d → d.class_of bra ≡ Bra
bra-accepted d keeps = (keeps.bras bra).1 refl

-- KET is a token of its own class
pub ket-accepted : (d : Dialect) → KeepsBrackets d → d.class_of ket ≡ Ket
ket-accepted d keeps = (keeps.kets ket).1 refl

-- a balanced list consists of words and lists in brackets
balanced-anything : (d : Dialect) → KeepsBrackets d → {w : List ℕ} → IsBalanced w → Matches d anything w
balanced-anything d keeps Rules.empty = no_more
balanced-anything d keeps (Rules.plain t b k) =
    some-one d (one any_but_brackets ∣ group any) (t ∷ []) (first (token (any-word d keeps t b k)))
balanced-anything d keeps (Rules.joined u v x y) =
    many-join d (one any_but_brackets ∣ group any) u v (balanced-anything d keeps x) (balanced-anything d keeps y)
balanced-anything d keeps (Rules.bracketed u x) =
    some-one d (one any_but_brackets ∣ group any) _
    (second (bracketed bra ket (bra-accepted d keeps) (by_name (balanced-anything d keeps x))
    (ket-accepted d keeps)))

-- `any` is exactly the lists whose brackets balance
pub any-balanced : (d : Dialect) → KeepsBrackets d → ((s : Slot) (l : Level) → paired (d.added s l) ≡ true) →
    (w : List ℕ) →
    Matches d any w ↔ IsBalanced w
unfolding paired
any-balanced d keeps h w = (
  λ m. matches-balance d keeps (rules_paired d h) any w refl m,
  λ b. by_name
      (balanced-anything d keeps b),
)
