-- Forms of messages: the notation of the grammar. A form describes a set of token lists, independent of any reading
-- order; `Matches` defines which lists match it.
use Rattle.std.specs.Prelude.{◌≡◌, ◌≢◌, ℕ, true, false, nat_le}
use Rattle.daide_token.specs.declared.class.Class.{Class}
use Rattle.daide_token.specs.declared.class.Class.TheVariants.{Bra, Ket}
use Rattle.daide_grammar.specs.declared.level.Level.{Level}
use Rattle.daide_grammar.specs.Level.{level_number}

-- the test of a single token in a form
pub data TokenTest : Type 0 where
  is : Class → TokenTest  -- a token of this class
  any_but_brackets : TokenTest  -- any token but the two brackets

-- the test accepts a token of the class
abbrev pub Accepts : TokenTest → Class → Type 0
Accepts (is c) d = d ≡ c
Accepts any_but_brackets d = (d ≢ Bra) × (d ≢ Ket)

-- the positions of an operator's word: as a press, as an arrangement, and as an arrangement without AND and ORR
pub data Slot : Type 0 where
  Press_slot Arrangement_slot Flat_slot : Slot

-- the forms with a name, since they are recursive or used in many places; `rule` gives the definition of each
pub data Nonterminal : Type 0 where
  Any_name Place_name Unit_name Order_name : Nonterminal
  Arrangement_name : Level → Nonterminal
  Flat_name : Level → Nonterminal
  Fact_name : Level → Nonterminal
  Press_name : Level → Nonterminal
  Send_name : Level → Nonterminal
  Request_name : Level → Nonterminal
  Added : Slot → Level → Nonterminal

infixr 60 ◌·◌
infixr 55 ◌∣◌
pub data Form : Type 0 where
  one : TokenTest → Form  -- one token
  never : Form  -- no list at all
  empty : Form  -- the empty list
  ◌·◌ : Form → Form → Form  -- the one and then the other
  ◌∣◌ : Form → Form → Form  -- the one or the other
  many : Form → Form  -- none or more, one after the other
  group : Form → Form  -- in brackets
  named : Nonterminal → Form  -- what the name stands for

-- what an operator's words change: the classes of their codes, and the forms that begin with them
pub record Dialect : Type 0 where
  pub class_of : ℕ → Class
  pub added : Slot → Level → Form

-- one token of the class
abbrev pub tok : Class → Form
tok c = one (is c)

-- one or more
abbrev pub some : Form → Form
some f = f · many f

-- none or one
abbrev pub maybe : Form → Form
maybe f = empty ∣ f

-- the form f, at the levels l from a on
abbrev pub from_level : Level → Level → Form → Form
from_level a l f = elim (nat_le (level_number a) (level_number l)) [ true ↦ f | false ↦ never ]
