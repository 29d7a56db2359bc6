-- The lists of tokens that match a form.
use Rattle.std.specs.Prelude.{◌≡◌, ℕ, List, [], ◌∷◌, ◌++◌}
use Rattle.daide_token.specs.declared.class.Class.TheVariants.{Bra, Ket}
use Rattle.daide_grammar.specs.Forms.{TokenTest, Accepts, Nonterminal, Any_name, Place_name, Unit_name, Order_name}
use Rattle.daide_grammar.specs.Forms.{Arrangement_name, Flat_name, Fact_name, Press_name, Send_name, Request_name}
use Rattle.daide_grammar.specs.Forms.{Added, Form, one, empty, ◌·◌, ◌∣◌, many, group, named, Dialect}
use Rattle.daide_grammar.specs.Message.Lists.{anything}
use Rattle.daide_grammar.specs.Message.Places.{place_rule, unit_rule}
use Rattle.daide_grammar.specs.Message.Orders.{order_rule}
use Rattle.daide_grammar.specs.Message.Arrangements.{arrangement_rule, flat_rule, fact_rule}
use Rattle.daide_grammar.specs.Message.Press.{press_rule, send_rule}
use Rattle.daide_grammar.specs.Message.Client.{request_rule}

-- the form of each name
abbrev pub rule : Dialect → Nonterminal → Form
rule d Any_name = anything
rule d Place_name = place_rule
rule d Unit_name = unit_rule
rule d Order_name = order_rule
rule d (Arrangement_name l) = arrangement_rule l
rule d (Flat_name l) = flat_rule l
rule d (Fact_name l) = fact_rule l
rule d (Press_name l) = press_rule l
rule d (Send_name l) = send_rule l
rule d (Request_name l) = request_rule l
rule d (Added s l) = d.added s l

-- matching in a dialect: one line for each kind of form, independent of any reading order
pub data Matches (d : Dialect) : Form → List ℕ → Type 0 where
  token : {k : TokenTest} {t : ℕ} → Accepts k (d.class_of t) → Matches d (one k) (t ∷ [])
  nothing : Matches d empty []
  both : {f g : Form} {u v : List ℕ} → Matches d f u → Matches d g v → Matches d (f · g) (u ++ v)
  first : {f g : Form} {w : List ℕ} → Matches d f w → Matches d (f ∣ g) w
  second : {f g : Form} {w : List ℕ} → Matches d g w → Matches d (f ∣ g) w
  no_more : {f : Form} → Matches d (many f) []
  one_more : {f : Form} {u v : List ℕ} → Matches d f u → Matches d (many f) v → Matches d (many f) (u ++ v)
  bracketed : {f : Form} {u : List ℕ} (b k : ℕ) → d.class_of b ≡ Bra → Matches d f u → d.class_of k ≡ Ket →
      Matches d (group f) (b ∷ (u ++ k ∷ []))
  by_name : {n : Nonterminal} {w : List ℕ} → Matches d (rule d n) w → Matches d (named n) w

-- the list is a concatenation of parts that match the forms in order
abbrev pub MatchAll : Dialect → List Form → List ℕ → Type 0
MatchAll d [] w = w ≡ []
MatchAll d (f ∷ fs) w = (u : List ℕ) × (v : List ℕ) × Matches d f u × MatchAll d fs v × (u ++ v ≡ w)
