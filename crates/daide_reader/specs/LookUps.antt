-- The table look-ups for a message, if each of its tokens is read once and in order, and none after the one at which the
-- reader stops. (own)
use Rattle.std.specs.Prelude.{ℕ, ◌+◌, Bool, ◌&&◌, nat_eq, List, [], ◌∷◌, Some, is_some, if◌then◌else◌}
use Rattle.std.specs.Option.{unwrap_or}
use Rattle.daide_token.specs.declared.class.Class.{Class}
use Rattle.daide_token.specs.Class.{is_standard}
use Rattle.daide_grammar.specs.declared.symbol.Sym.{Sym}
use Rattle.daide_grammar.specs.Paired.{begins_with_prn}
use Rattle.daide_grammar.specs.Table.Answers.{TableEntry}
use Rattle.daide_grammar.specs.Table.Brackets.{is_bra, is_ket, count_one}
use Rattle.daide_grammar.specs.Table.Stacks.{stack_after, ends_asked}
use Rattle.daide_reader.specs.Stack.{steps_at}

-- a message in part: the symbols that must follow, the next one first; the open brackets; and the look-ups made
pub record Parse : Type 0 where
  pub stack : List Sym
  pub opened : ℕ
  pub look_ups : ℕ

-- before the first token
abbrev pub no_token_read : Sym → Parse
no_token_read first = record { stack = first ∷ []; opened = 0; look_ups = 0 }

-- the symbols that may take a token: none if it opens a bracket too many
abbrev pub open_to : Bool → Bool → List Sym → List Sym
open_to opens at_limit stack = if opens && at_limit then [] else stack

-- the second look-up of the symbol at which a token's own class is a Stop, with the token as an operator's word: none if
-- no symbol is left, or if a symbol takes the token and its class is the protocol's own
abbrev pub second_look_up : Bool → List Sym → ℕ
second_look_up own [] = 0
second_look_up own (s ∷ stack) = if own then 0 else 1

-- the look-ups for a token: one for each symbol that is skipped, one for the symbol that takes or stops it, and the second
abbrev pub look_ups_at : (Sym → Class → TableEntry) → Class → List Sym → ℕ
look_ups_at moves class stack =
    steps_at moves class stack + second_look_up (is_standard class && is_some (stack_after moves class stack)) stack

-- one more token; no symbol is left after a token that none takes, so no look-up is made after it
abbrev pub read_one : (Sym → Class → TableEntry) → (ℕ → Class) → ℕ → Parse → ℕ → Parse
read_one moves class_of max_depth g t = record {
  stack = unwrap_or (stack_after moves (class_of t) (open_to (is_bra t) (nat_eq g.opened max_depth) g.stack)) [];
  opened = unwrap_or (count_one (is_bra t) (is_ket t) (Some g.opened)) 0;
  look_ups = g.look_ups + look_ups_at moves (class_of t)
      (open_to (is_bra t) (nat_eq g.opened max_depth) g.stack);
}

-- more tokens, each read once and in order
abbrev pub read_each : (Sym → Class → TableEntry) → (ℕ → Class) → ℕ → Parse → List ℕ → Parse
read_each moves class_of max_depth g [] = g
read_each moves class_of max_depth g (t ∷ p) =
    read_each moves class_of max_depth (read_one moves class_of max_depth g t) p

-- with the look-ups at the end, if the message has ended
abbrev pub ended_look_ups : (Sym → Bool) → Bool → Parse → ℕ
ended_look_ups may_end ended g = g.look_ups + (if ended then ends_asked may_end g.stack else 0)

-- the look-ups for the tokens of one message, and for its end if it has ended; none if it begins with PRN
abbrev pub look_ups_for : (Sym → Class → TableEntry) → (ℕ → Class) → (Sym → Bool) → Sym → ℕ → List ℕ → Bool → ℕ
look_ups_for moves class_of may_end first max_depth p ended =
    if begins_with_prn p then 0
    else ended_look_ups may_end ended (read_each moves class_of max_depth (no_token_read first) p)
