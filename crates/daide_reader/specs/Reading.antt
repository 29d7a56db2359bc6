-- The abstract value of a reader, and its relation to the tokens since `start`. (own)
use Rattle.std.specs.Prelude.{◌≡◌, ℕ, ◌+◌, ◌-◌, ◌%◌, ◌^◌, ◌≤◌, ◌<◌, List, [], ◌++◌, take, length, Bool, false}
use Rattle.std.specs.Prelude.{true, Option, None, Some, MatchOption, IsSome, IfSome, ◌↔◌, ◌⊎◌, if◌then◌else◌}
use Rattle.std.specs.Option.{unwrap_or}
use Rattle.daide_grammar.specs.declared.symbol.Sym.{Sym}
use Rattle.daide_grammar.specs.declared.predict.Predict.{Ghosts}
use Rattle.daide_grammar.specs.Words.{Words}
use Rattle.daide_grammar.specs.Table.Stacks.{StackMatches}
use Rattle.daide_grammar.specs.Paired.{begins_with_prn}
use Rattle.daide_grammar.specs.Depth.{depth_of}
use Rattle.daide_grammar.specs.Bounds.{cells_bound, message_steps}
use Rattle.daide_reader.specs.Bounds.{most_symbols, most_tokens}
use Rattle.daide_reader.specs.declared.outline.Outline.{Outline}
use Rattle.daide_reader.specs.ViablePrefix.{IsMessageOf}
use Rattle.daide_reader.specs.ErrorPlace.{IsAllowedPrefix, IsErrorPlace}
use Rattle.daide_grammar.specs.Table.Brackets.{excess_or_none}
use Rattle.daide_reader.specs.LookUps.{Parse, no_token_read, read_each, look_ups_for}
use Rattle.daide_reader.specs.Outline.{IsOutlineOf}

-- a reader over a table of type T
pub record Reading (T : Type 0) : Type 0 where
  pub table : T
  pub max_depth : ℕ
  -- the symbols that must follow, the next one first
  pub stack : List Sym
  pub outline : Outline
  -- the number of open brackets, or None after a KET with nothing open
  pub unclosed : Option ℕ
  -- the index of the first token that no message continues or that opens one bracket too many
  pub place : Option ℕ
  -- the table's count at the last `start`
  pub asked_before : ℕ
  pub finished : Bool

-- the number of tokens since the last `start`
abbrev pub tokens_read : {T : Type 0} → Reading T → ℕ
tokens_read v = v.outline.tokens

-- the number of open brackets
abbrev pub brackets_open : {T : Type 0} → Reading T → ℕ
brackets_open v = unwrap_or v.unclosed 0

-- the table's look-ups since the last `start`
abbrev pub steps_since : {T : Type 0} → (T → ℕ) → Reading T → ℕ
steps_since asked v = (asked v.table + (2 ^ 64 - v.asked_before)) % 2 ^ 64

-- a count modulo 2^64 went up by at most `most`
pub record IsRaised (most old new : ℕ) : Type 0 where
  pub by : ℕ
  pub few : by ≤ most
  pub sum : new % 2 ^ 64 ≡ (old + by) % 2 ^ 64

-- the rest of the message needs no look-up: an error place was found, or the message begins with PRN (own)
abbrev pub IsSettled : {T : Type 0} → Reading T → Type 0
IsSettled v = IsSome v.place ⊎ (v.outline.is_prn ≡ true)

-- the tokens have no error place, and the stack's language is exactly what may follow them
pub record Expects (language : Sym → List ℕ → Type 0) (first : Sym) (max_depth : ℕ) (stack : List Sym)
    (p : List ℕ) : Type 0 where
  pub allowed : (j : ℕ) → j < length p → IsAllowedPrefix (IsMessageOf (language first)) max_depth (take (j + 1) p)
  pub shallow : depth_of p ≤ max_depth
  pub follows : (r : List ℕ) → StackMatches language stack r ↔ language first (p ++ r)

-- the error place is within the tokens
pub record HasErrorIndex (language : List ℕ → Type 0) (max_depth : ℕ) (p : List ℕ) (i : ℕ) : Type 0 where
  pub inside : i < length p
  pub is_place : IsErrorPlace (IsMessageOf language) max_depth p i

-- without an error place the stack's language is what may follow; otherwise the place is that of the tokens
abbrev pub StackOrPlace : (Sym → List ℕ → Type 0) → Sym → ℕ → List Sym → Option ℕ → List ℕ → Type 0
StackOrPlace language first max_depth stack place p =
    MatchOption place (Expects language first max_depth stack p) (HasErrorIndex (language first) max_depth p)

-- a reader's stack is that of the tokens read so far, each once; after an error place no symbol is left
pub record IsParsed (g : Parse) (stack : List Sym) (unclosed place : Option ℕ) : Type 0 where
  pub same_stack : stack ≡ g.stack
  pub same_count : place ≡ None → unclosed ≡ Some g.opened
  pub none_left : IsSome place → stack ≡ []

-- the tokens since `start` are p, of a message that the symbol `first` derives
pub record HasReadPrefix {T : Type 0} (table : Ghosts T) (words : Words) (first : Sym) (max_depth : ℕ)
    (v : Reading T) (p : List ℕ) : Type 0 where
  pub words_kept : table.words v.table ≡ words
  pub depth_kept : v.max_depth ≡ max_depth
  pub outline : IsOutlineOf v.outline p
  pub unclosed : v.unclosed ≡ (if begins_with_prn p then Some 0 else excess_or_none p)
  pub place : begins_with_prn p ≡ false → StackOrPlace (table.language words) first max_depth v.stack v.place p
  pub steps : steps_since table.asked v ≤ message_steps (length p) v.finished
  pub at : begins_with_prn p ≡ false →
      IsParsed (read_each (table.moves words) (table.class_of words) max_depth (no_token_read first) p) v.stack v.unclosed v.place
  pub once : steps_since table.asked v ≤ look_ups_for (table.moves words) (table.class_of words) (table.ends words) first max_depth p v.finished

-- the invariant of a reader with room for `size` symbols; `lawful` is its table's
pub record IsSteady (lawful : List Sym → ℕ → Type 0) (size max_depth : ℕ) (stack : List Sym)
    (outline : Outline) (unclosed place : Option ℕ) : Type 0 where
  pub small : size ≤ most_symbols
  pub at_depth_limit : cells_bound max_depth ≤ size
  pub counts : IfSome unclosed (λ n. n ≤ outline.tokens)
  pub tokens : outline.tokens ≤ most_tokens
  pub fresh : outline.tokens ≡ 0 → outline.is_prn ≡ false
  -- without an error place the stack is lawful for the open brackets
  pub lawful_stack : outline.is_prn ≡ false → place ≡ None
      → (n : ℕ) × (unclosed ≡ Some n) × (n ≤ max_depth) × lawful stack n
  pub none_left : IsSome place → stack ≡ []
  pub none_in_prn : outline.is_prn ≡ true → stack ≡ []

-- a reader inside a message
abbrev pub reading : {T : Type 0} → T → ℕ → List Sym → Outline → Option ℕ → Option ℕ → ℕ → Reading T
reading table max_depth stack outline unclosed place asked_before = record {
  table = table;
  max_depth = max_depth;
  stack = stack;
  outline = outline;
  unclosed = unclosed;
  place = place;
  asked_before = asked_before;
  finished = false;
}
