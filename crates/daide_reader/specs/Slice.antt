-- The effect of reading some tokens of a body, on what a reader holds in locals. (own)
use Rattle.std.specs.Prelude.{◌≡◌, ◌++◌, ◌+◌, ◌<◌, ℕ, ◌-◌, ◌*◌, ◌≤◌, false, List, [], length, take, Option, None, Some}
use Rattle.std.specs.Prelude.{IsSome, IfSome}
use Rattle.daide_token.specs.Token.{tokens_of}
use Rattle.daide_grammar.specs.declared.symbol.Sym.{Sym}
use Rattle.daide_grammar.specs.declared.predict.Predict.{Ghosts}
use Rattle.daide_grammar.specs.Paired.{begins_with_prn}
use Rattle.daide_grammar.specs.Words.{Words}
use Rattle.daide_grammar.specs.Bounds.{most_steps}
use Rattle.daide_reader.specs.Outline.{outline_of}
use Rattle.daide_reader.specs.Reading.{IsRaised, HasReadPrefix, reading}

-- a table, and a stack of symbols, the next one first
pub record SliceState (T : Type 0) : Type 0 where
  pub table : T
  pub stack : List Sym

-- the index in the message, for an index in a body that begins after `before` tokens
abbrev pub place_behind : ℕ → Option ℕ → Option ℕ
place_behind before None = None
place_behind before (Some i) = Some (before + i)

-- The tokens of the body from `read` on were read up to `tokens`, after which `opened` brackets are open, or up to one
-- that no message continues. This holds for any tokens of the message before the body.
pub record ReadsTo {T : Type 0} (table : Ghosts T) (max_depth : ℕ) (body : List ℕ) (read unclosed : ℕ)
    (old : SliceState T) (tokens : ℕ) (opened place : Option ℕ) (new : SliceState T) : Type 0 where
  pub words : table.words new.table ≡ table.words old.table
  pub goes_on : read ≤ tokens
  pub counts : IfSome opened (λ n. n ≤ unclosed + (tokens - read))
  pub found : IfSome place (λ i. i < tokens)
  pub lawful : place ≡ None
      → (n : ℕ) × (opened ≡ Some n) × (n ≤ max_depth) × table.lawful (table.words new.table) new.stack n
  pub none_left : IsSome place → new.stack ≡ []
  pub raised : IsRaised (most_steps * (tokens - read)) (table.asked old.table) (table.asked new.table)
  pub stands_after : (words : Words) (first : Sym) (depth base : ℕ) (before : List ℕ)
      → begins_with_prn (before ++ tokens_of body) ≡ false →
      HasReadPrefix table words first depth
      (reading old.table max_depth old.stack (outline_of (before ++ take read (tokens_of body))) (Some unclosed) None
      base)
      (before ++ take read (tokens_of body)) →
      HasReadPrefix table words first depth
      (reading new.table max_depth new.stack (outline_of (before ++ take tokens (tokens_of body))) opened
      (place_behind (length before) place) base)
      (before ++ take tokens (tokens_of body))
