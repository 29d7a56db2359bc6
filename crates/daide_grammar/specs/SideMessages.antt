-- The messages from either side at each level.
use Rattle.std.specs.Prelude.{ℕ, suc, ◌==◌, List, [], ◌∷◌, ◌⊎◌, if◌then◌else◌}
use Rattle.daide_token.specs.declared.class.Class.TheVariants.{Word}
use Rattle.daide_token.specs.Class.{class_of}
use Rattle.daide_grammar.specs.declared.level.Level.{Level}
use Rattle.daide_grammar.specs.declared.side.Side2.{Side2}
use Rattle.daide_grammar.specs.declared.side.Side2.TheVariants.{Client, ServerEnd}
use Rattle.daide_grammar.specs.Forms.{Dialect, Form, never, ◌∣◌}
use Rattle.daide_grammar.specs.Message.Client.{client}
use Rattle.daide_grammar.specs.Message.Server.{server}
use Rattle.daide_grammar.specs.Matches.{Matches}
use Rattle.daide_grammar.specs.Paired.{IsPrnWrapped}
use Rattle.daide_grammar.specs.Words.{AddedWord, Words, word_form}

-- the protocol's own tokens and forms, without an operator's words
abbrev pub standard : Dialect
standard = record { class_of = class_of; added = λ _ _. never }

-- a dialect with one more word, at this index among the words: its code has a class of its own, and its form is added
abbrev pub dialect_with_word : ℕ → AddedWord → Dialect → Dialect
dialect_with_word place word d = record {
  class_of = λ t. if t == word.code then Word place else d.class_of t;
  added = λ slot l. word_form place word slot l ∣ d.added slot l;
}

-- the standard with these words, the first of which has this index
abbrev pub dialect_from : ℕ → Words → Dialect
dialect_from place [] = standard
dialect_from place (word ∷ words) = dialect_with_word place word (dialect_from (suc place) words)

-- the standard with an operator's words
abbrev pub dialect_of : Words → Dialect
dialect_of = dialect_from 0

-- what a side may say at a level, except for the report PRN
abbrev pub message_form : Side2 → Level → Form
message_form Client l = client l
message_form ServerEnd l = server l

-- the messages from a side at a level, in a dialect: those of its form, and the report PRN around any tokens
abbrev pub IsMessageIn : Dialect → Side2 → Level → List ℕ → Type 0
IsMessageIn d side l m = IsPrnWrapped m ⊎ Matches d (message_form side l) m

-- the messages from a side at a level, with an operator's words
abbrev pub IsMessageOver : Words → Side2 → Level → List ℕ → Type 0
IsMessageOver words = IsMessageIn (dialect_of words)

-- the messages from a side at a level
abbrev pub IsMessage : Side2 → Level → List ℕ → Type 0
IsMessage = IsMessageOver []
