-- The abstract value of a table with an operator's words. (own)
use Rattle.std.specs.Prelude.{ℕ}
use Rattle.daide_grammar.specs.Table.AnswersGiven.{look_ups}
use Rattle.daide_grammar.specs.Words.{Words}
use Rattle.daide_words.specs.declared.extended.Extended.{Extended}
use Rattle.daide_words.specs.Word.{grammar_words}
use Rattle.daide_words.specs.Words.{words_of}

-- its words, in the grammar's form
unfoldable pub spoken_words : Extended → Words
spoken_words table = grammar_words (words_of table.words)

-- the look-ups so far, modulo 2^64: each is one of the constant table
abbrev pub extended_look_ups : Extended → ℕ
extended_look_ups table = look_ups table.table
