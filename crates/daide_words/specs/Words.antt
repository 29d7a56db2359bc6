-- The words in a value of the code. (own)
use Rattle.std.specs.Prelude.{ℕ, zero, suc, List, [], ◌∷◌, take, Option, Some, None}
use Rattle.daide_words.specs.declared.word.Word.{Word}
use Rattle.daide_words.specs.declared.words.Words.{Words}
use Rattle.daide_words.specs.Word.{words_with}

-- in the order in which they were added
unfoldable pub words_of : Words → List Word
words_of words = words_with (take words.count words.names) (take words.count words.meanings)

-- the word at an index, counted from 0
abbrev pub word_at : ℕ → List Word → Option Word
word_at k [] = None
word_at zero (word ∷ words) = Some word
word_at (suc k) (word ∷ words) = word_at k words
