use Rattle.daide_words.specs.Word.{names_of}
use Rattle.daide_words.specs.Words.{words_of}
use Rattle.daide_text.specs.Lines.{AreWritten}
use Rattle.daide_text.proofs.frames.write_frames.Given as goal

-- the lines so far are messages, and their frames were written
abbrev pub invariant-loop-count : goal.invariant-loop-count
invariant-loop-count g l =
    AreWritten (names_of (words_of l.words)) (g.R.Read.remaining l.initial.reader) (g.R.Read.remaining l.reader)
    (g.W.Write.contents l.initial.writer) (g.W.Write.contents l.writer) l.count
