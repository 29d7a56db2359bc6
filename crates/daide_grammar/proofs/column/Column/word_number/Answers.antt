use Rattle.daide_grammar.proofs.Common.{sym, ap, ◌∙◌, arith, word_number}
use Rattle.daide_grammar.proofs.WordColumns.{no_word, some_word}
use Rattle.daide_grammar.proofs.column.Column.word_number.Goals as goal

pub returns-then-self-ge-OWN_CLASSES : goal.returns-then-self-ge-OWN_CLASSES
returns-then-self-ge-OWN_CLASSES c =
    sym (some_word c.self.inside.number c.self.invariant (omega arith)) ∙ ap word_number c.self.view_is

pub returns : goal.returns
returns c = sym (no_word c.self.inside.number (omega arith)) ∙ ap word_number c.self.view_is
