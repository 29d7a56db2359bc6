use Rattle.daide_words.proofs.Common.{◌≡◌, true, false, [], ◌∷◌, arith, prn, L20, L60}
use Rattle.daide_grammar.specs.declared.side.Side2.TheVariants.{Client as BotSide, ServerEnd}
use Rattle.daide_words.proofs.law_facts.messages_at_values.Goals as goal

pub returns-clause-start_symbol : goal.returns-clause-start_symbol
returns-clause-start_symbol c word m accepted said =
    let no : true ≡ false =
    ((c.start_symbol_stands_for_messages.ensures (word ∷ []) BotSide L20 (prn ∷ m) accepted).0 said).1 in
    cc

pub returns-clause-spoken : goal.returns-clause-spoken
returns-clause-spoken c word accepted = c.accepted_words_are_spoken.ensures (word ∷ []) accepted

pub returns-clause-levels : goal.returns-clause-levels
returns-clause-levels c word m said =
    c.levels_only_add.ensures (word ∷ []) BotSide L20 L60 m (omega arith) said

pub returns-clause-paired : goal.returns-clause-paired
returns-clause-paired c word m accepted = c.messages_are_paired.ensures (word ∷ []) ServerEnd L60 m accepted
