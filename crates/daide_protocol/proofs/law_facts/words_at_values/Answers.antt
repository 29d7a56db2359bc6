use Rattle.daide_protocol.proofs.Common.{[], ◌∷◌, Bot, L0, L60, Client, ServerEnd, Huh, Relay, Comes, ImTimerExpired}
use Rattle.daide_protocol.proofs.law_facts.words_at_values.Goals as goal

pub returns-clause-step : goal.returns-clause-step
returns-clause-step c word old = c.each_event_has_a_step_with_words.ensures (word ∷ []) old (Comes Bot 0x00)

pub returns-clause-run : goal.returns-clause-run
returns-clause-run c word old =
    c.events_have_a_run_with_words.ensures (word ∷ []) old (Comes Bot 0x00 ∷ ImTimerExpired ∷ [])

pub returns-clause-plain : goal.returns-clause-plain
returns-clause-plain c m = (c.verdicts_are_the_grammars.ensures Client L0 62 m (Huh 1)).0

pub returns-clause-worded : goal.returns-clause-worded
returns-clause-worded c word m accepted =
    (c.verdicts_with_words_are_the_grammars.ensures (word ∷ []) ServerEnd L60 62 m Relay accepted).1
