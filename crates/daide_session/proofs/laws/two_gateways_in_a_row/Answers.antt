use Rattle.daide_session.proofs.Common.{grammar_words, accepted_free, initial_state, sent_to, came_in, only_messages}
use Rattle.daide_session.proofs.InARowLemmas.{all_next}
use Rattle.daide_session.proofs.laws.two_gateways_in_a_row.Goals as goal

pub returns : goal.returns
returns c = λ words accepted limits events effects new run same small to.
    all_next (grammar_words words) (accepted_free words accepted) limits same
    (came_in (initial_state limits) events effects new run) to (sent_to to effects)
    (only_messages limits events effects new run small to)
