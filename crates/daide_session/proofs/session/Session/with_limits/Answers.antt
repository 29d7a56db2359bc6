use Rattle.daide_session.proofs.Common.{refl}
use Rattle.daide_words.specs.Words.{words_of}
use Rattle.daide_session.proofs.SessionLemmas.{new_of, standing_new}
use Rattle.daide_session.proofs.session.Session.with_limits.Goals as goal

pub invariant_of-result : goal.invariant_of-result
invariant_of-result g c = standing_new _ _ c.in_ok-channels.channels c.top_level.result c.new-2.result c.in_ok-channels.ensures.quiet

pub returns-clause-opening : goal.returns-clause-opening
returns-clause-opening g c = rw (← c.config-config.ensures)
    (new_of c.config-config.result (words_of c.args.words) c.in_ok-channels.channels c.top_level.result
    c.new-2.result c.in_ok-channels.ensures.quiet
    (rw (c.config-config.ensures, c.top_level.ensures) refl) c.new-2.ensures)
