use Rattle.daide_log.proofs.Common.{words_of}
use Rattle.daide_log.proofs.EventLemmas.{on_ok}
use Rattle.daide_log.proofs.TextLemmas.{as_message}
use Rattle.daide_log.proofs.explained.write_message.Goals as goal

pub returns-in-Prn-clause-text : goal.returns-in-Prn-clause-text
returns-in-Prn-clause-text g c =
    let is = c.in-Prn.is in
    on_ok c.write_refused.result _ _ c.write_refused.ensures.text
    (λ t. (
      t.0,
      as_message (words_of c.args.rules.now.words.now) c.args.rules.now.end c.args.rules.now.level
          c.args.capped c.args.rules.now.max_depth c.args.body.now c.args.verdict t.0 (λ e. absurd (cc)) t.1,
      t.2,
    ))

pub returns-in-Huh-clause-text : goal.returns-in-Huh-clause-text
returns-in-Huh-clause-text g c =
    let is = c.in-Huh.is in
    on_ok c.write_refused-in-Huh.result _ _ c.write_refused-in-Huh.ensures.text
    (λ t. (
      t.0,
      as_message (words_of c.args.rules.now.words.now) c.args.rules.now.end c.args.rules.now.level
          c.args.capped c.args.rules.now.max_depth c.args.body.now c.args.verdict t.0 (λ e. absurd (cc)) t.1,
      t.2,
    ))
