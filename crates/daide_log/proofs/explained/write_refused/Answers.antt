use Rattle.daide_log.proofs.Common.{◌++◌, ◌∙◌, ℕ, List, ap, refl, tokens_of, words_of}
use Rattle.daide_protocol.specs.Answers.{answer_body}
use Rattle.daide_log.specs.Explained.{with_line_feed, level_text, message_text}
use Rattle.daide_log.proofs.EventLemmas.{on_ok}
use Rattle.daide_log.proofs.TextLemmas.{four_lines}
use Rattle.daide_log.proofs.explained.write_refused.Goals as goal

pub returns-clause-text : goal.returns-clause-text
returns-clause-text g c =
    let words = words_of c.args.rules.now.words.now in
    let body = c.args.body.now in
    let text = with_line_feed (message_text words (tokens_of body)) in
    let level = with_line_feed (level_text c.args.rules.now.level c.args.capped) in
    let answer = with_line_feed (message_text words (tokens_of (answer_body body c.args.verdict))) in
    on_ok c.write_explained.result _ _ c.write_explained.ensures.text
    (λ why. (
      text ++ level ++ answer ++ why.0,
      (why.0, why.1, refl),
      four_lines c.args.text.now.items text level answer why.0 c.write_tokens.new.text.items c.write_level.new.text.items
          c.write_tokens-2.new.text.items c.write_explained.new.text.items
          c.in_ok-write_tokens.ensures.text
          c.in_ok-write_level.ensures.text
          (c.in_ok-write_tokens-2.ensures.text
          ∙ ap (λ (l : List ℕ). c.write_level.new.text.items ++ with_line_feed (message_text words (tokens_of l)))
          (c.as_slice.ensures.value ∙ c.in_ok-answer.ensures.body))
          why.2,
    ))
