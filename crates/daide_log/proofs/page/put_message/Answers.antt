use Rattle.daide_log.proofs.Common.{all_of, tokens_of, words_of}
use Rattle.daide_log.proofs.EventLemmas.{on_ok}
use Rattle.daide_log.proofs.PageLines.{parts_put}
use Rattle.daide_log.proofs.page.put_message.Goals as goal

pub returns-clause-text : goal.returns-clause-text
returns-clause-text g c =
    on_ok c.put_end.result _ _ c.put_end.ensures.text
    (λ end.
    parts_put (words_of c.args.words.now) (tokens_of c.args.tokens.now) c.in_ok-place.place
    (all_of g.W.Write.contents c.args.output.now) (all_of g.W.Write.contents c.put_margin.new.output)
    (all_of g.W.Write.contents c.put_tokens.new.output) (all_of g.W.Write.contents c.put_end.new.output)
    c.are_accepted.ensures c.in_ok-place.ensures.place c.in_ok-put_margin.ensures.text c.in_ok-place.ensures.text end)
