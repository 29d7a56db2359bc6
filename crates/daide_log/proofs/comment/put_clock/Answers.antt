use Rattle.daide_log.proofs.Common.{◌/◌, ◌∷◌, ◌++◌, ◌∙◌, append_assoc}
use Rattle.daide_log.specs.UtcText.{two_digits}
use Rattle.daide_log.proofs.CommentLemmas.{clock_put}
use Rattle.daide_log.proofs.comment.put_clock.Goals as goal

pub returns-clause-text : goal.returns-clause-text
returns-clause-text c =
    clock_put c.args.line.now.items c.put_minutes.new.line.items c.push.new.self.items c.put_pair_and.new.line.items
    c.put_thousandths.new.line.items (two_digits c.args.time.hour ++ 58 ∷ two_digits c.args.time.minute) c.args.time.second
    (c.args.time.subsec_nanosecond / 1000000) (c.put_minutes.ensures.text
    ∙ append_assoc c.args.line.now.items (two_digits c.args.time.hour) (58 ∷ two_digits c.args.time.minute)) c.push.ensures.items c.put_pair_and.ensures.text
    c.put_thousandths.ensures.text
