use Rattle.daide_log.specs.RecordItem.{begun_text}
use Rattle.daide_log.proofs.CommentLemmas.{parts_put}
use Rattle.daide_log.proofs.comment.put_begun.Goals as goal

pub returns : goal.returns
unfolding begun_text
returns c =
    parts_put _ _ _ _ _ _ _ _ _ _ _ _ _ _ c.put.ensures.text c.put_number.ensures.text c.put-2.ensures.text
    c.put_address.ensures.text c.put-3.ensures.text c.put_utc.ensures.text c.push.ensures.items
