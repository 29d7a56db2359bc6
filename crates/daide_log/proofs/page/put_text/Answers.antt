use Rattle.daide_log.proofs.Common.{◌∙◌, arith}
use Rattle.daide_log.proofs.PageTexts.{puts_next}
use Rattle.daide_log.proofs.page.put_text.Goals as goal

pub bytes-preserved : goal.bytes-preserved
bytes-preserved g c = (
  puts_next _ _ _ _ c.bytes.rest.now _ c.bytes.invariant.0 c.in-len1-up.len_at_least (omega arith)
      c.in_ok-put_byte.ensures.text,
  c.put_byte.ensures.same_writer ∙ c.bytes.invariant.1,
)
