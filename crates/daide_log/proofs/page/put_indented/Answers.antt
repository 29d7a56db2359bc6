use Rattle.daide_log.proofs.Common.{◌∙◌, arith, refl, all_of}
use Rattle.daide_log.proofs.PageTexts.{puts_in_line, puts_indented}
use Rattle.daide_log.proofs.page.put_indented.Goals as goal

pub bytes-init : goal.bytes-init
bytes-init g c = (puts_indented (all_of g.W.Write.contents c.args.output.now) c.args.text.now, refl)

pub bytes-preserved : goal.bytes-preserved
bytes-preserved g c = (
  puts_in_line _ _ _ _ c.bytes.rest.now c.bytes.begins _ c.bytes.invariant.0 c.in-len1-up.len_at_least (omega arith)
      c.in_ok-put_in_line.ensures.text,
  c.put_in_line.ensures.same_writer ∙ c.bytes.invariant.1,
)
