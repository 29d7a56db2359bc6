use Rattle.daide_log.proofs.Common.{arith, all_of, states_of, texts_of}
use Rattle.daide_log.specs.Explained.{cut_text, parts_from, part_text}
use Rattle.daide_log.proofs.PlayLemmas.{appends_more}
use Rattle.daide_log.proofs.explained.put_rest.Goals as goal

pub returns-clause-text : goal.returns-clause-text
returns-clause-text g c = (
  omega (arith, c.in_ok-cut_lines.ensures.text.0, c.in_ok-parts.ensures.text.0),
  appends_more (all_of g.W.Write.contents c.args.output.now) (all_of g.W.Write.contents c.put_cut.new.output)
      (all_of g.W.Write.contents c.put_parts.new.output) (cut_text c.args.cut)
      (texts_of part_text (parts_from c.args.version 1 (states_of c.args.sessions.now))) c.in_ok-cut_lines.ensures.text.1
      c.in_ok-parts.ensures.text.1,
)
