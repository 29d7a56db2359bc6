use Rattle.daide_log_lines.proofs.LineLemmas.{first_line_feed}
use Rattle.daide_log_lines.proofs.lines.line_end.Goals as goal

pub returns : goal.returns
returns c = first_line_feed c.args.bytes.now c.memchr.result c.memchr.ensures
