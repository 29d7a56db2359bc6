use Rattle.std.proofs.Common.{refl}
use Rattle.daide_log_lines.specs.Output.{all_of}
use Rattle.daide_log_lines.proofs.PageLemmas.{keeps_all}
use Rattle.daide_log_lines.proofs.lines.read_on.Goals as goal

pub returns-in-Err-clause-read : goal.returns-in-Err-clause-read
returns-in-Err-clause-read g c =
    let all = all_of g.W.Write.contents c.args.output.now in (all, refl, keeps_all all)
