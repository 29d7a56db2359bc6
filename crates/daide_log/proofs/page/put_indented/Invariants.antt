use Rattle.daide_log.proofs.Common.{length, IsSameWriter, all_of}
use Rattle.daide_log.specs.Explained.{indented, indented_from}
use Rattle.daide_log.proofs.PageTexts.{Puts}
use Rattle.daide_log.proofs.page.put_indented.Given as goal

abbrev pub invariant-bytes : goal.invariant-bytes
invariant-bytes g l =
    Puts (all_of g.W.Write.contents l.fn.output) (all_of g.W.Write.contents l.output) (indented l.text)
    (indented_from l.begins l.rest)
    × IsSameWriter l.fn.output l.output

abbrev pub decreases-bytes : goal.decreases-bytes
decreases-bytes g l = length l.rest
