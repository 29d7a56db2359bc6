use Rattle.daide_log.proofs.Common.{[], ◌∷◌, ◌++◌, codes, BadLine}
use Rattle.daide_log.proofs.LawFacts.{bad_first_line}
use Rattle.daide_log.proofs.law_facts.no_read_after_a_bad_line.Goals as goal

pub returns : goal.returns
returns c before written h =
    c.no_read_behind_a_fault.ensures before written (codes "x" ++ 10 ∷ []) (BadLine 1) bad_first_line h
