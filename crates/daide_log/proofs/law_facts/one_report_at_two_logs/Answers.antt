use Rattle.daide_log.proofs.Common.{[], ◌∷◌, ◌++◌, codes, Ok}
use Rattle.daide_log.proofs.StandardFacts.{opening_lines, two_lines_alone}
use Rattle.daide_log.proofs.law_facts.one_report_at_two_logs.Goals as goal

pub returns : goal.returns
unfolding opening_lines
returns c = record {
  one = λ text answer h. c.log_has_one_report.ensures.one
      (codes "daide-log 1" ++ 10 ∷ codes "config 60 1024 16" ++ 10 ∷ []) text
      (codes "relayed 0 prn 0 huh 0 faults 0" ++ 10 ∷ []) answer
      (Ok (record { relayed = 0; prn = 0; huh = 0; faults = 0 })) h two_lines_alone;
  some = c.log_has_one_report.ensures.some (0xC3 ∷ []);
}
