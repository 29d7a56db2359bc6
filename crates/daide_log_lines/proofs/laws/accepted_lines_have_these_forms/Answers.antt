use Rattle.std.proofs.Common.{codes}
use Rattle.std.proofs.lemmas.Slice.Eq.{bytes_eq-Decides}
use Rattle.daide_log_lines.proofs.FormLemmas.{plain_decimal, event_is, match_event_is, word_line_is}
use Rattle.daide_log_lines.proofs.laws.accepted_lines_have_these_forms.Goals as goal

pub returns : goal.returns
returns c = record {
  single = λ line e. (bytes_eq-Decides line (codes "daide-log 1")).0 e;
  match_log = λ line e. (bytes_eq-Decides line (codes "daide-log 2")).0 e;
  number = plain_decimal;
  event = event_is;
  match_event = match_event_is;
  word = word_line_is;
}
