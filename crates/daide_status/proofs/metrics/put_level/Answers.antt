use Rattle.std.proofs.Common.{◌++◌, codes, ap, ◌∙◌}
use Rattle.daide_grammar.specs.Level.{level_number}
use Rattle.daide_status.specs.Metrics.{name_label, phase_label, power_label, sample_end, sample_front}
use Rattle.daide_status.proofs.Chains.{chained, then_last}
use Rattle.daide_status.proofs.metrics.put_level.Goals as goal

pub returns : goal.returns
returns g c =
    let old = c.args.out.now.items in
    let row = c.args.row.now in
    let front = sample_front (codes "session_level") row in
    let phase = phase_label row.phase in
    let name = name_label row.account.name in
    let power = power_label row.account.power in
    then_last _ c.args.out.now c.put_power_label.new.out c.put_sample_end.new.out c.put_sample_end.result
    (front ++ phase ++ name ++ power) (sample_end (level_number row.level))
    (chained old (front ++ phase ++ name) power _ _
    (chained old (front ++ phase) name _ _
    (chained old front phase _ _ c.in_ok-put_sample_front.ensures
    (c.in_ok-append.ensures.appended
    ∙ ap (λ t. c.put_sample_front.new.out.items ++ t) (c.as_bytes.ensures.value ∙ c.phase_label.ensures)))
    c.in_ok-put_name_label.ensures) c.in_ok-put_power_label.ensures) (rw c.number.ensures at c.put_sample_end.ensures)
