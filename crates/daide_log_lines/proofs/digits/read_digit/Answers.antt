use Rattle.std.proofs.Common.{ℕ, ◌==◌, ◌∙◌, ap}
use Rattle.std.specs.Prelude.{bit_and}
use Rattle.daide_log_lines.proofs.DigitLemmas.{read_exactly, read_to_its_value, reading_is}
use Rattle.daide_log_lines.proofs.digits.read_digit.Goals as goal

pub returns-clause-digit : goal.returns-clause-digit
returns-clause-digit c =
    ap (λ (n : ℕ). bit_and n 240 == 0)
    (reading_is c.args.byte _ _ _ c.greater-decimal.ensures c.lesser-letter.ensures c.lesser-value.ensures)
    ∙ read_exactly c.args.byte c.ranges.byte.fits

pub returns-clause-value : goal.returns-clause-value
returns-clause-value c digit =
    reading_is c.args.byte _ _ _ c.greater-decimal.ensures c.lesser-letter.ensures c.lesser-value.ensures
    ∙ read_to_its_value c.args.byte c.ranges.byte.fits digit
