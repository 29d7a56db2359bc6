use Rattle.std.proofs.Common.{◌≡◌, ◌*◌, true, length, take}
use Rattle.std.specs.List.{list_all}
use Rattle.hex.specs.Hex.{is_hex_digit}
use Rattle.daide_log_lines.specs.Digits.{bytes_of_hex}
use Rattle.daide_log_lines.proofs.digits.read_digits.Given as goal

-- whether all digits so far are valid, and if so, their bytes
abbrev pub invariant-loop-turn : goal.invariant-loop-turn
invariant-loop-turn l = record {
  same : length l.bytes ≡ length l.fn.bytes;
  all : l.all ≡ list_all is_hex_digit (take (32 * l.turn) l.digits);
  bytes : l.all ≡ true → take (16 * l.turn) l.bytes ≡ bytes_of_hex (take (32 * l.turn) l.digits);
}
