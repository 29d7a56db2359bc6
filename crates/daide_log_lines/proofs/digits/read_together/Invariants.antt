use Rattle.std.proofs.Common.{◌≡◌, ◌==◌, ◌<◌, ℕ, ◌*◌, ◌++◌, true, get_or, length, take, drop}
use Rattle.std.specs.List.{list_all}
use Rattle.hex.specs.Hex.{is_hex_digit}
use Rattle.daide_log_lines.specs.Digits.{bytes_of_hex, value_of}
use Rattle.daide_log_lines.proofs.digits.read_together.Given as goal

-- whether all digits so far are valid, and if so, their values
abbrev pub invariant-loop-j : goal.invariant-loop-j
invariant-loop-j l = record {
  room : length l.values ≡ 32;
  all : (l.excess == 0) ≡ list_all is_hex_digit (take l.j l.digits);
  values : list_all is_hex_digit (take l.j l.digits) ≡ true → (k : ℕ) → k < l.j →
      get_or l.values k 0 ≡ value_of (get_or l.digits k 0);
}

-- the bytes so far, followed by those of the digits that are left
abbrev pub invariant-loop-i : goal.invariant-loop-i
invariant-loop-i l = record {
  same : length l.bytes ≡ length l.fn.bytes;
  bytes : (l.excess == 0) ≡ true → take l.i l.bytes ++ bytes_of_hex (drop (2 * l.i) l.digits) ≡ bytes_of_hex l.digits;
}
