use Rattle.std.proofs.Common.{◌≡◌, ◌≤◌, ◌+◌, ◌-◌, ◌*◌, ◌/◌, ◌&&◌, ◌∙◌, refl, ap, sym, List, length, take, drop, arith}
use Rattle.std.specs.Prelude.{ℕ, slice_range}
use Rattle.std.specs.List.{list_all}
use Rattle.std.proofs.lemmas.Bool.{and_parts}
use Rattle.std.proofs.lemmas.List.{take_all, length-drop}
use Rattle.std.proofs.lemmas.Slice.{take-put_mid}
use borrow.Rule.Slice.PartMut.{put_mid, same_len_mid}
use Rattle.hex.specs.Hex.{is_hex_digit}
use Rattle.daide_log_lines.specs.Digits.{bytes_of_hex}
use Rattle.daide_log_lines.proofs.DigitLemmas.{all_more, all_covered, bytes_more, bytes_covered}
use Rattle.daide_log_lines.proofs.DigitLemmas.{is_read, part_is, part_length}
use Rattle.daide_log_lines.proofs.digits.read_digits.Goals as goal

pub returns-then-count-lt-TOGETHER : goal.returns-then-count-lt-TOGETHER
returns-then-count-lt-TOGETHER c =
    is_read c.args.digits.now c.read_short.new.bytes (length c.args.bytes.now) c.read_short.result c.requires
    c.read_short.ensures.all (λ e. c.read_short.ensures.bytes (sym c.read_short.ensures.all ∙ e))

pub loop-turn-preserved : goal.loop-turn-preserved
loop-turn-preserved c =
    let digits = c.args.digits.now in
    let bytes = c.loop-turn.bytes in
    let new = c.read_together-all.new.bytes in
    let turn = c.loop-turn.turn in
    let i = turn * 16 in
    let room : i + 16 ≤ length bytes = omega (arith, c.loop-turn.invariant.same) in
    let part : slice_range digits (2 * i) (2 * i + 32) ≡ take 32 (drop (32 * turn) digits) =
    part_is digits (2 * i) (2 * i + 32) (32 * turn) 32 (omega arith) (omega arith) in
    let more : c.read_together-all.result ≡ list_all is_hex_digit (take 32 (drop (32 * turn) digits)) =
    c.read_together-all.ensures.all ∙ ap (λ (l : List ℕ). list_all is_hex_digit l) part in
    let long : length new ≡ 16 =
    part_length bytes new i (i + 16 - i) 16 (omega arith) room c.read_together-all.ensures.same in
    let further : 32 * turn + 32 ≡ 32 * (turn + 1) = omega arith in
    record {
      same = same_len_mid i (i + 16 - i) bytes new c.read_together-all.ensures.same ∙ c.loop-turn.invariant.same;
      all = all_more digits (32 * turn) 32 c.loop-turn.all c.read_together-all.result c.loop-turn.invariant.all more
          ∙ ap (λ (n : ℕ). list_all is_hex_digit (take n digits)) further;
      bytes = λ both.
          let each = and_parts c.loop-turn.all c.read_together-all.result both in
          let front : take (16 * turn) bytes ≡ bytes_of_hex (take (32 * turn) digits) = c.loop-turn.invariant.bytes each.0 in
          let read : new ≡ bytes_of_hex (take 32 (drop (32 * turn) digits)) =
          c.read_together-all.ensures.bytes (sym c.read_together-all.ensures.all ∙ each.1) ∙ ap bytes_of_hex part in
          take-put_mid i (i + 16 - i) bytes new (16 * (turn + 1)) (omega (arith, long)) (omega (arith, room))
          ∙ bytes_more digits bytes new i (32 * turn) 32 (omega arith) (omega (arith, c.requires, c.loop-turn-test.true))
          (ap (λ (k : ℕ). take k bytes) (omega arith) ∙ front) read
          ∙ ap (λ (n : ℕ). bytes_of_hex (take n digits)) further;
    }

pub returns : goal.returns
returns c =
    let digits = c.args.digits.now in
    let bytes = c.loop-turn.bytes in
    let last = c.read_together-all-2.new.bytes in
    let count = length c.args.bytes.now in
    let turn = c.loop-turn.turn in
    let i = count - 16 in
    let enough : 16 ≤ count = omega (arith, c.if-count-lt-TOGETHER.false) in
    let all_turns : count / 16 ≤ turn = c.loop-turn-test.false in
    let within : turn ≤ count / 16 = c.loop-turn.auto.turn-end in
    let part : slice_range digits (2 * i) (2 * i + 32) ≡ drop (2 * i) digits =
    part_is digits (2 * i) (2 * i + 32) (2 * i) 32 refl refl
    ∙ take_all 32 (drop (2 * i) digits) (omega (arith, length-drop (2 * i) digits, c.requires)) in
    let more : c.read_together-all-2.result ≡ list_all is_hex_digit (drop (2 * i) digits) =
    c.read_together-all-2.ensures.all ∙ ap (λ (l : List ℕ). list_all is_hex_digit l) part in
    let long : length last ≡ 16 =
    part_length bytes last i (i + 16 - i) 16 (omega arith) (omega (arith, enough, c.loop-turn.invariant.same))
    c.read_together-all-2.ensures.same in
    let whole : length (put_mid i (i + 16 - i) bytes last) ≡ count =
    same_len_mid i (i + 16 - i) bytes last c.read_together-all-2.ensures.same ∙ c.loop-turn.invariant.same in
    let front : c.loop-turn.all ≡ list_all is_hex_digit (take (2 * i + (32 * turn - 2 * i)) digits) =
    c.loop-turn.invariant.all ∙ ap (λ (n : ℕ). list_all is_hex_digit (take n digits)) (omega arith) in
    is_read digits (put_mid i (i + 16 - i) bytes last) count (c.loop-turn.all && c.read_together-all-2.result) c.requires
    (all_covered digits (2 * i) (32 * turn - 2 * i) c.loop-turn.all c.read_together-all-2.result front more)
    (λ both.
    let each = and_parts c.loop-turn.all c.read_together-all-2.result both in
    let read : last ≡ bytes_of_hex (drop (2 * i) digits) =
    c.read_together-all-2.ensures.bytes (sym c.read_together-all-2.ensures.all ∙ each.1) ∙ ap bytes_of_hex part in
    sym (take_all count (put_mid i (i + 16 - i) bytes last) (omega (arith, whole)))
    ∙ take-put_mid i (i + 16 - i) bytes last count (omega (arith, long, enough))
    (omega (arith, c.loop-turn.invariant.same))
    ∙ bytes_covered digits bytes last i (2 * i) (16 * turn) (32 * turn) refl (omega arith) (omega arith)
    (omega (arith, c.requires)) (c.loop-turn.invariant.bytes each.0) read)
