use Rattle.std.proofs.Common.{◌≡◌, ◌≤◌, ◌+◌, ◌-◌, ◌*◌, ◌&&◌, ◌++◌, ◌∙◌, refl, ap, sym, true, List, length, take, drop, arith}
use Rattle.std.proofs.Common.{length-append}
use Rattle.std.specs.Prelude.{ℕ, slice_range}
use Rattle.std.specs.List.{list_all}
use Rattle.std.proofs.lemmas.Bool.{and_parts}
use Rattle.std.proofs.lemmas.List.{take_all, take-append-le, length-drop, length-take}
use Rattle.std.proofs.lemmas.Slice.{take-put_mid}
use borrow.Rule.Slice.PartMut.{put_mid, same_len_mid}
use Rattle.hex.specs.Hex.{is_hex_digit}
use Rattle.daide_log_lines.specs.Digits.{bytes_of_hex}
use Rattle.daide_log_lines.proofs.DigitLemmas.{all_covered, bytes_covered, part_is, part_length}
use Rattle.daide_log_lines.proofs.digits.read_ends.Goals as goal

-- the digits of the last bytes
last_part : (digits : List ℕ) (size count : ℕ) → length digits ≡ 2 * count → size ≤ count →
    slice_range digits (2 * (count - size)) (2 * (count - size) + 2 * size) ≡ drop (2 * (count - size)) digits
last_part digits size count twice least =
    let i = count - size in
    part_is digits (2 * i) (2 * i + 2 * size) (2 * i) (2 * size) refl refl
    ∙ take_all (2 * size) (drop (2 * i) digits) (omega (arith, length-drop (2 * i) digits, twice, least))

pub returns-clause-all : goal.returns-clause-all
returns-clause-all c =
    let digits = c.args.digits.now in
    let size = c.args.size in
    let i = length c.args.bytes.now - size in
    let front : c.read_together-first.result ≡ list_all is_hex_digit (take (2 * i + (2 * size - 2 * i)) digits) =
    c.read_together-first.ensures.all
    ∙ ap (λ (n : ℕ). list_all is_hex_digit (take n digits)) (omega (arith, c.requires.most, c.requires.least)) in
    all_covered digits (2 * i) (2 * size - 2 * i) c.read_together-first.result c.read_together-last.result front
    (c.read_together-last.ensures.all
    ∙ ap (λ (l : List ℕ). list_all is_hex_digit l)
    (last_part digits size (length c.args.bytes.now) c.requires.twice c.requires.least))

pub returns-clause-bytes : goal.returns-clause-bytes
returns-clause-bytes c all =
    let digits = c.args.digits.now in
    let size = c.args.size in
    let count = length c.args.bytes.now in
    let i = count - size in
    let first = c.read_together-first.new.bytes in
    let last = c.read_together-last.new.bytes in
    let mid = first ++ drop size c.args.bytes.now in
    let least = c.requires.least in
    let most = c.requires.most in
    let both = and_parts c.read_together-first.result c.read_together-last.result (returns-clause-all c ∙ all) in
    let part = last_part digits size count c.requires.twice least in
    let begun : length first ≡ size =
    omega (arith, c.read_together-first.ensures.same, length-take size c.args.bytes.now, least) in
    let room : length mid ≡ count =
    omega (arith, begun, least, length-append first (drop size c.args.bytes.now), length-drop size c.args.bytes.now) in
    let long : length last ≡ size =
    part_length mid last i (i + size - i) size (omega arith) (omega (arith, room, least)) c.read_together-last.ensures.same in
    let whole : length (put_mid i (i + size - i) mid last) ≡ count =
    same_len_mid i (i + size - i) mid last c.read_together-last.ensures.same ∙ room in
    let front : take size mid ≡ bytes_of_hex (take (2 * size) digits) =
    take-append-le size first (drop size c.args.bytes.now) (omega (arith, begun)) ∙ take_all size first (omega (arith, begun))
    ∙ c.read_together-first.ensures.bytes (sym c.read_together-first.ensures.all ∙ both.0) in
    let read : last ≡ bytes_of_hex (drop (2 * i) digits) =
    c.read_together-last.ensures.bytes (sym c.read_together-last.ensures.all ∙ both.1) ∙ ap bytes_of_hex part in
    sym (take_all count (put_mid i (i + size - i) mid last) (omega (arith, whole)))
    ∙ take-put_mid i (i + size - i) mid last count (omega (arith, long, least)) (omega (arith, room))
    ∙ bytes_covered digits mid last i (2 * i) size (2 * size) refl (omega (arith, most, least)) (omega (arith, most, least))
    (omega (arith, c.requires.twice)) front read
