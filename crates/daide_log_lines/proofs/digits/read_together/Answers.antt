use Rattle.std.proofs.Common.{◌≡◌, ◌==◌, ◌+◌, ◌*◌, ◌∙◌, refl, sym, ap, List, ℕ, get_or, length-set, arith}
use Rattle.std.proofs.lemmas.List.{take_all}
use Rattle.std.proofs.lemmas.List.Folds.{list_all_more}
use Rattle.std.specs.List.{list_all}
use Rattle.hex.specs.Hex.{is_hex_digit}
use Rattle.daide_log_lines.proofs.DigitLemmas.{all_read, byte_read, no_excess, read_more, values_more}
use Rattle.daide_log_lines.proofs.digits.read_together.Goals as goal

pub loop-j-init : goal.loop-j-init
loop-j-init c = record { room = refl; all = refl; values = λ _ k below. absurd (omega (arith, below)) }

pub loop-j-preserved : goal.loop-j-preserved
loop-j-preserved c =
    let digits = c.args.digits.now in
    let j = c.loop-j.j in
    let here : (c.read_digit-more.result.0 == 0) ≡ is_hex_digit (get_or digits j 0) = c.read_digit-more.ensures.digit in
    let both = no_excess c.loop-j.excess c.read_digit-more.result.0 in
    let more = list_all_more is_hex_digit digits j 0 c.loop-j-test.true in
    record {
      room = length-set c.loop-j.values j _ ∙ c.loop-j.invariant.room;
      all = cc;
      values = values_more c.loop-j.values digits j _ (omega arith) c.loop-j-test.true c.loop-j.invariant.values
          c.read_digit-more.ensures.value;
    }

pub loop-i-init : goal.loop-i-init
loop-i-init c = record { same = refl; bytes = λ _. refl }

pub loop-i-preserved : goal.loop-i-preserved
loop-i-preserved c =
    let digits = c.args.digits.now in
    let i = c.loop-i.i in
    let values = c.loop-j.values in
    record {
      same = length-set c.loop-i.bytes i _ ∙ c.loop-i.invariant.same;
      bytes = λ all.
          let known = c.loop-j.invariant.values (sym c.loop-j.invariant.all ∙ all) in
          read_more c.loop-i.bytes digits i _ (omega arith) (omega arith) (c.loop-i.invariant.bytes all)
          (byte_read (get_or digits (2 * i) 0) (get_or digits (2 * i + 1) 0) (get_or values (2 * i) 0)
          (get_or values (2 * i + 1) 0) _ (known (2 * i) (omega arith)) (known (2 * i + 1) (omega arith))
          c.byte_of.ensures);
    }

pub returns-clause-all : goal.returns-clause-all
returns-clause-all c =
    c.loop-j.invariant.all
    ∙ ap (λ (l : List ℕ). list_all is_hex_digit l) (take_all c.loop-j.j c.args.digits.now c.loop-j-test.false)

pub returns-clause-bytes : goal.returns-clause-bytes
returns-clause-bytes c all =
    all_read c.loop-i.bytes c.args.digits.now c.loop-i.i (2 * c.loop-i.i)
    (omega (arith, c.loop-i.invariant.same, c.loop-i-test.false)) (omega (arith, c.requires.twice, c.loop-i-test.false))
    (c.loop-i.invariant.bytes (returns-clause-all c ∙ all))
