use Rattle.daide_token.proofs.Common.{◌≡◌, ◌*◌, ◌+◌, ◌<◌, ◌==◌, false, sym, ap, ◌∙◌, ◌++◌, List, ℕ, length, take, arith}
use Rattle.daide_token.proofs.Common.{nat_tests, bra, ket}
use Rattle.daide_token.proofs.TextWords.{cell_place, cell_text, four}
use Rattle.daide_token.proofs.text.put_if_word.Goals as goal

apart : (category code : ℕ) → code < 256 → (category ≡ 0x40 → ⊥) →
    ((category * 256 + code == bra) ≡ false) × ((category * 256 + code == ket) ≡ false)
apart category code low other = (grind (arith, nat_tests), grind (arith, nat_tests))

pub returns-in-len4-clause-text : goal.returns-in-len4-clause-text
returns-in-len4-clause-text c = λ added.
    let same = c.as_bytes.ensures.value in
    let long : length c.as_bytes.result.now ≡ 4 = omega arith in
    let other = apart c.args.category c.args.code (omega arith) c.if-category-eq-BRACKETS.false in
    c.put.ensures.text
    ∙ ap (λ (t : List ℕ). take c.args.len c.args.line.now ++ t)
    (four c.as_bytes.result.now long ∙ same
    ∙ sym (cell_text added (c.args.category * 256 + c.args.code) c.spaced_name.result.now c.spaced_name.ensures.name
    c.spaced_name.ensures.spaced (sym (ap length same) ∙ long) other.0 other.1))

pub returns-in-len4-clause-place : goal.returns-in-len4-clause-place
returns-in-len4-clause-place c =
    let same = c.as_bytes.ensures.value in
    let long : length c.as_bytes.result.now ≡ 4 = omega arith in
    cell_place (c.args.category * 256 + c.args.code) c.spaced_name.result.now c.spaced_name.ensures.name
    (sym (ap length same) ∙ long)
