use Rattle.daide_grammar.proofs.Common.{◌≡◌, ◌≤◌, ◌<◌, ◌-◌, List, length, take, get_or, reverse, refl, sym, ap, ◌∙◌}
use Rattle.daide_grammar.proofs.Common.{arith, Sym, symbol_number, action, rest_of}
use Rattle.daide_grammar.specs.declared.symbol.Sym.TheVariants.{Closing}
use Rattle.daide_grammar.proofs.Alike.{any_default}
use Rattle.daide_grammar.proofs.PlainRules.{same_symbol, turned, one_more, all_same}
use Rattle.daide_grammar.proofs.plain.rules.leaves.Goals as goal

pub loop-place-init : goal.loop-place-init
loop-place-init c = record { same = refl }

pub returns-then-number : goal.returns-then-number
returns-then-number c =
    let rest = rest_of (action c.args.rule) in
    let wanted = c.args.wanted.now in
    let place = c.loop-place.place in
    let past = c.index-cells-wanted.result in
    let leaves : rest_of c.of-answer.result ≡ rest = ap rest_of c.of-answer.ensures in
    let many : length wanted ≡ length rest = sym c.if-len-wanted.false ∙ c.len.ensures.len ∙ ap length leaves in
    let less : place < length rest = omega (arith, many, c.loop-place-test.true) in
    let cells : take (length rest) c.cells-cells.result ≡ reverse rest =
    ap (λ (xs : List Sym). take (length xs) c.cells-cells.result) (sym leaves)
    ∙ c.cells-cells.ensures ∙ ap reverse leaves in
    let cell : get_or c.cells-cells.result (length wanted - 1 - place) past ≡ get_or rest place past =
    ap (λ n. get_or c.cells-cells.result (n - 1 - place) past) many
    ∙ turned c.cells-cells.result rest place past cells less in
    let named : get_or wanted place past ≡ get_or wanted place Closing =
    any_default place wanted past Closing c.loop-place-test.true in (
      λ f. absurd cc,
      λ same. absurd (c.if-number.true (
          c.number.ensures.number
          ∙ ap symbol_number (cell ∙ ap (λ (xs : List Sym). get_or xs place past) same ∙ named ∙ sym c.named.ensures)
          ∙ sym c.number-in-loop-place.ensures.number)),
    )

pub loop-place-preserved : goal.loop-place-preserved
loop-place-preserved c =
    let rest = rest_of (action c.args.rule) in
    let wanted = c.args.wanted.now in
    let place = c.loop-place.place in
    let past = c.index-cells-wanted.result in
    let leaves : rest_of c.of-answer.result ≡ rest = ap rest_of c.of-answer.ensures in
    let many : length wanted ≡ length rest = sym c.if-len-wanted.false ∙ c.len.ensures.len ∙ ap length leaves in
    let less : place < length rest = omega (arith, many, c.loop-place-test.true) in
    let cells : take (length rest) c.cells-cells.result ≡ reverse rest =
    ap (λ (xs : List Sym). take (length xs) c.cells-cells.result) (sym leaves)
    ∙ c.cells-cells.ensures ∙ ap reverse leaves in
    let cell : get_or c.cells-cells.result (length wanted - 1 - place) past ≡ get_or rest place past =
    ap (λ n. get_or c.cells-cells.result (n - 1 - place) past) many
    ∙ turned c.cells-cells.result rest place past cells less in
    let one : get_or rest place Closing ≡ get_or wanted place Closing =
    same_symbol (get_or rest place Closing) (get_or wanted place Closing) (
    ap symbol_number (sym (cell ∙ any_default place rest past Closing less))
    ∙ sym c.number.ensures.number ∙ c.if-number.false
    ∙ c.number-in-loop-place.ensures.number ∙ ap symbol_number c.named.ensures) in
    record {
      same = one_more wanted rest place Closing many (omega (arith, many, less)) c.loop-place.invariant.same (sym one);
    }

pub returns : goal.returns
returns c =
    let rest = rest_of (action c.args.rule) in
    let wanted = c.args.wanted.now in
    let place = c.loop-place.place in
    let leaves : rest_of c.of-answer.result ≡ rest = ap rest_of c.of-answer.ensures in
    let many : length wanted ≡ length rest = sym c.if-len-wanted.false ∙ c.len.ensures.len ∙ ap length leaves in
    let through : length wanted ≤ place = omega (arith, c.loop-place-test.false) in (
      λ _. sym (all_same wanted rest place many through c.loop-place.invariant.same),
      λ _. refl,
    )
