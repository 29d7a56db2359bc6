use Rattle.daide_explain.proofs.Common.{◌≡◌, ◌⊎◌, sym, ap, ◌∙◌, inl, inr, eqb-true, eqb-false, bra, ket, words_of}
use Rattle.daide_explain.proofs.Items.{items_none, bracket_next, no_bracket_next}
use Rattle.daide_explain.proofs.text.write_brackets.Goals as goal
use Rattle.daide_explain.proofs.text.write_brackets.Goals.{then-is_bra+in_ok-append+in_ok-write_item}
use Rattle.daide_explain.proofs.text.write_brackets.Goals.{then-is_bra-via-then-is_bra}
use Rattle.daide_explain.proofs.text.write_brackets.Goals.{then-is_bra-via-else-is_bra+then-is_ket}
use Rattle.daide_explain.proofs.text.write_brackets.Goals.{else-is_bra+else-is_ket}

pub loop-token-init : goal.loop-token-init
loop-token-init g c = items_none (words_of c.args.words.now) c.args.text.now.items

pub loop-token-preserved : goal.loop-token-preserved
loop-token-preserved g c =
    let words = words_of c.args.words.now in
    let all = c.args.tokens.now in
    let i = c.loop-token.token-index in
    let t = c.token-item.result in
    let start = c.args.text.now.items in
    elim c.if-is_bra.branch [
      | then-is_bra+in_ok-append+in_ok-write_item w ↦
          let bracket : (t ≡ bra) ⊎ (t ≡ ket) = elim w.then-is_bra.branch [
            | then-is_bra-via-then-is_bra v ↦ inl (eqb-true t bra (sym c.is_bra.ensures ∙ v.if-is_bra.true))
            | then-is_bra-via-else-is_bra+then-is_ket v ↦
                inr (eqb-true t ket (sym v.is_ket.ensures ∙ v.if-is_ket.true))
          ] in
          ap (λ (v : _). v.items) w.text-is
          ∙ (bracket_next words all i t start c.loop-token.text.items w.append.new.list.items
          w.write_item.new.text.items c.loop-token-test.true c.token-item.is bracket c.loop-token.invariant
          w.in_ok-append.ensures.appended w.in_ok-write_item.ensures.text)
      | else-is_bra+else-is_ket w ↦
          ap (λ (v : _). v.items) w.text-is
          ∙ (no_bracket_next words all i t start c.loop-token.text.items c.loop-token-test.true c.token-item.is
          (eqb-false t bra (sym c.is_bra.ensures ∙ w.if-is_bra.false))
          (eqb-false t ket (sym w.is_ket.ensures ∙ w.if-is_ket.false)) c.loop-token.invariant)
    ]
