use Rattle.daide_explain.proofs.Common.{◌≡◌, false, true, sym, ◌∙◌, eqb-true, bra}
use Rattle.daide_explain.proofs.Deep.{after_the_end, deep_if_full}
use Rattle.daide_explain.proofs.text.is_too_deep.Goals as goal

pub returns-then-place-body : goal.returns-then-place-body
returns-then-place-body c = (
  λ f. let no_way : false ≡ true = f in absurd cc,
  λ h. absurd (after_the_end c.args.rules.now.max_depth c.args.body.now c.args.place c.if-place-body.true h),
)

pub returns : goal.returns
returns c =
    deep_if_full c.args.rules.now.max_depth c.args.body.now c.args.place c.token_at.result c.open_before.result c.token_at.ensures.rest
    (eqb-true c.token_at.result bra (sym c.is_bra.ensures ∙ c.if-not-is_bra.false)) c.open_before.ensures
