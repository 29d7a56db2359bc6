use Rattle.daide_log.proofs.Common.{◌∷◌, [], ◌∙◌, sym, refl, append-nil}
use Rattle.daide_log.specs.Explained.{Remark, with_line_feed}
use Rattle.daide_log.proofs.EventLemmas.{on_ok}
use Rattle.daide_log.proofs.explained.ExplainingStyle.quote.Goals as goal

pub returns-then-is_remark-clause-text : goal.returns-then-is_remark-clause-text
returns-then-is_remark-clause-text g c =
    let is = sym c.is_remark.ensures ∙ c.if-is_remark.true in
    on_ok c.put_remark.result _ _ c.put_remark.ensures.text
    (λ e. (
      with_line_feed c.args.line.now,
      (Remark c.args.line.now ∷ [], rw is refl, append-nil (with_line_feed c.args.line.now), λ before. refl),
      e,
    ))
