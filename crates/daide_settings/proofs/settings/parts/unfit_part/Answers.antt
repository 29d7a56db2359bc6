use Rattle.daide_settings.proofs.Common.{ap, sym, ◌∙◌, arith, common_steps, view, words_of, added}
use Rattle.daide_settings.proofs.PartLemmas.{unfit_next}
use Rattle.daide_settings.proofs.settings.parts.unfit_part.Goals as goal

pub loop-rest-preserved : goal.loop-rest-preserved
loop-rest-preserved c = record {
  same = unfit_next c.loop-rest.place (words_of c.loop-rest.words) _ c.entry-item.result c.loop-rest.rest.now _
      c.in-len1-up.len_at_least (omega arith)
      (ap (λ entry. added (words_of c.loop-rest.words) (view entry)) (sym c.entry-item.is) ∙ c.in-Ok.ensures)
      ∙ c.loop-rest.invariant.same;
  few = grind (arith, common_steps);
}
