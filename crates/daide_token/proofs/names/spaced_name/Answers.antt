use Rattle.daide_token.proofs.Common.{ap, ◌∙◌, refl, map, is_spaced}
use Rattle.daide_token.proofs.NamePages.{each_of}
use Rattle.daide_token.proofs.names.spaced_name.Goals as goal

pub returns-clause-spaced : goal.returns-clause-spaced
returns-clause-spaced c =
    ap is_spaced c.cell_on.ensures ∙ each_of is_spaced (map (λ cell. cell.now) c.page_of.result.now) _ _ c.page_of.ensures.spaced refl
