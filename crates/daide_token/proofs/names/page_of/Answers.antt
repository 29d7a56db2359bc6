use Rattle.daide_token.proofs.Common.{◌<◌, ◌+◌, ◌-◌, ◌≤◌, ◌⊎◌, length, map, sym, arith}
use Rattle.daide_token.proofs.NamePages.{cell_told, no_page, page_spaced}
use Rattle.daide_token.proofs.names.page_of.Goals as goal

pub returns-then-category-lt64-clause-names : goal.returns-then-category-lt64-clause-names
returns-then-category-lt64-clause-names c = λ code low.
    let out : (c.args.category < 0x40) ⊎ (0x40 + length c.pages-pages.result.now ≤ c.args.category) =
    grind (arith, c.then-category-lt64.either, c.pages-pages.ensures.count) in
    sym (no_page (λ page. map (λ cell. cell.now) page.now) c.pages-pages.result.now 0x40 c.args.category
    c.pages-pages.ensures.rows c.pages-pages.ensures.short out code low)

pub returns-clause-names : goal.returns-clause-names
returns-clause-names c =
    cell_told (λ page. map (λ cell. cell.now) page.now) c.pages-pages.result.now 0x40 c.args.category
    c.pages-pages.ensures.rows c.pages-pages.ensures.short (c.args.category - 0x40) _
    (omega (arith, c.pages-pages.ensures.count)) (omega arith)

pub returns-clause-spaced : goal.returns-clause-spaced
returns-clause-spaced c =
    page_spaced (λ page. map (λ cell. cell.now) page.now) c.pages-pages.result.now (c.args.category - 0x40) _
    c.pages-pages.ensures.spaced (omega (arith, c.pages-pages.ensures.count))
