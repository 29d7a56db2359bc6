use Rattle.daide_log.proofs.Common.{◌++◌, ◌∙◌, [], ◌∷◌, ℕ, ap, codes, decimal}
use Rattle.daide_grammar.specs.Level.{level_number}
use Rattle.daide_log.specs.Explained.{capped_text}
use Rattle.daide_log.proofs.EventLemmas.{on_ok}
use Rattle.daide_log.proofs.TextLemmas.{three_parts}
use Rattle.daide_log.proofs.explained.write_level.Goals as goal

pub returns-clause-text : goal.returns-clause-text
returns-clause-text g c =
    let old = c.args.text.now.items in
    on_ok c.append.result _ _ c.append.ensures.appended
    (λ e. three_parts old (codes "judged at level " ++ decimal (level_number c.args.level)) (capped_text c.args.capped) (10 ∷ [])
    c.append_text.new.text.items c.write_capped.new.text.items c.append.new.list.items
    (c.in_ok-append_text.ensures.appended ∙ ap (λ (n : ℕ). old ++ (codes "judged at level " ++ decimal n)) c.number-number.ensures)
    c.in_ok-write_capped.ensures.text e)
