use Rattle.daide_explain.proofs.Common.{◌++◌, List, ℕ, IsTrue, ◌↔◌, refl, ap, ◌∙◌, append_assoc, subst, on_ok_weaker}
use Rattle.daide_explain.proofs.Common.{tokens_of, Side2, grammar_words, words_of, level_line, side_line}
use Rattle.daide_explain.specs.LowestLevel.{IsRelayedAt}
use Rattle.daide_explain.proofs.text.write_elsewhere.Goals as goal

pub returns-clause-text : goal.returns-clause-text
returns-clause-text g c =
    let words = words_of c.args.rules.now.words.now in
    let m = tokens_of c.args.body.now in
    let least = c.lowest_level-least.result in
    let other = c.is_relayed-is_other.result in
    on_ok_weaker c.write_side.result
    (λ e. (
      level_line least ++ side_line c.args.rules.now.end other,
      (
        least,
        other,
        c.lowest_level-least.ensures,
        subst (λ (s : Side2). IsTrue other ↔ IsRelayedAt (grammar_words words) s c.args.rules.now.level c.args.rules.now.max_depth m) c.other_side.ensures
            c.is_relayed-is_other.ensures,
        refl,
      ),
      e ∙ (ap (λ (l : List ℕ). l ++ side_line c.args.rules.now.end other) c.in_ok-write_level.ensures.text
          ∙ append_assoc c.args.text.now.items (level_line least) (side_line c.args.rules.now.end other)),
    ))
    c.write_side.ensures.text
