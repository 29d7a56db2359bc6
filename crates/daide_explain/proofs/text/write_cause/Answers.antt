use Rattle.daide_explain.proofs.Common.{◌≡◌, List, ℕ, subst, true, false, sym, ◌∙◌, on_ok_weaker, IsMessageOver}
use Rattle.daide_explain.proofs.Common.{grammar_words, words_of, tokens_of-front}
use Rattle.daide_explain.specs.Explained.{IsExpectedLine}
use Rattle.daide_explain.proofs.text.write_cause.Goals as goal

pub returns-clause-text : goal.returns-clause-text
returns-clause-text g c =
    let words = words_of c.args.rules.now.words.now in
    let b = c.args.body.now in
    on_ok_weaker c.write_expected.result
    (λ w. (
      w.0,
      (
        false,
        (
          λ f. let never : false ≡ true = f in absurd cc,
          λ h. sym c.if-is_too_deep.false ∙ c.is_too_deep.ensures.1 h,
        ),
        subst (λ (p : List ℕ). IsExpectedLine words (IsMessageOver (grammar_words words) c.args.rules.now.end c.args.rules.now.level)
            c.args.rules.now.max_depth p w.0) (tokens_of-front c.args.place b) w.1,
      ),
      w.2,
    ))
    c.write_expected.ensures.text
