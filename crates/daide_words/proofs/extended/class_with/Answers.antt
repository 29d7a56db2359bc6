use Rattle.daide_words.proofs.Common.{◌≡◌, true, sym, ap, ◌∙◌, Class, Other, class_number, words_of}
use Rattle.daide_token.specs.declared.class.Class.TheVariants.{Bra, Ket}
use Rattle.daide_grammar.specs.Table.Numbers.{is_bracket}
use Rattle.daide_words.proofs.AcceptedCodes.{class_kept}
use Rattle.daide_words.proofs.extended.class_with.Goals as goal

-- a bracket has a meaning without words
bracket_known : (class : Class) → is_bracket class ≡ true → class_number class ≡ class_number Other → ⊥
bracket_known Bra h e = cc
bracket_known Ket h e = cc
bracket_known _ h e = cc

pub returns-then-is_bracket : goal.returns-then-is_bracket
unfolding words_of
returns-then-is_bracket c =
    sym c.requires
    ∙ sym (class_kept (words_of c.args.words.now) c.args.token c.args.words.now.accepted
    (λ e. bracket_known c.args.class (sym c.is_bracket.ensures ∙ c.if-is_bracket.true)
    (ap class_number (sym c.requires) ∙ e)))

pub returns : goal.returns
unfolding words_of
returns c =
    sym c.requires
    ∙ sym (class_kept (words_of c.args.words.now) c.args.token c.args.words.now.accepted
    (λ e. c.if-number-eq-OTHER.false (c.number.ensures.number ∙ ap class_number (sym c.requires) ∙ e)))
