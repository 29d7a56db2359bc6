use Rattle.daide_token.proofs.Common.{◌≡◌, true, false, sym, ap, ◌∙◌, class_of, has_one_token, is_standard, token_of}
use Rattle.daide_token.specs.declared.class.Class.TheVariants as classes
use Rattle.daide_token.proofs.law_facts.classes_at_values.Goals as goal

pub returns-clause-alone : goal.returns-clause-alone
returns-clause-alone c t is =
    c.single_tokens_stand_alone.ensures.alone t (ap has_one_token is) ∙ ap token_of is

pub returns-clause-standard : goal.returns-clause-standard
returns-clause-standard c t is =
    let no : false ≡ true = ap is_standard (sym is) ∙ c.single_tokens_stand_alone.ensures.standard t in
    cc

pub returns-clause-own : goal.returns-clause-own
unfolding class_of
returns-clause-own c class standard is =
    sym (c.single_tokens_stand_alone.ensures.own class standard) ∙ ap class_of is

pub returns-clause-apart : goal.returns-clause-apart
returns-clause-apart c class is = sym ((c.numbers_tell_classes_apart.ensures classes.Hlo class).0 is)

pub returns-clause-same : goal.returns-clause-same
returns-clause-same c class is = (c.numbers_tell_classes_apart.ensures class classes.Alien).1 is
