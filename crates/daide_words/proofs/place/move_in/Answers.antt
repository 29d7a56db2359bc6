use Rattle.daide_words.proofs.Common.{◌≡◌, true, false, nat_le, sym, ◌∙◌, arith, nat_tests, level_number, action}
use Rattle.daide_words.proofs.Common.{grammar_slot, grammar_place, makes}
use Rattle.daide_words.proofs.WhereStopped.{not_standing, standing, first_fails, second_fails, both_hold}
use Rattle.daide_words.proofs.place.move_in.Goals as goal

pub returns-then-not-may_make : goal.returns-then-not-may_make
unfolding action
returns-then-not-may_make c =
    let word = c.args.word.now in
    c.of.ensures ∙ not_standing _ _
    (first_fails (makes (grammar_slot word.slot) (grammar_place c.args.place))
    (nat_le (level_number word.level) (level_number c.args.level))
    (sym c.may_make.ensures ∙ c.if-not-may_make.true))

pub returns-then-number : goal.returns-then-number
unfolding action
returns-then-number c =
    let word = c.args.word.now in
    let low : nat_le (level_number word.level) (level_number c.args.level) ≡ false =
    grind (arith, nat_tests, c.if-number.true, c.number.ensures, c.number-2.ensures) in
    c.of-then-number.ensures ∙ not_standing _ _
    (second_fails (makes (grammar_slot word.slot) (grammar_place c.args.place))
    (nat_le (level_number word.level) (level_number c.args.level)) low)

pub returns : goal.returns
returns c =
    let word = c.args.word.now in
    let reached : nat_le (level_number word.level) (level_number c.args.level) ≡ true =
    grind (arith, nat_tests, c.if-number.false, c.number.ensures, c.number-2.ensures) in
    c.of-2.ensures ∙ c.operand_rule.ensures ∙ standing _ _
    (both_hold (makes (grammar_slot word.slot) (grammar_place c.args.place))
    (nat_le (level_number word.level) (level_number c.args.level))
    (sym c.may_make.ensures ∙ c.if-not-may_make.false) reached)
