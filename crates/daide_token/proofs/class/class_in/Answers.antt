use Rattle.daide_token.proofs.Common.{ℕ, sym, ap, ◌∙◌, class_in}
use Rattle.daide_token.proofs.class.class_in.Goals as goal

pub returns-in-64 : goal.returns-in-64
returns-in-64 c = c.bracket.ensures ∙ ap (λ (n : ℕ). class_in n c.args.code) (sym c.in-64.is)

pub returns-in-65 : goal.returns-in-65
returns-in-65 c = ap (λ (n : ℕ). class_in n c.args.code) (sym c.in-65.is)

pub returns-in-66 : goal.returns-in-66
returns-in-66 c = c.unit.ensures ∙ ap (λ (n : ℕ). class_in n c.args.code) (sym c.in-66.is)

pub returns-in-67 : goal.returns-in-67
returns-in-67 c = c.order.ensures ∙ ap (λ (n : ℕ). class_in n c.args.code) (sym c.in-67.is)

pub returns-in-68 : goal.returns-in-68
returns-in-68 c = ap (λ (n : ℕ). class_in n c.args.code) (sym c.in-68.is)

pub returns-in-69 : goal.returns-in-69
returns-in-69 c = ap (λ (n : ℕ). class_in n c.args.code) (sym c.in-69.is)

pub returns-in-70 : goal.returns-in-70
returns-in-70 c = ap (λ (n : ℕ). class_in n c.args.code) (sym c.in-70.is)

pub returns-in-71 : goal.returns-in-71
returns-in-71 c = ap (λ (n : ℕ). class_in n c.args.code) (sym c.in-71.is)

pub returns-in-72 : goal.returns-in-72
returns-in-72 c = c.command.ensures ∙ ap (λ (n : ℕ). class_in n c.args.code) (sym c.in-72.is)

pub returns-in-73 : goal.returns-in-73
returns-in-73 c = c.parameter.ensures ∙ ap (λ (n : ℕ). class_in n c.args.code) (sym c.in-73.is)

pub returns-in-74 : goal.returns-in-74
returns-in-74 c = c.press.ensures ∙ ap (λ (n : ℕ). class_in n c.args.code) (sym c.in-74.is)

pub returns-in-75 : goal.returns-in-75
returns-in-75 c = ap (λ (n : ℕ). class_in n c.args.code) (sym c.in-75.is)
