use Rattle.std.proofs.Common.{◌≡◌, ◌∙◌, ◌&&◌, Bool, true, false, List, refl, ap, rules}
use Rattle.std.proofs.lemmas.Result.{IfOk-weaker}
use Rattle.clap.specs.Words.{App, Rule}
use Rattle.daide_command_line.specs.CommandLine.{with_rules}
use Rattle.daide_command_line.proofs.CommandLemmas.{adds_rules, stays_local}
use Rattle.daide_command_line.proofs.command_line.command_of.Goals as goal

and_not : (a b : Bool) → b ≡ false → (a && b) ≡ false
and_not true b e = e
and_not false b e = refl

pub returns-clause-shape : goal.returns-clause-shape
returns-clause-shape c =
    IfOk-weaker c.args-2.result _ _
    (λ command adds plain.
    ap (λ (app : App). app.top)
    (adds_rules c.args.row.now.name.now c.in_ok-args.args.items c.after_help.result command c.in_ok-args.ensures.local
    (search rules) adds)
    ∙ ap (λ (all : List Rule). (with_rules c.args.row.now.name.now all).top)
    (c.in_ok-args.ensures.rules (and_not c.args.row.now.takes_numbers c.args.takes_negative plain)))
    c.args-2.ensures

pub returns-clause-local : goal.returns-clause-local
returns-clause-local c =
    IfOk-weaker c.args-2.result _ _
    (λ command adds. stays_local c.in_ok-args.args.items c.after_help.result command c.in_ok-args.ensures.local
    (search rules) adds)
    c.args-2.ensures
