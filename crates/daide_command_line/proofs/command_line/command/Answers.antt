use Rattle.std.proofs.Common.{◌≡◌, ◌∙◌, ap₂, [], true, rules, codes}
use Rattle.std.proofs.lemmas.Result.{IfOk-weaker}
use Rattle.clap.specs.Words.{app_of, new_app, App}
use Rattle.daide_command_line.proofs.CommandLemmas.{subcommands_added, with_all_subcommands}
use Rattle.daide_command_line.proofs.command_line.command.Goals as goal

abbrev top : App
top = record { top = record (new_app (codes "daide-gate")).top { has_version = true }; subs = [] }

pub returns : goal.returns
returns c plain =
    let start : app_of c.after_help.result ≡ top = search rules in
    IfOk-weaker c.subcommands.result _ _
    (λ command adds. subcommands_added _ _ command c.in_ok-commands.ensures.local adds
    ∙ ap₂ with_all_subcommands start (c.in_ok-commands.ensures.shapes plain))
    c.subcommands.ensures
