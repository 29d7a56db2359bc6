-- A command after arguments and subcommands were added to it.
use Rattle.std.proofs.Common.{◌≡◌, ◌||◌, ◌++◌, Bool, false, List, [], ◌∷◌, map, sym, ap, ap₂, ◌∙◌}
use Rattle.std.proofs.Common.{append_assoc, append-nil, ℕ, ◌+◌, ◌<◌, ◌≤◌, length, drop, get_or}
use Rattle.std.proofs.lemmas.List.{drop_all, drop_more, map-append}
use Rattle.daide_command_line.specs.CommandLine.{with_rules}
use Rattle.daide_command_line.specs.CommandTable.{AreLocal, HaveNoGlobals}
use Rattle.clap.specs.Words.{App, Rule, Text, new_app, Shape, app_of, shape_of, rule_of, with_rule, with_subcommand, AddsArg, AddsSubcommand, AddsInTurn}
use Rattle.clap.specs.declared.builder.arg.Arg.{Arg}
use Rattle.clap.specs.declared.builder.command.Command.{Command}
use Rattle.clap.specs.declared.builder.command.Command.TheViews.{out-Command}

-- an application with rules added in turn
abbrev pub with_all_rules : App → List Rule → App
with_all_rules app [] = app
with_all_rules app (rule ∷ rules) = with_all_rules (with_rule app rule) rules

all_rules : (name : Text) (before rules : List Rule) →
    with_all_rules (with_rules name before) rules ≡ with_rules name (before ++ rules)
all_rules name before [] = ap (with_rules name) (sym (append-nil before))
all_rules name before (rule ∷ rules) =
    all_rules name (before ++ rule ∷ []) rules ∙ ap (with_rules name) (append_assoc before (rule ∷ []) rules)

args_added : (args : List Arg) (old new : Command) → AreLocal args → AddsInTurn AddsArg old args new →
    app_of new ≡ with_all_rules (app_of old) (map rule_of args)
args_added [] old new local adds = ap app_of (sym adds)
args_added (arg ∷ args) old new local adds =
    args_added args adds.0 new local.1 adds.2
    ∙ ap (λ (app : App). with_all_rules app (map rule_of args)) (adds.1.shape local.0)

-- a new command to which arguments were added
pub adds_rules : (name : Text) (args : List Arg) (old new : Command) → AreLocal args →
    app_of old ≡ new_app name → AddsInTurn AddsArg old args new → app_of new ≡ with_rules name (map rule_of args)
adds_rules name args old new local start adds =
    args_added args old new local adds ∙ ap (λ (app : App). with_all_rules app (map rule_of args)) start
    ∙ all_rules name [] (map rule_of args)

pub stays_local : (args : List Arg) (old new : Command) → AreLocal args → (out-Command old).has_globals ≡ false →
    AddsInTurn AddsArg old args new → (out-Command new).has_globals ≡ false
stays_local [] old new local plain adds = ap (λ (command : Command). (out-Command command).has_globals) (sym adds) ∙ plain
stays_local (arg ∷ args) old new local plain adds =
    stays_local args adds.0 new local.1 (adds.1.globals ∙ ap₂ (λ (a b : Bool). a || b) plain local.0) adds.2

-- arguments, and commands, with one more
pub one_more_local : (args : List Arg) (arg : Arg) → AreLocal args → arg.global ≡ false → AreLocal (args ++ arg ∷ [])
one_more_local [] arg before here = (here, tt)
one_more_local (other ∷ args) arg before here = (before.0, one_more_local args arg before.1 here)

pub one_more_plain : (commands : List Command) (command : Command) → HaveNoGlobals commands →
    (out-Command command).has_globals ≡ false → HaveNoGlobals (commands ++ command ∷ [])
one_more_plain [] command before here = (here, tt)
one_more_plain (other ∷ commands) command before here = (before.0, one_more_plain commands command before.1 here)

-- what was made of rows, and then of one row more: with what the others give it is what all rows give
pub one_more : {A B C : Type 0} (f : A → C) (g : B → C) (made : List A) (rows : List B) (i : ℕ) (one : A) (d : B) →
    i < length rows → f one ≡ g (get_or rows i d) → map f made ++ map g (drop i rows) ≡ map g rows →
    map f (made ++ one ∷ []) ++ map g (drop (i + 1) rows) ≡ map g rows
one_more f g made rows i one d below is before =
    ap (λ l. l ++ map g (drop (i + 1) rows)) (map-append f made (one ∷ []))
    ∙ append_assoc (map f made) (f one ∷ []) (map g (drop (i + 1) rows))
    ∙ ap (λ x. map f made ++ x ∷ map g (drop (i + 1) rows)) is
    ∙ sym (ap (λ l. map f made ++ map g l) (drop_more rows i d below))
    ∙ before

-- what was made of all rows
pub all_made : {A B C : Type 0} (f : A → C) (g : B → C) (made : List A) (rows : List B) (i : ℕ) → length rows ≤ i →
    map f made ++ map g (drop i rows) ≡ map g rows → map f made ≡ map g rows
all_made f g made rows i all before =
    sym (append-nil (map f made)) ∙ sym (ap (λ l. map f made ++ map g l) (drop_all i rows all)) ∙ before

-- an application with commands added in turn
abbrev pub with_all_subcommands : App → List Shape → App
with_all_subcommands app [] = app
with_all_subcommands app (shape ∷ shapes) = with_all_subcommands (with_subcommand app shape) shapes

pub subcommands_added : (commands : List Command) (old new : Command) → HaveNoGlobals commands →
    AddsInTurn AddsSubcommand old commands new →
    app_of new ≡ with_all_subcommands (app_of old) (map shape_of commands)
subcommands_added [] old new local adds = ap app_of (sym adds)
subcommands_added (command ∷ commands) old new local adds =
    subcommands_added commands adds.0 new local.1 adds.2
    ∙ ap (λ (app : App). with_all_subcommands app (map shape_of commands)) (adds.1.shape local.0)
