-- The command line by the table of commands: the rule of each argument, and the shape of each command. (own)
use Rattle.std.specs.Prelude.{◌≡◌, true, false, List, [], ◌∷◌, map}
use Rattle.clap.specs.Words.{Rule, Shape, Text}
use Rattle.clap.specs.declared.builder.arg.Arg.{Arg}
use Rattle.clap.specs.declared.builder.command.Command.{Command}
use Rattle.clap.specs.declared.builder.command.Command.TheViews.{out-Command}
use Rattle.daide_command_line.specs.CommandLine.{flag_rule, lettered_rule, option_rule, required_words_rule, with_rules, word_rule, words_rule}
use Rattle.daide_command_line.specs.declared.command_line.Argument.{Argument}
use Rattle.daide_command_line.specs.declared.command_line.CommandRow.{CommandRow}
use Rattle.daide_command_line.specs.declared.command_line.Takes.{Takes}
use Rattle.daide_command_line.specs.declared.command_line.Takes.TheVariants.{RequiredWord, RequiredWords, Nothing, NothingOr, Value, Words}

-- the rule of an argument, by what it takes
abbrev pub rule_taking : Text → Takes → Rule
rule_taking name (Value value) = option_rule name
rule_taking name Nothing = flag_rule name
rule_taking name (NothingOr letter) = lettered_rule name letter
rule_taking name RequiredWord = word_rule name true
rule_taking name Words = words_rule name
rule_taking name RequiredWords = required_words_rule name

abbrev pub rule_for : Argument → Rule
rule_for argument = rule_taking argument.name.now argument.takes

-- the command of a row
abbrev pub shape_for : CommandRow → Shape
shape_for row = (with_rules row.name.now (map rule_for row.arguments.now)).top

-- arguments that belong to one command alone
abbrev pub AreLocal : List Arg → Type 0
AreLocal [] = Unit {0}
AreLocal (arg ∷ args) = (arg.global ≡ false) × AreLocal args

-- commands whose arguments do
abbrev pub HaveNoGlobals : List Command → Type 0
HaveNoGlobals [] = Unit {0}
HaveNoGlobals (command ∷ commands) = ((out-Command command).has_globals ≡ false) × HaveNoGlobals commands
